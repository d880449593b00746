-- Circumstances: all that a report is computed from, a policy, a graph, and what was read of manifests and packages.
use Rattle.std.specs.Prelude.{ℕ, List, [], Option, None, Some}
use Rattle.deny_spec.specs.Building.{Building}
use Rattle.deny_spec.specs.declared.package.Package.{Package}
use Rattle.deny_spec.specs.Expired.{PastWaiver}
use Rattle.deny_spec.specs.Graph.{Graph}
use Rattle.deny_spec.specs.Licensing.{Licensing}
use Rattle.deny_spec.specs.Policy.{Policy}
use Rattle.deny_spec.specs.View.{View, nothing_seen}

-- the numbers of the files that labels point into, beside those of manifests; none for a file that was not read
pub record FileNumbers : Type 0 where
  pub policy : ℕ
  pub lock : Option ℕ
  pub globs : Option ℕ

pub record Circumstances : Type 0 where
  pub policy : Policy
  -- what the policy says of licences; none where it has no licence check
  pub licensing : Option Licensing
  -- what the policy says of build scripts and packaged files; none where it has no such rules
  pub building : Option Building
  -- the waivers of the policy that expired: they count nowhere, and each is warned about
  pub expired : List PastWaiver
  pub graph : Graph
  -- the bytes of the table of replacements; none where there is no table
  pub table : List ℕ
  -- what was read of manifests
  pub view : View
  -- what was scanned of packages, by the places of their crates
  pub packages : List Package
  -- the folder that paths are shown from
  pub home : Option (List ℕ)
  -- the registries that count as the workspace's own
  pub registries : List (List ℕ)
  pub files : FileNumbers

-- the numbers where the policy's text is the only file; and below, where the graph's lock text is one too
abbrev pub policy_alone : ℕ → FileNumbers
policy_alone file = record { policy = file; lock = None; globs = None }

abbrev pub policy_and_lock : ℕ → ℕ → FileNumbers
policy_and_lock file lock = record { policy = file; lock = Some lock; globs = None }

-- the circumstances of a policy, a graph and a view, without licences, builds, expired waivers and a table
abbrev pub seen_in : FileNumbers → Policy → Graph → View → Circumstances
seen_in files p g view = record {
  policy = p;
  licensing = None;
  building = None;
  expired = [];
  graph = g;
  table = [];
  view = view;
  packages = [];
  home = None;
  registries = [];
  files = files;
}

-- these circumstances where the policy's text and the lock text have these file numbers
abbrev pub seen_by : Policy → Graph → ℕ → ℕ → View → Circumstances
seen_by p g file lock view = seen_in (policy_and_lock file lock) p g view

-- these circumstances where the policy's text is the only file
abbrev pub unseen_by : Policy → Graph → ℕ → Circumstances
unseen_by p g file = seen_in (policy_alone file) p g nothing_seen

-- circumstances with the bytes of another table of replacements
abbrev pub tabled : Circumstances → List ℕ → Circumstances
tabled c table = record c { table = table }

-- circumstances with another policy on licences
abbrev pub licensed : Circumstances → Option Licensing → Circumstances
licensed c licensing = record c { licensing = licensing }

-- circumstances with another policy on builds
abbrev pub built : Circumstances → Option Building → Circumstances
built c building = record c { building = building }

-- circumstances in which other waivers of the policy expired
abbrev pub with_expired : Circumstances → List PastWaiver → Circumstances
with_expired c waivers = record c { expired = waivers }

-- circumstances in which other manifests and packages were read
abbrev pub seen_anew : Circumstances → View → List Package → Circumstances
seen_anew c view packages = record c { view = view; packages = packages }

-- circumstances in which other packages were scanned, and the built-in globs have this file number
abbrev pub with_packages : Circumstances → Option ℕ → List Package → Circumstances
with_packages c globs packages = record c { packages = packages; files = record c.files { globs = globs } }
