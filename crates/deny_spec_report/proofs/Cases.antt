-- Crates, graphs and policies of worked cases.
use Rattle.std.proofs.Common.{ℕ, List, [], ◌∷◌, ◌+◌, ◌++◌, ◌==◌, true, false, not, None, Some, codes}
use Rattle.std.specs.Prelude.{⊤}
use Rattle.std.specs.FinMap as finite
use Rattle.semver.specs.Parse.{Parts}
use Rattle.semver.specs.declared.Op.TheVariants.{Exact}
use Rattle.deny_base.specs.declared.edge.DepKind.TheVariants.{Normal, Dev}
use Rattle.deny_base.specs.declared.edge.Edge.{Edge}
use Rattle.deny_base.specs.declared.key.Key.{Key}
use Rattle.deny_base.specs.declared.level.LintLevel.TheVariants.{Allow, Deny}
use Rattle.deny_base.specs.declared.span.Span.{Span}
use Rattle.deny_spec.specs.Facts as chains
use Rattle.deny_spec.specs.Graph.{Crate, Graph, dependents, leads}
use Rattle.deny_spec.specs.Policy as policy
use Rattle.deny_spec.specs.Policy.{AllowEntry, Ban, Entry, Policy, Root, Spec}
use Rattle.deny_spec.specs.Bans.{allowed_by_wrapper_keys_at, allowed_by_wrapper_keys_of, allowed_keys_of}
use Rattle.deny_spec.specs.Bans.{banned_keys_of, concerns, has_wrappers, is_banned, is_exempt, is_waived}
use Rattle.deny_spec.specs.Bans.{is_not_allowed, is_wrapped, is_wrapper, not_allowed_keys, unmatched_wrapper_keys_at}
use Rattle.deny_spec.specs.Bans.{unmatched_wrapper_keys_of, wrapper_of}
use Rattle.deny_spec.specs.Groups.{has_name, is_in_group, is_internal, is_marked, is_in_skipped_tree, may_duplicate}
use Rattle.deny_spec.specs.Groups.{reduced}
use Rattle.deny_spec.specs.Keys.{duplicate_key, key_of}
use Rattle.deny_spec.specs.Match.{matches}
use Rattle.deny_spec.specs.Skips.{has_root, is_hit_skip, is_needless, is_skipped, is_skipped_by_root}
use Rattle.deny_spec.specs.Skips.{skipped_by_root_keys_of, skipped_keys_of, unmatched_skip_keys}
use Rattle.deny_spec.specs.Skips.{unmatched_skip_root_keys, unnecessary_skip_keys}
use Rattle.deny_spec.specs.Wrappers.{hits_wrapper, is_hit_wrapper, unused_wrapper_keys_of, wraps}
use Rattle.deny_spec_report.specs.AllowList.{allowed_keys}
use Rattle.deny_spec_report.specs.Bans.{allowed_by_wrapper_keys, banned_keys, unmatched_wrapper_keys}
use Rattle.deny_spec_report.specs.SkippedTrees.{skipped_by_root_keys}
use Rattle.deny_spec_report.specs.Skips.{skipped_keys}
use Rattle.deny_spec_report.specs.Wrappers.{unused_wrapper_keys}

-- a crate of this workspace, of which the rules here read no more
unfoldable pub crate_of : ℕ → List ℕ → Parts → Crate
crate_of place name version = record {
  place = place;
  name = name;
  version = version;
  id = name;
  source = None;
  source_text = None;
  license = None;
  manifest_path = codes "/Cargo.toml";
  publish = None;
  rust_version = None;
  features = finite.empty;
  targets = [];
  deps = [];
  enabled = [];
}

unfoldable pub crate : ℕ → List ℕ → ℕ → Crate
crate place name major = crate_of place name (major, 0, 0, [], [])

unfoldable pub app : Crate
app = crate_of 0 (codes "app") (0, 1, 0, [], [])

unfoldable pub edge : ℕ → ℕ → Edge
edge parent child = record { parent = parent; child = child; kind = Normal }

-- the member `app` and other crates
unfoldable pub graph : List Crate → List Edge → Graph
graph crates edges = record { root = []; crates = app ∷ crates; members = 0 ∷ []; edges = edges; target_edges = [] }

unfoldable pub span : ℕ → Span
span start = record { start = start; end = start + 1 }

unfoldable pub spec_at : List ℕ → ℕ → Spec
spec_at name start = record { name = name; requirement = None; written = None; span = span start }

-- a spec that asks for one version
unfoldable pub exactly : ℕ → Spec → Spec
exactly major spec = record spec { requirement = Some ((Exact, major, Some 0, Some 0, []) ∷ []) }

unfoldable pub spanned_at : List ℕ → ℕ → policy.SpannedText
spanned_at text start = record { value = text; span = span start }

unfoldable pub ban_at : List ℕ → List policy.SpannedText → ℕ → Ban
ban_at name wrappers start = record {
  spec = spec_at name start;
  wrappers = wrappers;
  reason = None;
  use_instead = None;
}

unfoldable pub allow_at : List ℕ → ℕ → AllowEntry
allow_at name start = record { spec = spec_at name start; reason = None }

unfoldable pub entry_at : List ℕ → ℕ → Entry
entry_at name start = record { spec = spec_at name start; reason = None }

unfoldable pub plain : Policy
plain = record {
  multiple_versions = Deny;
  include_dev = false;
  simplest = false;
  lowest = false;
  deny = [];
  deny_multiple = [];
  allow = [];
  allow_workspace = false;
  skip = [];
  skip_tree = [];
  features = [];
  workspace_default = None;
  external_default = None;
  wildcards = Allow;
  allow_wildcard_paths = false;
  sharing = None;
  replacing = None;
}

-- facts by which all crates count, and none lies in a tree
unfoldable pub all_count : chains.Facts
all_count = record { counts = λ c. true; in_tree = λ t c. false }

-- the crate at the first place behind `app` does not count
unfoldable pub not_the_first : chains.Facts
not_the_first = record { counts = λ c. not (c.place == 1); in_tree = λ t c. false }

-- `app` needs `x`
unfoldable pub one_x : Graph
one_x = graph (crate 1 (codes "x") 1 ∷ []) (edge 0 1 ∷ [])

-- `app` and `y` need `x`
unfoldable pub by_two : Graph
by_two = graph (crate 1 (codes "x") 1 ∷ crate 2 (codes "y") 1 ∷ []) (edge 0 1 ∷ edge 0 2 ∷ edge 2 1 ∷ [])

-- `app` needs two versions of `x`
unfoldable pub two_x : Graph
two_x = graph (crate 1 (codes "x") 1 ∷ crate 2 (codes "x") 2 ∷ []) (edge 0 1 ∷ edge 0 2 ∷ [])

-- `app` needs the second version of `x`, which needs the first
unfoldable pub chained_x : Graph
chained_x = graph (crate 1 (codes "x") 1 ∷ crate 2 (codes "x") 2 ∷ []) (edge 0 2 ∷ edge 2 1 ∷ [])

-- an edge of a development dependency
unfoldable pub dev_edge : ℕ → ℕ → Edge
dev_edge parent child = record { parent = parent; child = child; kind = Dev }

unfoldable pub root_of : List ℕ → ℕ → Root
root_of name start = record { number = 0; spec = spec_at name start; depth = None; reason = None }

-- another crate of the same name and version has another id
unfoldable pub with_id : List ℕ → Crate → Crate
with_id id c = record c { id = id }

-- `app` needs two versions of `x`, whose ids differ
unfoldable pub x_1_x_2 : Graph
x_1_x_2 = graph (with_id (codes "x1") (crate 1 (codes "x") 1) ∷ with_id (codes "x2") (crate 2 (codes "x") 2) ∷ [])
    (edge 0 1 ∷ edge 0 2 ∷ [])

-- ---- the keys of several rules, one after another

abbrev pub ban_keys : Policy → Graph → List Key
ban_keys p g = banned_keys p g
    ++ (allowed_by_wrapper_keys p g
    ++ (unmatched_wrapper_keys p g
    ++ (unused_wrapper_keys p g
    ++ (allowed_keys p g
    ++ not_allowed_keys p g))))

abbrev pub skip_keys : Policy → Graph → chains.Facts → List Key
skip_keys p g facts = skipped_keys p g facts
    ++ (skipped_by_root_keys p g facts
    ++ (unmatched_skip_keys p g facts
    ++ (unnecessary_skip_keys p g facts
    ++ unmatched_skip_root_keys p g)))

-- ---- what a row unfolds to compute keys

unfoldable pub on_cases : ⊤
unfolding crate_of crate app edge dev_edge graph span spec_at exactly spanned_at ban_at allow_at entry_at root_of plain all_count
    not_the_first with_id one_x by_two two_x chained_x x_1_x_2
on_cases = tt

unfoldable pub bans_on_cases : ⊤
unfolding on_cases banned_keys_of is_banned concerns is_exempt is_waived has_wrappers matches key_of
    allowed_keys_of is_not_allowed not_allowed_keys allowed_by_wrapper_keys_of allowed_by_wrapper_keys_at
    unmatched_wrapper_keys_of unmatched_wrapper_keys_at is_wrapped is_wrapper wrapper_of unused_wrapper_keys_of
    is_hit_wrapper hits_wrapper wraps dependents leads
bans_on_cases = tt

unfoldable pub skips_on_cases : ⊤
unfolding on_cases skipped_keys_of skipped_by_root_keys_of unmatched_skip_keys unnecessary_skip_keys
    unmatched_skip_root_keys is_skipped is_skipped_by_root is_hit_skip is_needless has_root key_of duplicate_key
    has_name is_in_group may_duplicate is_marked is_in_skipped_tree is_internal reduced dependents leads matches
skips_on_cases = tt
