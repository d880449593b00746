-- Hits as a relation: an entry of the policy is hit by a witness, the first one or any other. Each entry's witnesses in
-- order, and what the list of hits has of them.
use Rattle.std.specs.Prelude.{◌≡◌, ◌++◌, ◌∷◌, ◌↔◌, ◌&&◌, Bool, IsTrue, IsFalse, List, [], Contains, Option, Some}
use Rattle.std.specs.Prelude.{filter, filter_map, map, option_map, slice_get}
use Rattle.std.specs.List.{flat_map}
use Rattle.std.specs.Option.{option_map_or}
use Rattle.deny_base.specs.declared.entry.EntryId.{EntryId}
use Rattle.deny_base.specs.declared.entry.EntryKind.{EntryKind}
use Rattle.deny_base.specs.declared.entry.EntryKind.TheVariants as kind
use Rattle.deny_base.specs.declared.entry.Hit.{Hit}
use Rattle.deny_base.specs.declared.entry.Witness.{Witness}
use Rattle.deny_base.specs.declared.entry.Witness.TheVariants.{File, Krate, Parent}
use Rattle.deny_base.specs.declared.span.Span.{Span}
use Rattle.deny_base.specs.declared.span.Spanned.{Spanned}
use Rattle.deny_spdx.specs.declared.requirement.Requirement.{Requirement}
use Rattle.deny_spec.specs.Bans.{concerns, is_exempt}
use Rattle.deny_spec.specs.Building.{AllowedPath, Building, Bypass}
use Rattle.deny_spec.specs.declared.package.PackageFile.{PackageFile}
use Rattle.deny_spec.specs.Graph.{Crate, Graph, dependents, kid_of}
use Rattle.deny_spec.specs.Licensing.{Exception, Licensing}
use Rattle.deny_spec.specs.Match.{matches}
use Rattle.deny_spec.specs.Policy as policy
use Rattle.deny_spec.specs.Policy.{Ban, Entry, Replacing, Root}
use Rattle.deny_spec.specs.Skips.{is_skipped}
use Rattle.deny_spec.specs.Wrappers.{wraps}
use Rattle.deny_spec_report.specs.BuildScripts.{bypass_span, uses}
use Rattle.deny_spec_report.specs.Circumstances.{Circumstances}
use Rattle.deny_spec_report.specs.Facts.{Facts}
use Rattle.deny_spec_report.specs.FirstMatch.{is_first}
use Rattle.deny_spec_report.specs.Hits.{both_hits}
use Rattle.deny_spec_report.specs.Licences.{Asked, allowance_span, asked_in, exception_span, grants_by_allowance}
use Rattle.deny_spec_report.specs.Licences.{grants_by_exception, hits_by, is_scanned}
use Rattle.deny_spec_report.specs.PackageFiles.{PathBypassedByGlob, class_of, hits_glob, hits_path, is_decided_by}
use Rattle.deny_spec_report.specs.PackageFiles.{path_span}
use Rattle.deny_spec_report.specs.Packages.{Scanning, checks, package_of, scanning, walks}
use Rattle.deny_spec_report.specs.Saying.{Saying, said_by}
use Rattle.deny_spec_report.specs.StdReplacements.{hits_ignore, ignore_span, ignores, is_replaced}

-- the entry of a kind with a span
abbrev pub entry_of : EntryKind → Span → EntryId
entry_of kind span = record { kind = kind; range = span }

-- an entry of the policy is hit by a witness
pub data IsHit (c : Circumstances) (facts : Facts) (counts : Crate → Bool) : EntryId → Witness → Type 0 where
  -- a skip is hit by a counting crate that it matches
  by_skipped : (s : Entry) → Contains c.policy.skip s → (k : Crate) → Contains c.graph.crates k
      → IsTrue (facts.chains.counts k) → IsTrue (matches s.spec k)
      → IsHit c facts counts (entry_of kind.Skip s.spec.span) (Krate (kid_of k))
  -- a skipped tree, by a crate that it matches
  by_root : (t : Root) → Contains c.policy.skip_tree t → (k : Crate) → Contains c.graph.crates k
      → IsTrue (matches t.spec k)
      → IsHit c facts counts (entry_of kind.SkipRoot t.spec.span) (Krate (kid_of k))
  -- a wrapper, by a crate that its ban matches and that is not exempt, with a direct dependent for whose name it is the
  -- first wrapper of the ban
  by_wrapped : (ban : Ban) → Contains c.policy.deny ban → (w : policy.SpannedText) → Contains ban.wrappers w
      → (k : Crate) → Contains c.graph.crates k → IsTrue (matches ban.spec k) → IsFalse (is_exempt c.policy c.graph k)
      → (parent : Crate) → Contains (dependents c.graph k.place) parent → IsTrue (wraps ban.wrappers w parent)
      → IsHit c facts counts (entry_of kind.Wrapper w.span) (Parent (kid_of k) (kid_of parent))
  -- a bypass, by a checked crate whose first matching bypass it is
  by_checked : (b : Building) → c.building ≡ Some b → (y : Bypass) → Contains b.bypass y
      → (k : Crate) → Contains c.graph.crates k
      → IsTrue (checks (scanning c facts b) k) → IsTrue (uses b y k)
      → IsHit c facts counts (entry_of kind.Bypass (bypass_span y)) (Krate (kid_of k))
  -- an allowed path, by a file of a walked crate for which it is the first equal path of the crate's bypass
  by_path : (b : Building) → c.building ≡ Some b → (y : Bypass) → Contains b.bypass y
      → (a : AllowedPath) → Contains y.allow a → (k : Crate) → Contains c.graph.crates k
      → IsTrue (walks (scanning c facts b) k) → IsTrue (uses b y k)
      → (file : PackageFile) → Contains (package_of (scanning c facts b) k).files file → IsTrue (hits_path y a file)
      → IsHit c facts counts (entry_of kind.BypassPath (path_span a)) (File (kid_of k) file.path)
  -- a glob, by a file of a walked crate that is bypassed by the globs of the crate's bypass, and which it matches
  by_glob : (b : Building) → c.building ≡ Some b → (y : Bypass) → Contains b.bypass y
      → (w : policy.SpannedText) → Contains y.globs w → (k : Crate) → Contains c.graph.crates k
      → IsTrue (walks (scanning c facts b) k) → IsTrue (uses b y k)
      → (file : PackageFile) → Contains (package_of (scanning c facts b) k).files file
      → class_of b (Some y) file ≡ PathBypassedByGlob → IsTrue (is_decided_by file w.value)
      → IsHit c facts counts (entry_of kind.BypassGlob w.span) (File (kid_of k) file.path)
  -- an ignore, by a replaced crate whose first matching ignore it is
  by_replaced : (r : Replacing) → c.policy.replacing ≡ Some r → (e : Entry) → Contains r.ignore e
      → (k : Crate) → Contains c.graph.crates k
      → IsTrue (is_replaced r c.graph (said_by c.table) k) → IsTrue (is_first ignore_span ignores r.ignore e k)
      → IsHit c facts counts (entry_of kind.ReplacementIgnore (ignore_span e)) (Krate (kid_of k))
  -- a licence that every crate may ask for, by a scanned crate with a requirement that it grants
  by_allowance : (l : Licensing) → c.licensing ≡ Some l → (a : Spanned Requirement) → Contains l.allow a
      → (k : Crate) → Contains c.graph.crates k → IsTrue (is_scanned counts l k)
      → (asked : Asked) → Contains (asked_in k) asked → IsTrue (grants_by_allowance l a asked)
      → IsHit c facts counts (entry_of kind.LicenseAllow (allowance_span a)) (Krate (kid_of k))
  -- an exception, by a scanned crate with a requirement that it grants
  by_exception : (l : Licensing) → c.licensing ≡ Some l → (e : Exception) → Contains l.exceptions e
      → (k : Crate) → Contains c.graph.crates k → IsTrue (is_scanned counts l k)
      → (asked : Asked) → Contains (asked_in k) asked → IsTrue (grants_by_exception l e asked)
      → IsHit c facts counts (entry_of kind.LicenseException (exception_span e)) (Krate (kid_of k))

-- ---- the witnesses of each entry, in order

-- an entry with all its witnesses: in the order of crates in the graph, and for one crate in that of its dependents, or
-- of the files of its package
pub record Witnessed : Type 0 where
  pub entry : EntryId
  pub witnesses : List Witness

-- by each crate that passes a test
unfoldable pub by_crates : EntryKind → Span → (Crate → Bool) → Graph → Witnessed
by_crates kind span test g = record {
  entry = entry_of kind span;
  witnesses = map (λ k. Krate (kid_of k)) (filter test g.crates);
}

unfoldable pub parents_at : Graph → Ban → policy.SpannedText → Crate → List Witness
parents_at g ban w k = map (λ parent. Parent (kid_of k) (kid_of parent))
    (filter (wraps ban.wrappers w) (dependents g k.place))

unfoldable pub by_parents : policy.Policy → Graph → Ban → policy.SpannedText → Witnessed
by_parents p g ban w = record {
  entry = entry_of kind.Wrapper w.span;
  witnesses = flat_map (parents_at g ban w) (filter (concerns p g ban) g.crates);
}

unfoldable pub files_at : Scanning → (PackageFile → Bool) → Crate → List Witness
files_at l test k = map (λ file. File (kid_of k) file.path) (filter test (package_of l k).files)

unfoldable pub by_files : EntryKind → Span → Scanning → Bypass → (PackageFile → Bool) → Witnessed
by_files kind span l y test = record {
  entry = entry_of kind span;
  witnesses = flat_map (files_at l test) (filter (λ k. walks l k && uses l.building y k) l.graph.crates);
}

unfoldable pub witnessed_bypass : Scanning → Bypass → List Witnessed
witnessed_bypass l y =
    by_crates kind.Bypass (bypass_span y) (λ k. checks l k && uses l.building y k) l.graph
    ∷ (map (λ a. by_files kind.BypassPath (path_span a) l y (hits_path y a)) y.allow
    ++ map (λ w. by_files kind.BypassGlob w.span l y (hits_glob y w)) y.globs)

unfoldable pub witnessed_rules : Circumstances → Facts → List Witnessed
witnessed_rules c facts =
    map (λ s. by_crates kind.Skip s.spec.span (is_skipped facts.chains s) c.graph) c.policy.skip
    ++ (map (λ t. by_crates kind.SkipRoot t.spec.span (matches t.spec) c.graph) c.policy.skip_tree
    ++ flat_map (λ ban. map (by_parents c.policy c.graph ban) ban.wrappers) c.policy.deny)

unfoldable pub witnessed_ignores : Graph → Saying → Replacing → List Witnessed
witnessed_ignores g said r =
    map (λ e. by_crates kind.ReplacementIgnore (ignore_span e) (hits_ignore r g said e) g) r.ignore

unfoldable pub witnessed_licences : (Crate → Bool) → Graph → Licensing → List Witnessed
witnessed_licences counts g l =
    map (λ a. by_crates kind.LicenseAllow (allowance_span a) (hits_by counts l (grants_by_allowance l a)) g) l.allow
    ++ map (λ e. by_crates kind.LicenseException (exception_span e) (hits_by counts l (grants_by_exception l e)) g)
    l.exceptions

-- each entry of the policy with its witnesses, in the order of the list of hits
abbrev pub witnessed : Circumstances → Facts → (Crate → Bool) → List Witnessed
witnessed c facts counts = (witnessed_rules c facts
    ++ (option_map_or (witnessed_ignores c.graph (said_by c.table)) c.policy.replacing []
    ++ option_map_or (λ b. flat_map (witnessed_bypass (scanning c facts b)) b.bypass) c.building []))
    ++ option_map_or (witnessed_licences counts c.graph) c.licensing []

-- the hit of an entry by its first witness
abbrev pub first_hit_of : Witnessed → Option Hit
first_hit_of x = option_map (λ w. record { entry = x.entry; witness = w }) (slice_get x.witnesses 0)

-- ---- the law

-- an entry is among those of a list with a witness
pub record HasWitness (these : List Witnessed) (e : EntryId) (w : Witness) : Type 0 where
  pub of : Witnessed
  pub listed : Contains these of
  pub entry : of.entry ≡ e
  pub witness : Contains of.witnesses w

-- a list has a hit of the entry
pub record HasHitOf (hits : List Hit) (e : EntryId) : Type 0 where
  pub hit : Hit
  pub listed : Contains hits hit
  pub entry : hit.entry ≡ e

pub record AreFirstHits (c : Circumstances) (facts : Facts) (counts : Crate → Bool) : Type 0 where
  -- each entry that is hit has a hit, and each hit is one
  pub whole : (e : EntryId) → (w : Witness) → IsHit c facts counts e w → HasHitOf (both_hits c facts counts) e
  pub sound : (h : Hit) → Contains (both_hits c facts counts) h → IsHit c facts counts h.entry h.witness
  -- the witnesses of an entry are what hits it, and its hit is by the first of them
  pub witnesses : (e : EntryId) → (w : Witness) → IsHit c facts counts e w ↔ HasWitness (witnessed c facts counts) e w
  pub first : both_hits c facts counts ≡ filter_map first_hit_of (witnessed c facts counts)

abbrev pub HitsAreFirst : Type 0
HitsAreFirst = (c : Circumstances) → (facts : Facts) → (counts : Crate → Bool) → AreFirstHits c facts counts
