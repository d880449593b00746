-- An entry is hit by its witnesses, and by nothing else.
use Rattle.std.proofs.Common.{Bool, List, None, Option, Some, [], ap, false, inl, inr, map, refl, subst, sym, true}
use Rattle.std.proofs.Common.{◌&&◌, ◌++◌, ◌∙◌, ◌∷◌, ◌≡◌}
use Rattle.std.specs.List.{flat_map, list_any}
use Rattle.std.specs.Option.{option_map_or}
use Rattle.std.specs.Prelude.{Contains, filter, is_some, not, option_map, slice_get}
use Rattle.std.proofs.lemmas.Bool.{and_from, and_parts}
use Rattle.std.proofs.lemmas.List.Elements.{Contains-append_cases, Contains-append_left, Contains-append_right}
use Rattle.std.proofs.lemmas.Option.{none-some, same_Some}
use Rattle.deny_base_lists.proofs.Members.{Contains-cases, Contains-filter, Contains-filter_map, Contains-first}
use Rattle.deny_base_lists.proofs.Members.{Contains-flat_map, Contains-from_filter, Contains-from_flat_map}
use Rattle.deny_base_lists.proofs.Members.{Contains-rest, any_from, any_passes, contains_map, from_contains_map}
use Rattle.deny_base_lists.proofs.Members.{from_filter_map, from_there, no_member}
use Rattle.deny_base.specs.declared.entry.EntryId.{EntryId}
use Rattle.deny_base.specs.declared.entry.EntryKind.{EntryKind}
use Rattle.deny_base.specs.declared.entry.EntryKind.TheVariants as kind
use Rattle.deny_base.specs.declared.entry.Hit.{Hit}
use Rattle.deny_base.specs.declared.entry.Witness.{Witness}
use Rattle.deny_base.specs.declared.entry.Witness.TheVariants.{File, Krate, Parent}
use Rattle.deny_base.specs.declared.span.Span.{Span}
use Rattle.deny_base.specs.declared.span.Spanned.{Spanned}
use Rattle.deny_spdx.specs.declared.requirement.Requirement.{Requirement}
use Rattle.deny_spec.specs.Bans.{concerns, is_exempt}
use Rattle.deny_spec.specs.Building.{AllowedPath, Building, Bypass}
use Rattle.deny_spec.specs.declared.package.Found.{Found}
use Rattle.deny_spec.specs.declared.package.PackageFile.{PackageFile}
use Rattle.deny_spec.specs.Graph.{Crate, dependents, kid_of}
use Rattle.deny_spec.specs.Licensing.{Exception, Licensing}
use Rattle.deny_spec.specs.Match.{matches}
use Rattle.deny_spec.specs.Policy as policy
use Rattle.deny_spec.specs.Policy.{Ban, Entry, Replacing, Root}
use Rattle.deny_spec.specs.Skips.{is_skipped}
use Rattle.deny_spec.specs.Wrappers.{wraps}
use Rattle.deny_spec_report.specs.BuildScripts.{bypass_span, uses}
use Rattle.deny_spec_report.specs.Circumstances.{Circumstances}
use Rattle.deny_spec_report.specs.Facts.{Facts}
use Rattle.deny_spec_report.specs.FirstMatch.{is_first}
use Rattle.deny_spec_report.specs.Hits.{both_hits}
use Rattle.deny_spec_report.specs.Hitting.{AreFirstHits, HasHitOf, HasWitness, IsHit, Witnessed, by_allowance}
use Rattle.deny_spec_report.specs.Hitting.{by_checked, by_crates, by_exception, by_files, by_glob, by_parents, by_path}
use Rattle.deny_spec_report.specs.Hitting.{by_replaced, by_root, by_skipped, by_wrapped, entry_of, files_at}
use Rattle.deny_spec_report.specs.Hitting.{first_hit_of, parents_at, witnessed, witnessed_bypass, witnessed_ignores}
use Rattle.deny_spec_report.specs.Hitting.{witnessed_licences, witnessed_rules}
use Rattle.deny_spec_report.specs.Licences.{Asked, allowance_span, asked_in, exception_span, grants_by_allowance}
use Rattle.deny_spec_report.specs.Licences.{grants_by_exception, hits_by, is_scanned}
use Rattle.deny_spec_report.specs.PackageFiles.{PathBypassedByGlob, class_by, class_of, fits_script, hits_glob}
use Rattle.deny_spec_report.specs.PackageFiles.{hits_path, is_decided_by, leaves_to_globs, path_of, path_span}
use Rattle.deny_spec_report.specs.PackageFiles.{step_allowed, step_by, step_of}
use Rattle.deny_spec_report.specs.Packages.{Scanning, checks, package_of, scanning, walks}
use Rattle.deny_spec_report.specs.Saying.{said_by}
use Rattle.deny_spec_report.specs.StdReplacements.{hits_ignore, ignore_span, ignores, is_replaced}
use Rattle.deny_spec_report.proofs.FirstHits.{hits_first}

-- ---- files that globs of a bypass decide on

sum_to_glob : (a : AllowedPath) (sum : Option (Spanned (List _))) (found : Found) → is_some sum ≡ true
    → class_by (step_allowed a true sum) found ≡ PathBypassedByGlob
sum_to_glob a None found is = absurd (cc is)
sum_to_glob a (Some sum) found is = refl

path_to_glob : (o : Option AllowedPath) (script : Bool) (found : Found) → leaves_to_globs o ≡ true
    → class_by (step_by o true script) found ≡ PathBypassedByGlob
path_to_glob None script found is = refl
path_to_glob (Some a) script found is = sum_to_glob a a.checksum found is

-- no allowed path without a checksum decides first on a file that is bypassed by globs
sum_from_glob : (a : AllowedPath) (sum : Option (Spanned (List _))) (own : Bool) (found : Found)
    → class_by (step_allowed a own sum) found ≡ PathBypassedByGlob → is_some sum ≡ true
sum_from_glob a None own found is = absurd (cc is)
sum_from_glob a (Some sum) own found is = refl

path_from_glob : (o : Option AllowedPath) (own script : Bool) (found : Found)
    → class_by (step_by o own script) found ≡ PathBypassedByGlob → leaves_to_globs o ≡ true
path_from_glob None own script found is = refl
path_from_glob (Some a) own script found is = sum_from_glob a a.checksum own found is

-- a glob of a bypass is hit by a file that it matches and that is bypassed by globs
pub class_by_glob : (b : Building) (y : Bypass) (w : policy.SpannedText) (file : PackageFile) → Contains y.globs w
    → hits_glob y w file ≡ true → class_of b (Some y) file ≡ PathBypassedByGlob
unfolding hits_glob class_of step_of
class_by_glob b y w file within is =
    let parts = and_parts (leaves_to_globs (path_of y file.path)) (is_decided_by file w.value) is in
    ap (λ own. class_by (step_by (path_of y file.path) own (fits_script (is_decided_by file) b)) file.seen.found)
    (any_from (λ v. is_decided_by file v.value) y.globs w within parts.1)
    ∙ path_to_glob (path_of y file.path) (fits_script (is_decided_by file) b) file.seen.found parts.0

pub glob_by_class : (b : Building) (y : Bypass) (w : policy.SpannedText) (file : PackageFile)
    → class_of b (Some y) file ≡ PathBypassedByGlob → is_decided_by file w.value ≡ true → hits_glob y w file ≡ true
unfolding hits_glob class_of step_of
glob_by_class b y w file class is = and_from (leaves_to_globs (path_of y file.path)) (is_decided_by file w.value)
    (path_from_glob (path_of y file.path) (list_any (λ v. is_decided_by file v.value) y.globs)
    (fits_script (is_decided_by file) b) file.seen.found class) is

decided_by_glob : (y : Bypass) (w : policy.SpannedText) (file : PackageFile) → hits_glob y w file ≡ true
    → is_decided_by file w.value ≡ true
unfolding hits_glob
decided_by_glob y w file is = (and_parts (leaves_to_globs (path_of y file.path)) (is_decided_by file w.value) is).1

-- ---- witnesses hit their entry

module _ (c : Circumstances) (facts : Facts) (counts : Crate → Bool) where
  abbrev Hits : Witnessed → Type 0
  Hits x = (w : Witness) → Contains x.witnesses w → IsHit c facts counts x.entry w

  abbrev AllHit : List Witnessed → Type 0
  AllHit xs = (x : Witnessed) → Contains xs x → Hits x

  crates_hit : (kind : EntryKind) (span : Span) (test : Crate → Bool)
      → ((k : Crate) → Contains c.graph.crates k → test k ≡ true
      → IsHit c facts counts (entry_of kind span) (Krate (kid_of k)))
      → Hits (by_crates kind span test c.graph)
  unfolding by_crates
  crates_hit kind span test each w is =
      let of = from_contains_map (λ k. Krate (kid_of k)) (filter test c.graph.crates) w is in
      let within = Contains-from_filter test c.graph.crates of.0 of.1 in
      subst (IsHit c facts counts (entry_of kind span)) of.2 (each of.0 within.0 within.1)

  each_hit : {E : Type 0} (list : E → Witnessed) (es : List E) → ((e : E) → Contains es e → Hits (list e))
      → AllHit (map list es)
  each_hit list es each x is = let of = from_contains_map list es x is in subst Hits of.2 (each of.0 of.1)

  both_hit : (xs ys : List Witnessed) → AllHit xs → AllHit ys → AllHit (xs ++ ys)
  both_hit xs ys one two x is = elim (Contains-append_cases xs ys x is) as (λ _. Hits x) [
    | inl here ↦ one x here
    | inr there ↦ two x there
  ]

  joined_hit : {E : Type 0} (lists : E → List Witnessed) (es : List E) → ((e : E) → Contains es e → AllHit (lists e))
      → AllHit (flat_map lists es)
  joined_hit lists es each x is = let of = Contains-from_flat_map lists es x is in each of.from of.member x of.of

  option_hit : {A : Type 0} (lists : A → List Witnessed) (o : Option A) → ((a : A) → o ≡ Some a → AllHit (lists a))
      → AllHit (option_map_or lists o [])
  option_hit lists None each x is = absurd (no_member x is)
  option_hit lists (Some a) each x is = each a refl x is

  parents_hit : (ban : Ban) → Contains c.policy.deny ban → (w : policy.SpannedText) → Contains ban.wrappers w
      → Hits (by_parents c.policy c.graph ban w)
  unfolding by_parents parents_at concerns
  parents_hit ban written w within x is =
      let at = Contains-from_flat_map (parents_at c.graph ban w)
      (filter (concerns c.policy c.graph ban) c.graph.crates) x is in
      let crate = Contains-from_filter (concerns c.policy c.graph ban) c.graph.crates at.from at.member in
      let parts = and_parts (matches ban.spec at.from) (not (is_exempt c.policy c.graph at.from)) crate.1 in
      let of = from_contains_map (λ parent. Parent (kid_of at.from) (kid_of parent))
      (filter (wraps ban.wrappers w) (dependents c.graph at.from.place)) x at.of in
      let parent = Contains-from_filter (wraps ban.wrappers w) (dependents c.graph at.from.place) of.0 of.1 in
      subst (IsHit c facts counts (entry_of kind.Wrapper w.span)) of.2
      (by_wrapped ban written w within at.from crate.0 parts.0
      (is_not (is_exempt c.policy c.graph at.from) parts.1)
      of.0 parent.0 parent.1)
    where
      is_not : (b : Bool) → not b ≡ true → b ≡ false
      is_not true e = absurd (cc e)
      is_not false e = refl

  files_hit : (kind : EntryKind) (span : Span) (l : Scanning) (y : Bypass) (test : PackageFile → Bool)
      → ((k : Crate) → Contains l.graph.crates k → walks l k ≡ true → uses l.building y k ≡ true
      → (file : PackageFile) → Contains (package_of l k).files file → test file ≡ true
      → IsHit c facts counts (entry_of kind span) (File (kid_of k) file.path))
      → Hits (by_files kind span l y test)
  unfolding by_files files_at
  files_hit kind span l y test each x is =
      let at = Contains-from_flat_map (files_at l test) (filter (λ k. walks l k && uses l.building y k) l.graph.crates)
      x is in
      let crate = Contains-from_filter (λ k. walks l k && uses l.building y k) l.graph.crates at.from at.member in
      let parts = and_parts (walks l at.from) (uses l.building y at.from) crate.1 in
      let of = from_contains_map (λ file. File (kid_of at.from) file.path)
      (filter test (package_of l at.from).files) x at.of in
      let file = Contains-from_filter test (package_of l at.from).files of.0 of.1 in
      subst (IsHit c facts counts (entry_of kind span)) of.2
      (each at.from crate.0 parts.0 parts.1 of.0 file.0 file.1)

  bypass_hit : (b : Building) → c.building ≡ Some b → (y : Bypass) → Contains b.bypass y
      → AllHit (witnessed_bypass (scanning c facts b) y)
  unfolding witnessed_bypass
  bypass_hit b given y written x is = elim (Contains-cases _ _ x is) as (λ _. Hits x) [
    | inl first ↦ subst Hits first
        (crates_hit kind.Bypass (bypass_span y) (λ k. checks (scanning c facts b) k && uses b y k)
        (λ k known passes. let parts = and_parts (checks (scanning c facts b) k) (uses b y k) passes in
        by_checked b given y written k known parts.0 parts.1))
    | inr later ↦ both_hit _ _
        (each_hit (λ a. by_files kind.BypassPath (path_span a) (scanning c facts b) y (hits_path y a)) y.allow
        (λ a within. files_hit kind.BypassPath (path_span a) (scanning c facts b) y (hits_path y a)
        (λ k known walked used file there passes. by_path b given y written a within k known walked used file there
        passes)))
        (each_hit (λ w. by_files kind.BypassGlob w.span (scanning c facts b) y (hits_glob y w)) y.globs
        (λ w within. files_hit kind.BypassGlob w.span (scanning c facts b) y (hits_glob y w)
        (λ k known walked used file there passes. by_glob b given y written w within k known walked used file there
        (class_by_glob b y w file within passes) (decided_by_glob y w file passes))))
        x later
  ]

  rules_hit : AllHit (witnessed_rules c facts)
  unfolding witnessed_rules is_skipped
  rules_hit = both_hit _ _
      (each_hit (λ s. by_crates kind.Skip s.spec.span (is_skipped facts.chains s) c.graph) c.policy.skip
      (λ s written. crates_hit kind.Skip s.spec.span (is_skipped facts.chains s)
      (λ k known passes. let parts = and_parts (facts.chains.counts k) (matches s.spec k) passes in
      by_skipped s written k known parts.0 parts.1)))
      (both_hit _ _
      (each_hit (λ t. by_crates kind.SkipRoot t.spec.span (matches t.spec) c.graph) c.policy.skip_tree
      (λ t written. crates_hit kind.SkipRoot t.spec.span (matches t.spec)
      (λ k known passes. by_root t written k known passes)))
      (joined_hit (λ ban. map (by_parents c.policy c.graph ban) ban.wrappers) c.policy.deny
      (λ ban written. each_hit (by_parents c.policy c.graph ban) ban.wrappers
      (λ w within. parents_hit ban written w within))))

  ignores_hit : (r : Replacing) → c.policy.replacing ≡ Some r
      → AllHit (witnessed_ignores c.graph (said_by c.table) r)
  unfolding witnessed_ignores hits_ignore
  ignores_hit r given =
      each_hit
      (λ e. by_crates kind.ReplacementIgnore (ignore_span e) (hits_ignore r c.graph (said_by c.table) e) c.graph)
      r.ignore
      (λ e written. crates_hit kind.ReplacementIgnore (ignore_span e) (hits_ignore r c.graph (said_by c.table) e)
      (λ k known passes.
      let parts = and_parts (is_replaced r c.graph (said_by c.table) k) (is_first ignore_span ignores r.ignore e k)
      passes in
      by_replaced r given e written k known parts.0 parts.1))

  asked_hit : (kind : EntryKind) (span : Span) (l : Licensing) (grants : Asked → Bool)
      → ((k : Crate) → Contains c.graph.crates k → is_scanned counts l k ≡ true
      → (asked : Asked) → Contains (asked_in k) asked → grants asked ≡ true
      → IsHit c facts counts (entry_of kind span) (Krate (kid_of k)))
      → Hits (by_crates kind span (hits_by counts l grants) c.graph)
  unfolding hits_by
  asked_hit kind span l grants each = crates_hit kind span (hits_by counts l grants) (λ k known passes.
      let parts = and_parts (is_scanned counts l k) (list_any grants (asked_in k)) passes in
      let some = any_passes grants (asked_in k) parts.1 in
      each k known parts.0 some.one some.member some.passes)

  licences_hit : (l : Licensing) → c.licensing ≡ Some l → AllHit (witnessed_licences counts c.graph l)
  unfolding witnessed_licences
  licences_hit l given = both_hit _ _
      (each_hit
      (λ a. by_crates kind.LicenseAllow (allowance_span a) (hits_by counts l (grants_by_allowance l a)) c.graph)
      l.allow
      (λ a written. asked_hit kind.LicenseAllow (allowance_span a) l (grants_by_allowance l a)
      (λ k known scanned asked there passes. by_allowance l given a written k known scanned asked there passes)))
      (each_hit
      (λ e. by_crates kind.LicenseException (exception_span e) (hits_by counts l (grants_by_exception l e)) c.graph)
      l.exceptions
      (λ e written. asked_hit kind.LicenseException (exception_span e) l (grants_by_exception l e)
      (λ k known scanned asked there passes. by_exception l given e written k known scanned asked there passes)))

  each_is_hit : AllHit (witnessed c facts counts)
  each_is_hit = both_hit _ _
      (both_hit _ _ rules_hit
      (both_hit _ _
      (option_hit (witnessed_ignores c.graph (said_by c.table)) c.policy.replacing ignores_hit)
      (option_hit (λ b. flat_map (witnessed_bypass (scanning c facts b)) b.bypass) c.building
      (λ b given. joined_hit (witnessed_bypass (scanning c facts b)) b.bypass
      (λ y written. bypass_hit b given y written)))))
      (option_hit (witnessed_licences counts c.graph) c.licensing licences_hit)

  -- ---- what hits an entry is one of its witnesses

  abbrev Has : EntryId → Witness → Type 0
  Has e w = HasWitness (witnessed c facts counts) e w

  has : (x : Witnessed) → Contains (witnessed c facts counts) x → (w : Witness) → Contains x.witnesses w
      → Has x.entry w
  has x listed w is = record { of = x; listed = listed; entry = refl; witness = is }

  abbrev of_ignores : List Witnessed
  of_ignores = option_map_or (witnessed_ignores c.graph (said_by c.table)) c.policy.replacing []

  abbrev of_bypasses : List Witnessed
  of_bypasses = option_map_or (λ b. flat_map (witnessed_bypass (scanning c facts b)) b.bypass) c.building []

  abbrev of_licences : List Witnessed
  of_licences = option_map_or (witnessed_licences counts c.graph) c.licensing []

  abbrev of_bans : List Witnessed
  of_bans = witnessed_rules c facts ++ (of_ignores ++ of_bypasses)

  in_rules : (x : Witnessed) → Contains (witnessed_rules c facts) x → Contains (witnessed c facts counts) x
  in_rules x is = Contains-append_left of_bans of_licences x
      (Contains-append_left (witnessed_rules c facts) (of_ignores ++ of_bypasses) x is)

  in_option : {A : Type 0} (lists : A → List Witnessed) (o : Option A) (a : A) → o ≡ Some a → (x : Witnessed)
      → Contains (lists a) x → Contains (option_map_or lists o []) x
  in_option lists o a given x is = subst (λ (xs : List Witnessed). Contains xs x)
      (sym (ap (λ o. option_map_or lists o []) given)) is

  in_ignores : (r : Replacing) → c.policy.replacing ≡ Some r → (x : Witnessed)
      → Contains (witnessed_ignores c.graph (said_by c.table) r) x → Contains (witnessed c facts counts) x
  in_ignores r given x is = Contains-append_left of_bans of_licences x
      (Contains-append_right (witnessed_rules c facts) (of_ignores ++ of_bypasses) x
      (Contains-append_left of_ignores of_bypasses x
      (in_option (witnessed_ignores c.graph (said_by c.table)) c.policy.replacing r given x is)))

  in_bypasses : (b : Building) → c.building ≡ Some b → (y : Bypass) → Contains b.bypass y → (x : Witnessed)
      → Contains (witnessed_bypass (scanning c facts b) y) x → Contains (witnessed c facts counts) x
  in_bypasses b given y written x is = Contains-append_left of_bans of_licences x
      (Contains-append_right (witnessed_rules c facts) (of_ignores ++ of_bypasses) x
      (Contains-append_right of_ignores of_bypasses x
      (in_option (λ b. flat_map (witnessed_bypass (scanning c facts b)) b.bypass) c.building b given x
      (Contains-flat_map (witnessed_bypass (scanning c facts b)) b.bypass y x written is))))

  in_licences : (l : Licensing) → c.licensing ≡ Some l → (x : Witnessed)
      → Contains (witnessed_licences counts c.graph l) x → Contains (witnessed c facts counts) x
  in_licences l given x is = Contains-append_right of_bans of_licences x
      (in_option (witnessed_licences counts c.graph) c.licensing l given x is)

  has_crate : (kind : EntryKind) (span : Span) (test : Crate → Bool)
      → Contains (witnessed c facts counts) (by_crates kind span test c.graph)
      → (k : Crate) → Contains c.graph.crates k → test k ≡ true → Has (entry_of kind span) (Krate (kid_of k))
  unfolding by_crates
  has_crate kind span test listed k known passes = has (by_crates kind span test c.graph) listed (Krate (kid_of k))
      (contains_map (λ k. Krate (kid_of k)) (filter test c.graph.crates) k
      (Contains-filter test c.graph.crates k known passes))

  has_file : (kind : EntryKind) (span : Span) (l : Scanning) (y : Bypass) (test : PackageFile → Bool)
      → Contains (witnessed c facts counts) (by_files kind span l y test)
      → (k : Crate) → Contains l.graph.crates k → walks l k ≡ true → uses l.building y k ≡ true
      → (file : PackageFile) → Contains (package_of l k).files file → test file ≡ true
      → Has (entry_of kind span) (File (kid_of k) file.path)
  unfolding by_files files_at
  has_file kind span l y test listed k known walked used file there passes =
      has (by_files kind span l y test) listed (File (kid_of k) file.path)
      (Contains-flat_map (files_at l test) (filter (λ k. walks l k && uses l.building y k) l.graph.crates) k
      (File (kid_of k) file.path)
      (Contains-filter (λ k. walks l k && uses l.building y k) l.graph.crates k known
      (and_from (walks l k) (uses l.building y k) walked used))
      (contains_map (λ file. File (kid_of k) file.path) (filter test (package_of l k).files) file
      (Contains-filter test (package_of l k).files file there passes)))

  has_skip : (s : Entry) → Contains c.policy.skip s → (k : Crate) → Contains c.graph.crates k
      → facts.chains.counts k ≡ true → matches s.spec k ≡ true → Has (entry_of kind.Skip s.spec.span) (Krate (kid_of k))
  unfolding witnessed_rules is_skipped
  has_skip s written k known counting is = has_crate kind.Skip s.spec.span (is_skipped facts.chains s)
      (in_rules _ (Contains-append_left _ _ _
      (contains_map (λ s. by_crates kind.Skip s.spec.span (is_skipped facts.chains s) c.graph) c.policy.skip s written)))
      k known (and_from (facts.chains.counts k) (matches s.spec k) counting is)

  has_root : (t : Root) → Contains c.policy.skip_tree t → (k : Crate) → Contains c.graph.crates k
      → matches t.spec k ≡ true → Has (entry_of kind.SkipRoot t.spec.span) (Krate (kid_of k))
  unfolding witnessed_rules
  has_root t written k known is = has_crate kind.SkipRoot t.spec.span (matches t.spec)
      (in_rules _ (Contains-append_right _ _ _ (Contains-append_left _ _ _
      (contains_map (λ t. by_crates kind.SkipRoot t.spec.span (matches t.spec) c.graph) c.policy.skip_tree t written))))
      k known is

  has_parent : (ban : Ban) → Contains c.policy.deny ban → (w : policy.SpannedText) → Contains ban.wrappers w
      → (k : Crate) → Contains c.graph.crates k → matches ban.spec k ≡ true → is_exempt c.policy c.graph k ≡ false
      → (parent : Crate) → Contains (dependents c.graph k.place) parent → wraps ban.wrappers w parent ≡ true
      → Has (entry_of kind.Wrapper w.span) (Parent (kid_of k) (kid_of parent))
  unfolding witnessed_rules by_parents parents_at concerns
  has_parent ban written w within k known is exempt parent there wrapped =
      has (by_parents c.policy c.graph ban w)
      (in_rules (by_parents c.policy c.graph ban w)
      (Contains-append_right
      (map (λ s. by_crates kind.Skip s.spec.span (is_skipped facts.chains s) c.graph) c.policy.skip)
      (map (λ t. by_crates kind.SkipRoot t.spec.span (matches t.spec) c.graph) c.policy.skip_tree
      ++ flat_map (λ d. map (by_parents c.policy c.graph d) d.wrappers) c.policy.deny)
      (by_parents c.policy c.graph ban w)
      (Contains-append_right
      (map (λ t. by_crates kind.SkipRoot t.spec.span (matches t.spec) c.graph) c.policy.skip_tree)
      (flat_map (λ d. map (by_parents c.policy c.graph d) d.wrappers) c.policy.deny)
      (by_parents c.policy c.graph ban w)
      (Contains-flat_map (λ d. map (by_parents c.policy c.graph d) d.wrappers) c.policy.deny ban
      (by_parents c.policy c.graph ban w) written
      (contains_map (by_parents c.policy c.graph ban) ban.wrappers w within)))))
      (Parent (kid_of k) (kid_of parent))
      (Contains-flat_map (parents_at c.graph ban w) (filter (concerns c.policy c.graph ban) c.graph.crates) k
      (Parent (kid_of k) (kid_of parent))
      (Contains-filter (concerns c.policy c.graph ban) c.graph.crates k known
      (and_from (matches ban.spec k) (not (is_exempt c.policy c.graph k)) is (ap (λ b. not b) exempt)))
      (contains_map (λ parent. Parent (kid_of k) (kid_of parent))
      (filter (wraps ban.wrappers w) (dependents c.graph k.place)) parent
      (Contains-filter (wraps ban.wrappers w) (dependents c.graph k.place) parent there wrapped)))

  has_checked : (b : Building) → c.building ≡ Some b → (y : Bypass) → Contains b.bypass y
      → (k : Crate) → Contains c.graph.crates k → checks (scanning c facts b) k ≡ true → uses b y k ≡ true
      → Has (entry_of kind.Bypass (bypass_span y)) (Krate (kid_of k))
  unfolding witnessed_bypass
  has_checked b given y written k known checked used =
      has_crate kind.Bypass (bypass_span y) (λ k. checks (scanning c facts b) k && uses b y k)
      (in_bypasses b given y written _ (Contains-first _ _)) k known
      (and_from (checks (scanning c facts b) k) (uses b y k) checked used)

  in_paths : (b : Building) → c.building ≡ Some b → (y : Bypass) → Contains b.bypass y → (a : AllowedPath)
      → Contains y.allow a
      → Contains (witnessed c facts counts)
      (by_files kind.BypassPath (path_span a) (scanning c facts b) y (hits_path y a))
  unfolding witnessed_bypass
  in_paths b given y written a within = in_bypasses b given y written _
      (Contains-rest _ _ _ (Contains-append_left _ _ _
      (contains_map (λ a. by_files kind.BypassPath (path_span a) (scanning c facts b) y (hits_path y a)) y.allow a
      within)))

  in_globs : (b : Building) → c.building ≡ Some b → (y : Bypass) → Contains b.bypass y → (w : policy.SpannedText)
      → Contains y.globs w
      → Contains (witnessed c facts counts) (by_files kind.BypassGlob w.span (scanning c facts b) y (hits_glob y w))
  unfolding witnessed_bypass
  in_globs b given y written w within = in_bypasses b given y written _
      (Contains-rest _ _ _ (Contains-append_right _ _ _
      (contains_map (λ w. by_files kind.BypassGlob w.span (scanning c facts b) y (hits_glob y w)) y.globs w within)))

  has_ignored : (r : Replacing) → c.policy.replacing ≡ Some r → (e : Entry) → Contains r.ignore e
      → (k : Crate) → Contains c.graph.crates k
      → is_replaced r c.graph (said_by c.table) k ≡ true → is_first ignore_span ignores r.ignore e k ≡ true
      → Has (entry_of kind.ReplacementIgnore (ignore_span e)) (Krate (kid_of k))
  unfolding witnessed_ignores hits_ignore
  has_ignored r given e written k known replaced first =
      has_crate kind.ReplacementIgnore (ignore_span e) (hits_ignore r c.graph (said_by c.table) e)
      (in_ignores r given _
      (contains_map
      (λ e. by_crates kind.ReplacementIgnore (ignore_span e) (hits_ignore r c.graph (said_by c.table) e) c.graph)
      r.ignore e written))
      k known
      (and_from (is_replaced r c.graph (said_by c.table) k) (is_first ignore_span ignores r.ignore e k) replaced first)

  asks : (l : Licensing) (grants : Asked → Bool) (k : Crate) → is_scanned counts l k ≡ true
      → (asked : Asked) → Contains (asked_in k) asked → grants asked ≡ true → hits_by counts l grants k ≡ true
  unfolding hits_by
  asks l grants k scanned asked there passes = and_from (is_scanned counts l k) (list_any grants (asked_in k)) scanned
      (any_from grants (asked_in k) asked there passes)

  in_allowances : (l : Licensing) → c.licensing ≡ Some l → (a : Spanned Requirement) → Contains l.allow a
      → Contains (witnessed c facts counts)
      (by_crates kind.LicenseAllow (allowance_span a) (hits_by counts l (grants_by_allowance l a)) c.graph)
  unfolding witnessed_licences
  in_allowances l given a written = in_licences l given _ (Contains-append_left _ _ _
      (contains_map
      (λ a. by_crates kind.LicenseAllow (allowance_span a) (hits_by counts l (grants_by_allowance l a)) c.graph)
      l.allow a written))

  in_exceptions : (l : Licensing) → c.licensing ≡ Some l → (e : Exception) → Contains l.exceptions e
      → Contains (witnessed c facts counts)
      (by_crates kind.LicenseException (exception_span e) (hits_by counts l (grants_by_exception l e)) c.graph)
  unfolding witnessed_licences
  in_exceptions l given e written = in_licences l given _ (Contains-append_right _ _ _
      (contains_map
      (λ e. by_crates kind.LicenseException (exception_span e) (hits_by counts l (grants_by_exception l e)) c.graph)
      l.exceptions e written))

  pub witness_of : (e : EntryId) (w : Witness) → IsHit c facts counts e w → Has e w
  witness_of e w (by_skipped s written k known counting is) = has_skip s written k known counting is
  witness_of e w (by_root t written k known is) = has_root t written k known is
  witness_of e w (by_wrapped ban written v within k known is exempt parent there wrapped) =
      has_parent ban written v within k known is exempt parent there wrapped
  witness_of e w (by_checked b given y written k known checked used) =
      has_checked b given y written k known checked used
  witness_of e w (by_path b given y written a within k known walked used file there is) =
      has_file kind.BypassPath (path_span a) (scanning c facts b) y (hits_path y a) (in_paths b given y written a within)
      k known walked used file there is
  witness_of e w (by_glob b given y written v within k known walked used file there class is) =
      has_file kind.BypassGlob v.span (scanning c facts b) y (hits_glob y v) (in_globs b given y written v within)
      k known walked used file there (glob_by_class b y v file class is)
  witness_of e w (by_replaced r given d written k known replaced first) =
      has_ignored r given d written k known replaced first
  witness_of e w (by_allowance l given a written k known scanned asked there is) =
      has_crate kind.LicenseAllow (allowance_span a) (hits_by counts l (grants_by_allowance l a))
      (in_allowances l given a written) k known (asks l (grants_by_allowance l a) k scanned asked there is)
  witness_of e w (by_exception l given d written k known scanned asked there is) =
      has_crate kind.LicenseException (exception_span d) (hits_by counts l (grants_by_exception l d))
      (in_exceptions l given d written) k known (asks l (grants_by_exception l d) k scanned asked there is)

  -- ---- the law

  hit_by_witness : (e : EntryId) (w : Witness) → Has e w → IsHit c facts counts e w
  hit_by_witness e w of = subst (λ (d : EntryId). IsHit c facts counts d w) of.entry
      (each_is_hit of.of of.listed w of.witness)

  abbrev both : List Hit
  both = both_hits c facts counts

  -- an entry with witnesses has its first one
  first_of_some : (x : Witnessed) → Contains (witnessed c facts counts) x → (ws : List Witness) (w : Witness)
      → x.witnesses ≡ ws → Contains ws w → HasHitOf both x.entry
  first_of_some x listed [] w is there = absurd (no_member w there)
  first_of_some x listed (v ∷ vs) w is there = record {
    hit = record { entry = x.entry; witness = v };
    listed = subst (λ (hits : List Hit). Contains hits (record { entry = x.entry; witness = v }))
        (hits_first c facts counts)
        (Contains-filter_map first_hit_of (witnessed c facts counts) x _ listed
        (ap (λ (us : List Witness). option_map (λ u. record { entry = x.entry; witness = u }) (slice_get us 0)) is));
    entry = refl;
  }

  has_hit : (e : EntryId) (w : Witness) → Has e w → HasHitOf both e
  has_hit e w of = subst (HasHitOf both) of.entry (first_of_some of.of of.listed of.of.witnesses w refl of.witness)

  by_first_witness : (x : Witnessed) → Contains (witnessed c facts counts) x → (h : Hit) (o : Option Witness)
      → slice_get x.witnesses 0 ≡ o → option_map (λ w. record { entry = x.entry; witness = w }) o ≡ Some h
      → IsHit c facts counts h.entry h.witness
  by_first_witness x listed h None at is = absurd (none-some h is)
  by_first_witness x listed h (Some w) at is =
      subst (λ (d : Hit). IsHit c facts counts d.entry d.witness)
      (same_Some (record { entry = x.entry; witness = w }) h is)
      (each_is_hit x listed w (from_there x.witnesses 0 w at))

  is_hit : (h : Hit) → Contains both h → IsHit c facts counts h.entry h.witness
  is_hit h is =
      let of = from_filter_map first_hit_of (witnessed c facts counts) h
      (subst (λ (hits : List Hit). Contains hits h) (sym (hits_first c facts counts)) is) in
      by_first_witness of.from of.member h (slice_get of.from.witnesses 0) refl of.gives

  pub are_first : AreFirstHits c facts counts
  are_first = record {
    whole = λ e w is. has_hit e w (witness_of e w is);
    sound = is_hit;
    witnesses = λ e w. (witness_of e w, hit_by_witness e w);
    first = sym (hits_first c facts counts);
  }
