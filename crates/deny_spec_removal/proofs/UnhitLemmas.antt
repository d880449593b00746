-- Entries that are hit have a hit, so they stay where the entries that go have none.
use Rattle.std.proofs.Common.{◌≡◌, ◌&&◌, Bool, ◌++◌, ◌∙◌, List, None, Option, Some, [], ap, not, refl, subst, sym, true}
use Rattle.std.specs.Prelude.{Contains, filter_map, find, is_some, option_and_then, option_map}
use Rattle.std.specs.List.{flat_map, list_any}
use Rattle.std.specs.FinMap.{IsAntisymmetric}
use Rattle.std.specs.Option.{option_map_or}
use Rattle.std.proofs.lemmas.Bool.{and_parts}
use Rattle.std.proofs.lemmas.List.Elements.{Contains-append_left, Contains-append_right}
use Rattle.deny_base_lists.proofs.Agreement.{list_any_on, same_test}
use Rattle.deny_base_lists.proofs.Filters.{find-any}
use Rattle.deny_base_lists.proofs.Members.{Contains-filter_map, Contains-first, Contains-flat_map}
use Rattle.deny_base.specs.Entry.{entry_cmp}
use Rattle.deny_base.specs.declared.entry.EntryId.{EntryId}
use Rattle.deny_base.specs.declared.entry.EntryKind.{EntryKind}
use Rattle.deny_base.specs.declared.entry.EntryKind.TheVariants as kind
use Rattle.deny_base.specs.declared.entry.EntryKind.TheVariants.{LicenseAllow, LicenseException, ReplacementIgnore}
use Rattle.deny_base.specs.declared.entry.EntryKind.TheVariants.{Skip, SkipRoot, Wrapper}
use Rattle.deny_base.specs.declared.entry.Hit.{Hit}
use Rattle.deny_base.specs.declared.entry.Witness.TheVariants.{File, Krate, Parent}
use Rattle.deny_base.specs.declared.span.Span.{Span}
use Rattle.deny_base.specs.declared.span.Spanned.{Spanned}
use Rattle.deny_spdx.specs.declared.requirement.Requirement.{Requirement}
use Rattle.deny_spec.specs.Building.{AllowedPath, Building, Bypass}
use Rattle.deny_spec.specs.declared.package.PackageFile.{PackageFile}
use Rattle.deny_spec.specs.Hits.{all_hits, hit_of, root_hit, skip_hit, wrapper_hit, wrapper_hit_at}
use Rattle.deny_spec.specs.Bans.{concerns}
use Rattle.deny_spec.specs.Facts as chains
use Rattle.deny_spec.specs.Graph.{Crate, Graph, dependents, kid_of}
use Rattle.deny_spec.specs.Licensing.{Exception, Licensing}
use Rattle.deny_spec.specs.Match.{matches}
use Rattle.deny_spec.specs.Policy as policy
use Rattle.deny_spec.specs.Policy.{Ban, Entry, Policy, Replacing, Root}
use Rattle.deny_spec.specs.Skips.{has_root, is_hit_skip, is_skipped}
use Rattle.deny_spec.specs.Wrappers.{hits_wrapper, is_hit_wrapper, wraps}
use Rattle.deny_spec_report.specs.BuildScripts.{bypass_span, uses}
use Rattle.deny_spec_report.specs.Circumstances.{Circumstances}
use Rattle.deny_spec_report.specs.Facts.{Facts}
use Rattle.deny_spec_report.specs.Hits.{TestsLicensed, both_hits, hits_in, licence_hits_in}
use Rattle.deny_spec_report.specs.Licences.{Asked, TestsCounting, allowance_hit, allowance_span, asked_in}
use Rattle.deny_spec_report.specs.Licences.{exception_hit}
use Rattle.deny_spec_report.specs.Licences.{exception_span, first_hit, grants_by_allowance, grants_by_exception}
use Rattle.deny_spec_report.specs.Licences.{hits_by}
use Rattle.deny_spec_report.specs.Licences.{is_hit_by, is_scanned, is_passed_over, licence_hits}
use Rattle.deny_spec_report.specs.PackageFiles.{hits_glob, hits_path, path_span}
use Rattle.deny_spec_report.specs.Packages.{Scanning, bypass_hit, bypass_hits, bypass_hits_in, bypass_hits_of, checks}
use Rattle.deny_spec_report.specs.Packages.{file_hit, file_hit_at, glob_hit, if_hit, is_used, scanning, meets_file}
use Rattle.deny_spec_report.specs.Packages.{package_of}
use Rattle.deny_spec_report.specs.Packages.{path_hit, walks}
use Rattle.deny_spec_report.specs.Saying.{Saying, said_by}
use Rattle.deny_spec_report.specs.StdReplacements.{hits_ignore, ignore_hit, ignore_hits, ignore_hits_in, ignore_span}
use Rattle.deny_spec_report.specs.StdReplacements.{is_hit_ignore}
use Rattle.deny_spec_report.specs.Wrappers.{wrapper_hits_of}
use Rattle.deny_spec_report.proofs.Kept.{found_passes}
use Rattle.deny_spec_removal.specs.BypassRemoval.{BypassesStay, is_met}
use Rattle.deny_spec_removal.specs.LicenceRemoval.{LicencesStay}
use Rattle.deny_spec_removal.specs.Removal.{HaveNoHit, is_taken, stays_ignore}
use Rattle.deny_spec_removal.specs.Removal.{stays_root, stays_skip, stays_wrapper}
use Rattle.deny_spec_removal.proofs.Taken.{entry, not_taken}

-- an entry that is hit has a hit
record HasHit (o : Option Hit) (e : EntryId) : Type 0 where
  pub hit : Hit
  pub gives : o ≡ Some hit
  pub is : hit.entry ≡ e

-- ---- skips and skipped trees are hit by a crate

by_found : (kind : EntryKind) (span : Span) (o : Option Crate) → is_some o ≡ true
    → HasHit (option_map (λ c. hit_of kind span (Krate (kid_of c))) o) (entry kind span)
by_found kind span None e = absurd (cc e)
by_found kind span (Some c) e = record { hit = hit_of kind span (Krate (kid_of c)); gives = refl; is = refl }

hit_of_skip : (g : Graph) (f : chains.Facts) (s : Entry) → is_hit_skip g f s ≡ true
    → HasHit (skip_hit g f s) (entry Skip s.spec.span)
unfolding is_hit_skip skip_hit
hit_of_skip g f s is = by_found Skip s.spec.span (find (is_skipped f s) g.crates)
    (sym (find-any (is_skipped f s) g.crates) ∙ is)

hit_of_root : (g : Graph) (t : Root) → has_root g t ≡ true → HasHit (root_hit g t) (entry SkipRoot t.spec.span)
unfolding has_root root_hit
hit_of_root g t is = by_found SkipRoot t.spec.span (find (matches t.spec) g.crates)
    (sym (find-any (matches t.spec) g.crates) ∙ is)

-- ---- ignores are hit by a replaced crate

hit_of_ignore : (s : Replacing) (g : Graph) (said : Saying) (e : Entry) → is_hit_ignore s g said e ≡ true
    → HasHit (ignore_hit s g said e) (entry ReplacementIgnore (ignore_span e))
unfolding is_hit_ignore ignore_hit
hit_of_ignore s g said e is = by_found ReplacementIgnore (ignore_span e) (find (hits_ignore s g said e) g.crates)
    (sym (find-any (hits_ignore s g said e) g.crates) ∙ is)

-- ---- licences and exceptions are hit by a crate that asks for what they grant

hit_of_allowance : (counts : Crate → Bool) (l : Licensing) (g : Graph) (a : Spanned Requirement)
    → is_hit_by counts l g (grants_by_allowance l a) ≡ true
    → HasHit (allowance_hit counts l g a) (entry LicenseAllow (allowance_span a))
unfolding is_hit_by allowance_hit first_hit
hit_of_allowance counts l g a is = by_found LicenseAllow (allowance_span a)
    (find (hits_by counts l (grants_by_allowance l a)) g.crates)
    (sym (find-any (hits_by counts l (grants_by_allowance l a)) g.crates) ∙ is)

hit_of_exception : (counts : Crate → Bool) (l : Licensing) (g : Graph) (e : Exception)
    → is_hit_by counts l g (grants_by_exception l e) ≡ true
    → HasHit (exception_hit counts l g e) (entry LicenseException (exception_span e))
unfolding is_hit_by exception_hit first_hit
hit_of_exception counts l g e is = by_found LicenseException (exception_span e)
    (find (hits_by counts l (grants_by_exception l e)) g.crates)
    (sym (find-any (hits_by counts l (grants_by_exception l e)) g.crates) ∙ is)

-- right tests of which crates count agree on the crates of the graph, and so on what is hit
tests_same : (l : Licensing) (g : Graph) (one other : Crate → Bool) → TestsCounting l g one
    → TestsCounting l g other
    → (grants : Asked → Bool) → is_hit_by one l g grants ≡ is_hit_by other l g grants
unfolding is_hit_by hits_by is_scanned
tests_same l g one other reports reports_too grants = list_any_on (hits_by one l grants) (hits_by other l grants)
    g.crates
    (λ c known. ap (λ b. (b && not (is_passed_over l c)) && list_any grants (asked_in c))
    (same_test (one c) (other c) (reports c known) (reports_too c known)))

-- ---- wrappers are hit by a crate and a dependent

by_parent : (span : Span) (c : Crate) (o : Option Crate) → is_some o ≡ true
    → HasHit (option_map (λ parent. hit_of Wrapper span (Parent (kid_of c) (kid_of parent))) o) (entry Wrapper span)
by_parent span c None e = absurd (cc e)
by_parent span c (Some parent) e = record {
  hit = hit_of Wrapper span (Parent (kid_of c) (kid_of parent));
  gives =
      refl;
  is = refl;
}

at_crate : (p : Policy) (g : Graph) (ban : Ban) (w : policy.SpannedText) (c : Crate) → hits_wrapper p g ban w c ≡ true
    → HasHit (wrapper_hit_at g ban w c) (entry Wrapper w.span)
unfolding hits_wrapper wrapper_hit_at
at_crate p g ban w c is = by_parent w.span c (find (wraps ban.wrappers w) (dependents g c.place))
    (sym (find-any (wraps ban.wrappers w) (dependents g c.place))
    ∙ (and_parts (concerns p g ban c) (list_any (wraps ban.wrappers w) (dependents g c.place)) is).1)

by_crate : (p : Policy) (g : Graph) (ban : Ban) (w : policy.SpannedText) (o : Option Crate)
    → find (hits_wrapper p g ban w) g.crates ≡ o → is_some o ≡ true
    → HasHit (option_and_then (wrapper_hit_at g ban w) o) (entry Wrapper w.span)
by_crate p g ban w None at e = absurd (cc e)
by_crate p g ban w (Some c) at e = at_crate p g ban w c (found_passes (hits_wrapper p g ban w) g.crates c at)

hit_of_wrapper : (p : Policy) (g : Graph) (ban : Ban) (w : policy.SpannedText) → is_hit_wrapper p g ban w ≡ true
    → HasHit (wrapper_hit p g ban w) (entry Wrapper w.span)
unfolding is_hit_wrapper wrapper_hit
hit_of_wrapper p g ban w is = by_crate p g ban w (find (hits_wrapper p g ban w) g.crates) refl
    (sym (find-any (hits_wrapper p g ban w) g.crates) ∙ is)

-- ---- bypasses are hit by a crate, paths and globs by a file

hit_of_bypass : (l : Scanning) (y : Bypass) → is_used l y ≡ true
    → HasHit (bypass_hit l y) (entry kind.Bypass (bypass_span y))
unfolding is_used bypass_hit
hit_of_bypass l y is = by_found kind.Bypass (bypass_span y)
    (find (λ c. checks l c && uses l.building y c) l.graph.crates)
    (sym (find-any (λ c. checks l c && uses l.building y c) l.graph.crates) ∙ is)

by_file : (kind : EntryKind) (span : Span) (c : Crate) (o : Option PackageFile) → is_some o ≡ true
    → HasHit (option_map (λ file. hit_of kind span (File (kid_of c) file.path)) o) (entry kind span)
by_file kind span c None e = absurd (cc e)
by_file kind span c (Some file) e = record {
  hit = hit_of kind span (File (kid_of c) file.path);
  gives = refl;
  is = refl;
}

at_meeting : (l : Scanning) (y : Bypass) (test : PackageFile → Bool) (kind : EntryKind) (span : Span) (c : Crate)
    → meets_file l y test c ≡ true
    → HasHit (file_hit_at l test (λ path k. hit_of kind span (File (kid_of k) path)) c) (entry kind span)
unfolding meets_file file_hit_at
at_meeting l y test kind span c is = by_file kind span c (find test (package_of l c).files)
    (sym (find-any test (package_of l c).files)
    ∙ (and_parts (walks l c && uses l.building y c) (list_any test (package_of l c).files) is).1)

by_meeting : (l : Scanning) (y : Bypass) (test : PackageFile → Bool) (kind : EntryKind) (span : Span)
    (o : Option Crate) → find (meets_file l y test) l.graph.crates ≡ o → is_some o ≡ true
    → HasHit (option_and_then (file_hit_at l test (λ path k. hit_of kind span (File (kid_of k) path))) o)
    (entry kind span)
by_meeting l y test kind span None at e = absurd (cc e)
by_meeting l y test kind span (Some c) at e = at_meeting l y test kind span c
    (found_passes (meets_file l y test) l.graph.crates c at)

hit_of_file : (l : Scanning) (y : Bypass) (test : PackageFile → Bool) (kind : EntryKind) (span : Span)
    → is_met l y test ≡ true
    → HasHit (file_hit l y test (λ path k. hit_of kind span (File (kid_of k) path))) (entry kind span)
unfolding file_hit
hit_of_file l y test kind span is = by_meeting l y test kind span (find (meets_file l y test) l.graph.crates) refl
    (sym (find-any (meets_file l y test) l.graph.crates) ∙ is)

hit_of_path : (l : Scanning) (y : Bypass) (a : AllowedPath) → is_met l y (hits_path y a) ≡ true
    → HasHit (path_hit l y a) (entry kind.BypassPath (path_span a))
unfolding path_hit
hit_of_path l y a is = hit_of_file l y (hits_path y a) kind.BypassPath (path_span a) is

hit_of_glob : (l : Scanning) (y : Bypass) (w : policy.SpannedText) → is_met l y (hits_glob y w) ≡ true
    → HasHit (glob_hit l y w) (entry kind.BypassGlob w.span)
unfolding glob_hit
hit_of_glob l y w is = hit_of_file l y (hits_glob y w) kind.BypassGlob w.span is

module _ (exact : IsAntisymmetric entry_cmp) (l : Scanning) (taken : List EntryId)
    (none : HaveNoHit (bypass_hits l) taken) where
  stays_in : (kind : EntryKind) (span : Span) (h : Hit) → Contains (bypass_hits l) h → h.entry ≡ entry kind span
      → not (is_taken taken kind span) ≡ true
  stays_in kind span h hit is = ap (λ b. not b)
      (not_taken exact taken kind span (λ gone. none (entry kind span) gone h hit is))

  abbrev of_paths : Bypass → List Hit
  of_paths y = filter_map (path_hit l y) y.allow

  abbrev of_globs : Bypass → List Hit
  of_globs y = filter_map (glob_hit l y) y.globs

  of_bypass : (y : Bypass) (h : Hit) → Contains l.building.bypass y
      → Contains (if_hit (bypass_hit l y) ++ (of_paths y ++ of_globs y)) h → Contains (bypass_hits l) h
  unfolding bypass_hits_of
  of_bypass y h written is = Contains-flat_map (bypass_hits_of l) l.building.bypass y h written is

  stay_in : BypassesStay l taken
  stay_in = record {
    bypasses = λ y written hit. let of = hit_of_bypass l y hit in
        stays_in kind.Bypass (bypass_span y) of.hit
        (of_bypass y of.hit written (Contains-append_left (if_hit (bypass_hit l y)) (of_paths y ++ of_globs y) of.hit
        (subst (λ (o : Option Hit). Contains (if_hit o) of.hit) (sym of.gives) (Contains-first of.hit [])))) of.is;
    paths = λ y written a within hit. let of = hit_of_path l y a hit in
        stays_in kind.BypassPath (path_span a) of.hit
        (of_bypass y of.hit written (Contains-append_right (if_hit (bypass_hit l y)) (of_paths y ++ of_globs y) of.hit
        (Contains-append_left (of_paths y) (of_globs y) of.hit
        (Contains-filter_map (path_hit l y) y.allow a of.hit within of.gives)))) of.is;
    globs = λ y written w within hit. let of = hit_of_glob l y w hit in
        stays_in kind.BypassGlob w.span of.hit
        (of_bypass y of.hit written (Contains-append_right (if_hit (bypass_hit l y)) (of_paths y ++ of_globs y) of.hit
        (Contains-append_right (of_paths y) (of_globs y) of.hit
        (Contains-filter_map (glob_hit l y) y.globs w of.hit within of.gives)))) of.is;
  }

-- ---- entries that are hit stay

module _ (exact : IsAntisymmetric entry_cmp) (c : Circumstances) (facts : Facts) (taken : List EntryId)
    (none : HaveNoHit (hits_in c facts) taken) where
  stays_if_hit : (kind : EntryKind) (span : Span) (h : Hit) → Contains (hits_in c facts) h
      → h.entry ≡ entry kind span → not (is_taken taken kind span) ≡ true
  stays_if_hit kind span h hit is = ap (λ b. not b)
      (not_taken exact taken kind span (λ gone. none (entry kind span) gone h hit is))

  -- the hits of the crate rules are among all hits
  of_crates : (h : Hit) → Contains (all_hits c.policy c.graph facts.chains) h → Contains (hits_in c facts) h
  of_crates h hit = Contains-append_left (all_hits c.policy c.graph facts.chains)
      (ignore_hits_in c ++ bypass_hits_in c facts) h hit

  abbrev of_skips : List Hit
  of_skips = filter_map (skip_hit c.graph facts.chains) c.policy.skip

  abbrev of_roots : List Hit
  of_roots = filter_map (root_hit c.graph) c.policy.skip_tree

  abbrev of_wrappers : List Hit
  of_wrappers = flat_map (wrapper_hits_of c.policy c.graph) c.policy.deny

  pub skip_stays : (s : Entry) → Contains c.policy.skip s → is_hit_skip c.graph facts.chains s ≡ true
      → stays_skip taken s ≡ true
  skip_stays s written hit = let of = hit_of_skip c.graph facts.chains s hit in
      stays_if_hit Skip s.spec.span of.hit
      (of_crates of.hit (Contains-append_left of_skips (of_roots ++ of_wrappers) of.hit
      (Contains-filter_map (skip_hit c.graph facts.chains) c.policy.skip s of.hit written of.gives))) of.is

  pub root_stays : (t : Root) → Contains c.policy.skip_tree t → has_root c.graph t ≡ true
      → stays_root taken t ≡ true
  root_stays t written hit = let of = hit_of_root c.graph t hit in
      stays_if_hit SkipRoot t.spec.span of.hit
      (of_crates of.hit (Contains-append_right of_skips (of_roots ++ of_wrappers) of.hit
      (Contains-append_left of_roots of_wrappers of.hit
      (Contains-filter_map (root_hit c.graph) c.policy.skip_tree t of.hit written of.gives)))) of.is

  pub wrapper_stays : (ban : Ban) → Contains c.policy.deny ban → (w : policy.SpannedText) → Contains ban.wrappers w
      → is_hit_wrapper c.policy c.graph ban w ≡ true → stays_wrapper taken w ≡ true
  wrapper_stays ban written w within hit = let of = hit_of_wrapper c.policy c.graph ban w hit in
      stays_if_hit Wrapper w.span of.hit
      (of_crates of.hit (Contains-append_right of_skips (of_roots ++ of_wrappers) of.hit
      (Contains-append_right of_roots of_wrappers of.hit
      (Contains-flat_map (wrapper_hits_of c.policy c.graph) c.policy.deny ban of.hit written
      (Contains-filter_map (wrapper_hit c.policy c.graph ban) ban.wrappers w of.hit within of.gives))))) of.is

  pub ignore_stays : (s : Replacing) → c.policy.replacing ≡ Some s → (e : Entry) → Contains s.ignore e
      → is_hit_ignore s c.graph (said_by c.table) e ≡ true → stays_ignore taken e ≡ true
  unfolding ignore_hits
  ignore_stays s active e written hit = let of = hit_of_ignore s c.graph (said_by c.table) e hit in
      stays_if_hit ReplacementIgnore (ignore_span e) of.hit
      (Contains-append_right (all_hits c.policy c.graph facts.chains) (ignore_hits_in c ++ bypass_hits_in c facts)
      of.hit
      (Contains-append_left (ignore_hits_in c) (bypass_hits_in c facts) of.hit
      (subst (λ (hits : List Hit). Contains hits of.hit)
      (sym (ap (λ (o : Option Replacing). option_map_or (λ r. ignore_hits r c.graph (said_by c.table)) o []) active))
      (Contains-filter_map (ignore_hit s c.graph (said_by c.table)) s.ignore e of.hit written of.gives)))) of.is

  -- the hits of bypasses are among all hits, so none of them is of an entry that goes
  no_bypass_hit : (b : Building) → c.building ≡ Some b → HaveNoHit (bypass_hits (scanning c facts b)) taken
  no_bypass_hit b given = λ e is h hit. none e is h
      (Contains-append_right (all_hits c.policy c.graph facts.chains) (ignore_hits_in c ++ bypass_hits_in c facts) h
      (Contains-append_right (ignore_hits_in c) (bypass_hits_in c facts) h
      (subst (λ (hits : List Hit). Contains hits h)
      (sym (ap (λ (o : Option Building). option_map_or (λ x. bypass_hits (scanning c facts x)) o []) given)) hit)))

  pub bypasses_stay : (b : Building) → c.building ≡ Some b → BypassesStay (scanning c facts b) taken
  bypasses_stay b given = stay_in exact (scanning c facts b) taken (no_bypass_hit b given)

-- ---- the hits of both checks

-- no entry that goes has a hit of the bans check
pub of_bans : (c : Circumstances) (facts : Facts) (counts : Crate → Bool) (taken : List EntryId)
    → HaveNoHit (both_hits c facts counts) taken → HaveNoHit (hits_in c facts) taken
of_bans c facts counts taken none = λ e is h hit. none e is h
    (Contains-append_left (hits_in c facts) (licence_hits_in counts c) h hit)

-- no entry that goes has a hit of the licence check
pub of_licences : (c : Circumstances) (facts : Facts) (counts : Crate → Bool) (taken : List EntryId)
    → HaveNoHit (both_hits c facts counts) taken → HaveNoHit (licence_hits_in counts c) taken
of_licences c facts counts taken none = λ e is h hit. none e is h
    (Contains-append_right (hits_in c facts) (licence_hits_in counts c) h hit)

module _ (exact : IsAntisymmetric entry_cmp) (counts : Crate → Bool) (l : Licensing) (g : Graph) (taken : List EntryId)
    (none : HaveNoHit (licence_hits counts l g) taken) where
  stays_where : (kind : EntryKind) (span : Span) (h : Hit) → Contains (licence_hits counts l g) h
      → h.entry ≡ entry kind span → not (is_taken taken kind span) ≡ true
  stays_where kind span h hit is = ap (λ b. not b)
      (not_taken exact taken kind span (λ gone. none (entry kind span) gone h hit is))

  pub stay_by : LicencesStay counts l g taken
  stay_by = record {
    allowances = λ a written hit. let of = hit_of_allowance counts l g a hit in
        stays_where LicenseAllow (allowance_span a) of.hit
        (Contains-append_left (filter_map (allowance_hit counts l g) l.allow)
        (filter_map (exception_hit counts l g) l.exceptions) of.hit
        (Contains-filter_map (allowance_hit counts l g) l.allow a of.hit written of.gives)) of.is;
    exceptions = λ e written hit. let of = hit_of_exception counts l g e hit in
        stays_where LicenseException (exception_span e) of.hit
        (Contains-append_right (filter_map (allowance_hit counts l g) l.allow)
        (filter_map (exception_hit counts l g) l.exceptions) of.hit
        (Contains-filter_map (exception_hit counts l g) l.exceptions e of.hit written of.gives)) of.is;
  }

-- the entries that stay by one right test stay by another
stay_too : (l : Licensing) (g : Graph) (taken : List EntryId) (one other : Crate → Bool) → TestsCounting l g one
    → TestsCounting l g other → LicencesStay one l g taken → LicencesStay other l g taken
stay_too l g taken one other reports reports_too stay = record {
  allowances = λ a written hit. stay.allowances a written
      (tests_same l g one other reports reports_too (grants_by_allowance l a) ∙ hit);
  exceptions = λ e written hit. stay.exceptions e written
      (tests_same l g one other reports reports_too (grants_by_exception l e) ∙ hit);
}

pub licences_stay : IsAntisymmetric entry_cmp → (c : Circumstances) (facts : Facts) (counts : Crate → Bool)
    (taken : List EntryId) → TestsLicensed c.licensing c.graph counts → HaveNoHit (both_hits c facts counts) taken
    → (l : Licensing) → c.licensing ≡ Some l → (other : Crate → Bool) → TestsCounting l c.graph other
    → LicencesStay other l c.graph taken
licences_stay exact c facts counts taken reports none l given other reports_too =
    stay_too l c.graph taken counts other
    (subst (λ (o : Option Licensing). TestsLicensed o c.graph counts) given reports) reports_too
    (stay_by exact counts l c.graph taken
    (subst (λ (o : Option Licensing). HaveNoHit (option_map_or (λ x. licence_hits counts x c.graph) o []) taken) given
    (of_licences c facts counts taken none)))
