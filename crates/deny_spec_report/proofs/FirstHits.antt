-- The list of hits has each entry's hit by its first witness.
use Rattle.std.proofs.Common.{Bool, List, None, Option, Some, [], ap, inl, inr, map, refl, sym, ◌&&◌, ◌++◌}
use Rattle.std.proofs.Common.{◌∙◌, ◌∷◌, ◌≡◌}
use Rattle.std.specs.List.{flat_map, list_any}
use Rattle.std.specs.Option.{option_map_or, option_or}
use Rattle.std.specs.Prelude.{cond, filter, filter_map, find, is_some, option_and_then, option_map, slice_get}
use Rattle.std.proofs.lemmas.Bool.{cases_Bool}
use Rattle.std.proofs.lemmas.List.Elements.{filter_map-append}
use Rattle.std.proofs.lemmas.Option.{slice_get-map}
use Rattle.deny_base_lists.proofs.Agreement.{filter_map_on, flat_map_on}
use Rattle.deny_base_lists.proofs.Filters.{filter_map-map, find-any, first-filter}
use Rattle.deny_base.specs.declared.entry.EntryKind.{EntryKind}
use Rattle.deny_base.specs.declared.entry.EntryKind.TheVariants as kind
use Rattle.deny_base.specs.declared.entry.Hit.{Hit}
use Rattle.deny_base.specs.declared.entry.Witness.TheVariants.{File, Krate, Parent}
use Rattle.deny_base.specs.declared.span.Span.{Span}
use Rattle.deny_spec.specs.Bans.{concerns}
use Rattle.deny_spec.specs.Building.{Bypass}
use Rattle.deny_spec.specs.declared.package.PackageFile.{PackageFile}
use Rattle.deny_spec.specs.Graph.{Crate, Graph, dependents, kid_of}
use Rattle.deny_spec.specs.Hits.{all_hits, hit_of, root_hit, skip_hit, wrapper_hit, wrapper_hit_at}
use Rattle.deny_spec.specs.Licensing.{Licensing}
use Rattle.deny_spec.specs.Match.{matches}
use Rattle.deny_spec.specs.Policy as policy
use Rattle.deny_spec.specs.Policy.{Ban, Replacing}
use Rattle.deny_spec.specs.Skips.{is_skipped}
use Rattle.deny_spec.specs.Wrappers.{hits_wrapper, wraps}
use Rattle.deny_spec_report.specs.BuildScripts.{bypass_span, uses}
use Rattle.deny_spec_report.specs.Circumstances.{Circumstances}
use Rattle.deny_spec_report.specs.Facts.{Facts}
use Rattle.deny_spec_report.specs.Hits.{both_hits, hits_in, licence_hits_in}
use Rattle.deny_spec_report.specs.Hitting.{Witnessed, by_crates, by_files, by_parents, files_at, first_hit_of}
use Rattle.deny_spec_report.specs.Hitting.{parents_at, witnessed, witnessed_bypass, witnessed_ignores}
use Rattle.deny_spec_report.specs.Hitting.{witnessed_licences, witnessed_rules}
use Rattle.deny_spec_report.specs.Licences.{allowance_hit, allowance_span, exception_hit, exception_span, first_hit}
use Rattle.deny_spec_report.specs.Licences.{grants_by_allowance, grants_by_exception, hits_by, licence_hits}
use Rattle.deny_spec_report.specs.PackageFiles.{hits_glob, hits_path, path_span}
use Rattle.deny_spec_report.specs.Packages.{Scanning, bypass_hit, bypass_hits, bypass_hits_in, bypass_hits_of, checks, file_hit}
use Rattle.deny_spec_report.specs.Packages.{file_hit_at, glob_hit, if_hit, meets_file, package_of, path_hit, scanning}
use Rattle.deny_spec_report.specs.Packages.{walks}
use Rattle.deny_spec_report.specs.Saying.{Saying, said_by}
use Rattle.deny_spec_report.specs.StdReplacements.{hits_ignore, ignore_hit, ignore_hits, ignore_hits_in, ignore_span}
use Rattle.deny_spec_report.specs.Wrappers.{wrapper_hits_of}

-- ---- the first of lists

first-append : {X : Type 0} (xs ys : List X) → slice_get (xs ++ ys) 0 ≡ option_or (slice_get xs 0) (slice_get ys 0)
first-append [] ys = refl
first-append (x ∷ xs) ys = refl

map_twice : {X Y Z : Type 0} (f : Y → Z) (g : X → Y) (o : Option X)
    → option_map f (option_map g o) ≡ option_map (λ x. f (g x)) o
map_twice f g None = refl
map_twice f g (Some x) = refl

filter_map-flat_map : {X Y Z : Type 0} (h : Y → Option Z) (f : X → List Y) (xs : List X)
    → filter_map h (flat_map f xs) ≡ flat_map (λ x. filter_map h (f x)) xs
filter_map-flat_map h f [] = refl
filter_map-flat_map h f (x ∷ xs) = filter_map-append h (f x) (flat_map f xs)
    ∙ ap (λ ys. filter_map h (f x) ++ ys) (filter_map-flat_map h f xs)

first_mapped : {X Y : Type 0} (f : X → Y) (test : X → Bool) (xs : List X)
    → slice_get (map f (filter test xs)) 0 ≡ option_map f (find test xs)
first_mapped f test xs = slice_get-map f (filter test xs) 0 ∙ ap (option_map f) (first-filter test xs)

-- the first of lists that are made of the elements that pass a guard
module _ {K P W H : Type 0} (make : W → H) (f : K → P → W) (inner : K → P → Bool) (list : K → List P)
    (guard : K → Bool) where
  abbrev made : K → Option H
  made k = option_map (λ q. make (f k q)) (find (inner k) (list k))

  abbrev joined : List K → List W
  joined xs = flat_map (λ k. map (f k) (filter (inner k) (list k))) (filter guard xs)

  abbrev found : List K → Option K
  found xs = find (λ k. guard k && list_any (inner k) (list k)) xs

  by_first : (x : K) (rest : List W) (later : Option K) (o : Option P) → find (inner x) (list x) ≡ o
      → option_map make (slice_get rest 0) ≡ option_and_then made later
      → option_map make (option_or (option_map (f x) o) (slice_get rest 0))
      ≡ option_and_then made (cond (is_some o) (Some x) later)
  by_first x rest later None is same = same
  by_first x rest later (Some q) is same = sym (ap (option_map (λ p. make (f x p))) is)

  at_first : (x : K) (rest : List W) (later : Option K)
      → option_map make (slice_get rest 0) ≡ option_and_then made later
      → option_map make (slice_get (map (f x) (filter (inner x) (list x)) ++ rest) 0)
      ≡ option_and_then made (cond (list_any (inner x) (list x)) (Some x) later)
  at_first x rest later same =
      ap (option_map make) (first-append (map (f x) (filter (inner x) (list x))) rest
      ∙ ap (λ o. option_or o (slice_get rest 0)) (first_mapped (f x) (inner x) (list x)))
      ∙ by_first x rest later (find (inner x) (list x)) refl same
      ∙ sym (ap (λ b. option_and_then made (cond b (Some x) later)) (find-any (inner x) (list x)))

  first_joined : (xs : List K) → option_map make (slice_get (joined xs) 0) ≡ option_and_then made (found xs)
  first_joined [] = refl
  first_joined (x ∷ xs) =
      let rest = first_joined xs in
      elim (cases_Bool (guard x)) as (λ _. option_map make (slice_get (joined (x ∷ xs)) 0)
      ≡ option_and_then made (found (x ∷ xs))) [
        | inl e ↦ rw e (at_first x (joined xs) (found xs) rest)
        | inr e ↦ rw e rest
      ]

-- ---- the hit of each entry

by_crate : (kind : EntryKind) (span : Span) (test : Crate → Bool) (g : Graph)
    → first_hit_of (by_crates kind span test g)
    ≡ option_map (λ k. hit_of kind span (Krate (kid_of k))) (find test g.crates)
unfolding by_crates
by_crate kind span test g =
    ap (option_map (hit_of kind span)) (first_mapped (λ k. Krate (kid_of k)) test g.crates)
    ∙ map_twice (hit_of kind span) (λ k. Krate (kid_of k)) (find test g.crates)

by_parent : (p : policy.Policy) (g : Graph) (ban : Ban) (w : policy.SpannedText)
    → first_hit_of (by_parents p g ban w) ≡ wrapper_hit p g ban w
unfolding by_parents parents_at wrapper_hit wrapper_hit_at hits_wrapper
by_parent p g ban w = first_joined (hit_of kind.Wrapper w.span) (λ k parent. Parent (kid_of k) (kid_of parent))
    (λ k. wraps ban.wrappers w) (λ k. dependents g k.place) (concerns p g ban) g.crates

by_file : (kind : EntryKind) (span : Span) (l : Scanning) (y : Bypass) (test : PackageFile → Bool)
    → first_hit_of (by_files kind span l y test)
    ≡ file_hit l y test (λ path k. hit_of kind span (File (kid_of k) path))
unfolding by_files files_at file_hit file_hit_at meets_file
by_file kind span l y test = first_joined (hit_of kind span) (λ k file. File (kid_of k) file.path) (λ k. test)
    (λ k. (package_of l k).files) (λ k. walks l k && uses l.building y k) l.graph.crates

-- ---- of lists of entries

entries_same : {E : Type 0} (list : E → Witnessed) (hit : E → Option Hit) (es : List E)
    → ((e : E) → first_hit_of (list e) ≡ hit e) → filter_map first_hit_of (map list es) ≡ filter_map hit es
entries_same list hit es each = filter_map-map first_hit_of list es
    ∙ filter_map_on (λ e. first_hit_of (list e)) hit es (λ e is. each e)

cons_same : (x : Witnessed) (xs : List Witnessed) (o : Option Hit) → first_hit_of x ≡ o
    → filter_map first_hit_of (x ∷ xs) ≡ if_hit o ++ filter_map first_hit_of xs
cons_same x xs None is = rw is refl
cons_same x xs (Some h) is = rw is refl

bypass_same : (l : Scanning) (y : Bypass) → filter_map first_hit_of (witnessed_bypass l y) ≡ bypass_hits_of l y
unfolding witnessed_bypass bypass_hits_of bypass_hit path_hit glob_hit
bypass_same l y =
    cons_same (by_crates kind.Bypass (bypass_span y) (λ k. checks l k && uses l.building y k) l.graph)
    (map (λ a. by_files kind.BypassPath (path_span a) l y (hits_path y a)) y.allow
    ++ map (λ w. by_files kind.BypassGlob w.span l y (hits_glob y w)) y.globs)
    (bypass_hit l y)
    (by_crate kind.Bypass (bypass_span y) (λ k. checks l k && uses l.building y k) l.graph)
    ∙ ap (λ hits. if_hit (bypass_hit l y) ++ hits)
    (filter_map-append first_hit_of (map (λ a. by_files kind.BypassPath (path_span a) l y (hits_path y a)) y.allow)
    (map (λ w. by_files kind.BypassGlob w.span l y (hits_glob y w)) y.globs)
    ∙ ap (λ hits. hits
    ++ filter_map first_hit_of (map (λ w. by_files kind.BypassGlob w.span l y (hits_glob y w)) y.globs))
    (entries_same (λ a. by_files kind.BypassPath (path_span a) l y (hits_path y a)) (path_hit l y) y.allow
    (λ a. by_file kind.BypassPath (path_span a) l y (hits_path y a)))
    ∙ ap (λ hits. filter_map (path_hit l y) y.allow ++ hits)
    (entries_same (λ w. by_files kind.BypassGlob w.span l y (hits_glob y w)) (glob_hit l y) y.globs
    (λ w. by_file kind.BypassGlob w.span l y (hits_glob y w))))

ignores_same : (g : Graph) (said : Saying) (r : Replacing)
    → filter_map first_hit_of (witnessed_ignores g said r) ≡ ignore_hits r g said
unfolding witnessed_ignores ignore_hits ignore_hit
ignores_same g said r = entries_same
    (λ e. by_crates kind.ReplacementIgnore (ignore_span e) (hits_ignore r g said e) g) (ignore_hit r g said) r.ignore
    (λ e. by_crate kind.ReplacementIgnore (ignore_span e) (hits_ignore r g said e) g)

licences_same : (counts : Crate → Bool) (g : Graph) (l : Licensing)
    → filter_map first_hit_of (witnessed_licences counts g l) ≡ licence_hits counts l g
unfolding witnessed_licences allowance_hit exception_hit first_hit
licences_same counts g l =
    let ones : List Witnessed =
    map (λ a. by_crates kind.LicenseAllow (allowance_span a) (hits_by counts l (grants_by_allowance l a)) g) l.allow in
    let others : List Witnessed = map
    (λ e. by_crates kind.LicenseException (exception_span e) (hits_by counts l (grants_by_exception l e)) g)
    l.exceptions in
    filter_map-append first_hit_of ones others
    ∙ ap (λ hits. hits ++ filter_map first_hit_of others)
    (entries_same
    (λ a. by_crates kind.LicenseAllow (allowance_span a) (hits_by counts l (grants_by_allowance l a)) g)
    (allowance_hit counts l g) l.allow
    (λ a. by_crate kind.LicenseAllow (allowance_span a) (hits_by counts l (grants_by_allowance l a)) g))
    ∙ ap (λ hits. filter_map (allowance_hit counts l g) l.allow ++ hits)
    (entries_same
    (λ e. by_crates kind.LicenseException (exception_span e) (hits_by counts l (grants_by_exception l e)) g)
    (exception_hit counts l g) l.exceptions
    (λ e. by_crate kind.LicenseException (exception_span e) (hits_by counts l (grants_by_exception l e)) g))

rules_same : (c : Circumstances) (facts : Facts) → filter_map first_hit_of (witnessed_rules c facts)
    ≡ filter_map (skip_hit c.graph facts.chains) c.policy.skip
    ++ (filter_map (root_hit c.graph) c.policy.skip_tree
    ++ flat_map (wrapper_hits_of c.policy c.graph) c.policy.deny)
unfolding witnessed_rules skip_hit root_hit
rules_same c facts =
    let skips : List Witnessed =
    map (λ s. by_crates kind.Skip s.spec.span (is_skipped facts.chains s) c.graph) c.policy.skip in
    let roots : List Witnessed =
    map (λ t. by_crates kind.SkipRoot t.spec.span (matches t.spec) c.graph) c.policy.skip_tree in
    let wrappers : List Witnessed =
    flat_map (λ ban. map (by_parents c.policy c.graph ban) ban.wrappers) c.policy.deny in
    filter_map-append first_hit_of skips (roots ++ wrappers)
    ∙ ap (λ hits. hits ++ filter_map first_hit_of (roots ++ wrappers))
    (entries_same (λ s. by_crates kind.Skip s.spec.span (is_skipped facts.chains s) c.graph)
    (skip_hit c.graph facts.chains) c.policy.skip
    (λ s. by_crate kind.Skip s.spec.span (is_skipped facts.chains s) c.graph))
    ∙ ap (λ hits. filter_map (skip_hit c.graph facts.chains) c.policy.skip ++ hits)
    (filter_map-append first_hit_of roots wrappers
    ∙ ap (λ hits. hits ++ filter_map first_hit_of wrappers)
    (entries_same (λ t. by_crates kind.SkipRoot t.spec.span (matches t.spec) c.graph) (root_hit c.graph)
    c.policy.skip_tree (λ t. by_crate kind.SkipRoot t.spec.span (matches t.spec) c.graph))
    ∙ ap (λ hits. filter_map (root_hit c.graph) c.policy.skip_tree ++ hits)
    (filter_map-flat_map first_hit_of (λ ban. map (by_parents c.policy c.graph ban) ban.wrappers) c.policy.deny
    ∙ flat_map_on (λ ban. filter_map first_hit_of (map (by_parents c.policy c.graph ban) ban.wrappers))
    (wrapper_hits_of c.policy c.graph) c.policy.deny
    (λ ban is. entries_same (by_parents c.policy c.graph ban) (wrapper_hit c.policy c.graph ban) ban.wrappers
    (λ w. by_parent c.policy c.graph ban w))))

-- ---- of the policy

of_option : {A : Type 0} (list : A → List Witnessed) (hits : A → List Hit) (o : Option A)
    → ((a : A) → filter_map first_hit_of (list a) ≡ hits a)
    → filter_map first_hit_of (option_map_or list o []) ≡ option_map_or hits o []
of_option list hits None each = refl
of_option list hits (Some a) each = each a

bypasses_same : (l : Scanning)
    → filter_map first_hit_of (flat_map (witnessed_bypass l) l.building.bypass) ≡ bypass_hits l
bypasses_same l = filter_map-flat_map first_hit_of (witnessed_bypass l) l.building.bypass
    ∙ flat_map_on (λ y. filter_map first_hit_of (witnessed_bypass l y)) (bypass_hits_of l) l.building.bypass
    (λ y is. bypass_same l y)

appended : (xs ys : List Witnessed) (hits those : List Hit) → filter_map first_hit_of xs ≡ hits
    → filter_map first_hit_of ys ≡ those → filter_map first_hit_of (xs ++ ys) ≡ hits ++ those
appended xs ys hits those one two = filter_map-append first_hit_of xs ys ∙ rw (one, two) refl

module _ (c : Circumstances) (facts : Facts) (counts : Crate → Bool) where
  abbrev of_ignores : List Witnessed
  of_ignores = option_map_or (witnessed_ignores c.graph (said_by c.table)) c.policy.replacing []

  abbrev of_bypasses : List Witnessed
  of_bypasses = option_map_or (λ b. flat_map (witnessed_bypass (scanning c facts b)) b.bypass) c.building []

  abbrev of_licences : List Witnessed
  of_licences = option_map_or (witnessed_licences counts c.graph) c.licensing []

  pub hits_first : filter_map first_hit_of (witnessed c facts counts) ≡ both_hits c facts counts
  hits_first =
      appended (witnessed_rules c facts ++ (of_ignores ++ of_bypasses)) of_licences (hits_in c facts)
      (licence_hits_in counts c)
      (appended (witnessed_rules c facts) (of_ignores ++ of_bypasses) (all_hits c.policy c.graph facts.chains)
      (ignore_hits_in c ++ bypass_hits_in c facts) (rules_same c facts)
      (appended of_ignores of_bypasses (ignore_hits_in c) (bypass_hits_in c facts)
      (of_option (witnessed_ignores c.graph (said_by c.table)) (λ r. ignore_hits r c.graph (said_by c.table))
      c.policy.replacing (ignores_same c.graph (said_by c.table)))
      (of_option (λ b. flat_map (witnessed_bypass (scanning c facts b)) b.bypass)
      (λ b. bypass_hits (scanning c facts b)) c.building (λ b. bypasses_same (scanning c facts b)))))
      (of_option (witnessed_licences counts c.graph) (λ l. licence_hits counts l c.graph) c.licensing
      (licences_same counts c.graph))
