-- The checks of all crates of a graph, joined.
use Rattle.std.proofs.Common.{◌≡◌, ◌∙◌, ◌++◌, ◌∷◌, ◌<◌, [], zero, suc, ℕ, Bool, List, Option, Some, ap}
use Rattle.std.proofs.Common.{inl, inr, map, refl, subst, sym}
use Rattle.std.specs.Prelude.{◌≢◌, AllPairs, Contains, slice_get}
use Rattle.std.specs.List.{AllZip, flat_map}
use Rattle.std.specs.Option.{option_map_or}
use Rattle.std.proofs.lemmas.Bool.{cases_order}
use Rattle.std.proofs.lemmas.List.Folds.{flat_map-map}
use Rattle.std.proofs.lemmas.Option.{get_or_from_slice_get, slice_get_within}
use Rattle.deny_base.specs.Unread.{asked, is_unread}
use Rattle.deny_base.specs.declared.purpose.Purpose.{Purpose}
use Rattle.deny_base.specs.declared.purpose.Purpose.TheVariants as purpose
use Rattle.deny_base.specs.declared.unread.Unread.{Unread}
use Rattle.deny_base_disk.specs.Disk.{Files}
use Rattle.deny_base_lists.proofs.Booleans.{tests_agree}
use Rattle.deny_base_lists.proofs.Members.{Contains-flat_map, Contains-from_flat_map, from_there, map_at, one_there}
use Rattle.deny_base_lists.proofs.Members.{there}
use Rattle.deny_base_unread.proofs.ViewLemmas.{holds_there, is_left_out}
use Rattle.deny_krates.specs.Crates.{crates_from}
use Rattle.deny_krates.specs.krate.Krate.{Krate}
use Rattle.deny_spec.specs.Building.{Building}
use Rattle.deny_spec.specs.Crates as crates
use Rattle.deny_spec.specs.Graph.{Crate, Graph, kid_of}
use Rattle.deny_spec.specs.Unseen.{package_at, unseen_package}
use Rattle.deny_spec.specs.declared.package.Package.{Package}
use Rattle.deny_spec_report.specs.Packages.{Scanning, bypass_hits, package_keys}
use Rattle.deny_build_scan.proofs.Among.{AreSameGaps, package_weaker, wanted_of_among}
use Rattle.deny_build_scan.proofs.GraphLemmas.{place_at}
use Rattle.deny_build_scan.proofs.PackagesLemmas.{same_kid, wanted_krate}
use Rattle.deny_build_scan.specs.Seen.{ArePackagesSeen, IsPackageSeen}
use Rattle.deny_build_scan.specs.Wanted.{AreWantedOf, AreWantedPackages, IsWantedOf}
use Rattle.deny_build_scan.specs.Why.{IsBecause, IsOfPurpose}
use Rattle.deny_build.specs.JoinedChecks.{AddsAlone, AreAllChecked, IsCheckOf, JoinsChecks, OneCheck, unread_of}
use Rattle.deny_build.specs.OneCrate.{scanning_alone}

-- ---- lists related element by element, by their indices

zip_at : {A B : Type 0} (R S : A → B → Type 0) (xs : List A) (ys : List B) → AllZip R xs ys
    → ((k : ℕ) (x : A) (y : B) → slice_get xs k ≡ Some x → slice_get ys k ≡ Some y → R x y → S x y) → AllZip S xs ys
zip_at R S [] [] zip each = tt
zip_at R S [] (y ∷ ys) zip each = absurd zip
zip_at R S (x ∷ xs) [] zip each = absurd zip
zip_at R S (x ∷ xs) (y ∷ ys) zip each =
    (each zero x y refl refl zip.0, zip_at R S xs ys zip.1 (λ k a b at_a at_b. each (suc k) a b at_a at_b))

-- the element that is related to the one at an index
record Partner {A B : Type 0} (R : A → B → Type 0) (xs : List A) (k : ℕ) (y : B) : Type 0 where
  one : A
  at : slice_get xs k ≡ Some one
  is : R one y

partner : {A B : Type 0} (R : A → B → Type 0) (xs : List A) (ys : List B) → AllZip R xs ys → (k : ℕ) (y : B)
    → slice_get ys k ≡ Some y → Partner R xs k y
partner R [] [] zip k y at = absurd (cc)
partner R [] (z ∷ ys) zip k y at = absurd zip
partner R (x ∷ xs) [] zip k y at = absurd zip
partner R (x ∷ xs) (z ∷ ys) zip zero y at = record { one = x; at = refl; is = subst (R x) (cc) zip.0 }
partner R (x ∷ xs) (z ∷ ys) zip (suc k) y at =
    let rest = partner R xs ys zip.1 k y at in
    record { one = rest.one; at = rest.at; is = rest.is }

zip_mapped : {A B C : Type 0} (R : A → C → Type 0) (f : B → C) (xs : List A) (ys : List B)
    → AllZip (λ x y. R x (f y)) xs ys → AllZip R xs (map f ys)
zip_mapped R f [] [] zip = tt
zip_mapped R f [] (y ∷ ys) zip = absurd zip
zip_mapped R f (x ∷ xs) [] zip = absurd zip
zip_mapped R f (x ∷ xs) (y ∷ ys) zip = (zip.0, zip_mapped R f xs ys zip.1)

-- ---- the checks with the packages that they saw

record Sight : Type 0 where
  check : OneCheck
  contents : Package

module _ (told : Option Files) (b : Building) (reached : Crate → Bool) (home : Option (List ℕ)) (g : Graph) where
  record IsSightOf (c : Crate) (s : Sight) : Type 0 where
    seen : IsPackageSeen IsOfPurpose told b reached home g (unread_of s.check) c s.contents
    wanted : AreWantedOf told b reached g (unread_of s.check) c s.contents
    keys : s.check.new_keys ≡ s.check.old_keys ++ package_keys (scanning_alone b g reached c s.contents) c
    hits : s.check.new.hits ≡ s.check.old.hits ++ bypass_hits (scanning_alone b g reached c s.contents)

  abbrev sight_of : (c : Crate) (k : OneCheck) → IsCheckOf told b g reached home c k → Sight
  sight_of c k is = record { check = k; contents = is.is.contents }

  sight_is : (c : Crate) (k : OneCheck) (is : IsCheckOf told b g reached home c k) → IsSightOf c (sight_of c k is)
  sight_is c k is = record {
    seen = package_weaker (IsBecause (λ kid. crates.folder c) k.before k.after) IsOfPurpose
        (λ u failure because. because.can) told c b home reached g (is_unread (unread_of k) (Some (kid_of c)))
        (is_unread (unread_of k) (Some (kid_of c))) is.is.contents
        (record { script = λ path. refl; list = λ path. refl; header = λ path. refl; sum = λ path. refl })
        (subst (λ (t : Option Files). IsPackageSeen (IsBecause (λ kid. crates.folder c) k.before k.after) t b reached
        home g (unread_of k) c is.is.contents) is.files (is.is.seen (λ kid. crates.folder c) refl));
    wanted = subst (λ (t : Option Files). AreWantedOf t b reached g (unread_of k) c is.is.contents) is.files
        is.is.wanted;
    keys = is.is.keys;
    hits = is.is.hits;
  }

  record Sights (cs : List Crate) (ks : List OneCheck) : Type 0 where
    all : List Sight
    are : map (λ (s : Sight). s.check) all ≡ ks
    zip : AllZip IsSightOf cs all

  sights_of : (cs : List Crate) (ks : List OneCheck) → AllZip (IsCheckOf told b g reached home) cs ks → Sights cs ks
  sights_of [] [] zip = record { all = []; are = refl; zip = tt }
  sights_of [] (k ∷ ks) zip = absurd zip
  sights_of (c ∷ cs) [] zip = absurd zip
  sights_of (c ∷ cs) (k ∷ ks) zip =
      let rest = sights_of cs ks zip.1 in
      record {
        all = sight_of c k zip.0 ∷ rest.all;
        are = ap (λ more. k ∷ more) rest.are;
        zip = (sight_is c k zip.0, rest.zip);
      }

  abbrev own : Sight → List Unread
  own s = unread_of s.check

  module _ (krates : List Krate) (same : crates_from 0 krates ≡ g.crates)
      (ids : AllPairs (λ c d. c.id ≢ d.id) g.crates) (all : List Sight) (zip : AllZip IsSightOf g.crates all) where
    abbrev us : List Unread
    us = flat_map own all

    abbrev packages : List Package
    packages = map (λ (s : Sight). s.contents) all

    abbrev l : Scanning
    l = record { building = b; graph = g; packages = packages; reached = reached }

    apart : (i j : ℕ) (c d : Crate) → i < j → slice_get g.crates i ≡ Some c → slice_get g.crates j ≡ Some d
        → c.id ≡ d.id → ⊥
    apart i j c d below at_c at_d equal = ids i j c below (slice_get_within g.crates j d at_d)
        (ap (λ (e : Crate). e.id) (get_or_from_slice_get g.crates i c c at_c) ∙ equal
        ∙ sym (ap (λ (e : Crate). e.id) (get_or_from_slice_get g.crates j d c at_d)))

    -- the crates at two places that have one id are one
    one_place : (i j : ℕ) (c d : Crate) → slice_get g.crates i ≡ Some c → slice_get g.crates j ≡ Some d
        → c.id ≡ d.id → i ≡ j
    one_place i j c d at_c at_d equal = elim (cases_order i j) [
      | inl is ↦ is
      | inr (inl below) ↦ absurd (apart i j c d below at_c at_d equal)
      | inr (inr above) ↦ absurd (apart j i d c above at_d at_c (sym equal))
    ]

    module _ (k : ℕ) (c : Crate) (s : Sight) (at_c : slice_get g.crates k ≡ Some c)
        (at_s : slice_get all k ≡ Some s) (is : IsSightOf c s) where
      from_own : (u : Unread) → Contains (own s) u → Contains us u
      from_own u there_u = Contains-flat_map own all s u (from_there all k s at_s) there_u

      to_own : (u : Unread) → u.krate ≡ Some (kid_of c) → Contains us u → Contains (own s) u
      to_own u of_c there_u =
          let from = Contains-from_flat_map own all u there_u in
          let at = there all from.from from.member in
          let other = partner IsSightOf g.crates all zip at.0 from.from at.1 in
          let krate = wanted_krate told b reached home g from.from.check.before (own from.from) other.one
          from.from.contents u (other.is.wanted u from.of) in
          let place = one_place k at.0 c other.one at_c other.at
          (same_kid told b reached home g from.from.check.before c other.one (sym of_c ∙ krate)) in
          subst (λ (t : Sight). Contains (own t) u)
          (one_there all at.0 from.from s at.1 (subst (λ i. slice_get all i ≡ Some s) place at_s)) from.of

      gap : (q : Purpose) (path : List ℕ)
          → is_unread (own s) (Some (kid_of c)) q path ≡ is_unread us (Some (kid_of c)) q path
      gap q path = tests_agree (is_unread (own s) (Some (kid_of c)) q path) (is_unread us (Some (kid_of c)) q path)
          (λ here. is_left_out us (Some (kid_of c)) q path (from_own (asked (Some (kid_of c)) q path)
          (holds_there (own s) (Some (kid_of c)) q path here)))
          (λ here. is_left_out (own s) (Some (kid_of c)) q path (to_own (asked (Some (kid_of c)) q path) refl
          (holds_there us (Some (kid_of c)) q path here)))

      gaps : AreSameGaps (is_unread (own s) (Some (kid_of c))) (is_unread us (Some (kid_of c)))
      gaps = record {
        script = gap purpose.Script;
        list = gap purpose.List;
        header = gap purpose.Header;
        sum = gap purpose.Sum;
      }

      own_package : s.contents ≡ package_at packages c.place
      own_package = ap (λ (o : Option Package). option_map_or (λ p. p) o unseen_package)
          (sym (map_at (λ (t : Sight). t.contents) all k s at_s)
          ∙ ap (slice_get packages) (sym (place_at g krates same k c at_c)))

      seen_here : IsPackageSeen IsOfPurpose told b reached home g us c s.contents
      seen_here = package_weaker IsOfPurpose IsOfPurpose (λ u failure can. can) told c b home reached g
          (is_unread (own s) (Some (kid_of c))) (is_unread us (Some (kid_of c))) s.contents gaps is.seen

      wanted_here : (u : Unread) → Contains (own s) u
          → IsWantedOf told b reached g us c (package_at packages c.place) u
      wanted_here u there_u = subst (λ (p : Package). IsWantedOf told b reached g us c p u) own_package
          (wanted_of_among told b (own s) us c gaps.list reached g s.contents u (is.wanted u there_u))

      adds_here : AddsAlone l c s.check
      adds_here = record {
        keys = is.keys ∙ ap (λ (p : Package). s.check.old_keys ++ package_keys (scanning_alone b g reached c p) c)
            own_package;
        hits = is.hits ∙ ap (λ (p : Package). s.check.old.hits ++ bypass_hits (scanning_alone b g reached c p))
            own_package;
      }

    all_seen : ArePackagesSeen told b reached home g us packages
    all_seen = zip_mapped (IsPackageSeen IsOfPurpose told b reached home g us) (λ (s : Sight). s.contents) g.crates all
        (zip_at IsSightOf (λ c s. IsPackageSeen IsOfPurpose told b reached home g us c s.contents) g.crates all zip
        seen_here)

    all_wanted : AreWantedPackages told b reached g us packages us
    all_wanted u there_u =
        let from = Contains-from_flat_map own all u there_u in
        let at = there all from.from from.member in
        let other = partner IsSightOf g.crates all zip at.0 from.from at.1 in
        record {
          crate = other.one;
          member = from_there g.crates at.0 other.one other.at;
          wanted = wanted_here at.0 other.one from.from other.at at.1 other.is u from.of;
        }

    all_checked : AreAllChecked told b g reached home (map (λ (s : Sight). s.check) all)
    all_checked = subst
        (λ (vs : List Unread). (ps : List Package) → ArePackagesSeen told b reached home g vs ps
        → AreWantedPackages told b reached g vs ps vs
        → AllZip (AddsAlone (record { building = b; graph = g; packages = ps; reached = reached })) g.crates
        (map (λ (s : Sight). s.check) all)
        → AreAllChecked told b g reached home (map (λ (s : Sight). s.check) all))
        (flat_map-map unread_of (λ (s : Sight). s.check) all)
        (λ ps seen wanted each. record { packages = ps; seen = seen; wanted = wanted; each = each })
        packages all_seen all_wanted
        (zip_mapped (AddsAlone l) (λ (s : Sight). s.check) g.crates all
        (zip_at IsSightOf (λ c s. AddsAlone l c s.check) g.crates all zip adds_here))

pub joins_checks : (g : Graph) (krates : List Krate) → crates_from 0 krates ≡ g.crates
    → AllPairs (λ c d. c.id ≢ d.id) g.crates → JoinsChecks g
joins_checks g krates same ids told b reached home checks zip =
    let sights = sights_of told b reached home g g.crates checks zip in
    subst (AreAllChecked told b g reached home) sights.are
    (all_checked told b reached home g krates same ids sights.all sights.zip)
