-- Rows of declarations, as they are filled.
use Rattle.std.proofs.Common.{◌≡◌, ℕ, zero, suc, ◌<◌, ◌++◌, ◌∷◌, Bool, true, false, List, [], cond, filter, length}
use Rattle.std.proofs.Common.{map, refl, sym, ap, ◌∙◌, subst, inl, inr, append-nil, append_assoc, eq-eqb}
use Rattle.std.proofs.Common.{get_or-set_other, get_or-set_same}
use Rattle.std.specs.Prelude.{replicate, slice_set}
use Rattle.std.proofs.Math.ListN.{length-set}
use Rattle.std.proofs.lemmas.Bool.{ne_eqb}
use Rattle.std.proofs.lemmas.Bool.Decides.{eqb_tells}
use Rattle.std.proofs.lemmas.List.{length-replicate, map-append}
use Rattle.std.proofs.lemmas.List.Elements.{filter-append}
use Rattle.deny_spec_report.specs.Sharing.{Use, is_use_of}
use Rattle.deny_spans_manifest.specs.declared.declarations.ManifestDep.{ManifestDep}
use Rattle.deny_spec.specs.Policy.{Sharing}
use Rattle.deny_rules_manifests.specs.Uses.{row_at, use_view}
use Rattle.deny_rules_manifests.specs.declared.uses.Use.{Use as UseValue}
use Rattle.deny_rules_manifests.specs.private.Rows.{AreRowsBut, AreRowsOf, counted_in, is_counted, use_of}

-- ---- one declaration

module _ (crates : ℕ) (uses : List Use) (rows : List (List UseValue)) (row : List UseValue) (one : UseValue)
    (inside : one.dep.now.place < length rows) (is : row ≡ row_at rows one.dep.now.place ++ one ∷ [])
    (are : AreRowsOf crates uses rows) where
  abbrev child : ℕ
  child = one.dep.now.place

  abbrev put : List (List UseValue)
  put = slice_set rows child row

  same_place : map use_view (row_at put child) ≡ filter (is_use_of child) (uses ++ use_view one ∷ [])
  unfolding is_use_of
  same_place =
      ap (map use_view) (get_or-set_same rows child row [] inside ∙ is)
      ∙ (map-append use_view (row_at rows child) (one ∷ [])
      ∙ (ap (λ us. us ++ use_view one ∷ []) (are.at child)
      ∙ (ap (λ b. filter (is_use_of child) uses ++ cond b (use_view one ∷ []) []) (sym (eq-eqb child child refl))
      ∙ sym (filter-append (is_use_of child) uses (use_view one ∷ [])))))

  other_place : (place : ℕ) → (place ≡ child → ⊥)
      → map use_view (row_at put place) ≡ filter (is_use_of place) (uses ++ use_view one ∷ [])
  unfolding is_use_of
  other_place place apart =
      ap (map use_view) (get_or-set_other rows child place row [] apart)
      ∙ (are.at place
      ∙ (sym (append-nil (filter (is_use_of place) uses))
      ∙ (ap (λ b. filter (is_use_of place) uses ++ cond b (use_view one ∷ []) [])
      (sym (ne_eqb child place (λ same. apart (sym same))))
      ∙ sym (filter-append (is_use_of place) uses (use_view one ∷ [])))))

  at_place : (place : ℕ) → map use_view (row_at put place) ≡ filter (is_use_of place) (uses ++ use_view one ∷ [])
  at_place place = elim (eqb_tells place child) as
      (λ _. map use_view (row_at put place) ≡ filter (is_use_of place) (uses ++ use_view one ∷ [])) [
        | inl same ↦ subst (λ (n : ℕ). map use_view (row_at put n) ≡ filter (is_use_of n) (uses ++ use_view one ∷ []))
            (sym same.1) same_place
        | inr apart ↦ other_place place apart.1
      ]

  pub one_put : AreRowsOf crates (uses ++ use_view one ∷ []) put
  one_put = record { long = length-set rows child row ∙ are.long; at = at_place }

-- ---- none

none_there : (crates place : ℕ) → row_at (replicate crates []) place ≡ []
none_there zero place = refl
none_there (suc crates) zero = refl
none_there (suc crates) (suc place) = none_there crates place

pub none_put : (crates : ℕ) → AreRowsOf crates [] (replicate crates [])
none_put crates = record {
  long = length-replicate crates [];
  at = λ place. ap (map use_view) (none_there crates place);
}

-- ---- declarations, one after another

module _ (file : ℕ) (s : Sharing) where
  counted_one : (d : ManifestDep) (b : Bool) → is_counted s d ≡ b
      → counted_in file s (d ∷ []) ≡ cond b (use_of file d ∷ []) []
  unfolding counted_in
  counted_one d true is = ap (λ b. map (use_of file) (cond b (d ∷ []) [])) is
  counted_one d false is = ap (λ b. map (use_of file) (cond b (d ∷ []) [])) is

  pub passed_over : (d : ManifestDep) (crates : ℕ) (uses : List Use) (rows : List (List UseValue))
      → is_counted s d ≡ false
      → AreRowsOf crates uses rows → AreRowsOf crates (uses ++ counted_in file s (d ∷ [])) rows
  passed_over d crates uses rows is are =
      subst (λ (us : List Use). AreRowsOf crates us rows)
      (sym (append-nil uses) ∙ ap (λ us. uses ++ us) (sym (counted_one d false is))) are

  pub kept_one : (d : ManifestDep) (crates : ℕ) (uses : List Use) (rows : List (List UseValue)) → is_counted s d ≡ true
      → AreRowsOf crates (uses ++ use_of file d ∷ []) rows
      → AreRowsOf crates (uses ++ counted_in file s (d ∷ [])) rows
  kept_one d crates uses rows is are =
      subst (λ (us : List Use). AreRowsOf crates us rows) (ap (λ us. uses ++ us) (sym (counted_one d true is))) are

  next_counted : (d : ManifestDep) (ds : List ManifestDep)
      → counted_in file s (d ∷ ds) ≡ counted_in file s (d ∷ []) ++ counted_in file s ds
  unfolding counted_in
  next_counted d ds = ap (map (use_of file)) (filter-append (is_counted s) (d ∷ []) ds)
      ∙ map-append (use_of file) (filter (is_counted s) (d ∷ [])) (filter (is_counted s) ds)

  pub one_more : (d : ManifestDep) (ds left : List ManifestDep) (crates : ℕ) (all : List Use)
      (old new : List (List UseValue))
      → left ≡ d ∷ ds → AreRowsBut crates (counted_in file s left) all old
      → ((uses : List Use) → AreRowsOf crates uses old → AreRowsOf crates (uses ++ counted_in file s (d ∷ [])) new)
      → AreRowsBut crates (counted_in file s ds) all new
  one_more d ds left crates all old new next before puts = record {
    done = before.done ++ counted_in file s (d ∷ []);
    split = append_assoc before.done (counted_in file s (d ∷ [])) (counted_in file s ds)
        ∙ (ap (λ us. before.done ++ us) (sym (next_counted d ds) ∙ ap (counted_in file s) (sym next)) ∙ before.split);
    are = puts before.done before.are;
  }

  pub all_put : (left : List ManifestDep) (crates : ℕ) (all : List Use) (rows : List (List UseValue)) → left ≡ []
      → AreRowsBut crates (counted_in file s left) all rows → AreRowsOf crates all rows
  unfolding counted_in
  all_put left crates all rows none but =
      subst (λ (us : List Use). AreRowsOf crates us rows)
      (sym (append-nil but.done) ∙ (ap (λ ds. but.done ++ counted_in file s ds) (sym none) ∙ but.split)) but.are
