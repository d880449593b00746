-- The keys of a tree with texts as keys are those of its finite map.
use Rattle.std.proofs.Common.{◌≡◌, ℕ, Bool, true, false, List, [], ◌∷◌, Option, Some, map, is_some, cond, refl, sym, ap}
use Rattle.std.proofs.Common.{◌∙◌, subst, String, string_bytes, BTreeMap}
use Rattle.std.specs.Prelude.{◌||◌, Contains}
use Rattle.std.specs.FinMap as finite
use Rattle.std.specs.BTreeMap.{keys}
use Rattle.std.specs.Cmp.Lexicographic.{bytes_decides, nat_list_cmp_total, slice_cmp, texts_ties}
use Rattle.std.specs.List.{list_any}
use Rattle.std.specs.Ordering.{eq_by_cmp, nat_cmp}
use Rattle.std.proofs.lemmas.Cmp.{nat_list_eq_equiv}
use Rattle.deny_base_lists.proofs.Members.{any_from, any_passes}
use Rattle.deny_base_lists.specs.TextMap.{TextFinMap, map_of, with_bytes}
use Rattle.deny_spec.specs.Text.{same_text}
use Rattle.deny_rules_features.specs.private.Steps.{AreNames}

module _ {A : Type 0} where
  texts_of : List (String A × List (List ℕ)) → List (List ℕ)
  texts_of [] = []
  texts_of (e ∷ es) = string_bytes e.0 ∷ texts_of es

  found_key : (name : List ℕ) (es : List (String A × List (List ℕ)))
      → is_some (finite.find (slice_cmp nat_cmp) name (map with_bytes es)) ≡ list_any (same_text name) (texts_of es)
  unfolding texts_of
  found_key name [] = refl
  found_key name (e ∷ es) =
      by_test (eq_by_cmp (slice_cmp nat_cmp) name (string_bytes e.0))
      (finite.find (slice_cmp nat_cmp) name (map with_bytes es))
      ∙ ((λ i. sym (texts_ties name (string_bytes e.0)) i
      || is_some (finite.find (slice_cmp nat_cmp) name (map with_bytes es)))
      ∙ ap (λ b. same_text name (string_bytes e.0) || b) (found_key name es))
    where
      by_test : (b : Bool) (got : Option (List (List ℕ))) → is_some (cond b (Some e.1) got) ≡ (b || is_some got)
      by_test true got = refl
      by_test false got = refl

  keys_are : (es : List (String A × List (List ℕ))) → map string_bytes (map (λ e. e.0) es) ≡ texts_of es
  unfolding texts_of
  keys_are [] = refl
  keys_are (e ∷ es) = ap (λ texts. string_bytes e.0 ∷ texts) (keys_are es)

  known : (features : TextFinMap (List (List ℕ))) (es : List (String A × List (List ℕ))) (name : List ℕ)
      → map_of es ≡ features → is_some (finite.get features name) ≡ list_any (same_text name) (texts_of es)
  known features es name view =
      ap (λ m. is_some (finite.get m name)) (sym view)
      ∙ (ap is_some (finite.get-from_entries nat_list_cmp_total (map with_bytes es) name) ∙ found_key name es)

  pub are_names : (m : BTreeMap (String A) (List (List ℕ))) (features : TextFinMap (List (List ℕ)))
      (names : List (List ℕ))
      → map_of m.entries ≡ features → names ≡ map string_bytes (keys m) → AreNames features names
  are_names m features names view are =
      subst (λ (texts : List (List ℕ)). AreNames features texts) (sym (are ∙ keys_are m.entries)) (record {
        each = λ name. (
          (λ one. known features m.entries name view
              ∙ any_from (same_text name) (texts_of m.entries) name one (nat_list_eq_equiv.refl name)),
          (λ some. let found = any_passes (same_text name) (texts_of m.entries)
              (sym (known features m.entries name view) ∙ some) in
              subst (Contains (texts_of m.entries)) (sym ((bytes_decides name found.one).0 found.passes)) found.member),
        );
      })
