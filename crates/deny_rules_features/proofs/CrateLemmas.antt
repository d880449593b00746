-- What is found in ascending lists, and the crate of an id.
use Rattle.std.proofs.Common.{◌≡◌, ℕ, Bool, List, [], Option, Some, None, refl, sym, ap, ◌∙◌, subst}
use Rattle.std.specs.Prelude.{IsTrue, Contains}
use Rattle.std.specs.Cmp.Lexicographic.{bytes_decides, slice_cmp}
use Rattle.std.specs.List.{list_any}
use Rattle.std.proofs.lemmas.Cmp.{nat_list_eq_equiv}
use Rattle.std.proofs.lemmas.Option.{get_or_from_slice_get, slice_get_within}
use Rattle.deny_base_lists.proofs.Agreement.{same_test}
use Rattle.deny_base_lists.proofs.Members.{any_from, any_passes}
use Rattle.std.specs.List.Sorted.{IsStrictlySortedBy}
use Rattle.std.specs.Option.{option_map_or}
use Rattle.std.specs.Ordering.{nat_cmp}
use Rattle.deny_krates.specs.Ids.{crate_of}
use Rattle.deny_krates.specs.Orderly.{IsOrderly}
use Rattle.deny_spec.specs.Graph.{Crate, Graph}
use Rattle.deny_spec.specs.DiagParts.{crate_at}
use Rattle.deny_rules_features.specs.Crates.{enabled_at}
use Rattle.deny_spec.specs.Text.{same_text}
use Rattle.deny_spec.proofs.IdLemmas.{found_by_id}

-- a search in an ascending list finds a text exactly where the list contains it
pub text_found : (found : Bool) (xs : List (List ℕ)) (x : List ℕ)
    → (IsTrue found → Contains xs x) × (Contains xs x → IsTrue found) → found ≡ list_any (same_text x) xs
text_found found xs x is = same_test found (list_any (same_text x) xs) is (
  (λ any.
      let one = any_passes (same_text x) xs any in
      subst (Contains xs) (sym ((bytes_decides x one.one).0 one.passes)) one.member),
  (λ one. any_from (same_text x) xs x one (nat_list_eq_equiv.refl x)),
)

-- ---- enabled features

pub enabled_there : (g : Graph) (place : ℕ) (c : Crate) → IsOrderly g → crate_at g place ≡ Some c
    → option_map_or (λ (d : Crate). d.enabled) (crate_of g c.id) [] ≡ enabled_at g place
enabled_there g place c orderly at =
    ap (λ o. option_map_or (λ (d : Crate). d.enabled) o []) (found_by_id g.crates place c orderly.ids at ∙ sym at)

pub ascending_at : (g : Graph) (place : ℕ) → IsOrderly g → IsStrictlySortedBy (slice_cmp nat_cmp) (enabled_at g place)
unfolding IsStrictlySortedBy
ascending_at g place orderly = by_crate (crate_at g place) refl
  where
    by_crate : (o : Option Crate) → crate_at g place ≡ o
        → IsStrictlySortedBy (slice_cmp nat_cmp) (option_map_or (λ (d : Crate). d.enabled) o [])
    by_crate None at = tt
    by_crate (Some c) at = subst (λ (d : Crate). IsStrictlySortedBy (slice_cmp nat_cmp) d.enabled)
        (get_or_from_slice_get g.crates place c c at) (orderly.enabled place c (slice_get_within g.crates place c at))
