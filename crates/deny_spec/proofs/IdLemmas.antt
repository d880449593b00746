-- Crates whose ids differ.
use Rattle.std.proofs.Common.{◌≡◌, ◌≢◌, List, AllPairs, ◌∙◌, ℕ, zero, suc, Bool, true, false, [], ◌∷◌, Some, cond, refl}
use Rattle.std.proofs.Common.{sym, ap, arith}
use Rattle.std.proofs.lemmas.Cmp.{nat_list_eq_equiv}
use Rattle.std.specs.List.{IsDistinct}
use Rattle.std.proofs.lemmas.Bool.{false_from_ne_true}
use Rattle.std.proofs.lemmas.Map.Keys.{IsDistinct-from_apart}
use Rattle.std.proofs.lemmas.Slice.Eq.{bytes_eq-Decides}
use Rattle.std.specs.Prelude.{find, slice_get}
use Rattle.std.specs.Cmp.Lexicographic.{bytes_decides}
use Rattle.std.proofs.lemmas.Option.{get_or_from_slice_get, none-some, slice_get_within}
use Rattle.deny_spec.specs.Graph.{Crate}
use Rattle.deny_spec.specs.Ids.{same_id}
use Rattle.deny_spec.specs.Text.{same_text}

pub same_id-flips : (a b : Crate) → same_id a b ≡ same_id b a
same_id-flips a b = nat_list_eq_equiv.symm a.id b.id

pub distinct-ids : (crates : List Crate) → AllPairs (λ c d. c.id ≢ d.id) crates → IsDistinct same_id crates
distinct-ids crates apart =
    IsDistinct-from_apart same_id crates (λ i j d up within.
    false_from_ne_true _ (λ e. apart i j d up within ((bytes_eq-Decides _ _).0 e)))

-- among crates whose ids differ, the search for a crate's id finds the crate
pub found_by_id : (xs : List Crate) (k : ℕ) (c : Crate) → AllPairs (λ c d. c.id ≢ d.id) xs → slice_get xs k ≡ Some c
    → find (λ d. same_text d.id c.id) xs ≡ Some c
found_by_id [] k c apart at = absurd (none-some c at)
found_by_id (x ∷ xs) zero c apart at =
    let same : x ≡ c = same_crate at in
    ap (λ b. cond b (Some x) (find (λ d. same_text d.id c.id) xs))
    (ap (λ (d : Crate). same_text d.id c.id) same ∙ nat_list_eq_equiv.refl c.id) ∙ ap Some same
  where
    same_crate : Some x ≡ Some c → x ≡ c
    same_crate e = cc
found_by_id (x ∷ xs) (suc k) c apart at =
    by_test (same_text x.id c.id) refl
    (found_by_id xs k c (λ i j d low inside. apart (suc i) (suc j) d (omega (arith, low)) (omega (arith, inside))) at)
  where
    differ : x.id ≡ c.id → ⊥
    differ same = apart 0 (suc k) c (omega arith) (omega (arith, slice_get_within xs k c at))
        (same ∙ ap (λ (d : Crate). d.id) (sym (get_or_from_slice_get xs k c c at)))

    by_test : (b : Bool) → same_text x.id c.id ≡ b → find (λ d. same_text d.id c.id) xs ≡ Some c
        → cond b (Some x) (find (λ d. same_text d.id c.id) xs) ≡ Some c
    by_test true same rest = absurd (differ ((bytes_decides x.id c.id).0 same))
    by_test false differs rest = rest
