-- A map from names to their numbers, and a set of texts, as they grow.
use Rattle.std.proofs.Common.{◌≡◌, ℕ, ◌+◌, ◌<◌, ◌≤◌, Bool, true, false, List, Some, is_some, length, refl, sym, ap, ◌∙◌}
use Rattle.std.proofs.Common.{arith}
use Rattle.std.specs.Prelude.{IsTrue, cond, slice_get}
use Rattle.std.specs.FinMap as finite
use Rattle.std.specs.Cmp.Lexicographic.{bytes_decides, slice_cmp}
use Rattle.std.specs.Ordering.{nat_cmp}
use Rattle.std.proofs.lemmas.Cmp.{nat_list_eq_equiv}
use Rattle.std.proofs.lemmas.Option.{none-some, slice_get_within}
use Rattle.deny_base_lists.proofs.Members.{one_there, there}
use Rattle.deny_base_lists.specs.TextMap.{TextFinMap}
use Rattle.deny_spec.specs.Text.{same_text}
use Rattle.deny_spec.proofs.Texts.{get-insert}
use Rattle.deny_rules_features.specs.private.Steps.{AreNumbers}

never : false ≡ true → ⊥
never is = (cc)

-- ---- numbers of names

-- each of the first names has a number, which is its index
pub record AreNumbersOf (count : ℕ) (names : List (List ℕ)) (numbers : TextFinMap ℕ) : Type 0 where
  pub whole : (k : ℕ) (name : List ℕ) → k < count → slice_get names k ≡ Some name
      → IsTrue (is_some (finite.get numbers name))
  pub sound : (name : List ℕ) (number : ℕ) → finite.get numbers name ≡ Some number → slice_get names number ≡ Some name

same_some : (n m : ℕ) → Some n ≡ Some m → n ≡ m
same_some n m is = (cc)

pub no_numbers : (names : List (List ℕ)) → AreNumbersOf 0 names finite.empty
no_numbers names = record {
  whole = λ k name none at. absurd (omega (arith, none));
  sound = λ name number is. absurd (none-some number (sym (finite.get-empty (slice_cmp nat_cmp) name) ∙ is));
}

module _ (names : List (List ℕ)) (numbers : TextFinMap ℕ) (n : ℕ) (name : List ℕ) (at : slice_get names n ≡ Some name)
    (before : AreNumbersOf n names numbers) where
  is_numbered : (b : Bool) (k : ℕ) (other : List ℕ) → same_text other name ≡ b → k < n + 1
      → slice_get names k ≡ Some other
      → is_some (cond b (Some n) (finite.get numbers other)) ≡ true
  is_numbered true k other same inside there = refl
  is_numbered false k other differs inside there = before.whole k other (omega (arith, inside, same_here)) there
    where
      same_here : k ≡ n → ⊥
      same_here is = never (sym differs ∙ (ap (λ t. same_text t name) (one_there names k other name there
          (ap (slice_get names) is ∙ at)) ∙ nat_list_eq_equiv.refl name))

  is_at_number : (b : Bool) (other : List ℕ) (number : ℕ) → same_text other name ≡ b
      → cond b (Some n) (finite.get numbers other) ≡ Some number → slice_get names number ≡ Some other
  is_at_number true other number same is =
      ap (slice_get names) (sym (same_some n number is)) ∙ (at ∙ ap Some (sym ((bytes_decides other name).0 same)))
  is_at_number false other number differs is = before.sound other number is

  pub one_more : AreNumbersOf (n + 1) names (finite.insert numbers name n)
  one_more = record {
    whole = λ k other inside there. ap is_some (get-insert numbers name n other)
        ∙ is_numbered (same_text other name) k other refl inside there;
    sound = λ other number is. is_at_number (same_text other name) other number refl
        (sym (get-insert numbers name n other) ∙ is);
  }

pub all_numbered : (names : List (List ℕ)) (numbers : TextFinMap ℕ) (n : ℕ) → length names ≤ n
    → AreNumbersOf n names numbers → AreNumbers names numbers
all_numbered names numbers n past are = record {
  whole = λ name one. let at = there names name one in
      are.whole at.0 name (omega (arith, past, slice_get_within names at.0 name at.1)) at.1;
  sound = are.sound;
}

-- ---- sets of texts
