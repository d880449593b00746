-- A list gains a prefix of another at its end.
use Rattle.std.proofs.Common.{◌∷◌, [], Bool, true, suc, inl, refl, ◌≡◌, ◌+◌, ◌++◌, ℕ, List, arith, inr, length}
use Rattle.std.proofs.Common.{map, sym, ap, take, ◌∙◌, append_assoc}
use Rattle.std.specs.List.{list_all, prefix_len}
use Rattle.std.proofs.lemmas.Bool.{cases_Bool}
use Rattle.std.proofs.lemmas.List.{take-map, take_all}
use Rattle.std.proofs.Math.Seq.{take-append-add}
use Rattle.deny_base_lists.specs.Prefix.{GainsPrefix, GainsPrefixOf}

-- the whole list is a prefix of itself
pub gains_whole : {T : Type 0} (whole old new : List T) → new ≡ old ++ whole → GainsPrefix whole old new
gains_whole whole old new behind = record {
  count = length whole;
  behind = behind ∙ ap (λ xs. old ++ xs) (sym (take_all (length whole) whole (omega arith)));
}

pub gains_whole_of : {T : Type 0} (P : List T → Type 0) (whole old new : List T) → P whole → new ≡ old ++ whole
    → GainsPrefixOf P old new
gains_whole_of P whole old new is behind = inr (whole, is, gains_whole whole old new behind)

-- a map of the first elements is a prefix of the map of all
pub gains_mapped : {A T : Type 0} (f : A → T) (xs : List A) (count : ℕ) (old new : List T)
    → new ≡ old ++ map f (take count xs)
    → GainsPrefix (map f xs) old new
gains_mapped f xs count old new behind = record {
  count = count;
  behind = behind
      ∙ ap (λ ys. old ++ ys) (sym (take-map f count xs));
}

-- the first list, and then a prefix of the second
pub gains_second : {T : Type 0} (first second old mid new : List T) → mid ≡ old ++ first → GainsPrefix second mid new
    → GainsPrefix (first ++ second) old new
gains_second first second old mid new whole gains = record {
  count = length first + gains.count;
  behind = gains.behind ∙ (ap (λ xs. xs ++ take gains.count second) whole
      ∙ (append_assoc old first (take gains.count second)
      ∙ ap (λ xs. old ++ xs) (sym (take-append-add first second gains.count))));
}

-- elements of a prefix that pass a test pass it in the whole list
pub list_all-take : {X : Type 0} (p : X → Bool) (xs : List X) → list_all p (take (prefix_len p xs) xs) ≡ true
list_all-take p [] = refl
list_all-take p (x ∷ xs) =
    let next : 1 + prefix_len p xs ≡ suc (prefix_len p xs) = omega arith in
    elim (cases_Bool (p x)) [ inl passes ↦ rw (passes, next, passes) (list_all-take p xs) | inr stops ↦ rw stops ]
