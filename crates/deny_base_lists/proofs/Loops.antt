-- Steps of loops over lists: the elements taken so far, and those that are left.
use Rattle.std.proofs.Common.{Bool, List, [], ap, append-nil, append_assoc, drop, false, get_or, length, map, sym, true}
use Rattle.std.proofs.Common.{ℕ, ◌++◌, ◌+◌, ◌<◌, ◌∙◌, ◌∷◌, ◌≡◌, ◌≤◌, suc, ◌-◌, refl, arith}
use Rattle.std.specs.List.{flat_map, list_all, range_with_len}
use Rattle.std.specs.Prelude.{◌&&◌}
use Rattle.std.proofs.lemmas.Bool.{and_left}
use Rattle.std.proofs.lemmas.List.{at_drop_all, at_drop_more, drop_more}
use Rattle.deny_base_lists.proofs.Numbers.{range_with_len-same}

-- a loop that tests whether all elements pass stopped at one that does not, or at the end
pub all_stopped : {X : Type 0} (p : X → Bool) (xs : List X) (x : X) (i : ℕ) → i < length xs → x ≡ get_or xs i x
    → p x ≡ false → list_all p (drop i xs) ≡ list_all p xs → false ≡ list_all p xs
all_stopped p xs x i inside is fails so =
    sym (at_drop_more (list_all p) xs i x inside
    ∙ (ap (λ y. p y && list_all p (drop (i + 1) xs)) (sym is)
    ∙ and_left (p x) (list_all p (drop (i + 1) xs)) fails)) ∙ so

pub all_passed : {X : Type 0} (p : X → Bool) (xs : List X) (i : ℕ) → length xs ≤ i
    → list_all p (drop i xs) ≡ list_all p xs → true ≡ list_all p xs
all_passed p xs i past so = sym (at_drop_all (list_all p) xs i past) ∙ so

-- a step of a loop that appends the next element
pub appended : {X Y : Type 0} (each : List X → List Y) (xs rest : List X) (here old new whole : List Y)
    → each xs ≡ here ++ each rest → new ≡ old ++ here → old ++ each xs ≡ whole → new ++ each rest ≡ whole
appended each xs rest here old new whole split added so =
    ap (λ ys. ys ++ each rest) added ∙ (append_assoc old here (each rest) ∙ (ap (λ ys. old ++ ys) (sym split) ∙ so))

-- a step of a loop that appends the list that the next element gives
pub flat-step : {X Y Z : Type 0} (f : Y → List Z) (v : X → Y) (xs : List X) (x : X) (i : ℕ) (old new whole : List Z)
    → i < length xs → x ≡ get_or xs i x
    → new ≡ old ++ f (v x) → old ++ flat_map f (map v (drop i xs)) ≡ whole
    → new ++ flat_map f (map v (drop (i + 1) xs)) ≡ whole
flat-step f v xs x i old new whole inside is =
    appended (λ ys. flat_map f (map v ys)) (drop i xs) (drop (i + 1) xs) (f (v x)) old new whole
    (ap (λ ys. flat_map f (map v ys)) (drop_more xs i x inside ∙ ap (λ y. y ∷ drop (i + 1) xs) (sym is)))

-- at its end, what a loop over a list has kept
pub pushed_all : {X Y : Type 0} (each : List X → List Y) (xs : List X) (i : ℕ) (new whole : List Y) → each [] ≡ []
    → length xs ≤ i → new ++ each (drop i xs) ≡ whole → new ≡ whole
pushed_all each xs i new whole none past so =
    sym (append-nil new) ∙ (ap (λ ys. new ++ ys) (sym none ∙ sym (at_drop_all each xs i past)) ∙ so)

-- a step of a loop over indices
pub flat-run : {X : Type 0} (f : ℕ → List X) (old new whole : List X) (index end : ℕ) → index < end → new ≡ old
    ++ f index
    → old ++ flat_map f (range_with_len index (end - index)) ≡ whole
    → new ++ flat_map f (range_with_len (index + 1) (end - (index + 1))) ≡ whole
flat-run f old new whole index end below added =
    appended (flat_map f) (range_with_len index (end - index)) (range_with_len (index + 1) (end - (index + 1)))
    (f index) old
    new whole (ap (flat_map f)
    (range_with_len-same index index (end - index) (suc (end - (index + 1))) refl (omega arith)))
    added
