-- Orders: ties of two fields, orders in which only equal values tie, and what is below.
use Rattle.std.proofs.Common.{List, None, Some, ap, arith, false, inl, inr, refl, subst, sym, true, ℕ, ◌∙◌, ◌≡◌, ◌≤◌}
use Rattle.std.proofs.Common.{◌⊎◌, ◌&&◌, Bool, ◌==◌, [], ◌∷◌, ◌++◌}
use Rattle.std.specs.Cmp.{IsTotalOrder, unsigned_ties, tied_itself}
use Rattle.std.specs.Cmp.Lexicographic.{nat_list_cmp_total, slice_cmp}
use Rattle.std.specs.FinMap.{IsAntisymmetric, nat_cmp-IsAntisymmetric, slice_cmp-IsAntisymmetric}
use Rattle.std.specs.List.Sorted.{IsNonDecreasingBy, IsPartitionedBy}
use Rattle.std.specs.Option.{option_cmp}
use Rattle.std.specs.Ordering.{is_eq, is_le, is_lt, nat_cmp, ordering_index, ordering_reverse, ordering_then}
use Rattle.std.specs.declared.cmp.Ordering.{Ordering}
use Rattle.std.specs.declared.cmp.Ordering.TheVariants.{Equal, Greater, Less}
use Rattle.std.proofs.lemmas.Bool.{false≢true}

pub then_first : (r s : Ordering) → ordering_then r s ≡ Equal → r ≡ Equal
then_first Less s e = cc e
then_first Equal s e = refl
then_first Greater s e = cc e

pub then_second : (r s : Ordering) → ordering_then r s ≡ Equal → s ≡ Equal
then_second Less s e = cc e
then_second Equal s e = e
then_second Greater s e = cc e

pub text_cmp-exact : IsAntisymmetric (slice_cmp nat_cmp)
text_cmp-exact = slice_cmp-IsAntisymmetric nat_cmp-IsAntisymmetric

pub option_text_cmp-exact : IsAntisymmetric (option_cmp (slice_cmp nat_cmp))
option_text_cmp-exact None None e = refl
option_text_cmp-exact None (Some b) e = cc
option_text_cmp-exact (Some a) None e = cc
option_text_cmp-exact (Some a) (Some b) e = ap (λ x. Some x) (text_cmp-exact a b e)

less-greater : Less ≡ Greater → ⊥
less-greater e = absurd (cc)

-- no value is below itself
pub not_below_itself : {A : Type 0} (cmp : A → A → Ordering) → IsTotalOrder cmp → (x y : A) → x ≡ y → cmp x y ≡ Less → ⊥
not_below_itself {A} cmp total x y same below =
    let here : cmp x x ≡ Less = subst (λ (z : A). cmp x z ≡ Less) (sym same) below in
    less-greater (sym here ∙ (total.antisymm x x ∙ ap ordering_reverse here))

-- of two values only one is below the other
pub not_above : {A : Type 0} (cmp : A → A → Ordering) → IsTotalOrder cmp → (x y : A) → cmp x y ≡ Less
    → is_lt (cmp y x) ≡ false
not_above cmp total x y below = ap is_lt (total.antisymm y x ∙ ap ordering_reverse below)

-- a text that is below another, or ties with it, is not above it
pub not_less : (a b : List ℕ) → (slice_cmp nat_cmp a b ≡ Less) ⊎ (slice_cmp nat_cmp a b ≡ Equal)
    → is_lt (slice_cmp nat_cmp b a) ≡ false
not_less a b (inl below) = not_above (slice_cmp nat_cmp) nat_list_cmp_total a b below
not_less a b (inr tie) = ap is_lt (nat_list_cmp_total.antisymm b a ∙ ap ordering_reverse tie)

pub then_below : (o p : Ordering) → ordering_then o p ≡ Less → (o ≡ Equal → p ≡ Less → ⊥) → o ≡ Less
then_below Less p e never = refl
then_below Equal p e never = absurd (never refl e)
then_below Greater p e never = cc e

pub below_or_tie : (o p : Ordering) → ordering_then o p ≡ Less → (o ≡ Less) ⊎ (o ≡ Equal)
below_or_tie Less p e = inl refl
below_or_tie Equal p e = inr refl
below_or_tie Greater p e = cc e

lt_down : (a b : Ordering) → ordering_index a ≤ ordering_index b → is_lt b ≡ true → is_lt a ≡ true
lt_down Less b h e = refl
lt_down Equal Less h e = absurd (omega (arith, h))
lt_down Equal Equal h e = e
lt_down Equal Greater h e = e
lt_down Greater Less h e = absurd (omega (arith, h))
lt_down Greater Equal h e = e
lt_down Greater Greater h e = e

le_down : (a b : Ordering) → ordering_index a ≤ ordering_index b → is_le b ≡ true → is_le a ≡ true
le_down Less b h e = refl
le_down Equal b h e = refl
le_down Greater Less h e = absurd (omega (arith, h))
le_down Greater Equal h e = absurd (omega (arith, h))
le_down Greater Greater h e = e

pub partitioned_lt : {X : Type 0} (n : X → Ordering) (xs : List X) → IsNonDecreasingBy (λ y. ordering_index (n y)) xs
    → IsPartitionedBy (λ y. is_lt (n y)) xs
partitioned_lt n xs up = λ i j d below inside holds. lt_down _ _ (up i j d below inside) holds

pub partitioned_le : {X : Type 0} (n : X → Ordering) (xs : List X) → IsNonDecreasingBy (λ y. ordering_index (n y)) xs
    → IsPartitionedBy (λ y. is_le (n y)) xs
partitioned_le n xs up = λ i j d below inside holds. le_down _ _ (up i j d below inside) holds

pub is_equal : (o : Ordering) → is_lt o ≡ false → is_le o ≡ true → o ≡ Equal
is_equal Less a b = cc
is_equal Equal a b = refl
is_equal Greater a b = cc

pub not_both : (o : Ordering) → is_lt o ≡ true → is_le o ≡ false → ⊥
not_both Less a b = absurd (cc)
not_both Equal a b = absurd (cc)
not_both Greater a b = absurd (cc)

pub not_equal_below : (o : Ordering) → is_lt o ≡ true → is_eq o ≡ false
not_equal_below Less a = refl
not_equal_below Equal a = cc
not_equal_below Greater a = cc

pub not_equal_above : (o : Ordering) → is_le o ≡ false → is_eq o ≡ false
not_equal_above Less a = cc
not_equal_above Equal a = cc
not_equal_above Greater a = refl

pub is_eq-then : (a b : Bool) (r s : Ordering) → a ≡ is_eq r → b ≡ is_eq s → a && b ≡ is_eq (ordering_then r s)
is_eq-then a b Less s e f = rw e refl
is_eq-then a b Equal s e f = rw e f
is_eq-then a b Greater s e f = rw e refl

pub is_eq-reverse : (r : Ordering) → is_eq (ordering_reverse r) ≡ is_eq r
is_eq-reverse Less = refl
is_eq-reverse Equal = refl
is_eq-reverse Greater = refl

pub is_eq-nat_cmp : (a b : ℕ) → is_eq (nat_cmp a b) ≡ (a == b)
is_eq-nat_cmp a b = sym (unsigned_ties a b)

pub then-less : (o rest : Ordering) → o ≡ Less → ordering_then o rest ≡ Less
then-less o rest is = ap (λ r. ordering_then r rest) is

pub less_from_is_lt : (o : Ordering) → is_lt o ≡ true → o ≡ Less
less_from_is_lt Less is = refl
less_from_is_lt Equal is = cc
less_from_is_lt Greater is = cc

-- a value that is not above another and does not tie is below it
pub less_from_reverse : (r s : Ordering) → r ≡ ordering_reverse s → is_lt s ≡ false → (r ≡ Equal → ⊥) → r ≡ Less
less_from_reverse Less s e no_less no_tie = refl
less_from_reverse Equal s e no_less no_tie = absurd (no_tie refl)
less_from_reverse Greater Less e no_less no_tie = absurd (false≢true (sym no_less))
less_from_reverse Greater Equal e no_less no_tie = cc
less_from_reverse Greater Greater e no_less no_tie = cc

pub option_cmp-exact : {A : Type 0} (cmp : A → A → Ordering) → IsAntisymmetric cmp → IsAntisymmetric (option_cmp cmp)
option_cmp-exact cmp exact None None e = refl
option_cmp-exact cmp exact None (Some b) e = cc e
option_cmp-exact cmp exact (Some a) None e = cc e
option_cmp-exact cmp exact (Some a) (Some b) e = ap (λ x. Some x) (exact a b e)

-- lists with a common prefix compare as what follows it
pub slice_cmp-append : {A : Type 0} {R : A → A → Ordering} → IsTotalOrder R → (prefix a b : List A)
    → slice_cmp R (prefix ++ a) (prefix ++ b) ≡ slice_cmp R a b
slice_cmp-append total [] a b = refl
slice_cmp-append {R = R} total (x ∷ xs) a b =
    ap (λ o. ordering_then o (slice_cmp R (xs ++ a) (xs ++ b))) (tied_itself total x)
    ∙ slice_cmp-append total xs a b
