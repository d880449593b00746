-- Readers that follow one another.
use Rattle.std.proofs.Common.{◌≡◌, ℕ, suc, ◌+◌, Result, Ok, Err, refl, sym, ap, ◌∙◌, arith, subst}
use Rattle.deny_std_table.specs.declared.error.ReplacementError.{ReplacementError}
use Rattle.deny_std_table.specs.declared.spans.Read.{Read}
use Rattle.deny_base_lists.specs.Reader.{◌>>=◌}
use Rattle.deny_std_table.specs.Reading.{read, many}
use Rattle.deny_std_table.specs.private.Reading.{next_of}

-- a last step that reads nothing keeps the offset
next_of-last : {A B : Type 0} (r : Result (Read A) ReplacementError) (f : Read A → B)
    → next_of (r >>= (λ x. Ok (read (f x) x.next))) ≡ next_of r
next_of-last (Ok x) f = refl
next_of-last (Err e) f = refl

-- the next reader starts where the first stopped
next_of-then : {A B : Type 0} (r : Result (Read A) ReplacementError) (next : ℕ) (later : Read A
    → Result (Read B) ReplacementError)
    (from : ℕ → Result ℕ ReplacementError)
    → ((x : Read A) → next_of (later x) ≡ from x.next) → next_of r ≡ Ok next → next_of (r >>= later) ≡ from next
next_of-then (Ok x) next later from same is =
    let at : x.next ≡ next = cc in same x ∙ ap from at
next_of-then (Err e) next later from same is = cc

next_of-break : {A B : Type 0} (r : Result (Read A) ReplacementError) (e : ReplacementError) (later : Read A
    → Result (Read B) ReplacementError)
    → next_of r ≡ Err e → next_of (r >>= later) ≡ Err e
next_of-break (Ok x) e later is = cc
next_of-break (Err d) e later is = is

many_one : {A : Type 0} (reader : ℕ → Result (Read A) ReplacementError) (left at next : ℕ)
    → next_of (reader at) ≡ Ok next → next_of (many reader (suc left) at) ≡ next_of (many reader left next)
unfolding many
many_one reader left at next first =
    next_of-then (reader at) next _ (λ n. next_of (many reader left n)) (λ x. next_of-last (many reader left x.next) _)
    first

-- one part of a row was read, and the others follow
pub next_of-many_more : {A : Type 0} (reader : ℕ → Result (Read A) ReplacementError) (count left at next : ℕ)
    → left + 1 ≡ count → next_of (reader at) ≡ Ok next
    → next_of (many reader count at) ≡ next_of (many reader left next)
next_of-many_more reader count left at next is first =
    let e : suc left ≡ count = omega arith in
    subst (λ n. next_of (many reader n at) ≡ next_of (many reader left next)) e (many_one reader left at next first)

many_stop : {A : Type 0} (reader : ℕ → Result (Read A) ReplacementError) (left at : ℕ) (e : ReplacementError)
    → next_of (reader at) ≡ Err e → next_of (many reader (suc left) at) ≡ Err e
unfolding many
many_stop reader left at e is = next_of-break (reader at) e _ is

-- the first part of a row breaks
pub next_of-many_break : {A : Type 0} (reader : ℕ → Result (Read A) ReplacementError) (count left at : ℕ)
    (e : ReplacementError)
    → left + 1 ≡ count → next_of (reader at) ≡ Err e → next_of (many reader count at) ≡ Err e
next_of-many_break reader count left at e is broken =
    let is_suc : suc left ≡ count = omega arith in
    subst (λ n. next_of (many reader n at) ≡ Err e) is_suc (many_stop reader left at e broken)

-- no part is left
pub next_of-many_none : {A : Type 0} (reader : ℕ → Result (Read A) ReplacementError) (count at : ℕ)
    → count ≡ 0 → next_of (many reader count at) ≡ Ok at
unfolding many
next_of-many_none reader count at is =
    subst (λ n. next_of (many reader n at) ≡ Ok at) (sym is) refl
