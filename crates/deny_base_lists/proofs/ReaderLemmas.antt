-- Readers that pass failures on, and loops that read elements one by one.
use Rattle.std.proofs.Common.{◌≡◌, ◌<◌, ◌≤◌, ◌+◌, ℕ, inl, inr, length, drop, add-one, List, [], ◌∷◌, ◌++◌, Result, Ok}
use Rattle.std.proofs.Common.{Err, refl, sym, ap, ◌∙◌, append_assoc, append-nil, subst}
use Rattle.std.specs.Prelude.{slice_index_or, IfErr}
use Rattle.std.specs.Result.{IsErrAnd}
use Rattle.std.proofs.Math.ListN.{drop_of_length-le}
use Rattle.std.proofs.Math.Seq.{drop-cons}
use Rattle.deny_base_lists.proofs.Results.{err_is_no_ok}
use Rattle.deny_base_lists.specs.Reader.{◌>>=◌, Fails, Gives, IsFault, each, each_passes}

-- ---- the values read so far, before the values of the rest

abbrev pub with_prefix : {A E : Type 0} → List A → Result (List A) E → Result (List A) E
with_prefix xs (Ok ys) = Ok (xs ++ ys)
with_prefix xs (Err e) = Err e

prefix_more : {A E : Type 0} (xs : List A) (x : A) (read : Result (List A) E)
    → with_prefix xs (read >>= (λ ys. Ok (x ∷ ys))) ≡ with_prefix (xs ++ x ∷ []) read
prefix_more xs x (Ok ys) = ap (λ zs. Ok zs) (sym (append_assoc xs (x ∷ []) ys))
prefix_more xs x (Err e) = refl

prefix_all : {A E : Type 0} (xs ms : List A) (read : Result (List A) E)
    → with_prefix xs (read >>= (λ ys. Ok (ms ++ ys))) ≡ with_prefix (xs ++ ms) read
prefix_all xs ms (Ok ys) = ap (λ zs. Ok zs) (sym (append_assoc xs ms ys))
prefix_all xs ms (Err e) = refl

-- a step of a loop that reads: the whole is what was read before what is left, and the next element gives x
pub goes_on : {A E : Type 0} (whole here rest : Result (List A) E) (next : Result A E) (xs : List A) (x : A)
    → whole ≡ with_prefix xs here → here ≡ next >>= (λ y. rest >>= (λ ys. Ok (y ∷ ys))) → next ≡ Ok x
    → whole ≡ with_prefix (xs ++ x ∷ []) rest
goes_on whole here rest next xs x so_far step is =
    so_far ∙ (ap (with_prefix xs) (step ∙ ap (λ r. r >>= (λ y. rest >>= (λ ys. Ok (y ∷ ys)))) is)
    ∙ prefix_more xs x rest)

-- a step of a loop that reads, where the next element gives several values
pub goes_on_by : {A B E : Type 0} (whole here rest : Result (List A) E) (next : Result B E) (made : B → List A)
    (xs : List A) (x : B)
    → whole ≡ with_prefix xs here → here ≡ next >>= (λ y. rest >>= (λ ys. Ok (made y ++ ys))) → next ≡ Ok x
    → whole ≡ with_prefix (xs ++ made x) rest
goes_on_by whole here rest next made xs x so_far step is =
    so_far ∙ (ap (with_prefix xs) (step ∙ ap (λ r. r >>= (λ y. rest >>= (λ ys. Ok (made y ++ ys)))) is)
    ∙ prefix_all xs (made x) rest)

-- a step of a loop that checks the next element
pub passes_on : {A E : Type 0} (whole here rest : Result A E) (next : Result (Unit {0}) E)
    → whole ≡ here → here ≡ next >>= (λ _. rest) → next ≡ Ok tt → whole ≡ rest
passes_on whole here rest next so_far step is = so_far ∙ (step ∙ ap (λ r. r >>= (λ _. rest)) is)

-- reading the elements from an index on
pub next_each : {A B E : Type 0} (read : A → Result B E) (xs : List A) (i : ℕ) (x : A) → i < length xs
    → x ≡ slice_index_or xs i x
    → each read (drop i xs) ≡ read x >>= (λ y. each read (drop (i + 1) xs) >>= (λ ys. Ok (y ∷ ys)))
unfolding each
next_each read xs i x inside is = rw (drop-cons xs i x inside, ← is, add-one) refl

pub no_more_each : {A B E : Type 0} (read : A → Result B E) (xs : List A) (i : ℕ) → length xs ≤ i
    → each read (drop i xs) ≡ Ok []
unfolding each
no_more_each read xs i past = rw (drop_of_length-le xs past) refl

pub next_passes : {A E : Type 0} (check : A → Result (Unit {0}) E) (xs : List A) (i : ℕ) (x : A) → i < length xs
    → x ≡ slice_index_or xs i x
    → each_passes check (drop i xs) ≡ check x >>= (λ _. each_passes check (drop (i + 1) xs))
unfolding each_passes
next_passes check xs i x inside is = rw (drop-cons xs i x inside, ← is, add-one) refl

pub no_more_passes : {A E : Type 0} (check : A → Result (Unit {0}) E) (xs : List A) (i : ℕ) → length xs ≤ i
    → each_passes check (drop i xs) ≡ Ok tt
unfolding each_passes
no_more_passes check xs i past = rw (drop_of_length-le xs past) refl

-- the whole, once all elements are read
pub all_read : {A E : Type 0} (whole here : Result (List A) E) (xs : List A) → whole ≡ with_prefix xs here
    → here ≡ Ok [] → whole ≡ Ok xs
all_read whole here xs so_far last = so_far ∙ (ap (with_prefix xs) last ∙ ap (λ ys. Ok ys) (append-nil xs))

-- two steps that gave a value gave one in each step
pub bound : {A B E : Type 0} (first : Result A E) (then : A → Result B E) (y : B) → first >>= then ≡ Ok y
    → (x : A) × (first ≡ Ok x) × (then x ≡ Ok y)
bound (Ok x) then y is = (x, refl, is)
bound (Err e) then y is = err_is_no_ok is

-- ---- failures

module _ {E : Type 0} (memory : E) where
  -- a failure is also one of another reader that has the same faults
  pub fails_weaker : (P Q : E → Type 0) (e : E) → ((f : E) → P f → Q f) → Fails memory P e → Fails memory Q e
  fails_weaker P Q e weaker fails = elim fails [
    | inl is ↦ inl is
    | inr fault ↦ inr (weaker e fault)
  ]

  -- a fault of a part is the fault of the whole
  pub fails_through : {A B : Type 0} (e : E) (part : Result A E) (whole : Result B E)
      → ((f : E) → part ≡ Err f → whole ≡ Err f)
      → Fails memory (IsFault part) e → Fails memory (IsFault whole) e
  fails_through e part whole through fails = fails_weaker (IsFault part) (IsFault whole) e through fails

  -- what `?` answers at a failure
  pub handed_on : {A : Type 0} (Is : A → Type 0) (P : E → Type 0) (r : Result A E) (e : E)
      → IsErrAnd r (λ f. f ≡ e) → Fails memory P e → Gives memory Is P r
  handed_on Is P (Ok x) e is fails = absurd is
  handed_on Is P (Err f) e is fails = subst (Fails memory P) (sym is) fails

  pub if_err_handed : {A : Type 0} (P : E → Type 0) (r : Result A E) (e : E)
      → IsErrAnd r (λ f. f ≡ e) → Fails memory P e → IfErr r (Fails memory P)
  if_err_handed P (Ok x) e is fails = tt
  if_err_handed P (Err f) e is fails = subst (Fails memory P) (sym is) fails

  pub if_err_weaker : {A : Type 0} (P Q : E → Type 0) (r : Result A E) → ((f : E) → P f → Q f)
      → IfErr r (Fails memory P) → IfErr r (Fails memory Q)
  if_err_weaker P Q (Ok x) weaker is = tt
  if_err_weaker P Q (Err e) weaker is = fails_weaker P Q e weaker is

  -- the whole fails where the next element fails
  pub fails_here : {A : Type 0} (whole here rest : Result (List A) E) (next : Result A E) (xs : List A) (e : E)
      → whole ≡ with_prefix xs here → here ≡ next >>= (λ y. rest >>= (λ ys. Ok (y ∷ ys)))
      → Fails memory (IsFault next) e
      → Fails memory (IsFault whole) e
  fails_here whole here rest next xs e so_far step fails = fails_through e next whole
      (λ f is. so_far ∙ ap (with_prefix xs) (step ∙ ap (λ r. r >>= (λ y. rest >>= (λ ys. Ok (y ∷ ys)))) is)) fails

  pub fails_here_by : {A B : Type 0} (whole here rest : Result (List A) E) (next : Result B E) (made : B → List A)
      (xs : List A) (e : E)
      → whole ≡ with_prefix xs here → here ≡ next >>= (λ y. rest >>= (λ ys. Ok (made y ++ ys)))
      → Fails memory (IsFault next) e
      → Fails memory (IsFault whole) e
  fails_here_by whole here rest next made xs e so_far step fails = fails_through e next whole
      (λ f is. so_far ∙ ap (with_prefix xs) (step ∙ ap (λ r. r >>= (λ y. rest >>= (λ ys. Ok (made y ++ ys)))) is)) fails

  pub stops_here : {A : Type 0} (whole here rest : Result A E) (next : Result (Unit {0}) E) (e : E)
      → whole ≡ here → here ≡ next >>= (λ _. rest) → Fails memory (IsFault next) e → Fails memory (IsFault whole) e
  stops_here whole here rest next e so_far step fails = fails_through e next whole
      (λ f is. so_far ∙ (step ∙ ap (λ r. r >>= (λ _. rest)) is)) fails
