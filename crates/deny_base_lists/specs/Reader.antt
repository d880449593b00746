-- The result of a reader: the value that is to be read, a fault of the input, or out of memory, which may come
-- anywhere.
use Rattle.std.specs.Prelude.{◌≡◌, ◌⊎◌, List, [], ◌∷◌, Result, Ok, Err, MatchResult}

-- memory ran out, or the input has this fault
abbrev pub Fails : {E : Type 0} → E → (E → Type 0) → E → Type 0
Fails memory P e = (e ≡ memory) ⊎ P e

-- a value of which the fact is true, or a failure
abbrev pub Gives : {A E : Type 0} → E → (A → Type 0) → (E → Type 0) → Result A E → Type 0
Gives memory Is P r = MatchResult r Is (Fails memory P)

-- the result that a function on values gives, a value or the first fault, but that memory may run out
abbrev pub IsValue : {A E : Type 0} → Result A E → A → Type 0
IsValue read x = read ≡ Ok x

abbrev pub IsFault : {A E : Type 0} → Result A E → E → Type 0
IsFault read e = read ≡ Err e

abbrev pub Answers : {A E : Type 0} → E → Result A E → Result A E → Type 0
Answers memory read r = Gives memory (IsValue read) (IsFault read) r

-- a value exactly where a check passes, or a fault of the check
abbrev pub Passes : {A E : Type 0} → E → Result (Unit {0}) E → Result A E → Type 0
Passes memory check r = Gives memory (λ _. IsValue check tt) (IsFault check) r

-- the second step, where the first gave a value
infixl 10 ◌>>=◌
abbrev pub ◌>>=◌ : {A B E : Type 0} → Result A E → (A → Result B E) → Result B E
Ok x >>= f = f x
Err e >>= f = Err e

-- the result of checking the elements one by one: the first fault
unfoldable pub each_passes : {A E : Type 0} → (A → Result (Unit {0}) E) → List A → Result (Unit {0}) E
each_passes check [] = Ok tt
each_passes check (x ∷ xs) = check x >>= (λ _. each_passes check xs)

-- the values of the elements, read one by one, or the first fault
unfoldable pub each : {A B E : Type 0} → (A → Result B E) → List A → Result (List B) E
each read [] = Ok []
each read (x ∷ xs) = read x >>= (λ y. each read xs >>= (λ ys. Ok (y ∷ ys)))
