-- The elements of an array, as a loop reads them.
use Rattle.std.proofs.Common.{◌≡◌, ℕ, suc, ◌+◌, List, [], ◌∷◌, ◌++◌, length, append_assoc, append-nil, refl, sym, ap}
use Rattle.std.proofs.Common.{subst, ◌∙◌, arith}
use Rattle.std.specs.Fmt.{decimal}
use Rattle.deny_toml_tree.specs.declared.error.ConfigFault.{ConfigFault}
use Rattle.deny_toml_tree.specs.declared.value.Value.{Value}
use Rattle.deny_toml_tree.specs.Faults.{under}
use Rattle.deny_toml.specs.Deserialize.{faults_from, ReadsEach}
use Rattle.deny_toml.specs.private.Deserialize.{Adds}

faults_from-push : (faults_of : Value → List ConfigFault) (vs : List Value) (v : Value) (index : ℕ)
    → faults_from faults_of index (vs ++ v ∷ []) ≡ faults_from faults_of index vs ++ under (decimal (index + length vs))
    (faults_of v)
faults_from-push faults_of [] v index =
    let same : index ≡ index + 0 = omega arith in
    append-nil (under (decimal index) (faults_of v)) ∙ ap (λ n. under (decimal n) (faults_of v)) same
faults_from-push faults_of (w ∷ vs) v index =
    let next : index + 1 + length vs ≡ index + suc (length vs) = omega arith in
    ap (λ rest. under (decimal index) (faults_of w) ++ rest) (faults_from-push faults_of vs v (index + 1))
    ∙ sym (append_assoc (under (decimal index) (faults_of w)) (faults_from faults_of (index + 1) vs)
    (under (decimal (index + 1 + length vs)) (faults_of v)))
    ∙ ap (λ n. (under (decimal index) (faults_of w) ++ faults_from faults_of (index + 1) vs) ++ under (decimal n)
    (faults_of v)) next

ReadsEach-push : {T : Type 0} (Reads : Value → T → Type 0) (vs : List Value) (xs : List T) (v : Value) (x : T)
    → ReadsEach Reads vs xs → Reads v x → ReadsEach Reads (vs ++ v ∷ []) (xs ++ x ∷ [])
ReadsEach-push Reads [] [] v x each one = (one, tt)
ReadsEach-push Reads [] (y ∷ xs) v x each one = absurd each
ReadsEach-push Reads (w ∷ vs) [] v x each one = absurd each
ReadsEach-push Reads (w ∷ vs) (y ∷ xs) v x each one = (each.0, ReadsEach-push Reads vs xs v x each.1 one)

empty_prefix : {A : Type 0} (xs ys : List A) → xs ++ ys ≡ [] → xs ≡ []
empty_prefix [] ys e = refl
empty_prefix (x ∷ xs) ys e = cc e

empty_back : {A : Type 0} (xs ys : List A) → xs ++ ys ≡ [] → ys ≡ []
empty_back [] ys e = e
empty_back (x ∷ xs) ys e = cc e

pub under-none : (name : List ℕ) (faults : List ConfigFault) → under name faults ≡ [] → faults ≡ []
under-none name [] e = refl
under-none name (f ∷ fs) e = cc e

-- the step of the loop that reads one element
pub read_more : {T : Type 0} (faults_of : Value → List ConfigFault) (Reads : Value → T → Type 0) (vs : List Value)
    (index : ℕ) (v : Value)
    (kept faults : List ConfigFault) (items more : List T) → faults ≡ kept ++ under (decimal index) (faults_of v)
    → (kept ≡ [] → ReadsEach Reads vs items) → (faults_of v ≡ [] → Adds Reads v items more)
    → faults ≡ [] → ReadsEach Reads (vs ++ v ∷ []) more
read_more faults_of Reads vs index v kept faults items more e each one none =
    let joined : kept ++ under (decimal index) (faults_of v) ≡ [] = sym e ∙ none in
    let (x, added, read) = one (under-none (decimal index) (faults_of v)
    (empty_back kept (under (decimal index) (faults_of v)) joined)) in
    subst (λ xs. ReadsEach Reads (vs ++ v ∷ []) xs) (sym added)
    (ReadsEach-push Reads vs items v x (each (empty_prefix kept (under (decimal index) (faults_of v)) joined)) read)

pub faults_more : (faults_of : Value → List ConfigFault) (vs : List Value) (index : ℕ) (v : Value)
    (kept faults : List ConfigFault)
    → index ≡ length vs → faults ≡ kept ++ under (decimal index) (faults_of v) → kept ≡ faults_from faults_of 0 vs
    → faults ≡ faults_from faults_of 0 (vs ++ v ∷ [])
faults_more faults_of vs index v kept faults count e so_far =
    let same : length vs ≡ 0 + length vs = omega arith in
    e ∙ ap (λ fs. fs ++ under (decimal index) (faults_of v)) so_far
    ∙ ap (λ n. faults_from faults_of 0 vs ++ under (decimal n) (faults_of v)) (count ∙ same)
    ∙ sym (faults_from-push faults_of vs v 0)
