-- The loop over the pieces of a string, step by step.
use Rattle.std.proofs.Common.{◌≡◌, ℕ, zero, suc, ◌+◌, ◌<◌, ◌≤◌, Bool, true, false, List, [], ◌∷◌, ◌++◌, length, Option}
use Rattle.std.proofs.Common.{Some, None, is_some, option_and_then, Result, refl, sym, ap, ◌∙◌, inl, inr, arith}
use Rattle.std.proofs.Common.{append_assoc, append-nil}
use Rattle.std.proofs.lemmas.Bool.{cases_Bool, true≢false, false≢true}
use Rattle.std.proofs.lemmas.Bool.Decides.{nat_tests}
use Rattle.std.specs.List.{prefix_len}
use Rattle.std.specs.Borrow.{Bor}
use Rattle.deny_base_lists.specs.Reader.{Fails}
use Rattle.deny_base_lists.proofs.ReaderLemmas.{fails_weaker}
use Rattle.deny_toml_grammar.specs.declared.read_error.ReadError.{ReadError}
use Rattle.deny_toml_grammar.specs.declared.read_error.ReadError.TheVariants.{Memory}
use Rattle.deny_toml_grammar.specs.Lexical.{Read, first, is_plain, split_while}
use Rattle.deny_toml_grammar.specs.private.Reading.{Reads, piece_bytes}
use Rattle.deny_toml_grammar.specs.Strings.{special, prepend, after_piece, content}

-- a result that fits one reader fits an equal one
pub reads_same : {A : Type 0} (r : Result (A × Bor (List ℕ)) ReadError) (one other : Read A) → one ≡ other
    → Reads r other → Reads r one
reads_same r one other same reads = rw same reads

-- a failure of one reader is a failure of another that gives nothing where the first gives nothing
pub fails_with : {A B : Type 0} (e : ReadError) (one : Option A) (other : Option B) → (one ≡ None → other ≡ None)
    → Fails Memory (λ _. one ≡ None) e → Fails Memory (λ _. other ≡ None) e
fails_with e one other then fails = fails_weaker Memory (λ _. one ≡ None) (λ _. other ≡ None) e (λ _. then) fails

pub prepend-nil : (r : Read (List ℕ)) → prepend [] r ≡ r
prepend-nil None = refl
prepend-nil (Some p) = refl

prepend-prepend : (xs ys : List ℕ) (r : Read (List ℕ)) → prepend xs (prepend ys r) ≡ prepend (xs ++ ys) r
prepend-prepend xs ys None = refl
prepend-prepend xs ys (Some p) = rw (append_assoc xs ys p.0)

-- the content from a byte on that is not plain
abbrev after_special : ℕ → Bool → ℕ → List ℕ → Read (List ℕ)
after_special delimiter multi n text = option_and_then (λ p. after_piece (content delimiter multi n) p.0 p.1)
    (special delimiter multi text)

pub content_zero : (delimiter : ℕ) (multi : Bool) (text : List ℕ) → content delimiter multi 0 text ≡ None
unfolding content
content_zero delimiter multi text = refl

pub content_plain : (delimiter : ℕ) (multi : Bool) (n c : ℕ) (cs : List ℕ) → is_plain delimiter multi c ≡ true
    → content delimiter multi (suc n) (c ∷ cs) ≡ prepend (c ∷ []) (content delimiter multi n cs)
unfolding content
content_plain delimiter multi n c cs h = rw h

pub content_special : (delimiter : ℕ) (multi : Bool) (n : ℕ) (text : List ℕ)
    → is_plain delimiter multi (first text) ≡ false
    → content delimiter multi (suc n) text ≡ after_special delimiter multi n text
unfolding content
content_special delimiter multi n text h = rw h

-- the plain bytes at the start are kept as they are
content_run : (delimiter : ℕ) (multi : Bool) (text : List ℕ) (n : ℕ) → length text < n
    → let parts = split_while (is_plain delimiter multi) text in
    (m : ℕ) × (length parts.1 ≤ m) × (content delimiter multi n text ≡ prepend parts.0
    (after_special delimiter multi m parts.1))
content_run delimiter multi text zero h = absurd (omega arith)
content_run delimiter multi [] (suc n) h = (
  n,
  omega arith,
  content_special delimiter multi n []
      (grind (arith, nat_tests)) ∙ sym (prepend-nil _),
)
content_run delimiter multi (c ∷ cs) (suc n) h =
    elim (cases_Bool (is_plain delimiter multi c)) [
      | inl plain ↦
          let (m, room, more) = content_run delimiter multi cs n (omega arith) in
          let k = prefix_len (is_plain delimiter multi) cs in
          let next : 1 + k ≡ suc k = omega arith in
          rw (plain, next) (
            m,
            room,
            content_plain delimiter multi n c cs plain ∙ ap (prepend (c ∷ [])) more
                ∙ prepend-prepend (c ∷ []) _ _,
          )
      | inr other ↦ rw other (n, omega arith, content_special delimiter multi n (c ∷ cs) other ∙ sym (prepend-nil _))
    ]

-- the loop has read `out` and continues at `rest`
abbrev pub HasRead : ℕ → Bool → ℕ → List ℕ → List ℕ → List ℕ → Type 0
HasRead delimiter multi n text out rest = (m : ℕ) × (length rest < m)
    × (content delimiter multi n text ≡ prepend out (content delimiter multi m rest))

-- the state after one step of the loop
turn_some : (delimiter : ℕ) (multi : Bool) (n : ℕ) (text out rest plain after : List ℕ) (piece : Option (List ℕ))
    (next : List ℕ)
    → HasRead delimiter multi n text out rest → (plain, after) ≡ split_while (is_plain delimiter multi) rest
    → special delimiter multi after ≡ Some (piece, next)
    → (m : ℕ) × (length after ≤ m) × (content delimiter multi n text ≡ prepend (out ++ plain)
    (after_piece (content delimiter multi m) piece next))
turn_some delimiter multi n text out rest plain after piece next h parts e =
    let (m, room, loop) = h in
    let (k, fits, run) = content_run delimiter multi rest m room in
    let prefix : plain ≡ (split_while (is_plain delimiter multi) rest).0 = ap (λ p. p.0) parts in
    let back : after ≡ (split_while (is_plain delimiter multi) rest).1 = ap (λ p. p.1) parts in
    (k, rw back fits, loop ∙ ap (prepend out) run ∙ prepend-prepend out _ _ ∙ rw (← prefix, ← back, e))

pub turn_done : (delimiter : ℕ) (multi : Bool) (n : ℕ) (text out rest plain after : List ℕ) (piece : Option (List ℕ))
    (next : List ℕ)
    → HasRead delimiter multi n text out rest → (plain, after) ≡ split_while (is_plain delimiter multi) rest
    → special delimiter multi after ≡ Some (piece, next) → false ≡ is_some piece
    → content delimiter multi n text ≡ Some ((out ++ plain) ++ piece_bytes piece, next)
turn_done delimiter multi n text out rest plain after None next h parts e flag =
    let (m, fits, whole) = turn_some delimiter multi n text out rest plain after None next h parts e in
    whole
turn_done delimiter multi n text out rest plain after (Some b) next h parts e flag = absurd (false≢true flag)

pub turn_more : (delimiter : ℕ) (multi : Bool) (n : ℕ) (text out rest plain after : List ℕ) (piece : Option (List ℕ))
    (next : List ℕ)
    → HasRead delimiter multi n text out rest → (plain, after) ≡ split_while (is_plain delimiter multi) rest
    → special delimiter multi after ≡ Some (piece, next) → true ≡ is_some piece
    → (m : ℕ) × (length after ≤ m) × (content delimiter multi n text ≡ prepend ((out ++ plain) ++ piece_bytes piece)
    (content delimiter multi m next))
turn_more delimiter multi n text out rest plain after None next h parts e flag = absurd (true≢false flag)
turn_more delimiter multi n text out rest plain after (Some b) next h parts e flag =
    let (m, fits, whole) = turn_some delimiter multi n text out rest plain after (Some b) next h parts e in
    (m, fits, whole ∙ prepend-prepend (out ++ plain) b _)

pub turn_none : (delimiter : ℕ) (multi : Bool) (n : ℕ) (text out rest plain after : List ℕ)
    → HasRead delimiter multi n text out rest → (plain, after) ≡ split_while (is_plain delimiter multi) rest
    → special delimiter multi after ≡ None
    → content delimiter multi n text ≡ None
turn_none delimiter multi n text out rest plain after h parts e =
    let (m, room, loop) = h in
    let (k, fits, run) = content_run delimiter multi rest m room in
    let prefix : plain ≡ (split_while (is_plain delimiter multi) rest).0 = ap (λ p. p.0) parts in
    let back : after ≡ (split_while (is_plain delimiter multi) rest).1 = ap (λ p. p.1) parts in
    loop ∙ ap (prepend out) run ∙ rw (← prefix, ← back, e)

-- the content of a string in which every byte is plain
pub content_closed : (delimiter : ℕ) (multi : Bool) (n : ℕ) (text plain after rest : List ℕ) → length text < n
    → (plain, after) ≡ split_while (is_plain delimiter multi) text → special delimiter multi after ≡ Some (None, rest)
    → content delimiter multi n text ≡ Some (plain, rest)
content_closed delimiter multi n text plain after rest room parts e =
    let (k, fits, run) = content_run delimiter multi text n room in
    let prefix : plain ≡ (split_while (is_plain delimiter multi) text).0 = ap (λ p. p.0) parts in
    let back : after ≡ (split_while (is_plain delimiter multi) text).1 = ap (λ p. p.1) parts in
    run ∙ rw (← prefix, ← back, e) (ap (λ xs. Some (xs, rest)) (append-nil plain))
