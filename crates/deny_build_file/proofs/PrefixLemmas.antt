-- A prefix is read in place, and one that is enough determines what the whole file is.
use Rattle.std.proofs.Common.{◌≡◌, ◌⊎◌, inl, inr, ℕ, suc, ◌+◌, ◌-◌, ◌<◌, ◌≤◌, Bool, true, false, not, ◌&&◌, ◌||◌, cond}
use Rattle.std.proofs.Common.{List, [], ◌∷◌, ◌++◌, length, take, drop, Option, None, Some, option_map, option_and_then}
use Rattle.std.proofs.Common.{IfSome, refl, sym, ap, subst, ◌∙◌, arith, rules, length-append, nat_lt, nat_eq, nat_le}
use Rattle.std.proofs.Common.{codes, position}
use Rattle.std.proofs.Math.Seq.{take-append-add}
use Rattle.std.proofs.lemmas.Bool.{false≢true, lt-ltb, le-ltb}
use Rattle.std.proofs.lemmas.Bool.Decides.{leb_tells}
use Rattle.std.proofs.lemmas.List.{take-append-le, take-append-drop, take_all, length-take-le}
use Rattle.std.specs.Cmp.Lexicographic.{pointwise}
use Rattle.std.specs.List.{list_any, position_or_len}
use Rattle.deny_base_disk.specs.Count.{counted}
use Rattle.deny_base_disk.specs.Disk.{Disk, Files, IsLater, IsPieceOf, bytes_at}
use Rattle.deny_base_disk.specs.Read.{IsReading}
use Rattle.deny_base_disk.proofs.PieceLemmas.{later_same, reading_more}
use Rattle.deny_build_file.specs.Header.{executable_in, executable_by, native_kind}
use Rattle.deny_build_file.specs.Script.{begins, is_newline, line_in, first_line, interpreter_by, interpreter_in}
use Rattle.deny_spec.specs.declared.package.ExecutableKind.{ExecutableKind}
use Rattle.deny_build_file.specs.private.Prefix.{IsDecisivePrefix, is_enough, is_open_script}

-- before the first piece nothing was read
none_read : (known : Option Files) (path : List ℕ) → IfSome known (λ files. [] ≡ take 0 (bytes_at files path))
none_read None path = tt
none_read (Some files) path = refl

pub nothing_read : (start : Disk) (path : List ℕ) → IsReading start start path []
nothing_read start path = record {
  later = later_same start;
  given = omega arith;
  once = omega arith;
  faults = refl;
  text = none_read start.files path;
}

-- the piece that was read follows the first `at` bytes of the buffer, which are a prefix of the text
pub reading_in_place : (start old new : Disk) (path buffer piece rest : List ℕ) (at n : ℕ) → at ≤ length buffer
    → n ≤ length piece → IsReading start old path (take at buffer) → IsLater old new
    → new.given ≡ counted old.given n → new.faults ≡ old.faults
    → IfSome old.files (λ files. IsPieceOf (bytes_at files path) at n piece)
    → IsReading start new path (take (at + n) (take at buffer ++ (piece ++ rest)))
reading_in_place start old new path buffer piece rest at n inside fits reading later given same next =
    let prefix = take at buffer in
    let long : length prefix ≡ at = length-take-le at buffer inside in
    let filled : take (at + n) (prefix ++ (piece ++ rest)) ≡ prefix ++ take n piece
    = ap (λ k. take (k + n) (prefix ++ (piece ++ rest))) (sym long)
    ∙ (take-append-add prefix (piece ++ rest) n ∙ ap (λ bytes. prefix ++ bytes) (take-append-le n piece rest fits)) in
    subst (IsReading start new path) (sym filled)
    (reading_more start old new path prefix piece at n fits (sym long) reading later given same next)

-- where one passes, the first that passes does not depend on what follows
first_step : (this any : Bool) (long short count : ℕ) → (any ≡ true → (long ≡ short) × (short < count))
    → this || any ≡ true
    → (cond (not this) (1 + long) 0 ≡ cond (not this) (1 + short) 0) × (cond (not this) (1 + short) 0 < suc count)
first_step true any long short count same e = (refl, omega arith)
first_step false any long short count same e =
    let rest = same e in (ap (λ n. 1 + n) rest.0, omega (arith, rest.1))

first_stays : (test : ℕ → Bool) (xs ys : List ℕ) → list_any test xs ≡ true
    → (position_or_len test (xs ++ ys) ≡ position_or_len test xs) × (position_or_len test xs < length xs)
first_stays test [] ys any = absurd (false≢true any)
first_stays test (x ∷ xs) ys any =
    first_step (test x) (list_any test xs) (position_or_len test (xs ++ ys)) (position_or_len test xs) (length xs)
    (first_stays test xs ys) any

position_is : (test : ℕ → Bool) (xs : List ℕ) (k : ℕ) → position_or_len test xs ≡ k → k < length xs
    → position test xs ≡ Some k
position_is test xs k is below =
    let inside : nat_lt (position_or_len test xs) (length xs) ≡ true
    = lt-ltb (position_or_len test xs) (length xs) (omega (arith, is, below)) in
    (λ i. cond (inside i) (Some (is i)) None)

line_same : (prefix more : List ℕ) → list_any is_newline prefix ≡ true → line_in (prefix ++ more) ≡ line_in prefix
line_same prefix more any =
    let stays = first_stays is_newline prefix more any in
    let k = position_or_len is_newline prefix in
    let here : position is_newline prefix ≡ Some k = position_is is_newline prefix k refl stays.1 in
    let there : position is_newline (prefix ++ more) ≡ Some k
    = position_is is_newline (prefix ++ more) k stays.0 (omega (arith, stays.1, length-append prefix more)) in
    ap (option_map (λ end. take end (prefix ++ more))) there
    ∙ (ap Some (take-append-le k prefix more (omega (arith, stays.1)))
    ∙ sym (ap (option_map (λ end. take end prefix)) here))

first_line_stays : (prefix rest : List ℕ)
    → (256 ≤ length prefix) ⊎ ((length prefix ≤ 256) × (list_any is_newline prefix ≡ true))
    → first_line (prefix ++ rest) ≡ first_line prefix
unfolding first_line
first_line_stays prefix rest (inl long) = ap line_in (take-append-le 256 prefix rest long)
first_line_stays prefix rest (inr (short, any)) =
    let room = 256 - length prefix in
    let whole : 256 ≡ length prefix + room = omega (arith, short) in
    ap line_in (ap (λ n. take n (prefix ++ rest)) whole ∙ take-append-add prefix rest room)
    ∙ (line_same prefix (take room rest) any ∙ ap line_in (sym (take_all 256 prefix short)))

has_ended : (script ended : Bool) → script && not ended ≡ false → script ≡ true → ended ≡ true
has_ended true true closed is = refl
has_ended true false closed is = sym closed
has_ended false ended closed is = absurd (false≢true is)

line_ends : (prefix : List ℕ) → begins prefix (codes "#!") ≡ true
    → (256 ≤ length prefix) ⊎ ((length prefix ≤ 256) × (is_open_script prefix ≡ false))
    → (256 ≤ length prefix) ⊎ ((length prefix ≤ 256) × (list_any is_newline prefix ≡ true))
line_ends prefix is (inl long) = inl long
line_ends prefix is (inr (short, closed)) =
    inr (short, has_ended (begins prefix (codes "#!")) (list_any is_newline prefix) closed is)

script_same : (script : Bool) (x y : Option (List ℕ)) → (script ≡ true → x ≡ y)
    → cond script x None ≡ cond script y None
script_same true x y same = same refl
script_same false x y same = refl

interpreter_stays : (path prefix rest : List ℕ) → 16 ≤ length prefix
    → (256 ≤ length prefix) ⊎ ((length prefix ≤ 256) × (is_open_script prefix ≡ false))
    → interpreter_in path (prefix ++ rest) ≡ interpreter_in path prefix
unfolding interpreter_in
interpreter_stays path prefix rest long enough =
    let same : begins (prefix ++ rest) (codes "#!") ≡ begins prefix (codes "#!")
    = ap (λ xs. pointwise nat_eq (codes "#!") xs) (take-append-le 2 prefix rest (omega (arith, long))) in
    let named : List ℕ → Option (List ℕ) = λ bytes. option_and_then (interpreter_by path) (first_line bytes) in
    (λ i. cond (same i) (named (prefix ++ rest)) None)
    ∙ script_same (begins prefix (codes "#!")) (named (prefix ++ rest)) (named prefix)
    (λ is. ap (option_and_then (interpreter_by path)) (first_line_stays prefix rest (line_ends prefix is enough)))

closed_by : (full some cut : Bool) → full ≡ false → full || (some && not cut) ≡ true → cut ≡ false
closed_by true some cut is e = absurd (false≢true (sym is))
closed_by false false cut is e = absurd (false≢true e)
closed_by false true true is e = absurd (false≢true e)
closed_by false true false is e = refl

some_by : (full some cut : Bool) → full ≡ false → full || (some && not cut) ≡ true → some ≡ true
some_by true some cut is e = absurd (false≢true (sym is))
some_by false false cut is e = e
some_by false true cut is e = refl

enough_by : (n : ℕ) (full some cut : Bool) → ((full ≡ true) × (256 ≤ n)) ⊎ ((full ≡ false) × (n < 256))
    → ((some ≡ true) × (16 ≤ n)) ⊎ ((some ≡ false) × (n < 16)) → full || (some && not cut) ≡ true
    → (16 ≤ n) × ((256 ≤ n) ⊎ ((n ≤ 256) × (cut ≡ false)))
enough_by n full some cut (inl (is, long)) has e = (omega (arith, long), inl long)
enough_by n full some cut (inr (is, short)) (inl (has, long)) e =
    (long, inr (omega (arith, short), closed_by full some cut is e))
enough_by n full some cut (inr (is, short)) (inr (has, few)) e =
    absurd (false≢true (sym has ∙ some_by full some cut is e))

enough_is : (prefix : List ℕ) → is_enough prefix ≡ true
    → (16 ≤ length prefix) × ((256 ≤ length prefix) ⊎ ((length prefix ≤ 256) × (is_open_script prefix ≡ false)))
unfolding is_enough
enough_is prefix enough =
    enough_by (length prefix) (nat_le 256 (length prefix)) (nat_le 16 (length prefix)) (is_open_script prefix)
    (leb_tells 256 (length prefix)) (leb_tells 16 (length prefix)) enough

executable_long : (exclude_archives : Bool) (path bytes : List ℕ) → 16 ≤ length bytes
    → executable_in exclude_archives path bytes
    ≡ executable_by exclude_archives (native_kind (take 16 bytes)) (interpreter_in path bytes)
unfolding executable_in
executable_long exclude_archives path bytes long = (λ i. cond (le-ltb (length bytes) 16 long i) None
    (executable_by exclude_archives (native_kind (take 16 bytes)) (interpreter_in path bytes)))

executable_stays : (exclude_archives : Bool) (path prefix rest : List ℕ) → is_enough prefix ≡ true
    → executable_in exclude_archives path (prefix ++ rest) ≡ executable_in exclude_archives path prefix
executable_stays exclude_archives path prefix rest enough =
    let is = enough_is prefix enough in
    executable_long exclude_archives path (prefix ++ rest) (omega (arith, is.0, length-append prefix rest))
    ∙ ((λ i. executable_by exclude_archives (native_kind (take-append-le 16 prefix rest is.0 i))
    (interpreter_stays path prefix rest is.0 is.1 i))
    ∙ sym (executable_long exclude_archives path prefix is.0))

prefix_decides : (exclude_archives : Bool) (path prefix text : List ℕ) → IsDecisivePrefix prefix text
    → executable_in exclude_archives path prefix ≡ executable_in exclude_archives path text
prefix_decides exclude_archives path prefix text (inl whole) = ap (executable_in exclude_archives path) whole
prefix_decides exclude_archives path prefix text (inr (is, enough)) =
    let rest = drop (length prefix) text in
    sym (executable_stays exclude_archives path prefix rest enough)
    ∙ ap (executable_in exclude_archives path)
    (ap (λ bytes. bytes ++ rest) is ∙ take-append-drop (length prefix) text)

pub kind_reported : (known : Option Files) (exclude_archives : Bool) (path prefix : List ℕ)
    (kind : Option ExecutableKind)
    → kind ≡ executable_in exclude_archives path prefix
    → IfSome known (λ files. IsDecisivePrefix prefix (bytes_at files path))
    → IfSome known (λ files. kind ≡ executable_in exclude_archives path (bytes_at files path))
kind_reported None exclude_archives path prefix kind is told = search rules
kind_reported (Some files) exclude_archives path prefix kind is told =
    is ∙ prefix_decides exclude_archives path prefix (bytes_at files path) told
