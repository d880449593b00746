-- The head, the offsets and the entries of a table.
use Rattle.std.proofs.Common.{◌≡◌, ℕ, zero, suc, ◌+◌, ◌-◌, ◌*◌, ◌<◌, ◌≤◌, ◌==◌, ◌||◌, ◌&&◌, nat_lt, nat_le, Bool, true}
use Rattle.std.proofs.Common.{false, List, [], ◌∷◌, length, Option, Some, None, Result, Ok, Err, refl, sym, ap, ◌∙◌}
use Rattle.std.proofs.Common.{arith, subst, inl, inr}
use Rattle.std.specs.Result.{result_unwrap_or}
use Rattle.std.proofs.Math.Nat.{eq-or-lt_of_le}
use Rattle.std.proofs.lemmas.Bool.{ltb-true}
use Rattle.std.proofs.lemmas.Bool.Decides.{nat_tests}
use Rattle.deny_std_table.specs.declared.error.ReplacementError.{ReplacementError}
use Rattle.deny_std_table.specs.declared.spans.TextSpan.{TextSpan}
use Rattle.deny_base_lists.specs.Reader.{◌>>=◌}
use Rattle.deny_std_table.specs.Reading.{◌>>◌, unless_bad}
use Rattle.deny_std_table.specs.private.Reading.{done_of}
use Rattle.deny_std_table.specs.Region.{bounds}
use Rattle.deny_std_table.specs.Head.{start_of, is_offset, IsOffset, HasOffsets, offsets, header, count_of}
use Rattle.deny_std_table.specs.Entries.{stop_of, Entry, entry, bounds_of, entries}
use Rattle.deny_std_table.specs.private.Entries.{name_of}
use Rattle.deny_std_table.specs.Table.{table, IsRead}

-- a test that breaks nothing holds
unless_bad-ok : (test : Bool) (offset : ℕ) → unless_bad test offset ≡ Ok tt → test ≡ true
unless_bad-ok true offset is = refl
unless_bad-ok false offset is = cc

four_tests : (a b c d : Bool) → (a && b && c && d) ≡ true → (a ≡ true) × (b ≡ true) × (c ≡ true) × (d ≡ true)
four_tests true true true true is = (refl, refl, refl, refl)
four_tests false b c d is = cc
four_tests true false c d is = cc
four_tests true true false d is = cc
four_tests true true true false is = cc

offset_facts : (whole_end size head start before i : ℕ)
    → (nat_le whole_end size && nat_le head start && (i == 0 || nat_lt before start) && nat_lt start size) ≡ true
    → (whole_end ≤ size) × (head ≤ start) × (0 < i → before < start) × (start < size)
offset_facts whole_end size head start before i is =
    let parts = four_tests (nat_le whole_end size) (nat_le head start) (i == 0 || nat_lt before start)
    (nat_lt start size) is in
    let whole : nat_le whole_end size ≡ true = parts.0 in
    let after : nat_le head start ≡ true = parts.1 in
    let rises : (i == 0 || nat_lt before start) ≡ true = parts.2 in
    let below : nat_lt start size ≡ true = parts.3 in
    (grind (arith, nat_tests), grind (arith, nat_tests), λ some. grind (arith, nat_tests), ltb-true start size below)

is_offset-true : (bytes : List ℕ) (count i : ℕ) → is_offset bytes count i ≡ true → IsOffset bytes count i
is_offset-true bytes count i is =
    let facts = offset_facts (8 + 4 * i + 4) (length bytes) (8 + 4 * count) (start_of bytes i) (start_of bytes (i - 1))
    i is in
    record { whole = facts.0; after_head = facts.1; rises = facts.2; below = facts.3 }

-- one offset passes, and the others follow
pub offsets-more : (bytes : List ℕ) (count i left now : ℕ) → left + 1 ≡ now
    → unless_bad (is_offset bytes count i) (8 + 4 * i) ≡ Ok tt
    → offsets bytes count i now ≡ offsets bytes count (i + 1) left
unfolding offsets
offsets-more bytes count i left now is holds =
    let e : suc left ≡ now = omega arith in
    let one : offsets bytes count i (suc left) ≡ offsets bytes count (i + 1) left = ap
    (λ r. r >> offsets bytes count (i + 1) left) holds in
    subst (λ n. offsets bytes count i n ≡ offsets bytes count (i + 1) left) e one

pub offsets-break : (bytes : List ℕ) (count i left now : ℕ) (e : ReplacementError) → left + 1 ≡ now
    → unless_bad (is_offset bytes count i) (8 + 4 * i) ≡ Err e → offsets bytes count i now ≡ Err e
unfolding offsets
offsets-break bytes count i left now e is broken =
    let is_suc : suc left ≡ now = omega arith in
    let one : offsets bytes count i (suc left) ≡ Err e = ap (λ r. r >> offsets bytes count (i + 1) left) broken in
    subst (λ n. offsets bytes count i n ≡ Err e) is_suc one

pub offsets-none : (bytes : List ℕ) (count i left : ℕ) → left ≡ 0 → offsets bytes count i left ≡ Ok tt
unfolding offsets
offsets-none bytes count i left is = subst (λ n. offsets bytes count i n ≡ Ok tt) (sym is) refl

first_offset : (bytes : List ℕ) (count i left : ℕ) (r : Result (Unit {0}) ReplacementError)
    → (r >> offsets bytes count (i + 1) left) ≡ Ok tt → (r ≡ Ok tt) × (offsets bytes count (i + 1) left ≡ Ok tt)
first_offset bytes count i left (Ok tt) is = (refl, is)
first_offset bytes count i left (Err e) is = cc

-- each of the offsets that were checked passes
offsets-ok : (bytes : List ℕ) (count i left : ℕ) → offsets bytes count i left ≡ Ok tt
    → (k : ℕ) → i ≤ k → k < i + left → IsOffset bytes count k
unfolding offsets
offsets-ok bytes count i zero is k from to = absurd (omega arith)
offsets-ok bytes count i (suc left) is k from to =
    let both = first_offset bytes count i left (unless_bad (is_offset bytes count i) (8 + 4 * i)) is in
    let here : IsOffset bytes count i = is_offset-true bytes count i
    (unless_bad-ok (is_offset bytes count i) (8 + 4 * i) both.0) in
    elim (eq-or-lt_of_le from) [
      | inl same ↦ subst (λ n. IsOffset bytes count n) same here
      | inr later ↦ offsets-ok bytes count (i + 1) left both.1 k (omega arith) (omega arith)
    ]

pub offsets-all : (bytes : List ℕ) (count : ℕ) → offsets bytes count 0 count ≡ Ok tt → HasOffsets bytes count
offsets-all bytes count is = record
    { each = λ i below. offsets-ok bytes count 0 count is i (omega arith) (omega arith) }

done_entries : (r : Result Entry ReplacementError) (e : ReplacementError) (later : Entry
    → Result (List Entry) ReplacementError)
    → name_of r ≡ Err e → done_of (r >>= (λ first. later first >>= (λ others. Ok (first ∷ others)))) ≡ Err e
done_entries (Ok x) e later is = cc
done_entries (Err d) e later is = cc

done_cons : (x : Entry) (r : Result (List Entry) ReplacementError)
    → done_of (r >>= (λ others. Ok (x ∷ others))) ≡ done_of r
done_cons x (Ok es) = refl
done_cons x (Err e) = refl

done_more : (r : Result Entry ReplacementError) (name : TextSpan) (later : TextSpan
    → Result (List Entry) ReplacementError)
    → name_of r ≡ Ok name
    → done_of (r >>= (λ first. later first.name >>= (λ others. Ok (first ∷ others)))) ≡ done_of (later name)
done_more (Ok x) name later is =
    let same : x.name ≡ name = cc in
    done_cons x (later x.name) ∙ ap (λ n. done_of (later n)) same
done_more (Err e) name later is = cc

-- an entry breaks
pub entries-break : (width : ℕ) (bytes : List ℕ) (count : ℕ) (before : Option TextSpan) (i left now : ℕ)
    (e : ReplacementError)
    → left + 1 ≡ now → name_of (entry (bounds_of width bytes count i) before (start_of bytes i)) ≡ Err e
    → done_of (entries width bytes count before i now) ≡ Err e
unfolding entries
entries-break width bytes count before i left now e is broken =
    let is_suc : suc left ≡ now = omega arith in
    subst (λ n. done_of (entries width bytes count before i n) ≡ Err e) is_suc
    (done_entries (entry (bounds_of width bytes count i) before (start_of bytes i)) e
    (λ first. entries width bytes count (Some first.name) (i + 1) left) broken)

-- an entry is read, and the others follow
pub entries-more : (width : ℕ) (bytes : List ℕ) (count : ℕ) (before : Option TextSpan) (i left now : ℕ)
    (name : TextSpan)
    → left + 1 ≡ now → name_of (entry (bounds_of width bytes count i) before (start_of bytes i)) ≡ Ok name
    → done_of (entries width bytes count before i now) ≡ done_of (entries width bytes count (Some name) (i + 1) left)
unfolding entries
entries-more width bytes count before i left now name is holds =
    let is_suc : suc left ≡ now = omega arith in
    subst (λ n. done_of (entries width bytes count before i n) ≡ done_of
    (entries width bytes count (Some name) (i + 1) left)) is_suc
    (done_more (entry (bounds_of width bytes count i) before (start_of bytes i)) name
    (λ first. entries width bytes count (Some first) (i + 1) left) holds)

pub entries-none : (width : ℕ) (bytes : List ℕ) (count : ℕ) (before : Option TextSpan) (i left : ℕ)
    → left ≡ 0 → done_of (entries width bytes count before i left) ≡ Ok tt
unfolding entries
entries-none width bytes count before i left is =
    subst (λ n. done_of (entries width bytes count before i n) ≡ Ok tt) (sym is) refl

-- the entry that was checked is the one in its region
pub name_of-region : (width of_width : ℕ) (bytes of_region : List ℕ) (count i stop at : ℕ) (before : Option TextSpan)
    (r : Result TextSpan ReplacementError) → of_width ≡ width → of_region ≡ bytes → stop ≡ stop_of bytes count i
    → at ≡ start_of bytes i → r ≡ name_of (entry (bounds of_width of_region stop) before at)
    → name_of (entry (bounds_of width bytes count i) before (start_of bytes i)) ≡ r
name_of-region width of_width bytes of_region count i stop at before r wide same ends begins is =
    rw (← begins, ← ends, ← same, ← wide) (sym is)

-- a span that was read in a region lies in the bytes
pub span_in-region : (bytes of_region : List ℕ) (read here : TextSpan) → of_region ≡ bytes
    → read.at + read.size ≤ length of_region → Some read ≡ Some here → here.at + here.size ≤ length bytes
span_in-region bytes of_region read here same inside is =
    let one : read ≡ here = cc in
    rw (← same, ← one) inside

-- the steps of a table, each where those before it succeed
pub table-header : (bytes : List ℕ) (e : ReplacementError) → header bytes ≡ Err e → table bytes ≡ Err e
unfolding table
table-header bytes e h = rw h refl

pub table-count : (width : ℕ) (bytes : List ℕ) (e : ReplacementError) → header bytes ≡ Ok width → count_of bytes ≡ Err e
    → table bytes ≡ Err e
unfolding table
table-count width bytes e h c = rw (h, c) refl

pub table-offsets : (width : ℕ) (bytes : List ℕ) (count : ℕ) (e : ReplacementError) → header bytes ≡ Ok width
    → count_of bytes ≡ Ok count
    → offsets bytes count 0 count ≡ Err e → table bytes ≡ Err e
unfolding table
table-offsets width bytes count e h c o = rw (h, c, o) refl

table-entries : (width : ℕ) (bytes : List ℕ) (count : ℕ) → header bytes ≡ Ok width → count_of bytes ≡ Ok count
    → offsets bytes count 0 count ≡ Ok tt → table bytes ≡ entries width bytes count None 0 count
unfolding table
table-entries width bytes count h c o = rw (h, c, o) refl

done-err : {A : Type 0} (r : Result A ReplacementError) (e : ReplacementError) → done_of r ≡ Err e → r ≡ Err e
done-err (Ok x) e is = cc
done-err (Err d) e is = let same : d ≡ e = cc in ap Err same

done-ok : {A : Type 0} (r : Result A ReplacementError) (other : A) → done_of r ≡ Ok tt
    → r ≡ Ok (result_unwrap_or r other)
done-ok (Ok x) other is = refl
done-ok (Err d) other is = cc

pub table-bad : (width : ℕ) (bytes : List ℕ) (count : ℕ) (e : ReplacementError) → header bytes ≡ Ok width
    → count_of bytes ≡ Ok count
    → offsets bytes count 0 count ≡ Ok tt → done_of (entries width bytes count None 0 count) ≡ Err e
    → table bytes ≡ Err e
table-bad width bytes count e h c o es = table-entries width bytes count h c o
    ∙ done-err (entries width bytes count None 0 count) e es

pub entries-read : (width : ℕ) (bytes : List ℕ) (count : ℕ) → header bytes ≡ Ok width → count_of bytes ≡ Ok count
    → offsets bytes count 0 count ≡ Ok tt → done_of (entries width bytes count None 0 count) ≡ Ok tt
    → IsRead width bytes count
entries-read width bytes count h c o es =
    let read = done-ok (entries width bytes count None 0 count) [] es in
    record {
      offsets = offsets-all bytes count o;
      entries = read;
      whole = table-entries width bytes count h c o ∙ read;
    }
