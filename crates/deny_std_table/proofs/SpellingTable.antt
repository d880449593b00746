-- The bytes of version 2 that are written for a table are read as a table that says the same.
use Rattle.std.proofs.Common.{◌≡◌, ℕ, ◌+◌, ◌-◌, ◌*◌, ◌<◌, ◌≤◌, true, false, nat_lt, List, [], ◌∷◌, ◌++◌, length, take}
use Rattle.std.proofs.Common.{Option, Some, None, Ok, refl, sym, ap, ◌∙◌, arith, subst, append-nil, length-append, inr}
use Rattle.std.specs.Prelude.{flat_map}
use Rattle.std.specs.List.{AllByRecursion}
use Rattle.std.specs.Cmp.Lexicographic.{slice_cmp}
use Rattle.std.specs.Ordering.{nat_cmp}
use Rattle.std.specs.declared.cmp.Ordering.TheVariants.{Less}
use Rattle.std.proofs.lemmas.Bool.Decides.{nat_tests}
use Rattle.deny_std_table.specs.declared.spans.TextSpan.{TextSpan}
use Rattle.deny_std_table.specs.Spans.{contents}
use Rattle.deny_std_table.specs.Reading.{number}
use Rattle.deny_std_table.specs.Region.{bounds}
use Rattle.deny_std_table.specs.Head.{start_of, is_offset, offsets}
use Rattle.deny_std_table.specs.Entries.{Entry, entry, entries, stop_of, bounds_of}
use Rattle.deny_std_table.specs.Table.{table}
use Rattle.deny_std_table.specs.Spelling.{EntryText, entry_text, texts_of, number_bytes, text_bytes, items_bytes}
use Rattle.deny_std_table.specs.Spelling.{entry_bytes, offset_bytes, table_bytes}
use Rattle.deny_std_table.proofs.TableLaw.{IsAbove, entry-complete, header-complete, count-complete, true-is_offset}
use Rattle.deny_std_table.proofs.SpellingLaw.{Holds, holds-first, holds-later, Fits, number-there, EntryFits}
use Rattle.deny_std_table.proofs.SpellingLaw.{entry-there}

-- each name is above the one before it
abbrev pub Rises : List EntryText → Type 0
Rises [] = Unit {0}
Rises (e ∷ []) = Unit {0}
Rises (e ∷ f ∷ es) = (slice_cmp nat_cmp e.name f.name ≡ Less) × Rises (f ∷ es)

-- The entries can be written in version 2.
pub record TableFits (es : List EntryText) : Type 0 where
  pub some : 0 < length es
  pub each : AllByRecursion EntryFits es
  pub rises : Rises es
  pub short : length (table_bytes es) < 4294967296

fits_four : (n : ℕ) → n < 4294967296 → Fits 4 n
fits_four n small = omega arith

-- the name of the first entry is above the one before it, if there is one
FirstAbove : List ℕ → Option TextSpan → List EntryText → Type 0
FirstAbove bytes before [] = Unit {0}
FirstAbove bytes before (e ∷ es) =
    (p : TextSpan) → before ≡ Some p → slice_cmp nat_cmp (contents bytes p) e.name ≡ Less

next_above : (bytes : List ℕ) (span : TextSpan) (e : EntryText) (es : List EntryText) → contents bytes span ≡ e.name
    → Rises (e ∷ es) → FirstAbove bytes (Some span) es
unfolding FirstAbove
next_above bytes span e [] says rises = tt
next_above bytes span e (f ∷ es) says rises = λ p is.
    let same : span ≡ p = cc in
    ap (λ n. slice_cmp nat_cmp n f.name) (ap (contents bytes) (sym same) ∙ says) ∙ rises.0

rises_on : (e : EntryText) (es : List EntryText) → Rises (e ∷ es) → Rises es
rises_on e [] rises = tt
rises_on e (f ∷ es) rises = rises.1

-- The entries from this number on are at their offsets, up to the end, and the offsets are in the head.
record Located (bytes : List ℕ) (count i at : ℕ) (es : List EntryText) : Type 0 where
  pub counted : i + length es ≡ count
  pub offsets_fit : Holds (bounds 2 bytes (length bytes)) (8 + 4 * i) (offset_bytes at es)
  pub entries_hold : Holds (bounds 2 bytes (length bytes)) at (flat_map entry_bytes es)
  pub ends : at + length (flat_map entry_bytes es) ≡ length bytes
  pub after_head : 8 + 4 * count ≤ at
  pub after_before : 0 < i → start_of bytes (i - 1) < at
  pub short : length bytes < 4294967296

some_bytes : (e : EntryText) → 0 < length (entry_bytes e)
unfolding entry_bytes
some_bytes e = let all = length-append (text_bytes e.name) (items_bytes e.items) in omega arith

located_start : (bytes : List ℕ) (count i at : ℕ) (e : EntryText) (es : List EntryText)
    → Located bytes count i at (e ∷ es) → start_of bytes i ≡ at
located_start bytes count i at e es is =
    let ends = is.ends in
    let small = is.short in
    number-there 4 (bounds 2 bytes (length bytes)) (8 + 4 * i) at (fits_four at (omega arith))
    (holds-first (bounds 2 bytes (length bytes)) (8 + 4 * i) (number_bytes 4 at)
    (offset_bytes (at + length (entry_bytes e)) es) is.offsets_fit)

located_on : (bytes : List ℕ) (count i at : ℕ) (e : EntryText) (es : List EntryText)
    → Located bytes count i at (e ∷ es) → Located bytes count (i + 1) (at + length (entry_bytes e)) es
located_on bytes count i at e es is =
    let b = bounds 2 bytes (length bytes) in
    let next = at + length (entry_bytes e) in
    let start = located_start bytes count i at e es is in
    let counted = is.counted in
    let ends = is.ends in
    let head = is.after_head in
    let some = some_bytes e in
    let sizes = length-append (entry_bytes e) (flat_map entry_bytes es) in
    let before : i + 1 - 1 ≡ i = omega arith in
    record {
      counted = omega arith;
      offsets_fit = subst (λ n. Holds b n (offset_bytes next es)) (omega arith)
          (holds-later b (8 + 4 * i) (number_bytes 4 at) (offset_bytes next es) is.offsets_fit);
      entries_hold = holds-later b at (entry_bytes e) (flat_map entry_bytes es) is.entries_hold;
      ends = omega arith;
      after_head = omega arith;
      after_before = λ _. let here : start_of bytes (i + 1 - 1) ≡ at = ap (start_of bytes) before ∙ start in
          omega arith;
      short = is.short;
    }

located_stop : (bytes : List ℕ) (count i at : ℕ) (e : EntryText) (es : List EntryText)
    → Located bytes count i at (e ∷ es) → stop_of bytes count i ≡ at + length (entry_bytes e)
unfolding stop_of
located_stop bytes count i at e [] is =
    let counted = is.counted in
    let ends = is.ends in
    let sizes = length-append (entry_bytes e) [] in
    let last : nat_lt (i + 1) count ≡ false = grind (arith, nat_tests) in
    rw last (omega arith)
located_stop bytes count i at e (f ∷ es) is =
    let counted = is.counted in
    let inner : nat_lt (i + 1) count ≡ true = grind (arith, nat_tests) in
    rw inner (located_start bytes count (i + 1) (at + length (entry_bytes e)) f es
    (located_on bytes count i at e (f ∷ es) is))

located_offset : (bytes : List ℕ) (count i at : ℕ) (e : EntryText) (es : List EntryText)
    → Located bytes count i at (e ∷ es) → is_offset bytes count i ≡ true
located_offset bytes count i at e es is =
    let start = located_start bytes count i at e es is in
    let counted = is.counted in
    let ends = is.ends in
    let head = is.after_head in
    let some = some_bytes e in
    let sizes = length-append (entry_bytes e) (flat_map entry_bytes es) in
    true-is_offset bytes count i (record {
      whole = omega arith;
      after_head = omega arith;
      rises = λ from. let before = is.after_before from in omega arith;
      below = omega arith;
    })

-- What is read of these entries.
record EntriesRead (bytes : List ℕ) (count : ℕ) (before : Option TextSpan) (i : ℕ) (es : List EntryText) : Type 0 where
  pub them : List Entry
  pub offsets_hold : offsets bytes count i (length es) ≡ Ok tt
  pub read : entries 2 bytes count before i (length es) ≡ Ok them
  pub says : texts_of bytes them ≡ es

entry_located : (bytes : List ℕ) (count i at : ℕ) (before : Option TextSpan) (e : EntryText) (es : List EntryText)
    → EntryFits e → FirstAbove bytes before (e ∷ es) → Located bytes count i at (e ∷ es)
    → (x : Entry) × (entry (bounds_of 2 bytes count i) before (start_of bytes i) ≡ Ok x) × (entry_text bytes x ≡ e)
unfolding FirstAbove
entry_located bytes count i at before e es fits above is =
    let stop = located_stop bytes count i at e es is in
    let start = located_start bytes count i at e es is in
    let here : Holds (bounds 2 bytes (stop_of bytes count i)) at (entry_bytes e) =
    record {
      rest = (holds-first (bounds 2 bytes (length bytes)) at (entry_bytes e) (flat_map entry_bytes es)
          is.entries_hold).rest;
      here = (holds-first (bounds 2 bytes (length bytes)) at (entry_bytes e) (flat_map entry_bytes es)
          is.entries_hold).here;
      inside = omega arith;
    } in
    let found = entry-there (bounds 2 bytes (stop_of bytes count i)) at e refl fits here in
    let name : contents bytes found.it.name ≡ e.name = ap (λ (t : EntryText). t.name) found.says in
    let rising : IsAbove bytes before found.it.name =
    record { above = λ p some. ap (slice_cmp nat_cmp (contents bytes p)) name ∙ above p some } in (
      found.it,
      ap (entry (bounds_of 2 bytes count i) before) start
          ∙ entry-complete (bounds_of 2 bytes count i) before at found.it found.layout rising,
      found.says,
    )

entries_read : (bytes : List ℕ) (count i at : ℕ) (before : Option TextSpan) (es : List EntryText)
    → AllByRecursion EntryFits es → Rises es → FirstAbove bytes before es → Located bytes count i at es
    → EntriesRead bytes count before i es
unfolding offsets entries
entries_read bytes count i at before [] fits rises above is =
    record { them = []; offsets_hold = refl; read = refl; says = refl }
entries_read bytes count i at before (e ∷ es) fits rises above is =
    let one = entry_located bytes count i at before e es fits.0 above is in
    let name : contents bytes one.0.name ≡ e.name = ap (λ (t : EntryText). t.name) one.2 in
    let others = entries_read bytes count (i + 1) (at + length (entry_bytes e)) (Some one.0.name) es fits.1
    (rises_on e es rises) (next_above bytes one.0.name e es name rises) (located_on bytes count i at e es is) in
    record {
      them = one.0 ∷ others.them;
      offsets_hold = rw (located_offset bytes count i at e es is) others.offsets_hold;
      read = rw (one.1, others.read) refl;
      says = ap (λ t. t ∷ texts_of bytes others.them) one.2 ∙ ap (λ ts. e ∷ ts) others.says;
    }

offset_size : (at : ℕ) (es : List EntryText) → length (offset_bytes at es) ≡ 4 * length es
offset_size at [] = refl
offset_size at (e ∷ es) =
    let others = offset_size (at + length (entry_bytes e)) es in
    let all = length-append (number_bytes 4 at) (offset_bytes (at + length (entry_bytes e)) es) in
    omega arith

first_above : (bytes : List ℕ) (es : List EntryText) → FirstAbove bytes None es
unfolding FirstAbove
first_above bytes [] = tt
first_above bytes (e ∷ es) = λ p is. cc

-- What is read of the bytes of a table.
pub record TableRead (es : List EntryText) : Type 0 where
  pub them : List Entry
  pub read : table (table_bytes es) ≡ Ok them
  pub says : texts_of (table_bytes es) them ≡ es

-- ---- the head of the bytes that are written
marked_so : (es : List EntryText) → take 4 (table_bytes es) ≡ 0xcd ∷ 0xcd ∷ 0xcd ∷ 2 ∷ []
unfolding table_bytes
marked_so es = refl

record Parts (es : List EntryText) : Type 0 where
  pub count_holds : Holds (bounds 2 (table_bytes es) (length (table_bytes es))) 4 (number_bytes 4 (length es))
  pub located : Located (table_bytes es) (length es) 0 (8 + 4 * length es) es

parts : (es : List EntryText) → length (table_bytes es) < 4294967296 → Parts es
unfolding table_bytes
parts es small =
    let bytes = table_bytes es in
    let b = bounds 2 bytes (length bytes) in
    let at = 8 + 4 * length es in
    let count = number_bytes 4 (length es) in
    let body = flat_map entry_bytes es in
    let all : Holds b 0 bytes = record { rest = []; here = sym (append-nil bytes); inside = omega arith } in
    let behind_mark = holds-later b 0 (0xcd ∷ 0xcd ∷ 0xcd ∷ 2 ∷ []) (count ++ (offset_bytes at es ++ body)) all in
    let behind_count = holds-later b 4 count (offset_bytes at es ++ body) behind_mark in
    let behind_offsets = holds-later b 8 (offset_bytes at es) body behind_count in
    let size = offset_size at es in
    let sizes = length-append (offset_bytes at es) body in
    let start : 8 + length (offset_bytes at es) ≡ at = omega arith in
    record {
      count_holds = holds-first b 4 count (offset_bytes at es ++ body) behind_mark;
      located = record {
        counted = omega arith;
        offsets_fit = holds-first b 8 (offset_bytes at es) body behind_count;
        entries_hold = subst (λ n. Holds b n body) start behind_offsets;
        ends = omega arith;
        after_head = omega arith;
        after_before = λ some. absurd (omega (arith, some));
        short = small;
      };
    }

pub table_read : (es : List EntryText) → TableFits es → TableRead es
unfolding table
table_read es fits =
    let bytes = table_bytes es in
    let there = parts es fits.short in
    let some = fits.some in
    let small = fits.short in
    let within = there.located.after_head in
    let ends = there.located.ends in
    let count : number 4 bytes 4 ≡ length es = number-there 4 (bounds 2 bytes (length bytes)) 4 (length es)
    (fits_four (length es) (omega arith)) there.count_holds in
    let all = entries_read bytes (length es) 0 (8 + 4 * length es) None es fits.each fits.rises (first_above bytes es)
    there.located in
    record {
      them = all.them;
      read = rw (
        header-complete bytes 2 (inr refl) (marked_so es),
        count-complete bytes (length es) (omega arith) some count,
        all.offsets_hold,
      ) all.read;
      says = all.says;
    }
