-- A table is exactly what its reading gives.
use Rattle.std.proofs.Common.{◌≡◌, ℕ, zero, suc, ◌+◌, ◌-◌, ◌*◌, ◌<◌, ◌≤◌, ◌==◌, ◌&&◌, nat_lt, nat_le, Bool, true, false}
use Rattle.std.proofs.Common.{◌⊎◌, inl, inr, if◌then◌else◌, List, [], ◌∷◌, length, take, Option, Some, None, Result, Ok}
use Rattle.std.proofs.Common.{Err, slice_index, refl, sym, ap, ◌∙◌, arith, subst, ◌||◌, lit<, length-take}
use Rattle.std.specs.List.{slice_get}
use Rattle.std.specs.Cmp.Lexicographic.{slice_cmp}
use Rattle.std.specs.Ordering.{nat_cmp, is_lt}
use Rattle.std.specs.declared.cmp.Ordering.TheVariants.{Less}
use Rattle.std.proofs.lemmas.Bool.{and_parts, and_from, ltb-true, lt-ltb, eqb-true, eq-eqb}
use Rattle.std.proofs.Math.Bool.{and-false}
use Rattle.std.proofs.lemmas.Bool.Decides.{nat_tests}
use Rattle.std.proofs.lemmas.List.{get_or-take}
use Rattle.deny_base_lists.proofs.Orders.{less_from_is_lt}
use Rattle.deny_std_table.specs.declared.error.ReplacementError.{ReplacementError}
use Rattle.deny_std_table.specs.declared.error.ReplacementError.TheVariants.{Bad}
use Rattle.deny_std_table.specs.declared.spans.TextSpan.{TextSpan}
use Rattle.deny_std_table.specs.Spans.{contents}
use Rattle.deny_base_lists.specs.Reader.{◌>>=◌}
use Rattle.deny_std_table.specs.Reading.{◌>>◌, number}
use Rattle.deny_std_table.specs.Region.{Bounds, text, items}
use Rattle.deny_std_table.specs.Head.{header, version, has_byte, count_of, start_of, is_offset, IsOffset, HasOffsets}
use Rattle.deny_std_table.specs.Head.{offsets}
use Rattle.deny_std_table.specs.Entries.{Entry, is_above, entry, bounds_of, entries}
use Rattle.deny_std_table.specs.Table.{table}
use Rattle.deny_std_table.specs.Layout.{IsEntry, IsTable}
use Rattle.deny_std_table.proofs.TableLemmas.{offsets-all}
use Rattle.deny_std_table.proofs.LayoutLemmas.{bind-ok, unless_bad-then, text-sound, text-complete, items-sound}
use Rattle.deny_std_table.proofs.LayoutLemmas.{items-complete}

-- The name of an entry is above the one before it, if there is one.
pub record IsAbove (bytes : List ℕ) (before : Option TextSpan) (name : TextSpan) : Type 0 where
  pub above : (b : TextSpan) → before ≡ Some b → slice_cmp nat_cmp (contents bytes b) (contents bytes name) ≡ Less

is_above-true : (bytes : List ℕ) (before : Option TextSpan) (name : TextSpan) → is_above bytes before name ≡ true
    → IsAbove bytes before name
is_above-true bytes None name is = record { above = λ b none. cc }
is_above-true bytes (Some a) name is = record {
  above = λ b some. let same : a ≡ b = cc in
      subst (λ t. slice_cmp nat_cmp (contents bytes t) (contents bytes name) ≡ Less) same (less_from_is_lt _ is);
}

true-is_above : (bytes : List ℕ) (before : Option TextSpan) (name : TextSpan) → IsAbove bytes before name
    → is_above bytes before name ≡ true
true-is_above bytes None name is = refl
true-is_above bytes (Some a) name is = ap is_lt (is.above a refl)

entry-sound : (b : Bounds) (before : Option TextSpan) (start : ℕ) (e : Entry) → entry b before start ≡ Ok e
    → IsEntry b start e × IsAbove b.bytes before e.name
unfolding entry
entry-sound b before start e is =
    let name = bind-ok (text b start) _ e is in
    let tested = unless_bad-then (is_above b.bytes before name.0.value) start
    (items b name.0.next >>= (λ rest. Ok (record { name = name.0.value; items = rest.value }))) e name.2 in
    let rest = bind-ok (items b name.0.next) _ e tested.1 in
    let same : record { name = name.0.value; items = rest.0.value } ≡ e = cc in
    subst (λ (f : Entry). IsEntry b start f × IsAbove b.bytes before f.name) same (
      record {
        after_name = name.0.next;
        next = rest.0.next;
        name = text-sound b start name.0 name.1;
        items = items-sound b name.0.next rest.0 rest.1;
      },
      is_above-true b.bytes before name.0.value tested.0,
    )

pub entry-complete : (b : Bounds) (before : Option TextSpan) (start : ℕ) (e : Entry) → IsEntry b start e
    → IsAbove b.bytes before e.name
    → entry b before start ≡ Ok e
unfolding entry
entry-complete b before start e is above =
    rw (
      text-complete b start e.name is.after_name is.name,
      true-is_above b.bytes before e.name above,
      items-complete b is.after_name e.items is.next is.items,
    ) refl

-- The entries from this number on.
pub record IsEntries (width : ℕ) (bytes : List ℕ) (count : ℕ) (before : Option TextSpan) (i : ℕ)
    (es : List Entry) : Type 0 where
  pub each : (k : ℕ) (e : Entry) → slice_get es k ≡ Some e
      → IsEntry (bounds_of width bytes count (i + k)) (start_of bytes (i + k)) e
  pub first : (e : Entry) → slice_get es 0 ≡ Some e → IsAbove bytes before e.name
  pub rising : (k : ℕ) (e f : Entry) → slice_get es k ≡ Some e → slice_get es (k + 1) ≡ Some f
      → IsAbove bytes (Some e.name) f.name

pub get-suc : {A : Type 0} (x : A) (xs : List A) (n m : ℕ) → m ≡ suc n → slice_get (x ∷ xs) m ≡ slice_get xs n
get-suc x xs n m is = ap (λ k. slice_get (x ∷ xs) k) is

entries-cons : (width : ℕ) (bytes : List ℕ) (count : ℕ) (before : Option TextSpan) (i : ℕ) (x : Entry)
    (xs : List Entry)
    → IsEntry (bounds_of width bytes count i) (start_of bytes i) x → IsAbove bytes before x.name
    → IsEntries width bytes count (Some x.name) (i + 1) xs → IsEntries width bytes count before i (x ∷ xs)
entries-cons width bytes count before i x xs one above others = record {
  each = each;
  first = λ e is. let same : x ≡ e = cc in subst (λ (t : Entry). IsAbove bytes before t.name) same above;
  rising = rising;
}
  where
    each : (k : ℕ) (e : Entry) → slice_get (x ∷ xs) k ≡ Some e
        → IsEntry (bounds_of width bytes count (i + k)) (start_of bytes (i + k)) e
    each zero e is =
        let same : x ≡ e = cc in
        let here : i ≡ i + zero = omega arith in
        subst (λ n. IsEntry (bounds_of width bytes count n) (start_of bytes n) e) here
        (subst (λ t. IsEntry (bounds_of width bytes count i) (start_of bytes i) t) same one)
    each (suc k) e is =
        let there : i + 1 + k ≡ i + suc k = omega arith in
        subst (λ n. IsEntry (bounds_of width bytes count n) (start_of bytes n) e) there (others.each k e is)

    rising : (k : ℕ) (e f : Entry) → slice_get (x ∷ xs) k ≡ Some e → slice_get (x ∷ xs) (k + 1) ≡ Some f
        → IsAbove bytes (Some e.name) f.name
    rising zero e f is after =
        let same : x ≡ e = cc in
        subst (λ (t : Entry). IsAbove bytes (Some t.name) f.name) same (others.first f after)
    rising (suc k) e f is after =
        others.rising k e f is (sym (get-suc x xs (k + 1) (suc k + 1) (omega arith)) ∙ after)

pub entries-sound : (width : ℕ) (bytes : List ℕ) (count : ℕ) (before : Option TextSpan) (i left : ℕ) (es : List Entry)
    → entries width bytes count before i left ≡ Ok es → (length es ≡ left) × IsEntries width bytes count before i es
unfolding entries
entries-sound width bytes count before i zero es is =
    let same : [] ≡ es = cc in
    subst (λ l. (length l ≡ 0) × IsEntries width bytes count before i l) same
    (refl, record { each = λ k e none. cc; first = λ e none. cc; rising = λ k e f none. cc })
entries-sound width bytes count before i (suc left) es is =
    let one = bind-ok (entry (bounds_of width bytes count i) before (start_of bytes i)) _ es is in
    let others = bind-ok (entries width bytes count (Some one.0.name) (i + 1) left) _ es one.2 in
    let same : one.0 ∷ others.0 ≡ es = cc in
    let here = entry-sound (bounds_of width bytes count i) before (start_of bytes i) one.0 one.1 in
    let later = entries-sound width bytes count (Some one.0.name) (i + 1) left others.0 others.1 in
    subst (λ l. (length l ≡ suc left) × IsEntries width bytes count before i l) same
    (ap suc later.0, entries-cons width bytes count before i one.0 others.0 here.0 here.1 later.1)

entries-tail : (width : ℕ) (bytes : List ℕ) (count : ℕ) (before : Option TextSpan) (i : ℕ) (x : Entry)
    (xs : List Entry)
    → IsEntries width bytes count before i (x ∷ xs) → IsEntries width bytes count (Some x.name) (i + 1) xs
entries-tail width bytes count before i x xs all = record {
  each = λ k e is. let there : i + suc k ≡ i + 1 + k = omega arith in
      subst (λ n. IsEntry (bounds_of width bytes count n) (start_of bytes n) e) there (all.each (suc k) e is);
  first = λ e is. all.rising 0 x e refl is;
  rising = λ k e f is after. all.rising (suc k) e f is (get-suc x xs (k + 1) (suc k + 1) (omega arith) ∙ after);
}

entries-complete : (width : ℕ) (bytes : List ℕ) (count : ℕ) (before : Option TextSpan) (i : ℕ) (es : List Entry)
    → IsEntries width bytes count before i es → entries width bytes count before i (length es) ≡ Ok es
unfolding entries
entries-complete width bytes count before i [] all = refl
entries-complete width bytes count before i (x ∷ xs) all =
    let here : i + 0 ≡ i = omega arith in
    let one : IsEntry (bounds_of width bytes count i) (start_of bytes i) x =
    subst (λ n. IsEntry (bounds_of width bytes count n) (start_of bytes n) x) here (all.each 0 x refl) in
    rw (
      entry-complete (bounds_of width bytes count i) before (start_of bytes i) x one (all.first x refl),
      entries-complete width bytes count (Some x.name) (i + 1) xs (entries-tail width bytes count before i x xs all),
    ) refl

has_byte-true : (bytes : List ℕ) (at value : ℕ) → has_byte bytes at value ≡ true
    → (at < length bytes) × (slice_index bytes at ≡ value)
has_byte-true bytes at value is =
    let both = and_parts (nat_lt at (length bytes)) (slice_index bytes at == value) is in
    (ltb-true at (length bytes) both.0, eqb-true (slice_index bytes at) value both.1)

true-has_byte : (bytes : List ℕ) (at value : ℕ) → at < length bytes → slice_index bytes at ≡ value
    → has_byte bytes at value ≡ true
true-has_byte bytes at value inside is = and_from (nat_lt at (length bytes)) (slice_index bytes at == value)
    (lt-ltb at (length bytes) inside) (eq-eqb (slice_index bytes at) value is)

marked : (width : ℕ) (bytes : List ℕ) → 3 < length bytes → slice_index bytes 0 ≡ 0xcd → slice_index bytes 1 ≡ 0xcd
    → slice_index bytes 2 ≡ 0xcd → slice_index bytes 3 ≡ width → take 4 bytes ≡ 0xcd ∷ 0xcd ∷ 0xcd ∷ width ∷ []
marked width [] long p q r s = absurd (omega arith)
marked width (a ∷ []) long p q r s = absurd (omega arith)
marked width (a ∷ b ∷ []) long p q r s = absurd (omega arith)
marked width (a ∷ b ∷ c ∷ []) long p q r s = absurd (omega arith)
marked width (a ∷ b ∷ c ∷ d ∷ rest) long p q r s = rw (p, q, r, s) refl

-- The fourth byte is a known version.
record IsVersion (bytes : List ℕ) (width : ℕ) : Type 0 where
  pub known : (width ≡ 1) ⊎ (width ≡ 2)
  pub long : 3 < length bytes
  pub here : slice_index bytes 3 ≡ width

version_at : (bytes : List ℕ) (width known : ℕ) → (width ≡ 1) ⊎ (width ≡ 2) → has_byte bytes 3 known ≡ true
    → known ≡ width → IsVersion bytes width
version_at bytes width known is has same =
    let here = has_byte-true bytes 3 known has in record { known = is; long = here.0; here = here.1 ∙ same }

version-sound : (bytes : List ℕ) (width : ℕ) → version bytes ≡ Ok width → IsVersion bytes width
unfolding version
version-sound bytes width is = by_tests (has_byte bytes 3 1) refl (has_byte bytes 3 2) refl is
  where
    by_tests : (one : Bool) → has_byte bytes 3 1 ≡ one → (two : Bool) → has_byte bytes 3 2 ≡ two
        → (if one then Ok 1 else (if two then Ok 2 else Err (Bad 3))) ≡ Ok width → IsVersion bytes width
    by_tests true has two other e = let same : 1 ≡ width = cc in version_at bytes width 1 (inl (sym same)) has same
    by_tests false none true has e = let same : 2 ≡ width = cc in version_at bytes width 2 (inr (sym same)) has same
    by_tests false none false other e = cc

version-complete : (bytes : List ℕ) (width : ℕ) → IsVersion bytes width → version bytes ≡ Ok width
unfolding version
version-complete bytes width is = elim is.known [
  | inl one ↦ rw (true-has_byte bytes 3 1 is.long (is.here ∙ one)) (ap Ok (sym one))
  | inr two ↦ rw (other_byte two, true-has_byte bytes 3 2 is.long (is.here ∙ two)) (ap Ok (sym two))
]
  where
    other_byte : width ≡ 2 → has_byte bytes 3 1 ≡ false
    other_byte two = rw (is.here, two) (and-false (nat_lt 3 (length bytes)))

header-sound : (bytes : List ℕ) (width : ℕ) → header bytes ≡ Ok width
    → ((width ≡ 1) ⊎ (width ≡ 2)) × (take 4 bytes ≡ 0xcd ∷ 0xcd ∷ 0xcd ∷ width ∷ [])
unfolding header
header-sound bytes width is =
    let first = unless_bad-then (has_byte bytes 0 0xcd) 0 _ width is in
    let second = unless_bad-then (has_byte bytes 1 0xcd) 1 _ width first.1 in
    let third = unless_bad-then (has_byte bytes 2 0xcd) 2 _ width second.1 in
    let fourth = version-sound bytes width third.1 in
    let a = has_byte-true bytes 0 0xcd first.0 in
    let b = has_byte-true bytes 1 0xcd second.0 in
    let c = has_byte-true bytes 2 0xcd third.0 in
    (fourth.known, marked width bytes fourth.long a.1 b.1 c.1 fourth.here)

mark_at : (width : ℕ) (bytes : List ℕ) (at : ℕ) → at < 4 → take 4 bytes ≡ 0xcd ∷ 0xcd ∷ 0xcd ∷ width ∷ []
    → (at < length bytes) × (slice_index bytes at ≡ slice_index (0xcd ∷ 0xcd ∷ 0xcd ∷ width ∷ []) at)
mark_at width bytes at below is =
    let size : length (take 4 bytes) ≡ 4 = ap length is in
    let whole : 4 ≤ length bytes = omega (arith, length-take {A = ℕ}, size) in
    (omega arith, sym (get_or-take 4 bytes at 0 below) ∙ ap (λ l. slice_index l at) is)

pub header-complete : (bytes : List ℕ) (width : ℕ) → (width ≡ 1) ⊎ (width ≡ 2)
    → take 4 bytes ≡ 0xcd ∷ 0xcd ∷ 0xcd ∷ width ∷ [] → header bytes ≡ Ok width
unfolding header
header-complete bytes width known is =
    let a = mark_at width bytes 0 (lit< tt) is in
    let b = mark_at width bytes 1 (lit< tt) is in
    let c = mark_at width bytes 2 (lit< tt) is in
    let d = mark_at width bytes 3 (lit< tt) is in
    rw (
      true-has_byte bytes 0 0xcd a.0 a.1,
      true-has_byte bytes 1 0xcd b.0 b.1,
      true-has_byte bytes 2 0xcd c.0 c.1,
      version-complete bytes width (record { known = known; long = d.0; here = d.1 }),
    ) refl

count-sound : (bytes : List ℕ) (count : ℕ) → count_of bytes ≡ Ok count → (0 < count) × (number 4 bytes 4 ≡ count)
unfolding count_of
count-sound bytes count is =
    let tested = unless_bad-then (nat_le 8 (length bytes) && nat_lt 0 (number 4 bytes 4)) 4 (Ok (number 4 bytes 4))
    count is in
    let both = and_parts (nat_le 8 (length bytes)) (nat_lt 0 (number 4 bytes 4)) tested.0 in
    let same : number 4 bytes 4 ≡ count = cc in
    (subst (λ n. 0 < n) same (ltb-true 0 (number 4 bytes 4) both.1), same)

pub count-complete : (bytes : List ℕ) (count : ℕ) → 8 ≤ length bytes → 0 < count → number 4 bytes 4 ≡ count
    → count_of bytes ≡ Ok count
unfolding count_of
count-complete bytes count whole some is =
    let a : nat_le 8 (length bytes) ≡ true = grind (arith, nat_tests) in
    let b : nat_lt 0 (number 4 bytes 4) ≡ true = lt-ltb 0 (number 4 bytes 4) (rw is some) in
    rw (a, b, is) refl

pub true-is_offset : (bytes : List ℕ) (count i : ℕ) → IsOffset bytes count i → is_offset bytes count i ≡ true
true-is_offset bytes count i is =
    four_true (8 + 4 * i + 4) (length bytes) (8 + 4 * count) (start_of bytes i) (start_of bytes (i - 1)) i is.whole
    is.after_head is.rises is.below
  where
    four_true : (whole_end size head start before i : ℕ) → whole_end ≤ size → head ≤ start → (0 < i → before < start)
        → start < size
        → (nat_le whole_end size && nat_le head start && (i == 0 || nat_lt before start) && nat_lt start size) ≡ true
    four_true whole_end size head start before i whole after rises below = grind (arith, nat_tests)

offsets-complete : (bytes : List ℕ) (count i left : ℕ) → i + left ≡ count → HasOffsets bytes count
    → offsets bytes count i left ≡ Ok tt
unfolding offsets
offsets-complete bytes count i zero is all = refl
offsets-complete bytes count i (suc left) is all =
    rw (
      true-is_offset bytes count i (all.each i (omega arith)),
      offsets-complete bytes count (i + 1) left (omega arith) all,
    ) refl

then-ok : {A : Type 0} (r : Result (Unit {0}) ReplacementError) (s : Result A ReplacementError) (y : A)
    → (r >> s) ≡ Ok y → (r ≡ Ok tt) × (s ≡ Ok y)
then-ok (Ok tt) s y is = (refl, is)
then-ok (Err e) s y is = cc

gathered : (width : ℕ) (bytes : List ℕ) (count : ℕ) (es : List Entry) → (width ≡ 1) ⊎ (width ≡ 2)
    → take 4 bytes ≡ 0xcd ∷ 0xcd ∷ 0xcd ∷ width ∷ [] → 0 < count → number 4 bytes 4 ≡ count
    → offsets bytes count 0 count ≡ Ok tt → length es ≡ count → IsEntries width bytes count None 0 es → IsTable bytes es
gathered width bytes count es known mark some number_is offsets_hold size all =
    let Counted : ℕ → Type 0 = λ n. (0 < n) × (number 4 bytes 4 ≡ n) × (offsets bytes n 0 n ≡ Ok tt)
    × IsEntries width bytes n None 0 es in
    let counted = subst Counted (sym size) (some, number_is, offsets_hold, all) in
    record {
      width = width;
      known = known;
      mark = mark;
      some = counted.0;
      count = counted.1;
      offsets = offsets-all bytes (length es) counted.2;
      each = λ i e at. subst (λ n. IsEntry (bounds_of width bytes (length es) n) (start_of bytes n) e) (omega arith)
          (counted.3.each i e at);
      rising = λ i e f at after. (counted.3.rising i e f at after).above e.name refl;
    }

-- the entries that are read are those of a table
pub table-sound : (bytes : List ℕ) (es : List Entry) → table bytes ≡ Ok es → IsTable bytes es
unfolding table
table-sound bytes es is =
    let head = bind-ok (header bytes) _ es is in
    let mark = header-sound bytes head.0 head.1 in
    let number_of = bind-ok (count_of bytes) _ es head.2 in
    let count = count-sound bytes number_of.0 number_of.1 in
    let offsets_hold = then-ok (offsets bytes number_of.0 0 number_of.0) _ es number_of.2 in
    let all = entries-sound head.0 bytes number_of.0 None 0 number_of.0 es offsets_hold.1 in
    gathered head.0 bytes number_of.0 es mark.0 mark.1 count.0 count.1 offsets_hold.0 all.0 all.1

-- the entries of a table are read
pub table-complete : (bytes : List ℕ) (es : List Entry) → IsTable bytes es → table bytes ≡ Ok es
unfolding table
table-complete bytes es is =
    let first_offset : IsOffset bytes (length es) 0 = is.offsets.each 0 is.some in
    let whole = first_offset.whole in
    rw (
      header-complete bytes is.width is.known is.mark,
      count-complete bytes (length es) (omega arith) is.some is.count,
      offsets-complete bytes (length es) 0 (length es) (omega arith) is.offsets,
    )
    (entries-complete is.width bytes (length es) None 0 es (record {
      each = λ k e at. subst (λ n. IsEntry (bounds_of is.width bytes (length es) n) (start_of bytes n) e) (omega arith)
          (is.each k e at);
      first = λ e at. record { above = λ b none. cc };
      rising = λ k e f at after. record {
        above = λ b some. let same : e.name ≡ b = cc in
            subst (λ t. slice_cmp nat_cmp (contents bytes t) (contents bytes f.name) ≡ Less) same
            (is.rising k e f at after);
      };
    }))
