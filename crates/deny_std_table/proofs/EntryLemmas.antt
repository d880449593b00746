-- The entries of a table that was read, and the entry with a name.
use Rattle.std.proofs.Common.{◌≡◌, ℕ, ◌+◌, ◌<◌, ◌≤◌, Bool, true, false, nat_lt, List, length, Option, Some, None, Ok}
use Rattle.std.proofs.Common.{refl, sym, ap, ◌∙◌, arith, subst, if◌then◌else◌}
use Rattle.std.specs.Prelude.{find, IsOk, option_map, bytes_eq, ◌≢◌}
use Rattle.std.specs.List.{slice_get}
use Rattle.std.specs.Cmp.Lexicographic.{slice_cmp, nat_list_cmp_total}
use Rattle.std.specs.Ordering.{nat_cmp}
use Rattle.std.specs.declared.cmp.Ordering.TheVariants.{Less, Equal}
use Rattle.std.proofs.lemmas.Bool.{ltb-true}
use Rattle.std.proofs.lemmas.Cmp.{tied_itself}
use Rattle.std.proofs.lemmas.Slice.Eq.{bytes_eq-Decides}
use Rattle.std.proofs.lemmas.Option.{slice_get_within}
use Rattle.deny_std_table.specs.declared.spans.TextSpan.{TextSpan}
use Rattle.deny_std_table.specs.Spans.{contents}
use Rattle.deny_std_table.specs.Region.{Items, bounds}
use Rattle.deny_std_table.specs.Head.{start_of, HasOffsets}
use Rattle.deny_std_table.specs.Entries.{Entry, stop_of, bounds_of, entry}
use Rattle.deny_std_table.specs.Layout.{IsEntry}
use Rattle.deny_std_table.specs.private.Names.{name_span, name_at, HasNames}
use Rattle.deny_std_table.specs.Table.{Table, IsRead, read_entries, entry_named, items_in}
use Rattle.deny_std_table.specs.Replacement.{EntryItems}
use Rattle.deny_base_lists.proofs.Members.{some_at}
use Rattle.deny_base_lists.proofs.Finding.{find-at, find-none}
use Rattle.deny_std_table.proofs.LayoutLemmas.{span_is}
use Rattle.deny_std_table.proofs.TableLaw.{IsEntries, entries-sound, entry-complete}
use Rattle.deny_std_table.proofs.NamesLemmas.{rising_all}

pub stop-inside : (bytes : List ℕ) (count i : ℕ) → HasOffsets bytes count → stop_of bytes count i ≤ length bytes
unfolding stop_of
stop-inside bytes count i has = chosen (nat_lt (i + 1) count) refl
  where
    chosen : (test : Bool) → nat_lt (i + 1) count ≡ test
        → (if test then start_of bytes (i + 1) else length bytes) ≤ length bytes
    chosen true is = let below = (has.each (i + 1) (ltb-true (i + 1) count is)).below in omega arith
    chosen false is = omega arith

-- An entry of a table, by its number.
pub record IsNamed (width : ℕ) (bytes : List ℕ) (count i : ℕ) : Type 0 where
  pub e : Entry
  pub at : slice_get (read_entries width bytes count) i ≡ Some e
  pub span : name_span width bytes i ≡ e.name
  pub layout : IsEntry (bounds_of width bytes count i) (start_of bytes i) e

pub all-entries : (width : ℕ) (bytes : List ℕ) (count : ℕ) → IsRead width bytes count
    → (length (read_entries width bytes count) ≡ count) × IsEntries width bytes count None 0
    (read_entries width bytes count)
all-entries width bytes count is = entries-sound width bytes count None 0 count (read_entries width bytes count)
    is.entries

pub named : (width : ℕ) (bytes : List ℕ) (count i : ℕ) → IsRead width bytes count → i < count
    → IsNamed width bytes count i
named width bytes count i is below =
    let all = all-entries width bytes count is in
    let one = some_at (read_entries width bytes count) i (rw all.0 below) in
    let layout : IsEntry (bounds_of width bytes count i) (start_of bytes i) one.0 =
    subst (λ n. IsEntry (bounds_of width bytes count n) (start_of bytes n) one.0) (omega arith)
    (all.1.each i one.0 one.1) in
    record {
      e = one.0;
      at = one.1;
      span = sym (span_is _ _ one.0.name layout.name.after_length layout.name.size);
      layout = layout;
    }

names_are : (width : ℕ) (bytes : List ℕ) (count i : ℕ) (n : IsNamed width bytes count i)
    → name_at width bytes i ≡ contents bytes n.e.name
unfolding name_at
names_are width bytes count i n = ap (λ p. contents bytes p) n.span

pub has_names : (width : ℕ) (bytes : List ℕ) (count : ℕ) → IsRead width bytes count → HasNames width bytes count
has_names width bytes count is = record {
  offsets = is.offsets;
  inside = inside;
  rising = rising;
}
  where
    inside : (i : ℕ) → i < count → (name_span width bytes i).at + (name_span width bytes i).size ≤ length bytes
    inside i below =
        let n = named width bytes count i is below in
        let stop = stop-inside bytes count i is.offsets in
        let after = n.layout.name.after in
        let within = n.layout.name.inside in
        let here : n.e.name.at + n.e.name.size ≤ length bytes = omega arith in
        let P : TextSpan → Type 0 = λ p. p.at + p.size ≤ length bytes in
        subst P (sym n.span) here

    rising : (i : ℕ) → i + 1 < count → slice_cmp nat_cmp (name_at width bytes i) (name_at width bytes (i + 1)) ≡ Less
    rising i below =
        let all = all-entries width bytes count is in
        let n = named width bytes count i is (omega arith) in
        let m = named width bytes count (i + 1) is below in
        let above = (all.1.rising i n.e m.e n.at m.at).above n.e.name refl in
        rw (names_are width bytes count i n, names_are width bytes count (i + 1) m) above

-- the entry is opened in its region
pub opened : (width of_width : ℕ) (bytes of_region : List ℕ) (count i stop start : ℕ) (n : IsNamed width bytes count i)
    → of_width ≡ width → of_region ≡ bytes → stop ≡ stop_of bytes count i
    → start ≡ start_of bytes i → entry (bounds of_width of_region stop) None start ≡ Ok n.e
opened width of_width bytes of_region count i stop start n wide same ends begins =
    rw (wide, same, ends, begins)
    (entry-complete (bounds_of width bytes count i) None (start_of bytes i) n.e n.layout
    (record { above = λ b none. cc }))

no_name : (a b : List ℕ) → a ≢ b → bytes_eq a b ≡ false
no_name a b apart = chosen (bytes_eq a b) refl
  where
    chosen : (test : Bool) → bytes_eq a b ≡ test → bytes_eq a b ≡ false
    chosen true is = absurd (apart ((bytes_eq-Decides a b).0 is))
    chosen false is = is

some-is : {x y : Entry} (o : Option Entry) → o ≡ Some x → o ≡ Some y → x ≡ y
some-is o first second = cc

not_equal : (a b : List ℕ) → slice_cmp nat_cmp a b ≡ Less → a ≡ b → ⊥
not_equal a b less equal =
    let tie : slice_cmp nat_cmp a b ≡ Equal = ap (λ m. slice_cmp nat_cmp m b) equal
    ∙ tied_itself nat_list_cmp_total b in
    cc

-- there is no entry with a name that is none of the names
entry_none : (width : ℕ) (bytes : List ℕ) (count : ℕ) (name : List ℕ) → IsRead width bytes count
    → ((i : ℕ) → i < count → name_at width bytes i ≢ name)
    → find (λ e. bytes_eq (contents bytes e.name) name) (read_entries width bytes count) ≡ None
entry_none width bytes count name is apart = find-none _ (read_entries width bytes count) each
  where
    each : (k : ℕ) (e : Entry) → slice_get (read_entries width bytes count) k ≡ Some e
        → bytes_eq (contents bytes e.name) name ≡ false
    each k e at =
        let all = all-entries width bytes count is in
        let inside = slice_get_within (read_entries width bytes count) k e at in
        let size = all.0 in
        let below : k < count = omega arith in
        let n = named width bytes count k is below in
        let same : n.e ≡ e = some-is (slice_get (read_entries width bytes count) k) n.at at in
        no_name (contents bytes e.name) name
        (λ equal. apart k below (names_are width bytes count k n ∙ ap (λ (t : Entry). contents bytes t.name) same
        ∙ equal))

-- the entry with the name is the only one
entry_some : (width : ℕ) (bytes : List ℕ) (count i : ℕ) (name : List ℕ) → IsRead width bytes count → i < count
    → name_at width bytes i ≡ name
    → (n : IsNamed width bytes count i)
    → find (λ e. bytes_eq (contents bytes e.name) name) (read_entries width bytes count) ≡ Some n.e
entry_some width bytes count i name is below same n =
    find-at _ (read_entries width bytes count) i n.e n.at
    ((bytes_eq-Decides (contents bytes n.e.name) name).1 (sym (names_are width bytes count i n) ∙ same)) before
  where
    before : (k : ℕ) (e : Entry) → k < i → slice_get (read_entries width bytes count) k ≡ Some e
        → bytes_eq (contents bytes e.name) name ≡ false
    before k e earlier at =
        let m = named width bytes count k is (omega arith) in
        let one : m.e ≡ e = some-is (slice_get (read_entries width bytes count) k) m.at at in
        let less : slice_cmp nat_cmp (name_at width bytes k) (name_at width bytes i) ≡ Less =
        rising_all (λ j. name_at width bytes j) count (has_names width bytes count is).rising k i earlier below in
        no_name (contents bytes e.name) name
        (λ equal. not_equal (name_at width bytes k) (name_at width bytes i) less
        (names_are width bytes count k m ∙ ap (λ (t : Entry). contents bytes t.name) one ∙ equal ∙ sym same))

pub none_answer : (width : ℕ) (t : Table) (bytes : List ℕ) (count : ℕ) (name given : List ℕ)
    → record { bytes = bytes; entries = read_entries width bytes count } ≡ t
    → IsRead width bytes count → given ≡ name → ((i : ℕ) → i < count → name_at width bytes i ≢ given)
    → option_map (items_in t) (entry_named t name) ≡ None
none_answer width t bytes count name given view is same apart =
    subst (λ v. option_map (items_in v) (entry_named v name) ≡ None) view
    (ap (λ o. option_map (items_in (record { bytes = bytes; entries = read_entries width bytes count })) o)
    (entry_none width bytes count name is (λ i below equal. apart i below (equal ∙ sym same))))

entry_items : (r : EntryItems) (bytes : List ℕ) (items : Items) → r.bytes ≡ bytes → r.items ≡ items
    → r ≡ record { bytes = bytes; items = items }
entry_items r bytes items first second = rw (← first, ← second) refl

pub some_answer : (width of_width : ℕ) (t : Table) (bytes of_region : List ℕ) (count i stop start : ℕ)
    (name given : List ℕ) (r : EntryItems)
    → record { bytes = bytes; entries = read_entries width bytes count } ≡ t
    → IsRead width bytes count → given ≡ name → i < count → name_at width bytes i ≡ given → of_width ≡ width
    → of_region ≡ bytes → stop ≡ stop_of bytes count i → start ≡ start_of bytes i
    → r.bytes ≡ of_region → ((e : Entry) → entry (bounds of_width of_region stop) None start ≡ Ok e → r.items ≡ e.items)
    → Some r ≡ option_map (items_in t) (entry_named t name)
some_answer width of_width t bytes of_region count i stop start name given r view is same below at wide of_bytes ends
    begins r_bytes r_items =
    let n = named width bytes count i is below in
    let items_are : r.items
    ≡ n.e.items = r_items n.e (opened width of_width bytes of_region count i stop start n wide of_bytes ends begins)
    in
    let r_is : r ≡ record { bytes = bytes; items = n.e.items } =
    entry_items r bytes n.e.items (r_bytes ∙ of_bytes) items_are in
    let here : option_map (items_in (record { bytes = bytes; entries = read_entries width bytes count }))
    (entry_named (record { bytes = bytes; entries = read_entries width bytes count }) name)
    ≡ Some (record { bytes = bytes; items = n.e.items }) =
    ap (λ o. option_map (items_in (record { bytes = bytes; entries = read_entries width bytes count })) o)
    (entry_some width bytes count i name is below (at ∙ same) n) in
    subst (λ v. Some r ≡ option_map (items_in v) (entry_named v name)) view (ap Some r_is ∙ sym here)

pub open_answer : (width of_width : ℕ) (bytes of_region : List ℕ) (count i stop start : ℕ) → IsRead width bytes count
    → i < count → of_width ≡ width → of_region ≡ bytes
    → stop ≡ stop_of bytes count i → start ≡ start_of bytes i → IsOk (entry (bounds of_width of_region stop) None start)
open_answer width of_width bytes of_region count i stop start is below wide of_bytes ends begins =
    let n = named width bytes count i is below in
    subst IsOk (sym (opened width of_width bytes of_region count i stop start n wide of_bytes ends begins)) refl
