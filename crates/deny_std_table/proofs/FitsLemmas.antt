-- A table that was read can be written in version 2.
use Rattle.std.proofs.Common.{◌≡◌, ℕ, suc, ◌+◌, ◌<◌, ◌≤◌, ◌⊎◌, inl, inr, List, [], ◌∷◌, length, drop, map, Some, None}
use Rattle.std.proofs.Common.{refl, sym, ap, ◌∙◌, arith, subst, length-take, length-drop, option_map, Result, Ok, Err}
use Rattle.std.proofs.Common.{Bool, true, false, ◌==◌, if◌then◌else◌}
use Rattle.std.specs.Prelude.{slice_index, IfOk}
use Rattle.std.specs.List.{slice_get, AllByRecursion}
use Rattle.std.specs.Cmp.Lexicographic.{slice_cmp}
use Rattle.std.specs.Ordering.{nat_cmp}
use Rattle.std.specs.declared.cmp.Ordering.TheVariants.{Less}
use Rattle.std.proofs.lemmas.Bool.Decides.{nat_tests}
use Rattle.std.proofs.lemmas.List.{length-map}
use Rattle.deny_std_table.specs.declared.spans.TextSpan.{TextSpan}
use Rattle.deny_std_table.specs.declared.spans.ApiSpans.{ApiSpans}
use Rattle.deny_std_table.specs.declared.spans.ReplacementSpans.{ReplacementSpans}
use Rattle.deny_std_table.specs.Spans.{contents}
use Rattle.deny_std_table.specs.Reading.{number}
use Rattle.deny_std_table.specs.Region.{Bounds, Group, Items, nonempty_note}
use Rattle.deny_std_table.specs.Head.{start_of}
use Rattle.deny_std_table.specs.Entries.{Entry, bounds_of}
use Rattle.deny_std_table.specs.Layout.{IsText, IsApi, IsReplacement, IsRow, ended, more, IsGroup, IsItems, IsEntry}
use Rattle.deny_std_table.specs.Layout.{IsTable}
use Rattle.deny_std_table.specs.Table.{IsRead, read_entries}
use Rattle.deny_std_table.specs.Spelling.{SaysTheSame, api_text, replacement_text, group_text, items_text, entry_text}
use Rattle.deny_std_table.specs.Spelling.{texts_of, table_bytes}
use Rattle.deny_std_table.proofs.EntryLemmas.{stop-inside}
use Rattle.deny_std_table.proofs.TableLaw.{get-suc, table-sound}
use Rattle.deny_std_table.proofs.SpellingLaw.{Fits, TextFits, ApiFits, ReplacementFits, GroupFits, ItemsFit, EntryFits}
use Rattle.deny_std_table.proofs.SpellingTable.{Rises, TableFits, table_read}

-- The bounds of an entry in bytes of a known version.
record IsSound (b : Bounds) : Type 0 where
  pub known : (b.width ≡ 1) ⊎ (b.width ≡ 2)
  pub bytes : (k : ℕ) → slice_index b.bytes k < 256
  pub within : b.stop ≤ length b.bytes

fits_two : (n : ℕ) → n < 65536 → Fits 2 n
fits_two n small = omega arith

number-small : (width : ℕ) (bytes : List ℕ) (at : ℕ) → ((k : ℕ) → slice_index bytes k < 256)
    → (width ≡ 1) ⊎ (width ≡ 2) → number width bytes at < 65536
unfolding number
number-small width bytes at small known =
    let low = small at in
    let high = small (at + 1) in
    elim known [
      | inl one ↦ subst (λ w. number w bytes at < 65536) (sym one) (omega arith)
      | inr two ↦ subst (λ w. number w bytes at < 65536) (sym two) (omega arith)
    ]

text-fits : (b : Bounds) (at next : ℕ) (span : TextSpan) → IsSound b → IsText b at span next
    → TextFits (contents b.bytes span)
text-fits b at next span sound is =
    let small = number-small b.width b.bytes at sound.bytes sound.known in
    let size = is.size in
    let most = length-take span.size (drop span.at b.bytes) in
    record { size = fits_two (length (contents b.bytes span)) (omega arith); utf8 = is.utf8 }

api-fits : (b : Bounds) (at next : ℕ) (spans : ApiSpans) → IsSound b → IsApi b at spans next
    → ApiFits (api_text b.bytes spans)
api-fits b at next spans sound is = record {
  name = text-fits b at is.after_name spans.name sound is.name;
  url = text-fits b is.after_name next spans.url sound is.url;
}

note-fits : (b : Bounds) (at next : ℕ) (span : TextSpan) → IsSound b → IsText b at span next
    → (n : List ℕ) → option_map (contents b.bytes) (nonempty_note span) ≡ Some n → TextFits n × (0 < length n)
note-fits b at next span sound is n some =
    let fits = text-fits b at next span sound is in
    let within = sound.within in
    let ends = is.inside in
    let after = is.after in
    let most = length-take span.size (drop span.at b.bytes) in
    let left = length-drop span.at b.bytes in
    let size : length (contents b.bytes span) ≡ span.size = omega arith in
    chosen fits size (span.size == 0) refl some
  where
    chosen : TextFits (contents b.bytes span) → length (contents b.bytes span) ≡ span.size
        → (none : Bool) → (span.size == 0) ≡ none
        → option_map (contents b.bytes) (if none then None else Some span) ≡ Some n → TextFits n × (0 < length n)
    chosen fits size true empty is_some = cc
    chosen fits size false full is_some =
        let same : contents b.bytes span ≡ n = cc in
        let long : 0 < length (contents b.bytes span) = grind (arith, nat_tests) in
        subst (λ t. TextFits t × (0 < length t)) same (fits, long)

replacement-fits : (b : Bounds) (at next : ℕ) (spans : ReplacementSpans) → IsSound b → IsReplacement b at spans next
    → ReplacementFits (replacement_text b.bytes spans)
replacement-fits b at next spans sound is = record {
  krate = api-fits b at is.after_krate spans.krate sound is.krate;
  std = api-fits b is.after_krate is.after_std spans.std sound is.std;
  note = λ n some. note-fits b is.after_std next is.note_span sound is.note_text n
      (ap (option_map (contents b.bytes)) (sym is.note) ∙ some);
}

row-fits : {A T : Type 0} (IsOne : ℕ → A → ℕ → Type 0) (say : A → T) (IsFit : T → Type 0)
    → ((at : ℕ) (x : A) (next : ℕ) → IsOne at x next → IsFit (say x))
    → (at : ℕ) (xs : List A) (next : ℕ) → IsRow IsOne at xs next → AllByRecursion IsFit (map say xs)
row-fits IsOne say IsFit one at [] next ended = tt
row-fits IsOne say IsFit one at (x ∷ xs) next (more first others) =
    (one _ x _ first, row-fits IsOne say IsFit one _ xs next others)

group-fits : (b : Bounds) (at next : ℕ) (g : Group) → IsSound b → IsGroup b at g next
    → GroupFits (group_text b.bytes g)
group-fits b at next g sound is =
    let size = length-map g.replacements (replacement_text b.bytes) in
    let some = is.some in
    record {
      some = omega arith;
      each = row-fits (IsReplacement b) (replacement_text b.bytes) ReplacementFits
          (λ n x m one. replacement-fits b n m x sound one) is.after_count g.replacements next is.replacements;
    }

items-fit : (b : Bounds) (at next : ℕ) (i : Items) → IsSound b → IsItems b at i next → ItemsFit (items_text b.bytes i)
items-fit b at next i sound is = record {
  groups = row-fits (IsGroup b) (group_text b.bytes) GroupFits (λ n x m one. group-fits b n m x sound one)
      is.after_counts i.groups is.unstable_at is.groups;
  unstable = row-fits (IsReplacement b) (replacement_text b.bytes) ReplacementFits
      (λ n x m one. replacement-fits b n m x sound one) is.unstable_at i.unstable is.unavailable_at is.unstable;
  unavailable = row-fits (IsApi b) (api_text b.bytes) ApiFits (λ n x m one. api-fits b n m x sound one)
      is.unavailable_at i.unavailable next is.unavailable;
}

entry-fits : (b : Bounds) (at : ℕ) (e : Entry) → IsSound b → IsEntry b at e → EntryFits (entry_text b.bytes e)
entry-fits b at e sound is = record {
  name = text-fits b at is.after_name e.name sound is.name;
  items = items-fit b is.after_name is.next e.items sound is.items;
}

all-from : {A T : Type 0} (say : A → T) (IsFit : T → Type 0) (xs : List A)
    → ((k : ℕ) (x : A) → slice_get xs k ≡ Some x → IsFit (say x)) → AllByRecursion IsFit (map say xs)
all-from say IsFit [] each = tt
all-from say IsFit (x ∷ xs) each = (each 0 x refl, all-from say IsFit xs (λ k y is. each (suc k) y is))

rises-from : (bytes : List ℕ) (es : List Entry)
    → ((k : ℕ) (e f : Entry) → slice_get es k ≡ Some e → slice_get es (k + 1) ≡ Some f
    → slice_cmp nat_cmp (contents bytes e.name) (contents bytes f.name) ≡ Less)
    → Rises (texts_of bytes es)
rises-from bytes [] above = tt
rises-from bytes (e ∷ []) above = tt
rises-from bytes (e ∷ f ∷ es) above = (
  above 0 e f refl refl,
  rises-from bytes (f ∷ es) (λ k x y is after. above (suc k) x y is
      (get-suc e (f ∷ es) (k + 1) (suc k + 1) (omega arith) ∙ after)),
)

-- a table that was read can be written, where it is not too long
table-fits : (bytes : List ℕ) (es : List Entry) → ((k : ℕ) → slice_index bytes k < 256) → IsTable bytes es
    → length (table_bytes (texts_of bytes es)) < 4294967296 → TableFits (texts_of bytes es)
table-fits bytes es small is short =
    let size = length-map es (entry_text bytes) in
    let some = is.some in
    record {
      some = omega arith;
      each = all-from (entry_text bytes) EntryFits es
          (λ k e at. entry-fits (bounds_of is.width bytes (length es) k) (start_of bytes k) e
          (record { known = is.known; bytes = small; within = stop-inside bytes (length es) k is.offsets })
          (is.each k e at));
      rises = rises-from bytes es is.rising;
      short = short;
    }

-- the bytes that are written for a table that was read say the same
pub says-the-same : (width : ℕ) (bytes : List ℕ) (count : ℕ) → ((k : ℕ) → slice_index bytes k < 256)
    → IsRead width bytes count
    → (written : List ℕ) → written ≡ table_bytes (texts_of bytes (read_entries width bytes count))
    → length written < 4294967296
    → SaysTheSame (record { bytes = bytes; entries = read_entries width bytes count }) written
says-the-same width bytes count small is written same short =
    let es = read_entries width bytes count in
    let fits = table-fits bytes es small (table-sound bytes es is.whole)
    (subst (λ (w : List ℕ). length w < 4294967296) same short) in
    let all = table_read (texts_of bytes es) fits in
    subst (λ w. SaysTheSame (record { bytes = bytes; entries = es }) w) (sym same)
    (record { entries = all.them; read = all.read; says = all.says })

pub if_ok-both : {A E : Type 0} (r : Result A E) (P Q R : A → Type 0) → IfOk r P → IfOk r Q
    → ((x : A) → P x → Q x → R x) → IfOk r R
if_ok-both (Ok x) P Q R first second from = from x first second
if_ok-both (Err e) P Q R first second from = tt
