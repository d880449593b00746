-- The bytes of version 2 that are written for a table are read as what the table says.
use Rattle.std.proofs.Common.{◌≡◌, ℕ, zero, suc, ◌+◌, ◌*◌, ◌%◌, ◌/◌, ◌<◌, ◌≤◌, List, [], ◌∷◌, ◌++◌, length, take, drop}
use Rattle.std.proofs.Common.{map, Option, Some, None, refl, sym, ap, ◌∙◌, arith, subst, append_assoc, length-append}
use Rattle.std.proofs.Common.{option_map}
use Rattle.std.specs.Prelude.{slice_index, flat_map, IsUtf8, false, ◌==◌}
use Rattle.std.specs.List.{AllByRecursion}
use Rattle.std.proofs.Math.Seq.{drop-nil, drop-append_seam, take-append_seam}
use Rattle.std.proofs.lemmas.Bool.Decides.{nat_tests}
use Rattle.std.proofs.lemmas.List.{length-map}
use Rattle.std.proofs.lemmas.Str.{IsUtf8-nil}
use Rattle.deny_std_table.specs.declared.spans.TextSpan.{TextSpan}
use Rattle.deny_std_table.specs.Spans.{contents}
use Rattle.deny_std_table.specs.Reading.{number}
use Rattle.deny_std_table.specs.Region.{Bounds, nonempty_note}
use Rattle.deny_std_table.specs.Entries.{Entry}
use Rattle.deny_std_table.specs.Layout.{IsByte, IsText, IsApi, IsReplacement, IsRow, ended, more, IsGroup, IsItems}
use Rattle.deny_std_table.specs.Layout.{IsEntry}
use Rattle.deny_std_table.specs.Spelling.{ApiText, ReplacementText, GroupText, ItemsText, EntryText, api_text}
use Rattle.deny_std_table.specs.Spelling.{replacement_text, group_text, items_text, entry_text, number_bytes}
use Rattle.deny_std_table.specs.Spelling.{text_bytes, api_bytes, note_bytes, replacement_bytes, group_bytes}
use Rattle.deny_std_table.specs.Spelling.{items_bytes, entry_bytes}

-- The bytes are at an offset, not past the end, and the rest follows them.
pub record Holds (b : Bounds) (at : ℕ) (xs : List ℕ) : Type 0 where
  pub rest : List ℕ
  pub here : drop at b.bytes ≡ xs ++ rest
  pub inside : at + length xs ≤ b.stop

drop-both : (n m : ℕ) (xs : List ℕ) → drop (n + m) xs ≡ drop m (drop n xs)
drop-both zero m xs = let same : 0 + m ≡ m = omega arith in ap (λ k. drop k xs) same
drop-both (suc n) m [] = drop-nil (suc n + m) ∙ sym (drop-nil m)
drop-both (suc n) m (x ∷ xs) =
    let more_of : suc n + m ≡ suc (n + m) = omega arith in
    ap (λ k. drop k (x ∷ xs)) more_of ∙ drop-both n m xs

pub holds-first : (b : Bounds) (at : ℕ) (xs ys : List ℕ) → Holds b at (xs ++ ys) → Holds b at xs
holds-first b at xs ys is =
    let all : length (xs ++ ys) ≡ length xs + length ys = length-append xs ys in
    let within = is.inside in
    record { rest = ys ++ is.rest; here = is.here ∙ append_assoc xs ys is.rest; inside = omega arith }

pub holds-later : (b : Bounds) (at : ℕ) (xs ys : List ℕ) → Holds b at (xs ++ ys) → Holds b (at + length xs) ys
holds-later b at xs ys is =
    let all : length (xs ++ ys) ≡ length xs + length ys = length-append xs ys in
    let within = is.inside in
    record {
      rest = is.rest;
      here = drop-both at (length xs) b.bytes ∙ (ap (drop (length xs)) (is.here ∙ append_assoc xs ys is.rest)
          ∙ drop-append_seam xs (ys ++ is.rest));
      inside = omega arith;
    }

index-drop : (at : ℕ) (bytes : List ℕ) (x : ℕ) (rest : List ℕ) → drop at bytes ≡ x ∷ rest → slice_index bytes at ≡ x
index-drop zero [] x rest is = cc
index-drop zero (b ∷ bytes) x rest is = cc
index-drop (suc at) [] x rest is = cc
index-drop (suc at) (b ∷ bytes) x rest is = index-drop at bytes x rest is

-- a byte is at its offset
byte-there : (b : Bounds) (at x : ℕ) → Holds b at (x ∷ []) → IsByte b at x (at + 1)
byte-there b at x is =
    let within = is.inside in
    record { inside = omega arith; is = sym (index-drop at b.bytes x is.rest is.here); after = refl }

-- a number that fits this many bytes
abbrev pub Fits : ℕ → ℕ → Type 0
Fits zero n = n ≡ 0
Fits (suc width) n = Fits width (n / 256)

parts_join : (n low high : ℕ) → low ≡ n % 256 → high ≡ n / 256 → low + 256 * high ≡ n
parts_join n low high l h = omega arith

-- a number is at its offset
pub number-there : (width : ℕ) (b : Bounds) (at n : ℕ) → Fits width n → Holds b at (number_bytes width n)
    → number width b.bytes at ≡ n
unfolding number
number-there zero b at n fits is = sym fits
number-there (suc width) b at n fits is =
    let low = index-drop at b.bytes (n % 256) (number_bytes width (n / 256) ++ is.rest) is.here in
    let high = number-there width b (at + 1) (n / 256) fits
    (holds-later b at (n % 256 ∷ []) (number_bytes width (n / 256)) is) in
    parts_join n (slice_index b.bytes at) (number width b.bytes (at + 1)) low high

-- A part is at an offset and says this, and `next` follows it.
record There {A T : Type 0} (IsOne : ℕ → A → ℕ → Type 0) (say : A → T) (at next : ℕ) (t : T) : Type 0 where
  pub it : A
  pub layout : IsOne at it next
  pub says : say it ≡ t

there-to : {A T : Type 0} (IsOne : ℕ → A → ℕ → Type 0) (say : A → T) (at next end : ℕ) (t : T) → next ≡ end
    → There IsOne say at next t → There IsOne say at end t
there-to IsOne say at next end t same is = subst (λ n. There IsOne say at n t) same is

-- A text that version 2 can hold.
pub record TextFits (text : List ℕ) : Type 0 where
  pub size : Fits 2 (length text)
  pub utf8 : IsUtf8 text

text-there : (b : Bounds) (at : ℕ) (text : List ℕ) → b.width ≡ 2 → TextFits text → Holds b at (text_bytes text)
    → There (IsText b) (contents b.bytes) at (at + length (text_bytes text)) text
text-there b at text wide fits is =
    let span : TextSpan = record { at = at + 2; size = length text } in
    let later = holds-later b at (number_bytes 2 (length text)) text is in
    let says : contents b.bytes span ≡ text = ap (take (length text)) later.here ∙ take-append_seam text later.rest in
    let size : length text ≡ number 2 b.bytes at =
    sym (number-there 2 b at (length text) fits.size (holds-first b at (number_bytes 2 (length text)) text is)) in
    let within = is.inside in
    record {
      it = span;
      layout = record {
        after_length = ap (λ w. at + w) (sym wide);
        size = size ∙ ap (λ w. number w b.bytes at) (sym wide);
        after = omega arith;
        inside = within;
        utf8 = subst IsUtf8 (sym says) fits.utf8;
      };
      says = says;
    }

pub record ApiFits (a : ApiText) : Type 0 where
  pub name : TextFits a.name
  pub url : TextFits a.url

api-there : (b : Bounds) (at : ℕ) (a : ApiText) → b.width ≡ 2 → ApiFits a → Holds b at (api_bytes a)
    → There (IsApi b) (api_text b.bytes) at (at + length (api_bytes a)) a
unfolding api_bytes
api-there b at a wide fits is =
    let first = text-there b at a.name wide fits.name (holds-first b at (text_bytes a.name) (text_bytes a.url) is) in
    let second = text-there b (at + length (text_bytes a.name)) a.url wide fits.url
    (holds-later b at (text_bytes a.name) (text_bytes a.url) is) in
    let all = length-append (text_bytes a.name) (text_bytes a.url) in
    there-to (IsApi b) (api_text b.bytes) at _ _ a (omega arith) (record {
      it = record { name = first.it; url = second.it };
      layout = record {
        after_name = at + length (text_bytes a.name);
        name = first.layout;
        url = second.layout;
      };
      says = rw (first.says, second.says) refl;
    })

pub record ReplacementFits (r : ReplacementText) : Type 0 where
  pub krate : ApiFits r.krate
  pub std : ApiFits r.std
  pub note : (n : List ℕ) → r.note ≡ Some n → TextFits n × (0 < length n)

-- A note is at an offset and says this.
record NoteThere (b : Bounds) (at : ℕ) (note : Option (List ℕ)) : Type 0 where
  pub span : TextSpan
  pub layout : IsText b at span (at + length (note_bytes note))
  pub says : option_map (contents b.bytes) (nonempty_note span) ≡ note

note-there : (b : Bounds) (at : ℕ) (note : Option (List ℕ)) → b.width ≡ 2
    → ((n : List ℕ) → note ≡ Some n → TextFits n × (0 < length n)) → Holds b at (note_bytes note) → NoteThere b at note
note-there b at None wide fits is =
    let one = text-there b at [] wide (record { size = refl; utf8 = IsUtf8-nil }) is in
    record {
      span = one.it;
      layout = one.layout;
      says = no_note one.it one.layout;
    }
  where
    no_note : (span : TextSpan) → IsText b at span (at + 2) → option_map (contents b.bytes) (nonempty_note span) ≡ None
    no_note span layout =
        let ends = layout.after in
        let begins = layout.after_length in
        let none : span.size ≡ 0 = omega arith in
        rw none refl
note-there b at (Some n) wide fits is =
    let one = text-there b at n wide (fits n refl).0 is in
    record {
      span = one.it;
      layout = one.layout;
      says = some_note one.it one.layout one.says;
    }
  where
    some_note : (span : TextSpan) → IsText b at span (at + length (text_bytes n)) → contents b.bytes span ≡ n
        → option_map (contents b.bytes) (nonempty_note span) ≡ Some n
    some_note span layout says =
        let ends = layout.after in
        let begins = layout.after_length in
        let long = (fits n refl).1 in
        let some : 0 < span.size = omega arith in
        let not_none : (span.size == 0) ≡ false = grind (arith, nat_tests) in
        rw (not_none, says) refl

replacement-there : (b : Bounds) (at : ℕ) (r : ReplacementText) → b.width ≡ 2 → ReplacementFits r
    → Holds b at (replacement_bytes r)
    → There (IsReplacement b) (replacement_text b.bytes) at (at + length (replacement_bytes r)) r
unfolding replacement_bytes
replacement-there b at r wide fits is =
    let after_krate = at + length (api_bytes r.krate) in
    let after_std = after_krate + length (api_bytes r.std) in
    let others = holds-later b at (api_bytes r.krate) (api_bytes r.std ++ note_bytes r.note) is in
    let krate = api-there b at r.krate wide fits.krate
    (holds-first b at (api_bytes r.krate) (api_bytes r.std ++ note_bytes r.note) is) in
    let std = api-there b after_krate r.std wide fits.std
    (holds-first b after_krate (api_bytes r.std) (note_bytes r.note) others) in
    let note = note-there b after_std r.note wide fits.note
    (holds-later b after_krate (api_bytes r.std) (note_bytes r.note) others) in
    let all = length-append (api_bytes r.krate) (api_bytes r.std ++ note_bytes r.note) in
    let some = length-append (api_bytes r.std) (note_bytes r.note) in
    there-to (IsReplacement b) (replacement_text b.bytes) at _ _ r (omega arith) (record {
      it = record { krate = krate.it; std = std.it; note = nonempty_note note.span };
      layout = record {
        after_krate = after_krate;
        after_std = after_std;
        note_span = note.span;
        krate = krate.layout;
        std = std.layout;
        note_text = note.layout;
        note = refl;
      };
      says = rw (krate.says, std.says, note.says) refl;
    })

-- the parts of a row, each right after the one before
row-there : {A T : Type 0} (b : Bounds) (IsOne : ℕ → A → ℕ → Type 0) (say : A → T) (spell : T → List ℕ)
    (IsFit : T → Type 0)
    → ((at : ℕ) (t : T) → IsFit t → Holds b at (spell t) → There IsOne say at (at + length (spell t)) t)
    → (at : ℕ) (ts : List T) → AllByRecursion IsFit ts → Holds b at (flat_map spell ts)
    → There (IsRow IsOne) (map say) at (at + length (flat_map spell ts)) ts
row-there b IsOne say spell IsFit one at [] fits is =
    there-to (IsRow IsOne) (map say) at at _ [] (omega arith) (record { it = []; layout = ended; says = refl })
row-there b IsOne say spell IsFit one at (t ∷ ts) fits is =
    let first = one at t fits.0 (holds-first b at (spell t) (flat_map spell ts) is) in
    let others = row-there b IsOne say spell IsFit one (at + length (spell t)) ts fits.1
    (holds-later b at (spell t) (flat_map spell ts) is) in
    let all = length-append (spell t) (flat_map spell ts) in
    there-to (IsRow IsOne) (map say) at _ _ (t ∷ ts) (omega arith) (record {
      it = first.it ∷ others.it;
      layout = more first.layout others.layout;
      says = rw (first.says, others.says) refl;
    })

pub record GroupFits (g : GroupText) : Type 0 where
  pub some : 0 < length g.replacements
  pub each : AllByRecursion ReplacementFits g.replacements

group-there : (b : Bounds) (at : ℕ) (g : GroupText) → b.width ≡ 2 → GroupFits g → Holds b at (group_bytes g)
    → There (IsGroup b) (group_text b.bytes) at (at + length (group_bytes g)) g
unfolding group_bytes
group-there b at g wide fits is =
    let spelled = flat_map replacement_bytes g.replacements in
    let row = row-there b (IsReplacement b) (replacement_text b.bytes) replacement_bytes ReplacementFits
    (λ at r ok here. replacement-there b at r wide ok here) (at + 2) g.replacements fits.each
    (holds-later b at (g.minor ∷ length g.replacements ∷ []) spelled is) in
    let size : length row.it ≡ length g.replacements =
    sym (length-map row.it (replacement_text b.bytes)) ∙ ap length row.says in
    let minor = byte-there b at g.minor (holds-first b at (g.minor ∷ []) (length g.replacements ∷ spelled) is) in
    let count = byte-there b (at + 1) (length g.replacements)
    (holds-first b (at + 1) (length g.replacements ∷ []) spelled
    (holds-later b at (g.minor ∷ []) (length g.replacements ∷ spelled) is)) in
    there-to (IsGroup b) (group_text b.bytes) at (at + 2 + length spelled) _ g (omega arith) (record {
      it = record { minor = g.minor; replacements = row.it };
      layout = record {
        after_minor = at + 1;
        after_count = at + 2;
        minor = minor;
        count = rw size (subst (λ n. IsByte b (at + 1) (length g.replacements) n) (omega arith) count);
        some = rw size fits.some;
        replacements = row.layout;
      };
      says = rw row.says refl;
    })

pub record ItemsFit (i : ItemsText) : Type 0 where
  pub groups : AllByRecursion GroupFits i.groups
  pub unstable : AllByRecursion ReplacementFits i.unstable
  pub unavailable : AllByRecursion ApiFits i.unavailable

items-there : (b : Bounds) (at : ℕ) (i : ItemsText) → b.width ≡ 2 → ItemsFit i → Holds b at (items_bytes i)
    → There (IsItems b) (items_text b.bytes) at (at + length (items_bytes i)) i
unfolding items_bytes
items-there b at i wide fits is =
    let one = length i.groups in
    let two = length i.unstable in
    let three = length i.unavailable in
    let groups = flat_map group_bytes i.groups in
    let unstable = flat_map replacement_bytes i.unstable in
    let unavailable = flat_map api_bytes i.unavailable in
    let rows = holds-later b at (one ∷ two ∷ three ∷ []) (groups ++ (unstable ++ unavailable)) is in
    let later = holds-later b (at + 3) groups (unstable ++ unavailable) rows in
    let group_row = row-there b (IsGroup b) (group_text b.bytes) group_bytes GroupFits
    (λ at g ok here. group-there b at g wide ok here) (at + 3) i.groups fits.groups
    (holds-first b (at + 3) groups (unstable ++ unavailable) rows) in
    let unstable_row = row-there b (IsReplacement b) (replacement_text b.bytes) replacement_bytes ReplacementFits
    (λ at r ok here. replacement-there b at r wide ok here) (at + 3 + length groups) i.unstable fits.unstable
    (holds-first b (at + 3 + length groups) unstable unavailable later) in
    let unavailable_row = row-there b (IsApi b) (api_text b.bytes) api_bytes ApiFits
    (λ at a ok here. api-there b at a wide ok here) (at + 3 + length groups + length unstable) i.unavailable
    fits.unavailable (holds-later b (at + 3 + length groups) unstable unavailable later) in
    let group_size : length group_row.it ≡ one = sym (length-map group_row.it (group_text b.bytes))
    ∙ ap length group_row.says in
    let unstable_size : length unstable_row.it ≡ two = sym (length-map unstable_row.it (replacement_text b.bytes))
    ∙ ap length unstable_row.says in
    let unavailable_size : length unavailable_row.it ≡ three = sym (length-map unavailable_row.it (api_text b.bytes))
    ∙ ap length unavailable_row.says in
    let all = groups ++ (unstable ++ unavailable) in
    let second = holds-later b at (one ∷ []) (two ∷ three ∷ all) is in
    let third = holds-later b (at + 1) (two ∷ []) (three ∷ all) second in
    let first_byte = byte-there b at one (holds-first b at (one ∷ []) (two ∷ three ∷ all) is) in
    let second_byte = byte-there b (at + 1) two (holds-first b (at + 1) (two ∷ []) (three ∷ all) second) in
    let third_byte = byte-there b (at + 1 + 1) three (holds-first b (at + 1 + 1) (three ∷ []) all third) in
    let sizes = length-append groups (unstable ++ unavailable) in
    let later_sizes = length-append unstable unavailable in
    there-to (IsItems b) (items_text b.bytes) at (at + 3 + length groups + length unstable + length unavailable) _ i
    (omega arith) (record {
      it = record { groups = group_row.it; unstable = unstable_row.it; unavailable = unavailable_row.it };
      layout = record {
        after_groups = at + 1;
        after_unstable = at + 1 + 1;
        after_counts = at + 3;
        groups_count = rw group_size first_byte;
        unstable_count = rw unstable_size second_byte;
        unavailable_count = rw unavailable_size (subst (λ n. IsByte b (at + 1 + 1) three n) (omega arith) third_byte);
        unstable_at = at + 3 + length groups;
        unavailable_at = at + 3 + length groups + length unstable;
        groups = group_row.layout;
        unstable = unstable_row.layout;
        unavailable = unavailable_row.layout;
      };
      says = rw (group_row.says, unstable_row.says, unavailable_row.says) refl;
    })

pub record EntryFits (e : EntryText) : Type 0 where
  pub name : TextFits e.name
  pub items : ItemsFit e.items

-- An entry is at an offset and says this.
pub record EntryThere (b : Bounds) (at : ℕ) (e : EntryText) : Type 0 where
  pub it : Entry
  pub layout : IsEntry b at it
  pub says : entry_text b.bytes it ≡ e

pub entry-there : (b : Bounds) (at : ℕ) (e : EntryText) → b.width ≡ 2 → EntryFits e → Holds b at (entry_bytes e)
    → EntryThere b at e
unfolding entry_bytes
entry-there b at e wide fits is =
    let name = text-there b at e.name wide fits.name
    (holds-first b at (text_bytes e.name) (items_bytes e.items) is) in
    let items = items-there b (at + length (text_bytes e.name)) e.items wide fits.items
    (holds-later b at (text_bytes e.name) (items_bytes e.items) is) in
    record {
      it = record { name = name.it; items = items.it };
      layout = record {
        after_name = at + length (text_bytes e.name);
        next = at + length (text_bytes e.name) + length (items_bytes e.items);
        name = name.layout;
        items = items.layout;
      };
      says = rw (name.says, items.says) refl;
    }
