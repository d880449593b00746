-- The note of a replaced crate, item by item, is that of the definition.
use lib.Utf8.{encode, next}
use Rattle.std.proofs.Common.{◌≡◌, ◌++◌, ◌+◌, ◌/◌, ◌≤◌, ℕ, Bool, true, false, inl, inr, List, [], ◌∷◌, cond, map, refl}
use Rattle.std.proofs.Common.{sym, ap, ◌∙◌, append_assoc, arith}
use Rattle.std.specs.Prelude.{codes, encode_utf8_all, nat_lt}
use Rattle.std.specs.List.{flat_map}
use Rattle.std.specs.Str.{IsUtf8, chars}
use Rattle.std.proofs.lemmas.Bool.{cases_eq}
use Rattle.std.proofs.lemmas.List.{map-append}
use Rattle.std.proofs.lemmas.Simd.{map-map}
use Rattle.std.proofs.lemmas.Str.{encodes-chars}
use Rattle.deny_std_table.specs.Item.{items_of}
use Rattle.deny_std_table.specs.Replacement.{EntryItems, ItemsLeft}
use Rattle.deny_std_table.specs.Spelling.{ApiText, GroupText, ItemsText, ReplacementText, items_text}
use Rattle.deny_std_table.specs.Texts as text
use Rattle.deny_std_table.specs.Texts.{ItemText, group_texts, item_texts, texts_left}
use Rattle.deny_spec_report.specs.Saying.{Stable, items_said, stable_of}
use Rattle.deny_spec_report.specs.StdReplacements.{below_heading, code_name, line, remark, replacement_lines}
use Rattle.deny_spec_report.specs.StdReplacements.{replacement_note, stable_lines, unavailable_line}
use Rattle.deny_std.specs.declared.note.Heading.{Heading}
use Rattle.deny_std.specs.declared.note.Heading.TheVariants as heading
use Rattle.deny_std.specs.private.Note.{code_letter, heading_of, item_lines, lines_below, link_line, new_heading}
use Rattle.deny_std.specs.private.Note.{replaced_lines, same_heading}
use Rattle.deny_std.specs.private.Said.{said_of}
use Rattle.deny_std.proofs.SaidLemmas.{entry-said}

-- the items of a table as the iterator gives them
stable_item : Stable → ItemText
stable_item stable = text.Stable stable.replacement stable.minor

group-stable : (group : GroupText) → map stable_item (stable_of group) ≡ group_texts group
unfolding stable_item
group-stable group = map-map stable_item (λ r. record { minor = group.minor; replacement = r }) group.replacements

all-stable : (groups : List GroupText) → map stable_item (flat_map stable_of groups) ≡ flat_map group_texts groups
all-stable [] = refl
all-stable (group ∷ groups) =
    map-append stable_item (stable_of group) (flat_map stable_of groups)
    ∙ (ap (λ xs. xs ++ map stable_item (flat_map stable_of groups)) (group-stable group)
    ∙ ap (λ xs. group_texts group ++ xs) (all-stable groups))

regrouped : (head lines more rest whole : List ℕ) → whole ≡ more ++ rest
    → head ++ (lines ++ whole) ≡ (head ++ (lines ++ more)) ++ rest
regrouped head lines more rest whole is = rw (is, append_assoc, append_assoc) refl

module _ (name : List ℕ) where
  abbrev below : Heading → List ItemText → List ℕ
  below last items = lines_below name (code_name name) last items

  abbrev unavailable_lines : List ApiText → List ℕ
  unavailable_lines apis = below_heading (codes "## Unavailable") (unavailable_line name) apis

  unavailable-from : (apis : List ApiText)
      → below heading.Unavailable (map text.Unavailable apis) ≡ flat_map (unavailable_line name) apis
  unavailable-from [] = refl
  unavailable-from (api ∷ apis) = ap (λ xs. unavailable_line name api ++ xs) (unavailable-from apis)

  unavailable-below : (last : Heading) (apis : List ApiText) → same_heading heading.Unavailable last ≡ false
      → below last (map text.Unavailable apis) ≡ unavailable_lines apis
  unavailable-below last [] new = refl
  unavailable-below last (api ∷ apis) new =
      rw new (ap (λ xs. line (codes "## Unavailable") ++ (unavailable_line name api ++ xs)) (unavailable-from apis))

  unstable-from : (rs : List ReplacementText) (apis : List ApiText)
      → below heading.Unstable (map text.Unstable rs ++ map text.Unavailable apis)
      ≡ flat_map (replacement_lines name) rs ++ unavailable_lines apis
  unfolding replacement_lines
  unstable-from [] apis = unavailable-below heading.Unstable apis refl
  unstable-from (r ∷ rs) apis =
      ap (λ xs. replacement_lines name r ++ xs) (unstable-from rs apis)
      ∙ sym (append_assoc (replacement_lines name r) (flat_map (replacement_lines name) rs) (unavailable_lines apis))

  unstable-below : (minor : ℕ) (rs : List ReplacementText) (apis : List ApiText)
      → below (heading.Version minor) (map text.Unstable rs ++ map text.Unavailable apis)
      ≡ below_heading (codes "## Unstable") (replacement_lines name) rs ++ unavailable_lines apis
  unfolding replacement_lines
  unstable-below minor [] apis = unavailable-below (heading.Version minor) apis refl
  unstable-below minor (r ∷ rs) apis =
      let head = line (codes "## Unstable") in
      let rest = flat_map (replacement_lines name) rs in
      ap (λ xs. head ++ (replacement_lines name r ++ xs)) (unstable-from rs apis)
      ∙ (ap (λ xs. head ++ xs) (sym (append_assoc (replacement_lines name r) rest (unavailable_lines apis)))
      ∙ sym (append_assoc head (replacement_lines name r ++ rest) (unavailable_lines apis)))

  stable-below : (last : ℕ) (stable : List Stable) (items : List ItemText) (rest : List ℕ)
      → ((minor : ℕ) → below (heading.Version minor) items ≡ rest)
      → below (heading.Version last) (map stable_item stable ++ items) ≡ stable_lines name last stable ++ rest
  unfolding replacement_lines stable_lines stable_item
  stable-below last [] items rest then = then last
  stable-below last (s ∷ stable) items rest then =
      regrouped (new_heading (heading.Version s.minor) (heading.Version last)) (replacement_lines name s.replacement)
      (stable_lines name s.minor stable) rest _ (stable-below s.minor stable items rest then)

  note-lines : (items : ItemsText)
      → line (codes "## Stable") ++ below (heading.Version 0) (item_texts items)
      ≡ replacement_note name (items_said items)
  unfolding replacement_note
  note-lines items =
      ap (λ xs. line (codes "## Stable") ++ xs)
      (ap (λ xs. below (heading.Version 0) (xs ++ (map text.Unstable items.unstable
      ++ map text.Unavailable items.unavailable))) (sym (all-stable items.groups))
      ∙ stable-below 0 (flat_map stable_of items.groups) _ _
      (λ minor. unstable-below minor items.unstable items.unavailable))

-- ---- a name letter by letter, and byte by byte
stays : (letter : ℕ) → (letter ≡ 45 → ⊥) → code_letter letter ≡ letter
stays letter other = grind (arith, other)

above : (byte : ℕ) → 128 ≤ byte → code_letter byte ≡ byte
above byte high = stays byte (λ is. omega arith)

-- no byte of another letter is a `-`
others : (letter : ℕ) → (letter ≡ 45 → ⊥) → map code_letter (encode letter) ≡ encode letter
unfolding encode
others letter other = by_size (nat_lt letter 128) (nat_lt letter 2048) (nat_lt letter 65536)
  where
    by_size : (b c d : Bool)
        → map code_letter (cond b (letter ∷ []) (cond c ((192 + letter / 64) ∷ next letter ∷ [])
        (cond d ((224 + letter / 4096) ∷ next (letter / 64) ∷ next letter ∷ [])
        ((240 + letter / 262144) ∷ next (letter / 4096) ∷ next (letter / 64) ∷ next letter ∷ []))))
        ≡ cond b (letter ∷ []) (cond c ((192 + letter / 64) ∷ next letter ∷ [])
        (cond d ((224 + letter / 4096) ∷ next (letter / 64) ∷ next letter ∷ [])
        ((240 + letter / 262144) ∷ next (letter / 4096) ∷ next (letter / 64) ∷ next letter ∷ [])))
    by_size true c d = rw (stays letter other) refl
    by_size false true d = rw (above (192 + letter / 64) (omega arith), above (next letter) (omega arith)) refl
    by_size false false true = rw (
      above (224 + letter / 4096) (omega arith),
      above (next (letter / 64)) (omega arith),
      above (next letter) (omega arith),
    ) refl
    by_size false false false = rw (
      above (240 + letter / 262144) (omega arith),
      above (next (letter / 4096)) (omega arith),
      above (next (letter / 64)) (omega arith),
      above (next letter) (omega arith),
    ) refl

letter-bytes : (letter : ℕ) → encode (code_letter letter) ≡ map code_letter (encode letter)
unfolding encode
letter-bytes letter = elim (cases_eq letter 45)
    as (λ _. encode (code_letter letter) ≡ map code_letter (encode letter)) [
      | inl is ↦ rw is refl
      | inr other ↦ ap encode (stays letter other) ∙ sym (others letter other)
    ]

letters-bytes : (letters : List ℕ) → encode_utf8_all (map code_letter letters) ≡ map code_letter
    (encode_utf8_all letters)
letters-bytes [] = refl
letters-bytes (letter ∷ letters) =
    ap (λ xs. xs ++ encode_utf8_all (map code_letter letters)) (letter-bytes letter)
    ∙ (ap (λ xs. map code_letter (encode letter) ++ xs) (letters-bytes letters)
    ∙ sym (map-append code_letter (encode letter) (encode_utf8_all letters)))

pub code-letters : (name : List ℕ) → IsUtf8 name → encode_utf8_all (map code_letter (chars name)) ≡ code_name name
unfolding code_name
code-letters name utf8 = letters-bytes (chars name) ∙ ap (map code_letter) (encodes-chars name utf8)

-- ---- a note that is written item by item

pub note-starts : (name code note : List ℕ) (e : EntryItems) (left : ItemsLeft) → code ≡ code_name name
    → note ≡ line (codes "## Stable") → left.bytes ≡ e.bytes → left.items ≡ items_of e.items
    → note ++ lines_below name code (heading.Version 0) (texts_left left) ≡ replacement_note name (said_of e)
note-starts name code note e left is starts bytes items =
    rw (is, starts, entry-said e left bytes items) (note-lines name (items_text e.bytes e.items))

pub note-goes-on : (name code : List ℕ) (last head : Heading) (item : ItemText) (old new : List ItemText)
    (note headed more whole : List ℕ) → head ≡ heading_of item → old ≡ item ∷ new
    → headed ≡ note ++ new_heading head last → more ≡ headed ++ item_lines name code item → note
    ++ lines_below name code last old ≡ whole
    → more ++ lines_below name code head new ≡ whole
note-goes-on name code last head item old new note headed more whole heading next above tail so =
    let rest = lines_below name code (heading_of item) new in
    let lines = item_lines name code item in
    ap (λ h. more ++ lines_below name code h new) heading
    ∙ (ap (λ xs. xs ++ rest) (tail ∙ ap (λ xs. xs ++ lines) (above ∙ ap (λ h. note ++ new_heading h last) heading))
    ∙ (append_assoc (note ++ new_heading (heading_of item) last) lines rest
    ∙ (append_assoc note (new_heading (heading_of item) last) (lines ++ rest)
    ∙ (ap (λ items. note ++ lines_below name code last items) (sym next) ∙ so))))

-- the lines of a replacement are written piece by piece
pub replaced-written : (code : List ℕ) (r : ReplacementText) (note a b d e new : List ℕ) → a ≡ note ++ codes "```diff\n"
    → b ≡ a ++ link_line (codes "- [") code (codes "::") r.krate → d ≡ b ++ link_line (codes "+ [") [] [] r.std
    → e ≡ d ++ codes "```\n\n" → new ≡ e ++ remark r.note → new ≡ note ++ replaced_lines code r
replaced-written code r note a b d e new first second third fourth fifth =
    rw (fifth, fourth, third, second, first) (simp append_assoc)

-- a link is written as one line
pub link-written : (sign code divider name between url behind end : List ℕ)
    → sign ++ (code ++ (divider ++ (name ++ (between ++ (url ++ (behind ++ end))))))
    ≡ (sign ++ (code ++ (divider ++ (name ++ (between ++ (url ++ behind)))))) ++ end
link-written sign code divider name between url behind end = simp append_assoc
