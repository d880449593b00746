-- The text of a plain value has no newline, so that lines of such texts, split at newlines, are these texts.
use Rattle.std.proofs.Common.{◌≡◌, ℕ, ◌<◌, ◌/◌, ◌%◌, ◌^◌, ◌+◌, inl, inr, Bool, true, false, List, [], ◌∷◌, ◌++◌}
use Rattle.std.proofs.Common.{decimal, refl, arith, cond, nat_lt, ap, ◌∙◌, subst, sym, ◌==◌, ◌||◌, append_assoc}
use Rattle.std.specs.Prelude.{All, codes, map}
use Rattle.std.specs.List.{flat_map, slice_split}
use Rattle.std.specs.Char.{digit_char}
use Rattle.std.proofs.lemmas.Bool.{ne_eqb, cases_Bool, eqb-true}
use Rattle.std.proofs.lemmas.Fmt.{decimal_by_steps}
use Rattle.std.proofs.lemmas.List.Concat.{flat_map-cons}
use Rattle.std.proofs.lemmas.List.Splits.{slice_split_at}
use Rattle.std.proofs.lemmas.List.Elements.{All-append, All-cons, All-from_recursion, All-head, All-nil, All-tail}
use Rattle.std.proofs.lemmas.List.Elements.{All-weaker}
use Rattle.json.specs.Print.{escape, escape_byte, escape_letter, quoted, token_text}
use Rattle.json.specs.Token.{Token}
use Rattle.serde_json.specs.Data.{Data, null, boolean, number, string, array, object, unsigned, negative, float, Items}
use Rattle.serde_json.specs.Data.{no_items, item, Members, no_members, member}
use Rattle.serde_json.specs.Written.{comma_if, compact_text, items_text, members_text}
use Rattle.deny_base.specs.Files.{is_newline}
use Rattle.deny_gate_json.specs.Lines.{line}
use Rattle.deny_gate_json.specs.Reading.{AreJsonLines, IsJsonOf, IsPlain, ItemsArePlain, MembersArePlain}
use Rattle.deny_gate_json.proofs.ReadingLemmas.{is_json}

abbrev IsOther : ℕ → Type 0
IsOther b = is_newline b ≡ false

abbrev AreOneLine : List ℕ → Type 0
AreOneLine text = All IsOther text

none : AreOneLine []
none = All-nil IsOther

and : (b : ℕ) (text : List ℕ) → IsOther b → AreOneLine text → AreOneLine (b ∷ text)
and b text other others = All-cons IsOther b text other others

then : (text more : List ℕ) → AreOneLine text → AreOneLine more → AreOneLine (text ++ more)
then text more here later = All-append IsOther text more here later

high : (b : ℕ) → 10 < b → IsOther b
high b above = ne_eqb b 10 (λ e. omega (arith, e))

-- ---- numbers

decimal_one_line : (n : ℕ) → n < 2 ^ 64 → AreOneLine (decimal n)
decimal_one_line = decimal_by_steps (λ n digits. AreOneLine digits)
    (λ n low. and (48 + n) [] (high (48 + n) (omega arith)) none)
    (λ n digits more are. then digits ((48 + n % 10) ∷ []) are
    (and (48 + n % 10) [] (high (48 + n % 10) (omega arith)) none))

-- ---- strings

digit_other : (d : ℕ) → IsOther (digit_char d)
digit_other d = by (nat_lt d 10)
  where
    by : (b : Bool) → IsOther (cond b (48 + d) (87 + d))
    by true = high (48 + d) (omega arith)
    by false = high (87 + d) (omega arith)

choice_other : (b : Bool) (x y : ℕ) → IsOther x → IsOther y → IsOther (cond b x y)
choice_other true x y here there = here
choice_other false x y here there = there

letter_other : (x : ℕ) → IsOther x → IsOther (escape_letter x)
letter_other x other =
    choice_other ((x == 34) || (x == 92)) x _ other
    (choice_other (x == 8) 98 _ refl
    (choice_other (x == 12) 102 _ refl
    (choice_other (x == 10) 110 _ refl
    (choice_other (x == 13) 114 _ refl (choice_other (x == 9) 116 0 refl refl)))))

either_one_line : (b : Bool) (x y : List ℕ) → AreOneLine x → AreOneLine y → AreOneLine (cond b x y)
either_one_line true x y here there = here
either_one_line false x y here there = there

other_one_line : (x : ℕ) → IsOther x → AreOneLine (escape_byte x)
unfolding escape_byte
other_one_line x other =
    either_one_line (nat_lt 0 (escape_letter x)) (92 ∷ escape_letter x ∷ []) _
    (and 92 (escape_letter x ∷ []) refl (and (escape_letter x) [] (letter_other x other) none))
    (either_one_line (nat_lt x 32) (92 ∷ 117 ∷ 48 ∷ 48 ∷ digit_char (x / 16) ∷ digit_char (x % 16) ∷ []) (x ∷ [])
    (then (92 ∷ 117 ∷ 48 ∷ 48 ∷ []) (digit_char (x / 16) ∷ digit_char (x % 16) ∷ [])
    (All-from_recursion IsOther (92 ∷ 117 ∷ 48 ∷ 48 ∷ []) (refl, (refl, (refl, (refl, tt)))))
    (and (digit_char (x / 16)) (digit_char (x % 16) ∷ []) (digit_other (x / 16))
    (and (digit_char (x % 16)) [] (digit_other (x % 16)) none)))
    (and x [] other none))

newline_one_line : AreOneLine (escape_byte 10)
unfolding escape_byte
newline_one_line = All-from_recursion IsOther (92 ∷ 110 ∷ []) (refl, (refl, tt))

byte_one_line : (x : ℕ) → AreOneLine (escape_byte x)
byte_one_line x = elim (cases_Bool (is_newline x)) as (λ _. AreOneLine (escape_byte x)) [
  | inl is ↦ subst (λ b. AreOneLine (escape_byte b)) (sym (eqb-true x 10 is)) newline_one_line
  | inr other ↦ other_one_line x other
]

escape_one_line : (s : List ℕ) → AreOneLine (escape s)
escape_one_line [] = none
escape_one_line (x ∷ s) = subst AreOneLine (sym (flat_map-cons escape_byte x s))
    (then (escape_byte x) (escape s) (byte_one_line x) (escape_one_line s))

quoted_one_line : (s : List ℕ) → AreOneLine (quoted s)
quoted_one_line s =
    and 34 (escape s ++ 34 ∷ []) refl (then (escape s) (34 ∷ []) (escape_one_line s) (and 34 [] refl none))

comma_one_line : (later : Bool) → AreOneLine (comma_if later)
comma_one_line true = and 44 [] refl none
comma_one_line false = none

boolean_one_line : (b : Bool) → AreOneLine (token_text (Token.boolean b))
boolean_one_line true = All-from_recursion IsOther (codes "true") (refl, (refl, (refl, (refl, tt))))
boolean_one_line false = All-from_recursion IsOther (codes "false") (refl, (refl, (refl, (refl, (refl, tt)))))

mutual
  one_line : (value : Data) → IsPlain value → AreOneLine (compact_text value)
  one_line null is = All-from_recursion IsOther (codes "null") (refl, (refl, (refl, (refl, tt))))
  one_line (boolean b) is = boolean_one_line b
  one_line (number (unsigned n)) is = decimal_one_line n is
  one_line (number (negative z)) is = absurd is
  one_line (number (float x)) is = absurd is
  one_line (string s) is = quoted_one_line s
  one_line (array values) is = and 91 _ refl (items_one_line false values is)
  one_line (object members) is = and 123 _ refl (members_one_line false members is)

  items_one_line : (later : Bool) (values : Items) → ItemsArePlain values → AreOneLine (items_text later values)
  items_one_line later no_items are = and 93 [] refl none
  items_one_line later (item value others) are =
      then (comma_if later) (compact_text value ++ items_text true others) (comma_one_line later)
      (then (compact_text value) (items_text true others) (one_line value are.0) (items_one_line true others are.1))

  members_one_line : (later : Bool) (members : Members) → MembersArePlain members
      → AreOneLine (members_text later members)
  members_one_line later no_members are = and 125 [] refl none
  members_one_line later (member key value others) are =
      then (comma_if later) _ (comma_one_line later)
      (then (quoted key) _ (quoted_one_line key)
      (and 58 _ refl
      (then (compact_text value) (members_text true others) (one_line value are.1)
      (members_one_line true others are.2))))

-- ---- lines

-- lines, split at newlines, are their texts, with nothing behind the last newline
split_lines : (values : List Data) → All IsPlain values
    → slice_split is_newline (flat_map line values) ≡ map compact_text values ++ [] ∷ []
split_lines [] are = refl
split_lines (value ∷ others) are =
    let text = compact_text value in
    let rest = flat_map line others in
    ap (slice_split is_newline) (flat_map-cons line value others ∙ append_assoc text (10 ∷ []) rest)
    ∙ (slice_split_at is_newline text 10 rest (one_line value (All-head IsPlain value others are)) refl
    ∙ ap (λ (parts : List (List ℕ)). text ∷ parts) (split_lines others (All-tail IsPlain value others are)))

pub json_lines : (values : List Data) → All IsPlain values → AreJsonLines (flat_map line values) values
json_lines values are = record {
  split = split_lines values are;
  are_json = All-weaker IsPlain (λ value. IsJsonOf (compact_text value) value) is_json values are;
}
