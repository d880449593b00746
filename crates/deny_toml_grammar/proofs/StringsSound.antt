-- The content of a string that is read is in the grammar.
use Rattle.std.proofs.Common.{◌≡◌, ℕ, zero, suc, ◌+◌, ◌<◌, ◌≤◌, ◌⊎◌, Bool, true, false, ◌&&◌, ◌==◌, nat_lt, nat_le}
use Rattle.std.proofs.Common.{List, [], ◌∷◌, ◌++◌, length, take, drop, Option, Some, None, option_map, option_and_then}
use Rattle.std.proofs.Common.{refl, sym, ap, subst, ◌∙◌, inl, inr, arith, append_assoc, length-take}
use Rattle.std.proofs.lemmas.Option.{none-some, same_Some}
use Rattle.std.proofs.lemmas.Bool.{cases_Bool, and_parts, false≢true}
use Rattle.std.proofs.lemmas.Bool.Decides.{nat_tests}
use Rattle.std.proofs.lemmas.List.{take-append-drop}
use Rattle.std.specs.Char.{encode_utf8}
use Rattle.std.specs.Str.Parse.{digits_value}
use Rattle.deny_toml_grammar.specs.Lexical.{Read, first, is_plain, starts_newline, skip_spaces, skip_from}
use Rattle.deny_toml_grammar.specs.private.Reading.{read_map}
use Rattle.deny_toml_grammar.specs.Strings.{letter_escape, writes_scalar, hex_escape, escape_char, escape, special}
use Rattle.deny_toml_grammar.specs.Strings.{content, prepend, after_piece}
use Rattle.deny_toml_grammar.specs.GrammarStrings.{AreSpaces, IsNewline, IsBlank, IsInk, IsEscape, IsContent}
use Rattle.deny_toml_grammar.specs.GrammarStrings.{is_delimiter}
use Rattle.deny_toml_grammar.specs.GrammarStrings as grammar
use Rattle.deny_toml_grammar.proofs.Blanks.{skip_spaces_found, skip_from_found, skip_from_stops, skip_from-prefix}
use Rattle.deny_toml_grammar.proofs.Blanks.{Skipped, done, unclosed}
use Rattle.deny_toml_grammar.proofs.StringsLaws.{content_zero, content_plain, content_special}
use Rattle.deny_toml_grammar.proofs.StringsComplete.{closing, closing_first, run, RunFits}

-- the forms of an escape: a character, or a line end with the blanks after it
data Escaped (multi : Bool) (rest : List ℕ) : List ℕ → List ℕ → Type 0 where
  character : (escaped : List ℕ) (c : ℕ) → IsEscape escaped c → Escaped multi rest (escaped ++ rest) (encode_utf8 c)
  cut : (spaces end blank : List ℕ) → multi ≡ true → AreSpaces spaces → IsNewline end → IsBlank false blank → IsInk rest
      → Escaped multi rest (spaces ++ (end ++ (blank ++ rest))) []

-- a reading that gave this value and this rest
abbrev pub read_of : {A : Type 0} → A → List ℕ → Read A
read_of a rest = Some (a, rest)

pub read_same : {A : Type 0} (P : A → List ℕ → Type 0) (a c : A) (b d : List ℕ) → read_of a b ≡ read_of c d → P a b
    → P c d
read_same {A} P a c b d e p =
    let Q : A × List ℕ → Type 0 = λ q. P q.0 q.1 in
    let same = same_Some {A = A × List ℕ} (a, b) (c, d) e in
    subst Q same p

data HexDigits (n : ℕ) (rest : List ℕ) : List ℕ → ℕ → Type 0 where
  hex_digits : (digits : List ℕ) → length digits ≡ n → writes_scalar digits ≡ true
      → HexDigits n rest (digits ++ rest) (digits_value 16 digits)

hex_escape_found : (n : ℕ) (text rest : List ℕ) (c : ℕ) → hex_escape n text ≡ Some (c, rest) → HexDigits n rest text c
unfolding hex_escape
hex_escape_found n text rest c e =
    elim (cases_Bool (nat_le n (length text) && writes_scalar (take n text))) [
      | inl good ↦
          let (enough, writes) = and_parts (nat_le n (length text)) (writes_scalar (take n text)) good in
          let len : length (take n text) ≡ n = grind (arith, nat_tests, length-take n text) in
          let here : HexDigits n (drop n text) text (digits_value 16 (take n text)) =
          subst (λ t. HexDigits n (drop n text) t (digits_value 16 (take n text))) (take-append-drop n text)
          (hex_digits (take n text) len writes) in
          read_same (λ v r. HexDigits n r text v) (digits_value 16 (take n text)) c (drop n text) rest (rw good at e)
          here
      | inr bad ↦ absurd (none-some (c, rest) (rw bad at e))
    ]

data EscapePrefix (rest : List ℕ) : List ℕ → ℕ → Type 0 where
  prefix : (escaped : List ℕ) (c : ℕ) → IsEscape escaped c → EscapePrefix rest (escaped ++ rest) c

letter_found : (b : ℕ) (cs rest : List ℕ) (c : ℕ) (o : Option ℕ) → letter_escape b ≡ o
    → option_map {U = ℕ × List ℕ} (λ x. (x, cs)) o ≡ Some (c, rest)
    → EscapePrefix rest (b ∷ cs) c
letter_found b cs rest c None means e = absurd (none-some (c, rest) e)
letter_found b cs rest c (Some v) means e = read_same (λ x r. EscapePrefix r (b ∷ cs) x) v c cs rest e
    (prefix (b ∷ []) v (grammar.letter b v means))

short_prefix : (rest cs : List ℕ) (c : ℕ) → HexDigits 4 rest cs c → EscapePrefix rest (117 ∷ cs) c
short_prefix rest cs c (hex_digits digits len writes) = prefix (117 ∷ digits) (digits_value 16 digits)
    (grammar.short digits len writes)

long_prefix : (rest cs : List ℕ) (c : ℕ) → HexDigits 8 rest cs c → EscapePrefix rest (85 ∷ cs) c
long_prefix rest cs c (hex_digits digits len writes) = prefix (85 ∷ digits) (digits_value 16 digits)
    (grammar.long digits len writes)

escape_char_found : (text rest : List ℕ) (c : ℕ) → escape_char text ≡ Some (c, rest) → EscapePrefix rest text c
unfolding escape_char
escape_char_found [] rest c e = absurd (none-some (c, rest) e)
escape_char_found (b ∷ cs) rest c e =
    elim (cases_Bool (b == 0x75)) [
      | inl short ↦
          let b_is : 117 ≡ b = grind (arith, nat_tests) in
          subst (λ x. EscapePrefix rest (x ∷ cs) c) b_is (short_prefix rest cs c
          (hex_escape_found 4 cs rest c (rw short at e)))
      | inr other ↦ elim (cases_Bool (b == 0x55)) [
        | inl long ↦
            let b_is : 85 ≡ b = grind (arith, nat_tests) in
            subst (λ x. EscapePrefix rest (x ∷ cs) c) b_is (long_prefix rest cs c
            (hex_escape_found 8 cs rest c (rw (other, long) at e)))
        | inr letter_ ↦ letter_found b cs rest c (letter_escape b) refl (rw (other, letter_) at e)
      ]
    ]

-- a text that begins with a line end
pub data NewlinePrefix : List ℕ → Type 0 where
  newline_prefix : (end more : List ℕ) → IsNewline end → NewlinePrefix (end ++ more)

pub newline_found : (text : List ℕ) → starts_newline text ≡ true → NewlinePrefix text
newline_found [] e = absurd (false≢true e)
newline_found (b ∷ []) e =
    let is_feed : 10 ≡ b = grind (arith, nat_tests) in
    subst (λ x. NewlinePrefix (x ∷ [])) is_feed (newline_prefix (10 ∷ []) [] grammar.line_feed)
newline_found (b ∷ (d ∷ cs)) e =
    elim (cases_Bool (b == 10)) [
      | inl feed ↦ let is_feed : 10 ≡ b = grind (arith, nat_tests) in subst (λ x. NewlinePrefix (x ∷ (d ∷ cs))) is_feed
          (newline_prefix (10 ∷ []) (d ∷ cs) grammar.line_feed)
      | inr other ↦
          let is_return : 13 ≡ b = grind (arith, nat_tests) in
          let is_feed : 10 ≡ d = grind (arith, nat_tests) in
          subst (λ x. NewlinePrefix (x ∷ (d ∷ cs))) is_return
          (subst (λ x. NewlinePrefix (13 ∷ (x ∷ cs))) is_feed (newline_prefix (13 ∷ (10 ∷ [])) cs grammar.both))
    ]

-- a text that begins with spaces
pub data SpacesPrefix (rest : List ℕ) : List ℕ → Type 0 where
  spaces_prefix : (spaces : List ℕ) → AreSpaces spaces → SpacesPrefix rest (spaces ++ rest)

pub spaces_found : (text : List ℕ) → SpacesPrefix (skip_spaces text) text
spaces_found text =
    let (spaces, text_is, are_spaces) = skip_spaces_found text in
    subst (SpacesPrefix (skip_spaces text)) (sym text_is) (spaces_prefix spaces are_spaces)

cut_blank : (spaces end rest more : List ℕ) → AreSpaces spaces → IsNewline end → IsInk rest → Skipped false rest more
    → Escaped true rest (spaces ++ (end ++ more)) []
cut_blank spaces end rest more are_spaces is_end ink (done blank is_blank) =
    cut spaces end blank refl are_spaces is_end is_blank ink
cut_blank spaces end rest more are_spaces is_end ink (unclosed blank body impossible is_blank all stop) =
    absurd (false≢true impossible)

cut_newline : (spaces after : List ℕ) → AreSpaces spaces → NewlinePrefix after
    → Escaped true (skip_from false false (spaces ++ after)) (spaces ++ after) []
cut_newline spaces after are_spaces (newline_prefix end more is_end) =
    let rest = skip_from false false more in
    let on : skip_from false false (spaces ++ (end ++ more)) ≡ rest =
    skip_from-prefix spaces end more are_spaces is_end in
    subst (λ r. Escaped true r (spaces ++ (end ++ more)) []) (sym on)
    (cut_blank spaces end rest more are_spaces is_end (skip_from_stops more) (skip_from_found false more))

cut_spaces : (text after : List ℕ) → starts_newline after ≡ true → SpacesPrefix after text
    → Escaped true (skip_from false false text) text []
cut_spaces text after starts (spaces_prefix spaces are_spaces) =
    cut_newline spaces after are_spaces (newline_found after starts)

by_character : (multi : Bool) (text rest bs : List ℕ) (o : Read ℕ) → escape_char text ≡ o
    → read_map encode_utf8 o ≡ Some (bs, rest) → Escaped multi rest text bs
by_character multi text rest bs None is e = absurd (none-some (bs, rest) e)
by_character multi text rest bs (Some (c, r)) is e =
    read_same (λ b t. Escaped multi t text b) (encode_utf8 c) bs r rest e
    (of_prefix multi r text c (escape_char_found text r c is))
  where
    of_prefix : (multi : Bool) (r text : List ℕ) (c : ℕ) → EscapePrefix r text c → Escaped multi r text (encode_utf8 c)
    of_prefix multi r text c (prefix escaped _ is_escape) = character escaped c is_escape

escape_found : (multi : Bool) (text rest bs : List ℕ) → escape multi text ≡ Some (bs, rest)
    → Escaped multi rest text bs
unfolding escape
escape_found multi text rest bs e =
    elim (cases_Bool (multi && starts_newline (skip_spaces text))) [
      | inl cuts ↦
          let (is_multi, starts) = and_parts multi (starts_newline (skip_spaces text)) cuts in
          let here : Escaped multi (skip_from false false text) text [] =
          subst (λ m. Escaped m (skip_from false false text) text []) (sym is_multi)
          (cut_spaces text (skip_spaces text) starts (spaces_found text)) in
          read_same (λ b t. Escaped multi t text b) [] bs (skip_from false false text) rest (rw cuts at e) here
      | inr other ↦ by_character multi text rest bs (escape_char text) refl (rw other at e)
    ]

-- a reading with bytes before it
data Prepended (xs : List ℕ) (r : Read (List ℕ)) (rest : List ℕ) : List ℕ → Type 0 where
  prepended : (ws : List ℕ) → r ≡ read_of ws rest → Prepended xs r rest (xs ++ ws)

prepend_found : (xs vs rest : List ℕ) (r : Read (List ℕ)) → prepend xs r ≡ read_of vs rest → Prepended xs r rest vs
prepend_found xs vs rest None e = absurd (none-some (vs, rest) e)
prepend_found xs vs rest (Some (ws, r)) e = read_same (λ v t. Prepended xs (read_of ws r) t v) (xs ++ ws) vs r rest e
    (prepended ws refl)

-- the text begins with the closing delimiters
data Ends (d : ℕ) (multi : Bool) (next : List ℕ) : List ℕ → Type 0 where
  ends : Ends d multi next (closing multi d ++ next)

-- the bytes that a byte which is not plain writes
data Goes (d : ℕ) (multi : Bool) (next : List ℕ) : List ℕ → List ℕ → Type 0 where
  quote : multi ≡ true → (1 + run d next == 3) ≡ false → nat_lt (1 + run d next) 6 ≡ true
      → Goes d multi next (d ∷ next) (d ∷ [])
  escapes : (cs bs : List ℕ) → d ≡ 34 → Escaped multi next cs bs → Goes d multi next (92 ∷ cs) bs
  returns : multi ≡ true → first next ≡ 10 → Goes d multi next (13 ∷ next) (13 ∷ [])

abbrev Special : ℕ → Bool → List ℕ → Option (List ℕ) → List ℕ → Type 0
Special d multi text None next = Ends d multi next text
Special d multi text (Some bs) next = Goes d multi next text bs

run_three : (d : ℕ) (text : List ℕ) → run d text ≡ 3 → d ∷ (d ∷ (d ∷ drop 3 text)) ≡ text
run_three d [] e = absurd (omega arith)
run_three d (a ∷ []) e = absurd (grind (arith, nat_tests))
run_three d (a ∷ (b ∷ [])) e = absurd (grind (arith, nat_tests))
run_three d (a ∷ (b ∷ (c ∷ cs))) e =
    let a_is : d ≡ a = grind (arith, nat_tests) in
    let b_is : d ≡ b = grind (arith, nat_tests) in
    let c_is : d ≡ c = grind (arith, nat_tests) in
    ap (λ x. x ∷ (d ∷ (d ∷ cs))) a_is ∙ ap (λ x. a ∷ (x ∷ (d ∷ cs))) b_is ∙ ap (λ x. a ∷ (b ∷ (x ∷ cs))) c_is

delimiters_found : (d : ℕ) (cs next : List ℕ) (piece : Option (List ℕ)) → special d true (d ∷ cs) ≡ read_of piece next
    → Special d true (d ∷ cs) piece next
unfolding special
delimiters_found d cs next piece e =
    let same : (d == d) ≡ true = grind (arith, nat_tests) in
    let counted = rw same at e in
    elim (cases_Bool (1 + run d cs == 3)) [
      | inl three ↦
          let is_three : run d (d ∷ cs) ≡ 3 = rw same (grind (arith, nat_tests)) in
          let here : Ends d true (drop 2 cs) (d ∷ cs) = subst (Ends d true (drop 2 cs)) (run_three d (d ∷ cs) is_three)
          ends in
          read_same (Special d true (d ∷ cs)) None piece (drop 2 cs) next (rw three at counted) here
      | inr other ↦ elim (cases_Bool (nat_lt (1 + run d cs) 6)) [
        | inl few ↦ read_same (Special d true (d ∷ cs)) (Some (d ∷ [])) piece cs next (rw (other, few) at counted)
            (quote refl other few)
        | inr many ↦ absurd (none-some (piece, next) (rw (other, many) at counted))
      ]
    ]

escape_special : (d : ℕ) (multi : Bool) (cs next : List ℕ) (piece : Option (List ℕ)) (o : Read (List ℕ)) → d ≡ 34
    → escape multi cs ≡ o → read_map Some o ≡ read_of piece next
    → Special d multi (92 ∷ cs) piece next
escape_special d multi cs next piece None is_quote is e = absurd (none-some (piece, next) e)
escape_special d multi cs next piece (Some (bs, r)) is_quote is e =
    read_same (Special d multi (92 ∷ cs)) (Some bs) piece r next e
    (escapes cs bs is_quote (escape_found multi cs r bs is))

delimiter_found : (d : ℕ) (multi : Bool) (cs next : List ℕ) (piece : Option (List ℕ))
    → special d multi (d ∷ cs) ≡ read_of piece next → Special d multi (d ∷ cs) piece next
unfolding special
delimiter_found d true cs next piece e = delimiters_found d cs next piece e
delimiter_found d false cs next piece e =
    let same : (d == d) ≡ true = grind (arith, nat_tests) in
    read_same (Special d false (d ∷ cs)) None piece cs next (rw same at e) ends

return_found : (d : ℕ) (multi : Bool) (cs next : List ℕ) (piece : Option (List ℕ)) → multi ≡ true → first cs ≡ 10
    → read_of (Some (13 ∷ [])) cs ≡ read_of piece next
    → Special d multi (13 ∷ cs) piece next
return_found d multi cs next piece is_multi feed e = read_same (Special d multi (13 ∷ cs)) (Some (13 ∷ [])) piece cs
    next e (returns is_multi feed)

other_found : (d : ℕ) (multi : Bool) (c : ℕ) (cs next : List ℕ) (piece : Option (List ℕ)) → is_delimiter d ≡ true
    → is_plain d multi c ≡ false → (c == d) ≡ false
    → special d multi (c ∷ cs) ≡ read_of piece next → Special d multi (c ∷ cs) piece next
unfolding special
other_found d multi c cs next piece is_d not_plain not_d e =
    elim (cases_Bool (c == 92)) [
      | inl slash ↦
          let is_slash : 92 ≡ c = grind (arith, nat_tests) in
          let is_quote : d ≡ 34 = grind (arith, nat_tests) in
          subst (λ x. Special d multi (x ∷ cs) piece next) is_slash
          (escape_special d multi cs next piece (escape multi cs) is_quote refl (rw (not_d, slash) at e))
      | inr not_slash ↦ elim (cases_Bool (multi && starts_newline (c ∷ cs))) [
        | inl line ↦
            let (is_multi, starts) = and_parts multi (starts_newline (c ∷ cs)) line in
            let not_feed : (c == 10) ≡ false = not_feed_there d multi c not_plain not_d not_slash is_multi in
            let is_return : 13 ≡ c = grind (arith, nat_tests) in
            let feed : first cs ≡ 10 = grind (arith, nat_tests) in
            let there : read_of (Some (c ∷ [])) cs ≡ read_of piece next = rw (not_d, not_slash, line) at e in
            subst (λ x. Special d multi (x ∷ cs) piece next) is_return
            (return_found d multi cs next piece is_multi feed
            (subst (λ x. read_of (Some (x ∷ [])) cs ≡ read_of piece next) (sym is_return) there))
        | inr none ↦ absurd (none-some (piece, next) (rw (not_d, not_slash, none) at e))
      ]
    ]
  where
    not_feed_there : (d : ℕ) (multi : Bool) (c : ℕ) → is_plain d multi c ≡ false → (c == d) ≡ false → (c == 92) ≡ false
        → multi ≡ true → (c == 10) ≡ false
    not_feed_there d true c not_plain not_d not_slash m = grind (arith, nat_tests)
    not_feed_there d false c not_plain not_d not_slash m = absurd (false≢true m)

nothing_found : (d : ℕ) (multi : Bool) → is_delimiter d ≡ true → special d multi [] ≡ None
unfolding special
nothing_found d true is_d = let not_d : (0 == d) ≡ false = grind (arith, nat_tests) in rw not_d
nothing_found d false is_d = let not_d : (0 == d) ≡ false = grind (arith, nat_tests) in rw not_d

special_found : (d : ℕ) (multi : Bool) (text next : List ℕ) (piece : Option (List ℕ)) → is_delimiter d ≡ true
    → is_plain d multi (first text) ≡ false
    → special d multi text ≡ read_of piece next → Special d multi text piece next
special_found d multi [] next piece is_d not_plain e = absurd
    (none-some (piece, next) (sym (nothing_found d multi is_d) ∙ e))
special_found d multi (c ∷ cs) next piece is_d not_plain e =
    elim (cases_Bool (c == d)) [
      | inl at_d ↦
          let c_is : d ≡ c = grind (arith, nat_tests) in
          subst (λ x. Special d multi (x ∷ cs) piece next) c_is
          (delimiter_found d multi cs next piece (subst (λ x. special d multi (x ∷ cs) ≡ read_of piece next) (sym c_is)
          e))
      | inr not_d ↦ other_found d multi c cs next piece is_d not_plain not_d e
    ]

-- the content at the start of a text, its closing delimiters, and the rest
pub data ContentPrefix (d : ℕ) (multi : Bool) (before : ℕ) (rest : List ℕ) : List ℕ → List ℕ → Type 0 where
  content_prefix : (cs vs : List ℕ) → IsContent d multi before cs vs
      → ContentPrefix d multi before rest (cs ++ (closing multi d ++ rest)) vs

plain_prefix : (d : ℕ) (multi : Bool) (before c : ℕ) (rest text vs : List ℕ) → is_plain d multi c ≡ true
    → ContentPrefix d multi 0 rest text vs
    → ContentPrefix d multi before rest (c ∷ text) (c ∷ vs)
plain_prefix d multi before c rest text vs plain (content_prefix cs _ is) =
    content_prefix (c ∷ cs) (c ∷ vs) (grammar.plain before c cs vs plain is)

quotes_prefix : (d : ℕ) (multi : Bool) (before : ℕ) (rest text vs : List ℕ) → multi ≡ true → before < 2
    → ContentPrefix d multi (before + 1) rest text vs
    → ContentPrefix d multi before rest (d ∷ text) (d ∷ vs)
quotes_prefix d multi before rest text vs is_multi few (content_prefix cs _ is) =
    content_prefix (d ∷ cs) (d ∷ vs) (grammar.quotes before cs vs is_multi few is)

ink_prefix : (cs tail : List ℕ) → IsInk (cs ++ tail) → IsInk cs
ink_prefix [] tail ink = record { no_space = refl; no_newline = refl }
ink_prefix (c ∷ []) tail ink = record { no_space = ink.no_space; no_newline = grind (arith, nat_tests, ink.no_newline) }
ink_prefix (c ∷ (e ∷ cs)) tail ink = record { no_space = ink.no_space; no_newline = ink.no_newline }

escaped_prefix : (d : ℕ) (multi : Bool) (before : ℕ) (rest more text bs vs : List ℕ) → d ≡ 34
    → Escaped multi more text bs → ContentPrefix d multi 0 rest more vs
    → ContentPrefix d multi before rest (92 ∷ text) (bs ++ vs)
escaped_prefix d multi before rest more text bs vs is_quote (character escaped c is_escape) (content_prefix cs _ is) =
    subst (λ t. ContentPrefix d multi before rest (92 ∷ t) (encode_utf8 c ++ vs))
    (append_assoc escaped cs (closing multi d ++ rest))
    (content_prefix (92 ∷ (escaped ++ cs)) (encode_utf8 c ++ vs)
    (grammar.escape before c escaped cs vs is_quote is_escape is))
escaped_prefix d multi before rest more text bs vs is_quote (cut spaces end blank is_multi are_spaces is_end is_blank
    ink) (content_prefix cs _ is) =
    let tail = closing multi d ++ rest in
    let joined : (spaces ++ (end ++ (blank ++ cs))) ++ tail ≡ spaces ++ (end ++ (blank ++ (cs ++ tail))) =
    rw (
      append_assoc spaces (end ++ (blank ++ cs)) tail,
      append_assoc end (blank ++ cs) tail,
      append_assoc blank cs
          tail,
    ) in
    subst (λ t. ContentPrefix d multi before rest (92 ∷ t) vs) joined
    (content_prefix (92 ∷ (spaces ++ (end ++ (blank ++ cs)))) vs
    (grammar.cut before spaces end blank cs vs is_multi is_quote are_spaces is_end is_blank (ink_prefix cs tail ink)
    is))

feed_prefix : (d : ℕ) (multi : Bool) (before : ℕ) (rest text vs : List ℕ) → is_delimiter d ≡ true → multi ≡ true
    → ContentPrefix d multi 0 rest text vs → first text ≡ 10
    → ContentPrefix d multi before rest (13 ∷ text) (13 ∷ vs)
feed_prefix d multi before rest text vs is_d is_multi (content_prefix cs _ (grammar.end _)) feed =
    let d_is : d ≡ 10 = sym (closing_first multi d rest) ∙ feed in absurd (grind (arith, nat_tests))
feed_prefix d multi before rest text vs is_d is_multi (content_prefix cs _ (grammar.plain _ c cs' vs' plain is)) feed =
    let tail = cs' ++ (closing multi d ++ rest) in
    subst (λ x. ContentPrefix d multi before rest (13 ∷ (x ∷ tail)) (13 ∷ (x ∷ vs'))) (sym feed)
    (content_prefix (13 ∷ (10 ∷ cs')) (13 ∷ (10 ∷ vs')) (grammar.newline before cs' vs' is_multi is))
feed_prefix d multi before rest text vs is_d is_multi (content_prefix cs _ (grammar.newline _ cs' vs' _ is)) feed =
    absurd (omega arith)
feed_prefix d multi before rest text vs is_d is_multi (content_prefix cs _ (grammar.quotes _ cs' vs' _ few is)) feed =
    absurd (grind (arith, nat_tests))
feed_prefix d multi before rest text vs is_d is_multi (content_prefix cs _
    (grammar.escape _ c escaped cs' vs' is_quote is_escape is)) feed = absurd (omega arith)
feed_prefix d multi before rest text vs is_d is_multi (content_prefix cs _
    (grammar.cut _ spaces end blank cs' vs' _ is_quote are_spaces is_end is_blank ink is)) feed = absurd (omega arith)

-- the number of delimiters before an offset: 0, or few enough for the run at the offset
BeforeFits : ℕ → ℕ → Type 0
BeforeFits before n = (before ≡ 0) ⊎ RunFits before n

few_before : (before n : ℕ) → BeforeFits before (1 + n) → (1 + n == 3) ≡ false → nat_lt (1 + n) 6 ≡ true → (before < 2)
    × RunFits (before + 1) n
unfolding BeforeFits
few_before before n (inl none) other few =
    elim (cases_Bool (nat_lt n 2)) [
      | inl one ↦ (omega arith, inl (grind (arith, nat_tests)))
      | inr more ↦ (omega arith, inr (grind (arith, nat_tests), grind (arith, nat_tests)))
    ]
few_before before n (inr (inl text)) other few = (omega arith, inl (omega arith))
few_before before n (inr (inr ends_it)) other few = (
  grind (arith, nat_tests),
  inr
      (grind (arith, nat_tests), omega arith),
)

-- the rest of a string, which has fewer pieces, is in the grammar
abbrev Rest : ℕ → Bool → ℕ → List ℕ → Type 0
Rest d multi n rest = (before : ℕ) (text vs : List ℕ) → before ≤ 2 → BeforeFits before (run d text)
    → content d multi n text ≡ read_of vs rest → ContentPrefix d multi before rest text vs

goes_prefix : (d : ℕ) (multi : Bool) (n before : ℕ) (rest text bs next ws : List ℕ) → is_delimiter d ≡ true
    → Rest d multi n rest → BeforeFits before (run d text) → Goes d multi next text bs
    → content d multi n next ≡ read_of ws rest → ContentPrefix d multi before rest text (bs ++ ws)
unfolding BeforeFits
goes_prefix d multi n before rest text bs next ws is_d ih fits (quote is_multi other few) e =
    let same : (d == d) ≡ true = grind (arith, nat_tests) in
    let (room, more) = few_before before (run d next) (rw same at fits) other few in
    quotes_prefix d multi before rest next ws is_multi room (ih (before + 1) next ws (omega arith) (inr more) e)
goes_prefix d multi n before rest text bs next ws is_d ih fits (escapes cs _ is_quote escaped) e =
    escaped_prefix d multi before rest next cs bs ws is_quote escaped (ih 0 next ws (omega arith) (inl refl) e)
goes_prefix d multi n before rest text bs next ws is_d ih fits (returns is_multi feed) e =
    feed_prefix d multi before rest next ws is_d is_multi (ih 0 next ws (omega arith) (inl refl) e) feed

ends_prefix : (d : ℕ) (multi : Bool) (before : ℕ) (text next : List ℕ) → Ends d multi next text
    → ContentPrefix d multi before next text []
ends_prefix d multi before text next ends = content_prefix [] [] (grammar.end before)

piece_prefix : (d : ℕ) (multi : Bool) (n before : ℕ) (rest text vs : List ℕ) (o : Read (Option (List ℕ)))
    → is_delimiter d ≡ true → Rest d multi n rest → BeforeFits before (run d text)
    → is_plain d multi (first text) ≡ false → special d multi text ≡ o
    → option_and_then (λ p. after_piece (content d multi n) p.0 p.1) o ≡ read_of vs rest
    → ContentPrefix d multi before rest text vs
piece_prefix d multi n before rest text vs None is_d ih fits not_plain is e = absurd (none-some (vs, rest) e)
piece_prefix d multi n before rest text vs (Some (None, next)) is_d ih fits not_plain is e =
    read_same (λ v r. ContentPrefix d multi before r text v) [] vs next rest e
    (ends_prefix d multi before text next (special_found d multi text next None is_d not_plain is))
piece_prefix d multi n before rest text vs (Some (Some bs, next)) is_d ih fits not_plain is e =
    prepended_prefix (special_found d multi text next (Some bs) is_d not_plain is) vs
    (prepend_found bs vs rest (content d multi n next) e)
  where
    prepended_prefix : Goes d multi next text bs → (vs : List ℕ) → Prepended bs (content d multi n next) rest vs
        → ContentPrefix d multi before rest text vs
    prepended_prefix goes vs (prepended ws e') = goes_prefix d multi n before rest text bs next ws is_d ih fits goes e'

plain_step : (d : ℕ) (multi : Bool) (n before c : ℕ) (rest cs vs : List ℕ) → is_plain d multi c ≡ true
    → Rest d multi n rest → Prepended (c ∷ []) (content d multi n cs) rest vs
    → ContentPrefix d multi before rest (c ∷ cs) vs
unfolding BeforeFits
plain_step d multi n before c rest cs vs plain ih (prepended ws e) =
    plain_prefix d multi before c rest cs ws plain (ih 0 cs ws (omega arith) (inl refl) e)

plain_found : (d : ℕ) (multi : Bool) (n before : ℕ) (rest text vs : List ℕ) → is_plain d multi (first text) ≡ true
    → Rest d multi n rest
    → content d multi (suc n) text ≡ read_of vs rest → ContentPrefix d multi before rest text vs
plain_found d multi n before rest [] vs plain ih e = absurd (grind (arith, nat_tests))
plain_found d multi n before rest (c ∷ cs) vs plain ih e =
    plain_step d multi n before c rest cs vs plain ih (prepend_found (c ∷ []) vs rest (content d multi n cs)
    (sym (content_plain d multi n c cs plain) ∙ e))

-- the content of a string that is read is in the grammar
content_found : (d : ℕ) (multi : Bool) (n : ℕ) (rest : List ℕ) → is_delimiter d ≡ true → Rest d multi n rest
content_found d multi zero rest is_d before text vs room fits e =
    absurd (none-some (vs, rest) (sym (content_zero d multi text) ∙ e))
content_found d multi (suc n) rest is_d before text vs room fits e =
    elim (cases_Bool (is_plain d multi (first text))) [
      | inl plain ↦ plain_found d multi n before rest text vs plain (content_found d multi n rest is_d) e
      | inr other ↦ piece_prefix d multi n before rest text vs (special d multi text) is_d
          (content_found d multi n rest is_d) fits other refl (sym (content_special d multi n text other) ∙ e)
    ]

-- the content of a whole string, which has no delimiters before it
pub content-sound : (d : ℕ) (multi : Bool) (n : ℕ) (text vs rest : List ℕ) → is_delimiter d ≡ true
    → content d multi n text ≡ Some (vs, rest)
    → ContentPrefix d multi 0 rest text vs
unfolding BeforeFits
content-sound d multi n text vs rest is_d e = content_found d multi n rest is_d 0 text vs (omega arith) (inl refl) e

-- a byte with spaces on both sides
pub data BytePrefix (b : ℕ) (rest : List ℕ) : List ℕ → Type 0 where
  byte_prefix : (spaces more : List ℕ) → AreSpaces spaces → AreSpaces more
      → BytePrefix b rest (spaces ++ (b ∷ (more ++ rest)))

byte_more : (b : ℕ) (spaces tail rest : List ℕ) → AreSpaces spaces → SpacesPrefix rest tail
    → BytePrefix b rest (spaces ++ (b ∷ tail))
byte_more b spaces tail rest are_spaces (spaces_prefix more are_more) = byte_prefix spaces more are_spaces are_more

byte_inner : (b : ℕ) (inner text : List ℕ) → 0 < b → (first inner == b) ≡ true → SpacesPrefix inner text
    → BytePrefix b (skip_spaces (drop 1 inner)) text
byte_inner b [] text some e spaced = absurd (grind (arith, nat_tests))
byte_inner b (c ∷ tail) text some e (spaces_prefix spaces are_spaces) =
    let c_is : b ≡ c = grind (arith, nat_tests) in
    subst (λ x. BytePrefix b (skip_spaces tail) (spaces ++ (x ∷ tail))) c_is
    (byte_more b spaces tail (skip_spaces tail) are_spaces (spaces_found tail))

pub byte_found : (b : ℕ) (text : List ℕ) → 0 < b → (first (skip_spaces text) == b) ≡ true
    → BytePrefix b (skip_spaces (drop 1 (skip_spaces text))) text
byte_found b text some e = byte_inner b (skip_spaces text) text some e (spaces_found text)
