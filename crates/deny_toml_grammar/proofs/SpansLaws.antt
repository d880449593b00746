-- The span of a part of a key and of a value lies in the text, and the part or value occurs there.
use Rattle.std.proofs.Common.{◌≡◌, ℕ, ◌+◌, ◌-◌, ◌<◌, ◌≤◌, ◌⊎◌, Bool, true, false, ◌==◌, ◌||◌, ◌&&◌, slice_index, List}
use Rattle.std.proofs.Common.{[], ◌∷◌, ◌++◌, length, encode_utf8, Some, get_or, IsUtf8, IfSome, refl, sym, ap, subst}
use Rattle.std.proofs.Common.{◌∙◌, inl, inr, arith, append_assoc, length-append}
use Rattle.std.proofs.lemmas.Bool.{cases_Bool, and_parts, false≢true}
use Rattle.std.proofs.lemmas.Bool.Decides.{nat_tests}
use Rattle.std.proofs.lemmas.List.Folds.{list_all-append}
use Rattle.std.proofs.lemmas.Str.{length-encode, len_utf8_ascii, len_utf8_bounds}
use Rattle.std.specs.List.{list_all}
use Rattle.std.specs.Str.{IsCharBoundary}
use Rattle.deny_base.specs.declared.span.Span.{Span}
use Rattle.deny_toml_grammar.specs.declared.parts.Key.{Key}
use Rattle.deny_toml_grammar.specs.declared.parts.Scalar.{Scalar}
use Rattle.deny_toml_grammar.specs.declared.parts.Scalar.TheVariants.{Integer, Float, Boolean, Date}
use Rattle.deny_toml_grammar.specs.declared.expression.Written.{Written}
use Rattle.deny_toml_grammar.specs.declared.expression.WrittenContent.{WrittenContent}
use Rattle.deny_toml_grammar.specs.declared.expression.WrittenContent.TheViews.{roll-WrittenContent}
use Rattle.deny_toml_grammar.specs.declared.expression.WrittenContent.TheOpen.{WrittenContent-F}
use Rattle.deny_toml_grammar.specs.declared.expression.WrittenContent.TheVariants as content
use Rattle.deny_toml_grammar.specs.declared.expression.Assignment.{Assignment}
use Rattle.deny_toml_grammar.specs.declared.expression.TomlExpression.{TomlExpression}
use Rattle.deny_toml_grammar.specs.Expression.{span_of}
use Rattle.deny_toml_grammar.specs.Expression.{written_with}
use Rattle.deny_toml_grammar.specs.Lexical.{first, is_plain, is_bare, is_token_byte, starts_newline}
use Rattle.deny_toml_grammar.specs.Strings.{letter_escape, trim_newline}
use Rattle.deny_toml_grammar.specs.GrammarStrings.{IsEscape, IsContent, is_delimiter, IsOpening, IsOneLine, IsMultiLine}
use Rattle.deny_toml_grammar.specs.GrammarStrings.{IsText}
use Rattle.deny_toml_grammar.specs.GrammarStrings as strings
use Rattle.deny_toml_grammar.specs.GrammarScalars.{IsScalar}
use Rattle.deny_toml_grammar.specs.GrammarScalars as unquoted
use Rattle.deny_toml_grammar.specs.Grammar.{IsPart, IsElements, IsMembers, IsDocument}
use Rattle.deny_toml_grammar.specs.Grammar as grammar
use Rattle.deny_toml_grammar.specs.Spans.{IsSpan, bytes_in, no_backslash, IsWithoutEscapes, KeyOccurs, OneLineOccurs}
use Rattle.deny_toml_grammar.specs.Spans.{ScalarOccurs, Occurs, WrittenLayer, written_layer, written_scalar}
use Rattle.deny_toml_grammar.specs.Spans.{WrittenOccurs, AllOf, AllOccur}
use Rattle.deny_toml_grammar.proofs.ScalarsShape.{Shape, one_token, two_tokens, scalar_shape}
use Rattle.deny_toml_grammar.proofs.ValuesComplete.{value_first}
use Rattle.deny_toml_grammar.proofs.OccurringBytes.{HasAt, holds_whole, holds_prefix, holds_rest, holds_byte}
use Rattle.deny_toml_grammar.proofs.OccurringBytes.{holds_bytes, boundary_before, boundary_after, span_between}
use Rattle.deny_toml_grammar.proofs.Walk.{AtParts, AtValues, lines_parts, written_span-is, written_layer-is}

-- a run of ASCII bytes ends at a character boundary
run_end : (text : List ℕ) (p : ℕ → Bool) → IsUtf8 text → ((c : ℕ) → p c ≡ true → c < 128) → (at c : ℕ) (cs : List ℕ)
    → HasAt text at (c ∷ cs)
    → list_all p (c ∷ cs) ≡ true → IsCharBoundary text (at + length (c ∷ cs))
run_end text p utf8 ascii at c [] here all =
    boundary_after text at (at + length (c ∷ [])) c [] utf8 here (ascii c (and_parts (p c) true all).0) refl
run_end text p utf8 ascii at c (d ∷ cs) here all =
    subst (IsCharBoundary text) {x = (at + 1) + length (d ∷ cs)} {y = at + length (c ∷ (d ∷ cs))} (omega arith)
    (run_end text p utf8 ascii (at + 1) d cs (holds_rest text at (c ∷ []) (d ∷ cs) here)
    (and_parts (p c) (list_all p (d ∷ cs)) all).1)

run_span : (text : List ℕ) (p : ℕ → Bool) → IsUtf8 text → ((c : ℕ) → p c ≡ true → c < 128) → (at c : ℕ) (cs : List ℕ)
    → HasAt text at (c ∷ cs)
    → list_all p (c ∷ cs) ≡ true → IsSpan text (span_of at (length (c ∷ cs)))
run_span text p utf8 ascii at c cs here all =
    span_between text at (length (c ∷ cs)) (boundary_before text at c cs here
    (ascii c (and_parts (p c) (list_all p cs) all).0)) (run_end text p utf8 ascii at c cs here all)

delimiter_ascii : (d : ℕ) → is_delimiter d ≡ true → d < 128
delimiter_ascii d e = grind (arith, nat_tests)

-- the content between the delimiters of a one-line string occurs in the text
inside : (text : List ℕ) (at d : ℕ) (cs : List ℕ) → HasAt text at (d ∷ (cs ++ d ∷ []))
    → HasAt text (at + 1) (cs ++ d ∷ [])
inside text at d cs here = holds_rest text at (d ∷ []) (cs ++ d ∷ []) here

one_line_span : (text : List ℕ) → IsUtf8 text → (at : ℕ) (cs vs : List ℕ) (span : Span) → HasAt text at cs
    → IsOneLine at cs vs span → IsSpan text span
one_line_span text utf8 at cs vs span here (strings.quoted d inner _ is_d is) =
    span_between text (at + 1) (length inner) (boundary_after text at (at + 1) d (inner ++ d ∷ []) utf8 here
    (delimiter_ascii d is_d) refl)
    (boundary_before text (at + 1 + length inner) d [] (holds_rest text (at + 1) inner (d ∷ [])
    (inside text at d inner here)) (delimiter_ascii d is_d))

multi_line_span : (text : List ℕ) → IsUtf8 text → (at : ℕ) (cs vs : List ℕ) (span : Span) → HasAt text at cs
    → IsMultiLine at cs vs span → IsSpan text span
multi_line_span text utf8 at cs vs span here (strings.framed d opening inner _ is_d is_opening is) =
    let closing = d ∷ (d ∷ (d ∷ [])) in
    let third = holds_rest text at (d ∷ (d ∷ [])) (d ∷ (opening ++ (inner ++ closing))) here in
    let start = holds_rest text (at + 2) (d ∷ []) (opening ++ (inner ++ closing)) third in
    let body = holds_rest text (at + 2 + 1) opening (inner ++ closing) start in
    let end = holds_rest text (at + 2 + 1 + length opening) inner closing body in
    let last = boundary_before text (at + 2 + 1 + length opening + length inner) d (d ∷ (d ∷ [])) end
    (delimiter_ascii d is_d) in
    span_between text (at + 3) (length opening + length inner)
    (boundary_after text (at + 2) (at + 3) d (opening ++ (inner ++ closing)) utf8 third (delimiter_ascii d is_d)
    (omega arith))
    (subst (IsCharBoundary text) {y = (at + 3) + (length opening + length inner)} (omega arith) last)

text_span : (text : List ℕ) → IsUtf8 text → (at : ℕ) (cs : List ℕ) (v : Scalar) (span : Span) → HasAt text at cs
    → IsText at cs v span → IsSpan text span
text_span text utf8 at cs v span here (strings.one_line _ vs _ is) = one_line_span text utf8 at cs vs span here is
text_span text utf8 at cs v span here (strings.multi_line _ vs _ is) = multi_line_span text utf8 at cs vs span here is

part_span : (text : List ℕ) → IsUtf8 text → (at : ℕ) (cs : List ℕ) (part : Key) → HasAt text at cs → IsPart at cs part
    → IsSpan text part.span
part_span text utf8 at cs part here (grammar.bare c cs' all) =
    run_span text is_bare utf8 (λ b e. grind (arith, nat_tests)) at c cs' here all
part_span text utf8 at cs part here (grammar.quoted _ name span is) = one_line_span text utf8 at cs name span here is

-- a byte of an unquoted scalar, which may be the space between a date and a time
abbrev is_scalar_byte : ℕ → Bool
is_scalar_byte c = is_token_byte c || c == 32

scalar_byte_ascii : (c : ℕ) → is_scalar_byte c ≡ true → c < 128
scalar_byte_ascii c e = grind (arith, nat_tests)

token_byte : (c : ℕ) → is_token_byte c ≡ true → is_scalar_byte c ≡ true
token_byte c e = grind (arith, nat_tests)

token_bytes : (cs : List ℕ) → list_all is_token_byte cs ≡ true → list_all is_scalar_byte cs ≡ true
token_bytes [] all = refl
token_bytes (c ∷ cs) all = let (here, more) = and_parts (is_token_byte c) (list_all is_token_byte cs) all in rw
    (token_byte c here)
    (token_bytes cs more)

scalar_bytes : (cs : List ℕ) → Shape cs → list_all is_scalar_byte cs ≡ true
scalar_bytes cs (one_token _ all) = token_bytes cs all
scalar_bytes cs (two_tokens c cs' d ds all digit all') =
    let (here, more) = and_parts (is_scalar_byte c) (list_all is_scalar_byte cs') (token_bytes (c ∷ cs') all) in
    rw (here, list_all-append is_scalar_byte cs' (32 ∷ (d ∷ ds)), more) (token_bytes (d ∷ ds) all')

token_span : (text : List ℕ) → IsUtf8 text → (depth at : ℕ) (cs : List ℕ) (v : Scalar) → HasAt text at cs
    → IsScalar cs v → IsSpan text (span_of at (length cs))
token_span text utf8 depth at [] v here is = absurd (false≢true
    (value_first depth at [] [] (written_with (span_of at 0) (content.Scalar v)) (grammar.token depth at [] v is)))
token_span text utf8 depth at (c ∷ cs) v here is = run_span text is_scalar_byte utf8 scalar_byte_ascii at c cs here
    (scalar_bytes (c ∷ cs) (scalar_shape (c ∷ cs) v is))

-- an ASCII byte at the end of three parts ends at a boundary
end_after : (text : List ℕ) → IsUtf8 text → (at c : ℕ) (xs : List ℕ) → HasAt text at (xs ++ c ∷ []) → c < 128
    → IsCharBoundary text (at + length (xs ++ c ∷ []))
end_after text utf8 at c xs here ascii =
    boundary_after text (at + length xs) (at + length (xs ++ c ∷ [])) c [] utf8 (holds_rest text at xs (c ∷ []) here)
    ascii (omega (arith, length-append xs (c ∷ [])))

-- two parts end at a boundary where the second does
end_of : (text : List ℕ) (at : ℕ) (xs ys : List ℕ) → IsCharBoundary text (at + length xs + length ys)
    → IsCharBoundary text (at + length (xs ++ ys))
end_of text at xs ys end = subst (IsCharBoundary text) (omega (arith, length-append xs ys)) end

elements_end : (text : List ℕ) → IsUtf8 text → (depth at : ℕ) (cs : List ℕ) (ws : List Written) → HasAt text at cs
    → IsElements depth at cs ws
    → IsCharBoundary text (at + length cs)
elements_end text utf8 depth at cs ws here (grammar.closed _ _ blank is) =
    end_after text utf8 at 93 blank here (omega arith)
elements_end text utf8 depth at cs ws here (grammar.last_element _ _ blank cs' more w is_blank is is_more) =
    let start = holds_rest text at blank (cs' ++ (more ++ 93 ∷ [])) here in
    let after = holds_rest text (at + length blank) cs' (more ++ 93 ∷ []) start in
    end_of text at blank (cs' ++ (more ++ 93 ∷ []))
    (end_of text (at + length blank) cs' (more ++ 93 ∷ []) (end_after text utf8 (at + length blank + length cs') 93 more
    after (omega arith)))
elements_end text utf8 depth at cs ws here (grammar.more_elements _ _ blank cs' after rest w ws' is_blank is is_after
    more) =
    let start = holds_rest text at blank (cs' ++ (after ++ 44 ∷ rest)) here in
    let end = holds_rest text (at + length blank) cs' (after ++ 44 ∷ rest) start in
    let comma = holds_rest text (at + length blank + length cs') after (44 ∷ rest) end in
    let next = holds_rest text (at + length blank + length cs' + length after) (44 ∷ []) rest comma in
    end_of text at blank (cs' ++ (after ++ 44 ∷ rest))
    (end_of text (at + length blank) cs' (after ++ 44 ∷ rest)
    (end_of text (at + length blank + length cs') after (44 ∷ rest)
    (end_of text (at + length blank + length cs' + length after) (44 ∷ []) rest
    (elements_end text utf8 depth (at + length blank + length cs' + length after + 1) rest ws' next more))))

members_end : (text : List ℕ) → IsUtf8 text → (depth at : ℕ) (cs : List ℕ) (ms : List Assignment) → HasAt text at cs
    → IsMembers depth at cs ms
    → IsCharBoundary text (at + length cs)
members_end text utf8 depth at cs ms here (grammar.last_member _ _ cs' spaces a is are_spaces) =
    let end = holds_rest text at cs' (spaces ++ 125 ∷ []) here in
    end_of text at cs' (spaces ++ 125 ∷ []) (end_after text utf8 (at + length cs') 125 spaces end (omega arith))
members_end text utf8 depth at cs ms here (grammar.more_members _ _ cs' spaces after rest a ms' is are_spaces are_after
    more) =
    let end = holds_rest text at cs' (spaces ++ 44 ∷ (after ++ rest)) here in
    let comma = holds_rest text (at + length cs') spaces (44 ∷ (after ++ rest)) end in
    let next = holds_rest text (at + length cs' + length spaces) (44 ∷ []) (after ++ rest) comma in
    let start = holds_rest text (at + length cs' + length spaces + 1) after rest next in
    end_of text at cs' (spaces ++ 44 ∷ (after ++ rest))
    (end_of text (at + length cs') spaces (44 ∷ (after ++ rest))
    (end_of text (at + length cs' + length spaces) (44 ∷ []) (after ++ rest)
    (end_of text (at + length cs' + length spaces + 1) after rest
    (members_end text utf8 depth (at + length cs' + length spaces + 1 + length after) rest ms' start more))))

-- the span of an array or of an inline table, whose brackets are ASCII
bracketed_span : (text : List ℕ) (at c : ℕ) (cs : List ℕ) → HasAt text at (c ∷ cs) → c < 128
    → IsCharBoundary text (at + length (c ∷ cs))
    → IsSpan text (span_of at (length (c ∷ cs)))
bracketed_span text at c cs here ascii end = span_between text at (length (c ∷ cs))
    (boundary_before text at c cs here ascii) end

-- the content of a string has no escape
abbrev NoEscape : ℕ → List ℕ → Type 0
NoEscape d cs = (list_all no_backslash cs ≡ true) ⊎ (d ≡ 39)

no_escape_after : (d c : ℕ) (cs : List ℕ) → NoEscape d (c ∷ cs) → NoEscape d cs
no_escape_after d c cs (inl all) = inl (and_parts (no_backslash c) (list_all no_backslash cs) all).1
no_escape_after d c cs (inr e) = inr e

backslash_escapes : (d : ℕ) (cs : List ℕ) → d ≡ 34 → NoEscape d (92 ∷ cs) → ⊥
backslash_escapes d cs is_quote (inl all) = false≢true (and_parts false (list_all no_backslash cs) all).0
backslash_escapes d cs is_quote (inr e) = omega arith

content_same : (d : ℕ) (multi : Bool) (before : ℕ) (cs vs : List ℕ) → IsContent d multi before cs vs → NoEscape d cs
    → vs ≡ cs
content_same d multi before cs vs (strings.end _) none = refl
content_same d multi before cs vs (strings.plain _ c cs' vs' is more) none =
    ap (λ xs. c ∷ xs) (content_same d multi 0 cs' vs' more (no_escape_after d c cs' none))
content_same d multi before cs vs (strings.newline _ cs' vs' on more) none =
    ap (λ xs. 13 ∷ (10 ∷ xs)) (content_same d multi 0 cs' vs' more
    (no_escape_after d 10 cs' (no_escape_after d 13 (10 ∷ cs') none)))
content_same d multi before cs vs (strings.quotes _ cs' vs' on room more) none =
    ap (λ xs. d ∷ xs) (content_same d multi (before + 1) cs' vs' more (no_escape_after d d cs' none))
content_same d multi before cs vs (strings.escape _ c escaped cs' vs' is_quote is more) none =
    absurd (backslash_escapes d (escaped ++ cs') is_quote none)
content_same d multi before cs vs (strings.cut _ spaces end blank cs' vs' on is_quote are_spaces is_end is_blank ink
    more) none =
    absurd (backslash_escapes d (spaces ++ (end ++ (blank ++ cs'))) is_quote none)

-- a letter after a backslash writes a character of one byte
letter_byte : (b c : ℕ) → letter_escape b ≡ Some c → c < 128
letter_byte b c means = grind (arith, nat_tests)

-- an escape writes fewer bytes than it has with its backslash
escape_shortens : (escaped : List ℕ) (c : ℕ) → IsEscape escaped c → length (encode_utf8 c) < 1 + length escaped
escape_shortens escaped c (strings.letter b _ means) = omega
    (arith, length-encode c, len_utf8_ascii c (letter_byte b c means))
escape_shortens escaped c (strings.short digits len writes) = omega (arith, len, length-encode c, (len_utf8_bounds c).1)
escape_shortens escaped c (strings.long digits len writes) = omega (arith, len, length-encode c, (len_utf8_bounds c).1)

-- the bytes of a one-line string are no more than those of its content
content_within : (d before : ℕ) (cs vs : List ℕ) → IsContent d false before cs vs → length vs ≤ length cs
content_within d before cs vs (strings.end _) = omega arith
content_within d before cs vs (strings.plain _ c cs' vs' is more) = omega (arith, content_within d 0 cs' vs' more)
content_within d before cs vs (strings.newline _ cs' vs' on more) = absurd (false≢true on)
content_within d before cs vs (strings.quotes _ cs' vs' on room more) = absurd (false≢true on)
content_within d before cs vs (strings.escape _ c escaped cs' vs' is_quote is more) =
    omega (
      arith,
      escape_shortens escaped c is,
      content_within d 0 cs' vs' more,
      length-append (encode_utf8 c) vs',
      length-append escaped cs',
    )
content_within d before cs vs (strings.cut _ spaces end blank cs' vs' on is_quote are_spaces is_end is_blank ink more) =
    absurd (false≢true on)

-- a one-line string with as many bytes as its content has no escapes
content_whole : (d before : ℕ) (cs vs : List ℕ) → is_delimiter d ≡ true → IsContent d false before cs vs
    → length vs ≡ length cs → NoEscape d cs
content_whole d before cs vs is_d (strings.end _) len = inl refl
content_whole d before cs vs is_d (strings.plain _ c cs' vs' is more) len =
    plain_before d c cs' is_d is (content_whole d 0 cs' vs' is_d more (omega arith))
  where
    plain_before : (d c : ℕ) (cs : List ℕ) → is_delimiter d ≡ true → is_plain d false c ≡ true → NoEscape d cs
        → NoEscape d (c ∷ cs)
    plain_before d c cs is_d is (inr e) = inr e
    plain_before d c cs is_d is (inl all) = elim (cases_Bool (no_backslash c)) [
      | inl none ↦ inl (rw none all)
      | inr slash ↦ inr (grind (arith, nat_tests))
    ]
content_whole d before cs vs is_d (strings.newline _ cs' vs' on more) len = absurd (false≢true on)
content_whole d before cs vs is_d (strings.quotes _ cs' vs' on room more) len = absurd (false≢true on)
content_whole d before cs vs is_d (strings.escape _ c escaped cs' vs' is_quote is more) len =
    absurd (omega (
      arith,
      escape_shortens escaped c is,
      content_within d 0 cs' vs' more,
      length-append (encode_utf8 c)
          vs',
      length-append escaped cs',
    ))
content_whole d before cs vs is_d (strings.cut _ spaces end blank cs' vs' on is_quote are_spaces is_end is_blank ink
    more) len = absurd (false≢true on)

no_trim : (cs : List ℕ) → starts_newline cs ≡ false → trim_newline cs ≡ cs
no_trim cs none =
    let no_feed : (first cs == 10) ≡ false = grind (arith, nat_tests) in
    let no_return : ((first cs == 13) && (slice_index cs 1 == 10)) ≡ false = rw no_feed at none in
    rw (no_feed, no_return) refl

opening_trim : (opening cs : List ℕ) → IsOpening opening cs → trim_newline (opening ++ cs) ≡ cs
opening_trim opening cs (strings.same_line _ none) = no_trim cs none
opening_trim opening cs (strings.next_line _ _ strings.line_feed) = refl
opening_trim opening cs (strings.next_line _ _ strings.both) = refl

-- a string whose span has no escapes has none in its content
no_escape : (text : List ℕ) (start d : ℕ) (cs : List ℕ) → bytes_in text (span_of (start + 1) (length cs)) ≡ cs
    → get_or text start 0 ≡ d
    → IsWithoutEscapes text (span_of (start + 1) (length cs)) → NoEscape d cs
no_escape text start d cs holds byte (inl all) = inl (subst (λ bs. list_all no_backslash bs ≡ true) holds all)
no_escape text start d cs holds byte (inr e) = inr (sym byte
    ∙ subst (λ n. get_or text n 0 ≡ 39) {x = (start + 1) - 1} {y = start} (omega arith) e)

one_line_same : (text : List ℕ) (at d : ℕ) (cs vs : List ℕ) → HasAt text at (d ∷ (cs ++ d ∷ []))
    → IsContent d false 0 cs vs
    → IsWithoutEscapes text (span_of (at + 1) (length cs)) → vs ≡ bytes_in text (span_of (at + 1) (length cs))
one_line_same text at d cs vs here is none =
    let holds = holds_bytes text (at + 1) cs (holds_prefix text (at + 1) cs (d ∷ []) (inside text at d cs here)) in
    content_same d false 0 cs vs is (no_escape text at d cs holds (holds_byte text at d (cs ++ d ∷ []) here) none)
    ∙ sym holds

part_named : (text : List ℕ) (at : ℕ) (cs : List ℕ) (part : Key) → HasAt text at cs → IsPart at cs part
    → IsWithoutEscapes text part.span → part.name ≡ bytes_in text part.span
part_named text at cs part here (grammar.bare c cs' all) none = sym (holds_bytes text at (c ∷ cs') here)
part_named text at cs part here (grammar.quoted _ name span (strings.quoted d inner _ is_d is)) none =
    one_line_same text at d inner name here is none

part_holds : (text : List ℕ) → IsUtf8 text → AtParts text (KeyOccurs text)
part_holds text utf8 at cs part here is = record {
  lies = part_span text utf8 at cs part here is;
  named =
      part_named text at cs part here is;
}

multi_line_same : (text : List ℕ) (at d : ℕ) (opening cs vs : List ℕ)
    → HasAt text at (d ∷ (d ∷ (d ∷ (opening ++ (cs ++ d ∷ (d ∷ (d ∷ []))))))) → IsOpening opening cs
    → IsContent d true 0 cs vs → IsWithoutEscapes text (span_of (at + 3) (length opening + length cs))
    → vs ≡ trim_newline (bytes_in text (span_of (at + 3) (length opening + length cs)))
multi_line_same text at d opening cs vs here is_opening is none =
    let closing = d ∷ (d ∷ (d ∷ [])) in
    let third = holds_rest text at (d ∷ (d ∷ [])) (d ∷ (opening ++ (cs ++ closing))) here in
    let body : HasAt text (at + 2 + 1) ((opening ++ cs) ++ closing) =
    subst (HasAt text (at + 2 + 1)) (sym (append_assoc opening cs closing))
    (holds_rest text (at + 2) (d ∷ []) (opening ++ (cs ++ closing)) third) in
    let this_span : span_of (at + 3) (length opening + length cs) ≡ span_of (at + 2 + 1) (length (opening ++ cs)) =
    is_same_span (at + 3) (at + 2 + 1) (length opening + length cs) (length (opening ++ cs)) (omega arith)
    (sym (length-append opening cs)) in
    let holds = holds_bytes text (at + 2 + 1) (opening ++ cs)
    (holds_prefix text (at + 2 + 1) (opening ++ cs) closing body) in
    let byte = holds_byte text (at + 2) d (opening ++ (cs ++ closing)) third in
    let escapes = after_opening d opening cs (no_escape text (at + 2) d (opening ++ cs) holds byte
    (subst (IsWithoutEscapes text) this_span none)) in
    content_same d true 0 cs vs is escapes ∙ sym (opening_trim opening cs is_opening)
    ∙ ap trim_newline (sym holds ∙ ap (bytes_in text) (sym this_span))
  where
    is_same_span : (at offset len size : ℕ) → at ≡ offset → len ≡ size → span_of at len ≡ span_of offset size
    is_same_span at offset len size e f = rw (e, f)

    after_opening : (d : ℕ) (opening cs : List ℕ) → NoEscape d (opening ++ cs) → NoEscape d cs
    after_opening d [] cs none = none
    after_opening d (c ∷ opening) cs none = after_opening d opening cs (no_escape_after d c (opening ++ cs) none)

-- a string whose content has no escapes has none in its span
escapes_of : (text : List ℕ) (start d : ℕ) (cs : List ℕ) → bytes_in text (span_of (start + 1) (length cs)) ≡ cs
    → get_or text start 0 ≡ d → NoEscape d cs
    → IsWithoutEscapes text (span_of (start + 1) (length cs))
escapes_of text start d cs holds byte (inl all) = inl (subst (λ bs. list_all no_backslash bs ≡ true) (sym holds) all)
escapes_of text start d cs holds byte (inr e) = inr (subst (λ n. get_or text n 0 ≡ 39) {x = start}
    {y = (start + 1) - 1} (omega arith) (byte ∙ e))

one_line_holds : (text : List ℕ) (at d : ℕ) (cs vs : List ℕ) → is_delimiter d ≡ true
    → HasAt text at (d ∷ (cs ++ d ∷ [])) → IsContent d false 0 cs vs
    → OneLineOccurs text (span_of (at + 1) (length cs)) vs
one_line_holds text at d cs vs is_d here is =
    let holds = holds_bytes text (at + 1) cs (holds_prefix text (at + 1) cs (d ∷ []) (inside text at d cs here)) in
    record {
      same = one_line_same text at d cs vs here is;
      without_escapes = λ len. escapes_of text at d cs holds (holds_byte text at d (cs ++ d ∷ []) here)
          (content_whole d 0 cs vs is_d is (omega arith));
    }

text_holds : (text : List ℕ) (at : ℕ) (cs : List ℕ) (v : Scalar) (span : Span) → HasAt text at cs → IsText at cs v span
    → ScalarOccurs text span v
text_holds text at cs v span here (strings.one_line _ vs _ (strings.quoted d inner _ is_d is)) =
    one_line_holds text at d inner vs is_d here is
text_holds text at cs v span here (strings.multi_line _ vs _ (strings.framed d opening inner _ is_d is_opening is)) =
    multi_line_same text at d opening inner vs here is_opening is

token_holds : (text : List ℕ) (this_span : Span) (cs : List ℕ) (v : Scalar) → cs ≡ bytes_in text this_span
    → IsScalar cs v
    → ScalarOccurs text this_span v
token_holds text this_span cs v e unquoted.true_ = subst (λ bs. IsScalar bs (Boolean true)) e unquoted.true_
token_holds text this_span cs v e unquoted.false_ = subst (λ bs. IsScalar bs (Boolean false)) e unquoted.false_
token_holds text this_span cs v e (unquoted.integer _ z is) = subst (λ bs. IsScalar bs (Integer z)) e
    (unquoted.integer cs z is)
token_holds text this_span cs v e (unquoted.float _ is) = subst (λ bs. IsScalar bs (Float cs)) e (unquoted.float cs is)
token_holds text this_span cs v e (unquoted.date _ is) = subst (λ bs. IsScalar bs (Date cs)) e (unquoted.date cs is)

-- a written value, by its span and one layer
made_holds : (text : List ℕ) (span : Span) (what : WrittenContent) (layer : WrittenLayer)
    → roll-WrittenContent layer ≡ what → IsSpan text span
    → IfSome (written_scalar layer) (ScalarOccurs text span) → WrittenOccurs text (written_with span what)
made_holds text span what layer same lies written =
    subst (λ s. Occurs text s (written_scalar (written_layer (written_with span what))))
    (sym (written_span-is span what))
    (subst (λ l. Occurs text span (written_scalar l)) (sym (written_layer-is span what layer same))
    (record { lies = lies; written = written }))

value_holds : (text : List ℕ) → IsUtf8 text → AtValues text (WrittenOccurs text)
value_holds text utf8 depth at cs w here (grammar.text _ _ _ v span is) =
    made_holds text span (content.Scalar v) (WrittenContent-F.Scalar v) (content.rolls-Scalar v)
    (text_span text utf8 at cs v span here is)
    (text_holds text at cs v span here is)
value_holds text utf8 depth at cs w here (grammar.token _ _ _ v is) =
    made_holds text (span_of at (length cs)) (content.Scalar v) (WrittenContent-F.Scalar v) (content.rolls-Scalar v)
    (token_span text utf8 depth at cs v here is)
    (token_holds text (span_of at (length cs)) cs v (sym (holds_bytes text at cs here)) is)
value_holds text utf8 depth at cs w here (grammar.array depth' _ cs' ws is) =
    let end = end_of text at (91 ∷ []) cs' (elements_end text utf8 depth' (at + 1) cs' ws
    (holds_rest text at (91 ∷ []) cs' here) is) in
    made_holds text (span_of at (length (91 ∷ cs'))) (content.Array ws) (WrittenContent-F.Array ws)
    (content.rolls-Array ws) (bracketed_span text at 91 cs' here (omega arith) end) tt
value_holds text utf8 depth at cs w here (grammar.inline_table depth' _ spaces cs' ms are_spaces is) =
    let start = holds_rest text at (123 ∷ []) (spaces ++ cs') here in
    let end =
    end_of text at (123 ∷ []) (spaces ++ cs')
    (end_of text (at + 1) spaces cs' (members_end text utf8 depth' (at + 1 + length spaces) cs' ms
    (holds_rest text (at + 1) spaces cs' start) is)) in
    made_holds text (span_of at (length (123 ∷ (spaces ++ cs')))) (content.InlineTable ms)
    (WrittenContent-F.InlineTable ms) (content.rolls-InlineTable ms)
    (bracketed_span text at 123 (spaces ++ cs') here (omega arith) end) tt
value_holds text utf8 depth at cs w here (grammar.empty_table depth' _ spaces are_spaces) =
    made_holds text (span_of at (length (123 ∷ (spaces ++ 125 ∷ [])))) (content.InlineTable [])
    (WrittenContent-F.InlineTable []) (content.rolls-InlineTable [])
    (bracketed_span text at 123 (spaces ++ 125 ∷ []) here (omega arith)
    (end_after text utf8 at 125 (123 ∷ spaces) here (omega arith))) tt

pub all_hold : (text : List ℕ) → IsUtf8 text → (es : List TomlExpression) → IsDocument text es → AllOccur text es
all_hold text utf8 es is = lines_parts text (KeyOccurs text) (WrittenOccurs text) (part_holds text utf8)
    (value_holds text utf8) 0 text es (holds_whole text) is

pub keys_lie : (text : List ℕ) → IsUtf8 text → (es : List TomlExpression) → IsDocument text es
    → AllOf (λ key. IsSpan text key.span) (λ w. Unit {0}) es
keys_lie text utf8 es is = lines_parts text (λ key. IsSpan text key.span) (λ w. Unit {0}) (part_span text utf8)
    (λ depth at cs w here is. tt) 0 text es (holds_whole text) is
