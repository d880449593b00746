-- Whole strings with their spans: a string of the grammar is read, and a string that is read is in the grammar.
use Rattle.std.proofs.Common.{◌≡◌, ℕ, suc, ◌+◌, ◌-◌, ◌<◌, ◌≤◌, true, false, ◌&&◌, ◌==◌, List, [], ◌∷◌, ◌++◌, length}
use Rattle.std.proofs.Common.{Some, None, option_map, refl, sym, ap, subst, inl, inr, arith, append_assoc}
use Rattle.std.proofs.Common.{length-append}
use Rattle.std.proofs.lemmas.Option.{none-some}
use Rattle.std.proofs.lemmas.Bool.{cases_Bool, and_parts, false≢true}
use Rattle.std.proofs.lemmas.Bool.Decides.{nat_tests}
use Rattle.std.specs.List.{slice_index}
use Rattle.deny_base.specs.declared.span.Span.{Span}
use Rattle.deny_base.specs.declared.span.Spanned.{Spanned}
use Rattle.deny_toml_grammar.specs.declared.parts.Scalar.{Scalar}
use Rattle.deny_toml_grammar.specs.declared.parts.Scalar.TheVariants.{Text, Multiline}
use Rattle.deny_toml_grammar.specs.Expression.{span_of}
use Rattle.deny_toml_grammar.specs.Lexical.{Read, first, starts_newline}
use Rattle.deny_toml_grammar.specs.private.Reading.{read_map}
use Rattle.deny_toml_grammar.specs.Strings.{content, trim_newline, spanned, one_line, multi_line, string_of, quoted}
use Rattle.deny_toml_grammar.specs.private.Strings.{starts_string}
use Rattle.deny_toml_grammar.specs.GrammarStrings.{IsNewline, IsContent, IsOneLine, IsOpening, IsMultiLine, IsText}
use Rattle.deny_toml_grammar.specs.GrammarStrings.{is_delimiter}
use Rattle.deny_toml_grammar.specs.GrammarStrings as grammar
use Rattle.deny_toml_grammar.proofs.StringsComplete.{content-complete}
use Rattle.deny_toml_grammar.proofs.StringsSound.{read_of, read_same, ContentPrefix, content_prefix, content-sound}
use Rattle.deny_toml_grammar.proofs.StringsSound.{NewlinePrefix, newline_prefix, newline_found}

-- a prefix of the text of which P holds, and the rest
pub data Prefix {A : Type 0} (P : List ℕ → A → Type 0) (rest : List ℕ) : List ℕ → A → Type 0 where
  prefix : (cs : List ℕ) (a : A) → P cs a → Prefix P rest (cs ++ rest) a

abbrev pub record_of : ℕ → ℕ → Span
record_of start end = record { start = start; end = end }

pub span_is : (start end at len : ℕ) → start ≡ at → end ≡ at + len → record_of start end ≡ span_of at len
span_is start end at len s e = rw (s, e)

abbrev text_with : List ℕ → Span → Spanned (List ℕ)
text_with value span = record { value = value; span = span }

abbrev pub OneLine : ℕ → List ℕ → Spanned (List ℕ) → Type 0
OneLine at cs s = IsOneLine at cs s.value s.span

abbrev MultiLine : ℕ → List ℕ → Spanned (List ℕ) → Type 0
MultiLine at cs s = IsMultiLine at cs s.value s.span

abbrev pub WholeText : ℕ → List ℕ → Spanned Scalar → Type 0
WholeText at cs s = IsText at cs s.value s.span

content_of_one_line : (d : ℕ) (cs vs rest : List ℕ) (n : ℕ) → is_delimiter d ≡ true → IsContent d false 0 cs vs
    → length cs < n
    → content d false n ((cs ++ d ∷ []) ++ rest) ≡ Some (vs, rest)
content_of_one_line d cs vs rest n is_d is room =
    rw (append_assoc cs (d ∷ []) rest) (content-complete d false 0 cs vs rest n is_d is (omega arith)
    (λ e. absurd (false≢true e)) room)

-- a one-line string of the grammar is read
pub one_line-complete : (at total : ℕ) (cs vs rest : List ℕ) (span : Span) → IsOneLine at cs vs span
    → at + length (cs ++ rest) ≡ total
    → one_line total (cs ++ rest) ≡ Some (text_with vs span, rest)
unfolding one_line
one_line-complete at total cs vs rest span (grammar.quoted d inner _ is_d is) offset =
    let len : length ((inner ++ d ∷ []) ++ rest) ≡ length inner + 1 + length rest = simp length-append (omega arith) in
    let read = content_of_one_line d inner vs rest (suc (length ((inner ++ d ∷ []) ++ rest))) is_d is (omega arith) in
    let start : total - length ((inner ++ d ∷ []) ++ rest) ≡ at + 1 = omega arith in
    let end : total - length rest - 1 ≡ at + 1 + length inner = omega arith in
    rw (read, span_is _ _ (at + 1) (length inner) start end)

-- the content of a one-line string does not begin with its delimiter
content_first : (d before c : ℕ) (cs vs : List ℕ) → is_delimiter d ≡ true → IsContent d false before (c ∷ cs) vs
    → (c == d) ≡ false
content_first d before c cs vs is_d (grammar.plain _ _ _ _ plain is) = grind (arith, nat_tests)
content_first d before c cs vs is_d (grammar.newline _ _ _ impossible is) = absurd (false≢true impossible)
content_first d before c cs vs is_d (grammar.quotes _ _ _ impossible few is) = absurd (false≢true impossible)
content_first d before c cs vs is_d (grammar.escape _ _ _ _ _ quote is_escape is) = grind (arith, nat_tests)
content_first d before c cs vs is_d (grammar.cut _ _ _ _ _ _ impossible quote s e b i is) =
    absurd (false≢true impossible)

-- a one-line string does not begin as a multi-line string
one_line_looks : (d : ℕ) (cs vs rest : List ℕ) → is_delimiter d ≡ true → IsContent d false 0 cs vs
    → is_delimiter (first rest) ≡ false
    → ((slice_index (d ∷ ((cs ++ d ∷ []) ++ rest)) 1 == d) && (slice_index (d ∷ ((cs ++ d ∷ []) ++ rest)) 2 == d)) ≡
    false
one_line_looks d [] vs [] is_d is stop = grind (arith, nat_tests)
one_line_looks d [] vs (r ∷ rest) is_d is stop = grind (arith, nat_tests)
one_line_looks d (c ∷ cs) vs rest is_d is stop = let other : (c == d) ≡ false =
    content_first d 0 c cs vs is_d is in rw other

opening_trimmed : (opening cs tail : List ℕ) → IsOpening opening cs
    → (starts_newline cs ≡ false → starts_newline (cs ++ tail) ≡ false)
    → trim_newline (opening ++ (cs ++ tail)) ≡ cs ++ tail
opening_trimmed opening cs tail (grammar.same_line _ none) stays = not_trimmed (cs ++ tail) (stays none)
  where
    not_trimmed : (text : List ℕ) → starts_newline text ≡ false → trim_newline text ≡ text
    not_trimmed text e = elim (cases_Bool (first text == 10))
        [ inl feed ↦ absurd (grind (arith, nat_tests)) | inr other ↦ let more = rw other at e in rw (other, more) ]
opening_trimmed opening cs tail (grammar.next_line _ _ is_end) stays = trimmed opening (cs ++ tail) is_end
  where
    trimmed : (end more : List ℕ) → IsNewline end → trim_newline (end ++ more) ≡ more
    trimmed end more grammar.line_feed = refl
    trimmed end more grammar.both = refl

no_newline_before : (d : ℕ) (cs rest : List ℕ) → is_delimiter d ≡ true → starts_newline cs ≡ false
    → starts_newline (cs ++ (d ∷ rest)) ≡ false
no_newline_before d [] rest is_d none = grind (arith, nat_tests)
no_newline_before d (c ∷ []) rest is_d none = grind (arith, nat_tests)
no_newline_before d (c ∷ (e ∷ cs)) rest is_d none = none

multi_line-complete : (at total d : ℕ) (opening cs vs rest : List ℕ) → is_delimiter d ≡ true → IsOpening opening cs
    → IsContent d true 0 cs vs → (first rest == d) ≡ false
    → at + 6 + length opening + length cs + length rest ≡ total
    → multi_line total (d ∷ (d ∷ (d ∷ (opening ++ (cs ++ (d ∷ (d ∷ (d ∷ rest)))))))) ≡ Some
    (text_with vs (span_of (at + 3) (length opening + length cs)), rest)
unfolding multi_line
multi_line-complete at total d opening cs vs rest is_d is_opening is stop offset =
    let tail = opening ++ (cs ++ (d ∷ (d ∷ (d ∷ rest)))) in
    let len : length tail ≡ length opening + length cs + 3 + length rest = simp length-append (omega arith) in
    let trimmed = opening_trimmed opening cs (d ∷ (d ∷ (d ∷ rest))) is_opening
    (no_newline_before d cs (d ∷ (d ∷ rest)) is_d) in
    let read = content-complete d true 0 cs vs rest (suc (suc (suc (length tail)))) is_d is (omega arith) (λ _. stop)
    (omega arith) in
    let start : total - length tail ≡ at + 3 = omega arith in
    let end : total - length rest - 3 ≡ at + 3 + (length opening + length cs) = omega arith in
    rw (trimmed, read, span_is _ _ (at + 3) (length opening + length cs) start end)

-- a string of the grammar is read where no delimiter follows it
pub quoted-complete : (at total : ℕ) (cs rest : List ℕ) (value : Scalar) (span : Span) → IsText at cs value span
    → is_delimiter (first rest) ≡ false
    → at + length (cs ++ rest) ≡ total → quoted total (cs ++ rest) ≡ Some (record { value = value; span = span }, rest)
unfolding quoted
quoted-complete at total cs rest value span (grammar.one_line _ vs _ (grammar.quoted d inner _ is_d is)) stop offset =
    rw (one_line_looks d inner vs rest is_d is stop)
    (ap (read_map (string_of Text)) (one_line-complete at total cs vs rest span (grammar.quoted d inner vs is_d is)
    offset))
quoted-complete at total cs rest value span (grammar.multi_line _ vs _
    (grammar.framed d opening inner _ is_d is_opening is)) stop offset =
    let same : (d == d) ≡ true = grind (arith, nat_tests) in
    let other : (first rest == d) ≡ false = grind (arith, nat_tests) in
    let joined : (opening ++ (inner ++ (d ∷ (d ∷ (d ∷ []))))) ++ rest ≡ opening ++ (inner ++ (d ∷ (d ∷ (d ∷ rest)))) =
    rw (append_assoc opening (inner ++ (d ∷ (d ∷ (d ∷ [])))) rest, append_assoc inner (d ∷ (d ∷ (d ∷ []))) rest) in
    let len : length (opening ++ (inner ++ (d ∷ (d ∷ (d ∷ rest))))) ≡ length opening + length inner + 3 + length rest =
    simp length-append (omega arith) in
    let here = rw joined at offset in
    rw (joined, same) (ap (read_map (string_of Multiline)) (multi_line-complete at total d opening inner vs rest is_d
    is_opening is other (omega arith)))

one_line_prefix : (total d : ℕ) (tail vs rest : List ℕ) → is_delimiter d ≡ true → length (d ∷ tail) ≤ total
    → ContentPrefix d false 0 rest tail vs
    → Prefix (OneLine (total - length (d ∷ tail))) rest (d ∷ tail)
    (text_with vs (record_of (total - length tail) (total - length rest - 1)))
one_line_prefix total d tail vs rest is_d within (content_prefix cs _ is) =
    let at = total - length (d ∷ (cs ++ (d ∷ rest))) in
    let len : length (cs ++ (d ∷ rest)) ≡ length cs + 1 + length rest = simp length-append (omega arith) in
    let start : total - length (cs ++ (d ∷ rest)) ≡ at + 1 = omega arith in
    let end : total - length rest - 1 ≡ at + 1 + length cs = omega arith in
    let here : Prefix (OneLine at) rest ((d ∷ (cs ++ d ∷ [])) ++ rest) (text_with vs (span_of (at + 1) (length cs))) =
    prefix (d ∷ (cs ++ d ∷ [])) (text_with vs (span_of (at + 1) (length cs))) (grammar.quoted d cs vs is_d is) in
    subst (λ t. Prefix (OneLine at) rest (d ∷ t) (text_with vs
    (record_of (total - length (cs ++ (d ∷ rest))) (total - length rest - 1)))) (append_assoc cs (d ∷ []) rest)
    (subst (λ s. Prefix (OneLine at) rest ((d ∷ (cs ++ d ∷ [])) ++ rest) (text_with vs s))
    (sym (span_is _ _ (at + 1) (length cs) start end)) here)

one_line_by : (total d : ℕ) (tail rest : List ℕ) (s : Spanned (List ℕ)) (o : Read (List ℕ)) → is_delimiter d ≡ true
    → length (d ∷ tail) ≤ total
    → content d false (length (d ∷ tail)) tail ≡ o → option_map (spanned total tail 1) o ≡ read_of s rest
    → Prefix (OneLine (total - length (d ∷ tail))) rest (d ∷ tail) s
one_line_by total d tail rest s None is_d within is e = absurd (none-some (s, rest) e)
one_line_by total d tail rest s (Some (vs, r)) is_d within is e =
    read_same (λ x t. Prefix (OneLine (total - length (d ∷ tail))) t (d ∷ tail) x)
    (text_with vs (record_of (total - length tail) (total - length r - 1))) s r rest e
    (one_line_prefix total d tail vs r is_d within (content-sound d false (length (d ∷ tail)) tail vs r is_d is))

-- a one-line string that is read is in the grammar
pub one_line-sound : (total : ℕ) (text rest : List ℕ) (s : Spanned (List ℕ)) → starts_string text ≡ true
    → length text ≤ total → one_line total text ≡ read_of s rest
    → Prefix (OneLine (total - length text)) rest text s
unfolding one_line
one_line-sound total [] rest s starts within e = absurd (false≢true starts)
one_line-sound total (d ∷ tail) rest s starts within e = one_line_by total d tail rest s
    (content d false (length (d ∷ tail)) tail) starts within refl e

-- the text after the opening delimiters, up to the content
data Opened : List ℕ → List ℕ → Type 0 where
  opened : (opening more : List ℕ) → IsOpening opening more → Opened (opening ++ more) more

opened_newline : (tail : List ℕ) → NewlinePrefix tail → Opened tail (trim_newline tail)
opened_newline tail (newline_prefix end more is_end) = subst (Opened (end ++ more)) (sym (trimmed end more is_end))
    (opened end more (grammar.next_line end more is_end))
  where
    trimmed : (end more : List ℕ) → IsNewline end → trim_newline (end ++ more) ≡ more
    trimmed end more grammar.line_feed = refl
    trimmed end more grammar.both = refl

trim_opened : (tail : List ℕ) → Opened tail (trim_newline tail)
trim_opened tail =
    elim (cases_Bool (starts_newline tail)) [
      | inl starts ↦ opened_newline tail (newline_found tail starts)
      | inr none ↦ subst (Opened tail) (sym (not_trimmed tail none)) (opened [] tail (grammar.same_line tail none))
    ]
  where
    not_trimmed : (text : List ℕ) → starts_newline text ≡ false → trim_newline text ≡ text
    not_trimmed text e = elim (cases_Bool (first text == 10))
        [ inl feed ↦ absurd (grind (arith, nat_tests)) | inr other ↦ let more = rw other at e in rw (other, more) ]

-- an opening of a longer text is one of its prefix
opening_prefix : (opening cs tail : List ℕ) → IsOpening opening (cs ++ tail) → IsOpening opening cs
opening_prefix opening cs tail (grammar.next_line _ _ is_end) = grammar.next_line opening cs is_end
opening_prefix opening cs tail (grammar.same_line _ none) = grammar.same_line cs (none_before cs tail none)
  where
    none_before : (cs tail : List ℕ) → starts_newline (cs ++ tail) ≡ false → starts_newline cs ≡ false
    none_before [] tail e = refl
    none_before (c ∷ []) tail e = grind (arith, nat_tests)
    none_before (c ∷ (b ∷ cs)) tail e = e

multi_line_prefix : (total d : ℕ) (opening more vs rest : List ℕ) → is_delimiter d ≡ true → IsOpening opening more
    → length (d ∷ (d ∷ (d ∷ (opening ++ more)))) ≤ total
    → ContentPrefix d true 0 rest more vs
    → Prefix (MultiLine (total - length (d ∷ (d ∷ (d ∷ (opening ++ more)))))) rest (d ∷ (d ∷ (d ∷ (opening ++ more))))
    (text_with vs (record_of (total - length (opening ++ more)) (total - length rest - 3)))
multi_line_prefix total d opening more vs rest is_d is_opening within (content_prefix cs _ is) =
    let at = total - length (d ∷ (d ∷ (d ∷ (opening ++ (cs ++ (d ∷ (d ∷ (d ∷ rest)))))))) in
    let len : length (opening ++ (cs ++ (d ∷ (d ∷ (d ∷ rest))))) ≡ length opening + length cs + 3 + length rest =
    simp length-append (omega arith) in
    let start : total - length (opening ++ (cs ++ (d ∷ (d ∷ (d ∷ rest))))) ≡ at + 3 = omega arith in
    let end : total - length rest - 3 ≡ at + 3 + (length opening + length cs) = omega arith in
    let whole = d ∷ (d ∷ (d ∷ (opening ++ (cs ++ d ∷ (d ∷ (d ∷ [])))))) in
    let here : Prefix (MultiLine at) rest (whole ++ rest) (text_with vs
    (span_of (at + 3) (length opening + length cs))) =
    prefix whole (text_with vs (span_of (at + 3) (length opening + length cs)))
    (grammar.framed d opening cs vs is_d (opening_prefix opening cs (d ∷ (d ∷ (d ∷ rest))) is_opening) is) in
    let joined : (opening ++ (cs ++ (d ∷ (d ∷ (d ∷ []))))) ++ rest ≡ opening ++ (cs ++ (d ∷ (d ∷ (d ∷ rest)))) =
    rw (append_assoc opening (cs ++ (d ∷ (d ∷ (d ∷ [])))) rest, append_assoc cs (d ∷ (d ∷ (d ∷ []))) rest) in
    subst (λ t. Prefix (MultiLine at) rest (d ∷ (d ∷ (d ∷ t)))
    (text_with vs (record_of (total - length (opening ++ (cs ++ (d ∷ (d ∷ (d ∷ rest))))))
    (total - length rest - 3)))) joined
    (subst (λ s. Prefix (MultiLine at) rest (whole ++ rest) (text_with vs s))
    (sym (span_is _ _ (at + 3) (length opening + length cs) start end)) here)

multi_line_opened : (total d : ℕ) (tail more vs rest : List ℕ) → is_delimiter d ≡ true
    → length (d ∷ (d ∷ (d ∷ tail))) ≤ total → Opened tail more
    → ContentPrefix d true 0 rest more vs
    → Prefix (MultiLine (total - length (d ∷ (d ∷ (d ∷ tail))))) rest (d ∷ (d ∷ (d ∷ tail)))
    (text_with vs (record_of (total - length tail) (total - length rest - 3)))
multi_line_opened total d tail more vs rest is_d within (opened opening _ is_opening) is =
    multi_line_prefix total d opening more vs rest is_d is_opening within is

multi_line_by : (total d : ℕ) (tail rest : List ℕ) (s : Spanned (List ℕ)) (o : Read (List ℕ)) → is_delimiter d ≡ true
    → length (d ∷ (d ∷ (d ∷ tail))) ≤ total
    → content d true (length (d ∷ (d ∷ (d ∷ tail)))) (trim_newline tail) ≡ o
    → option_map (spanned total tail 3) o ≡ read_of s rest
    → Prefix (MultiLine (total - length (d ∷ (d ∷ (d ∷ tail))))) rest (d ∷ (d ∷ (d ∷ tail))) s
multi_line_by total d tail rest s None is_d within is e = absurd (none-some (s, rest) e)
multi_line_by total d tail rest s (Some (vs, r)) is_d within is e =
    read_same (λ x t. Prefix (MultiLine (total - length (d ∷ (d ∷ (d ∷ tail))))) t (d ∷ (d ∷ (d ∷ tail))) x)
    (text_with vs (record_of (total - length tail) (total - length r - 3))) s r rest e
    (multi_line_opened total d tail (trim_newline tail) vs r is_d within (trim_opened tail)
    (content-sound d true (length (d ∷ (d ∷ (d ∷ tail)))) (trim_newline tail) vs r is_d is))

multi_line-sound : (total d : ℕ) (tail rest : List ℕ) (s : Spanned (List ℕ)) → is_delimiter d ≡ true
    → length (d ∷ (d ∷ (d ∷ tail))) ≤ total
    → multi_line total (d ∷ (d ∷ (d ∷ tail))) ≡ read_of s rest
    → Prefix (MultiLine (total - length (d ∷ (d ∷ (d ∷ tail))))) rest (d ∷ (d ∷ (d ∷ tail))) s
unfolding multi_line
multi_line-sound total d tail rest s is_d within e =
    multi_line_by total d tail rest s (content d true (length (d ∷ (d ∷ (d ∷ tail)))) (trim_newline tail)) is_d within
    refl e

-- the string of one kind that was read
of_kind : (kind : List ℕ → Scalar) (P : List ℕ → Spanned (List ℕ) → Type 0) (at : ℕ) (text rest : List ℕ)
    (s : Spanned Scalar) (o : Read (Spanned (List ℕ)))
    → ((cs : List ℕ) (x : Spanned (List ℕ)) → P cs x → IsText at cs (kind x.value) x.span)
    → ((r : List ℕ) (x : Spanned (List ℕ)) → o ≡ read_of x r → Prefix P r text x)
    → read_map (string_of kind) o ≡ read_of s rest → Prefix (WholeText at) rest text s
of_kind kind P at text rest s None whole found e = absurd (none-some (s, rest) e)
of_kind kind P at text rest s (Some (x, r)) whole found e = read_same (λ y t. Prefix (WholeText at) t text y)
    (string_of kind x) s r rest e (wholly text r x (found r x refl))
  where
    wholly : (text r : List ℕ) (x : Spanned (List ℕ)) → Prefix P r text x
        → Prefix (WholeText at) r text (string_of kind x)
    wholly text r x (prefix cs _ is) = prefix cs (string_of kind x) (whole cs x is)

multi_line_found : (total d : ℕ) (tail rest : List ℕ) (s : Spanned Scalar) → is_delimiter d ≡ true
    → length (d ∷ (d ∷ (d ∷ tail))) ≤ total
    → read_map (string_of Multiline) (multi_line total (d ∷ (d ∷ (d ∷ tail)))) ≡ read_of s rest
    → Prefix (WholeText (total - length (d ∷ (d ∷ (d ∷ tail))))) rest (d ∷ (d ∷ (d ∷ tail))) s
multi_line_found total d tail rest s is_d within e =
    let at = total - length (d ∷ (d ∷ (d ∷ tail))) in
    of_kind Multiline (MultiLine at) at (d ∷ (d ∷ (d ∷ tail))) rest s (multi_line total (d ∷ (d ∷ (d ∷ tail))))
    (λ cs x is. grammar.multi_line cs x.value x.span is)
    (λ r x is. multi_line-sound total d tail r x is_d within is) e

three_found : (total d b c : ℕ) (tail rest : List ℕ) (s : Spanned Scalar) → b ≡ d → c ≡ d → is_delimiter d ≡ true
    → length (d ∷ (b ∷ (c ∷ tail))) ≤ total
    → read_map (string_of Multiline) (multi_line total (d ∷ (b ∷ (c ∷ tail)))) ≡ read_of s rest
    → Prefix (WholeText (total - length (d ∷ (b ∷ (c ∷ tail))))) rest (d ∷ (b ∷ (c ∷ tail))) s
three_found total d b c tail rest s b_is c_is is_d within e =
    subst (λ x. Prefix (WholeText (total - length (d ∷ (x ∷ (c ∷ tail))))) rest (d ∷ (x ∷ (c ∷ tail))) s) (sym b_is)
    (subst (λ x. Prefix (WholeText (total - length (d ∷ (d ∷ (x ∷ tail))))) rest (d ∷ (d ∷ (x ∷ tail))) s) (sym c_is)
    (multi_line_found total d tail rest s is_d within
    (subst (λ x. read_map (string_of Multiline) (multi_line total (d ∷ (d ∷ (x ∷ tail)))) ≡ read_of s rest) c_is
    (subst (λ x. read_map (string_of Multiline) (multi_line total (d ∷ (x ∷ (c ∷ tail)))) ≡ read_of s rest) b_is e))))

one_found : (total d : ℕ) (tail rest : List ℕ) (s : Spanned Scalar) → is_delimiter d ≡ true → length (d ∷ tail) ≤ total
    → read_map (string_of Text) (one_line total (d ∷ tail)) ≡ read_of s rest
    → Prefix (WholeText (total - length (d ∷ tail))) rest (d ∷ tail) s
one_found total d tail rest s is_d within e =
    let at = total - length (d ∷ tail) in
    of_kind Text (OneLine at) at (d ∷ tail) rest s (one_line total (d ∷ tail))
    (λ cs x is. grammar.one_line cs x.value x.span is)
    (λ r x is. one_line-sound total (d ∷ tail) r x is_d within is) e

-- a string that is read is in the grammar
pub quoted-sound : (total : ℕ) (text rest : List ℕ) (s : Spanned Scalar) → starts_string text ≡ true
    → length text ≤ total → quoted total text ≡ read_of s rest
    → Prefix (WholeText (total - length text)) rest text s
unfolding quoted
quoted-sound total [] rest s starts within e = absurd (false≢true starts)
quoted-sound total (d ∷ []) rest s starts within e =
    let not_d : (0 == d) ≡ false = grind (arith, nat_tests) in
    one_found total d [] rest s starts within (rw not_d at e)
quoted-sound total (d ∷ (b ∷ [])) rest s starts within e =
    let not_d : (0 == d) ≡ false = grind (arith, nat_tests) in
    one_found total d (b ∷ []) rest s starts within (elim (cases_Bool (b == d))
    [ inl same ↦ rw (same, not_d) at e | inr other ↦ rw other at e ])
quoted-sound total (d ∷ (b ∷ (c ∷ tail))) rest s starts within e =
    elim (cases_Bool ((b == d) && (c == d))) [
      | inl three ↦
          let (second, third) = and_parts (b == d) (c == d) three in
          let b_is : b ≡ d = grind (arith, nat_tests) in
          let c_is : c ≡ d = grind (arith, nat_tests) in
          three_found total d b c tail rest s b_is c_is starts within (rw three at e)
      | inr other ↦ one_found total d (b ∷ (c ∷ tail)) rest s starts within (rw other at e)
    ]
