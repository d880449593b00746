-- A value of the grammar is read.
use Rattle.std.proofs.Common.{◌≡◌, ℕ, suc, ◌+◌, ◌-◌, ◌<◌, Bool, true, false, ◌||◌, ◌==◌, List, [], ◌∷◌, ◌++◌, length}
use Rattle.std.proofs.Common.{Some, None, refl, ap, ◌∙◌, inl, inr, arith, append_assoc, append-nil, length-append}
use Rattle.std.proofs.lemmas.Bool.{cases_Bool, and_parts, false≢true}
use Rattle.std.proofs.lemmas.Bool.Decides.{nat_tests}
use Rattle.std.specs.List.{list_all, slice_index}
use Rattle.deny_base.specs.declared.span.Span.{Span}
use Rattle.deny_toml_grammar.specs.declared.parts.Key.{Key}
use Rattle.deny_toml_grammar.specs.declared.parts.Scalar.{Scalar}
use Rattle.deny_toml_grammar.specs.declared.expression.Written.{Written}
use Rattle.deny_toml_grammar.specs.declared.expression.WrittenContent.TheVariants as written
use Rattle.deny_toml_grammar.specs.declared.expression.Assignment.{Assignment}
use Rattle.deny_toml_grammar.specs.Expression.{span_of, written_with, assignment_with}
use Rattle.deny_toml_grammar.specs.Lexical.{Read, first, is_space, is_bare, is_token_byte, skip_spaces, skip_turn}
use Rattle.deny_toml_grammar.specs.Lexical.{skip_from}
use Rattle.deny_toml_grammar.specs.private.Lexical.{skip_blank}
use Rattle.deny_toml_grammar.specs.private.Strings.{starts_string}
use Rattle.deny_toml_grammar.specs.Expression.{depth_limit}
use Rattle.deny_toml_grammar.specs.private.Keys.{key}
use Rattle.deny_toml_grammar.specs.private.Values.{scalar, after_element, elements, assignment, members, inline_table}
use Rattle.deny_toml_grammar.specs.private.Values.{value}
use Rattle.deny_toml_grammar.specs.GrammarStrings.{AreSpaces, IsNewline, IsBlank, IsText, is_delimiter}
use Rattle.deny_toml_grammar.specs.GrammarStrings as strings
use Rattle.deny_toml_grammar.specs.Grammar.{IsKey, IsValue, IsElements, IsMembers, IsAssignment}
use Rattle.deny_toml_grammar.specs.Grammar as grammar
use Rattle.deny_toml_grammar.proofs.Blanks.{skip_spaces-run, skip_from-blank}
use Rattle.deny_toml_grammar.proofs.QuotedLaws.{record_of, span_is, quoted-complete}
use Rattle.deny_toml_grammar.proofs.KeysGrammar.{key_first, key_after-complete}
use Rattle.deny_toml_grammar.specs.GrammarScalars.{IsScalar}
use Rattle.deny_toml_grammar.proofs.UnquotedGrammar.{IsToken, token_of, joins, some_token, unquoted-complete}
use Rattle.deny_toml_grammar.proofs.UnquotedGrammar as unquoted
use Rattle.deny_toml_grammar.proofs.ValuesLaws as laws

-- the text after a value does not continue the value
pub record Follows (rest : List ℕ) : Type 0 where
  pub no_token : is_token_byte (first rest) ≡ false
  pub apart : joins rest ≡ false
  pub no_quote : is_delimiter (first rest) ≡ false

-- the end of the text, or a byte that can follow a value and the blanks after it
abbrev pub is_end : ℕ → Bool
is_end c = (((c == 0 || c == 10) || c == 13) || c == 35) || ((c == 44 || c == 93) || c == 125)

abbrev quiet : ℕ → Bool
quiet c = is_end c || is_space c

quiet_follows : (text : List ℕ) → quiet (first text) ≡ true →
    (is_space (first text) ≡ true → quiet (slice_index text 1) ≡ true) → Follows text
quiet_follows text here next = record {
  no_token = grind (arith, nat_tests);
  apart = elim (cases_Bool (first text == 32)) [
    | inl space ↦ let after = next (grind (arith, nat_tests)) in rw space (grind (arith, nat_tests))
    | inr other ↦ rw other refl
  ];
  no_quote = grind (arith, nat_tests);
}

newline_first : (end more : List ℕ) → IsNewline end → is_end (first (end ++ more)) ≡ true
newline_first end more strings.line_feed = refl
newline_first end more strings.both = refl

blank_quiet : (blank tail : List ℕ) → IsBlank true blank → is_end (first tail) ≡ true
    → quiet (first (blank ++ tail)) ≡ true
blank_quiet blank tail strings.none ends = rw ends refl
blank_quiet blank tail (strings.space c cs space is) ends = grind (arith, nat_tests)
blank_quiet blank tail (strings.newline end cs is_newline is) ends =
    rw (append_assoc end cs tail, newline_first end (cs ++ tail) is_newline) refl
blank_quiet blank tail (strings.comment body end cs allowed all is_newline is) ends = refl

-- blanks and an end byte after a value do not continue it
blank_follows : (blank tail : List ℕ) → IsBlank true blank → is_end (first tail) ≡ true → Follows (blank ++ tail)
blank_follows blank tail strings.none ends = quiet_follows tail (rw ends refl)
    (λ space. absurd (grind (arith, nat_tests)))
blank_follows blank tail (strings.space c cs space is) ends =
    quiet_follows (c ∷ (cs ++ tail)) (grind (arith, nat_tests)) (λ _. blank_quiet cs tail is ends)
blank_follows blank tail (strings.newline end cs is_newline is) ends =
    let first_ends = newline_first end (cs ++ tail) is_newline in
    rw (append_assoc end cs tail) (quiet_follows (end ++ (cs ++ tail)) (rw first_ends refl)
    (λ space. absurd (grind (arith, nat_tests))))
blank_follows blank tail (strings.comment body end cs allowed all is_newline is) ends =
    quiet_follows (35 ∷ ((body ++ (end ++ cs)) ++ tail)) refl (λ space. absurd (false≢true space))

spaces_blank : (spaces : List ℕ) → AreSpaces spaces → IsBlank true spaces
spaces_blank [] all = strings.none
spaces_blank (c ∷ spaces) all =
    let (here, rest) = and_parts (is_space c) (list_all is_space spaces) all in strings.space c spaces here
    (spaces_blank spaces rest)

pub spaces_follows : (spaces tail : List ℕ) → AreSpaces spaces → is_end (first tail) ≡ true → Follows (spaces ++ tail)
spaces_follows spaces tail all ends = blank_follows spaces tail (spaces_blank spaces all) ends

token_first : (cs rest : List ℕ) (v : Scalar) → IsToken cs v → is_token_byte (first (cs ++ rest)) ≡ true
token_first cs rest v (unquoted.token [] _ all means) = absurd (omega (arith, some_token [] v means))
token_first cs rest v (unquoted.token (c ∷ cs') _ all means)
    = (and_parts (is_token_byte c) (list_all is_token_byte cs') all).0
token_first cs rest v (unquoted.spaced c cs' d ds _ all digit all' means) =
    (and_parts (is_token_byte c) (list_all is_token_byte cs') all).0

-- whether a byte begins a value
abbrev pub begins : ℕ → Bool
begins c = (is_delimiter c || is_token_byte c) || (c == 91 || c == 123)

pub value_first : (depth at : ℕ) (cs rest : List ℕ) (w : Written) → IsValue depth at cs w
    → begins (first (cs ++ rest)) ≡ true
value_first depth at cs rest w (grammar.text _ _ _ _ _ (strings.one_line _ _ _ (strings.quoted d inner _ is_d is))) =
    rw is_d refl
value_first depth at cs rest w (grammar.text _ _ _ _ _ (strings.multi_line _ _ _
    (strings.framed d opening inner _ is_d is_opening is))) = rw is_d refl
value_first depth at cs rest w (grammar.token _ _ _ v is) = let here =
    token_first cs rest v (token_of cs v is) in grind (arith, nat_tests)
value_first depth at cs rest w (grammar.array _ _ cs' vs is) = refl
value_first depth at cs rest w (grammar.inline_table _ _ spaces cs' ms are_spaces is) = refl
value_first depth at cs rest w (grammar.empty_table _ _ spaces are_spaces) = refl

-- the first byte of a value is not skipped, and closes no array
value_stops : (text : List ℕ) → begins (first text) ≡ true → skip_from true false text ≡ text
unfolding skip_from
value_stops [] e = refl
value_stops (c ∷ cs) e = let none : skip_turn true false c (first cs) ≡ None = grind (arith, nat_tests) in rw none

value_no_space : (text : List ℕ) → begins (first text) ≡ true → is_space (first text) ≡ false
value_no_space text e = grind (arith, nat_tests)

value_not_closed : (text : List ℕ) → begins (first text) ≡ true → (first text == 93) ≡ false
value_not_closed text e = grind (arith, nat_tests)

after_element_comma : (blank rest : List ℕ) → IsBlank true blank → after_element (blank ++ (44 ∷ rest)) ≡ Some rest
unfolding after_element skip_from
after_element_comma blank rest is = rw (skip_from-blank true blank (44 ∷ rest) is refl)

after_element_closing : (blank rest : List ℕ) → IsBlank true blank
    → after_element (blank ++ (93 ∷ rest)) ≡ Some (93 ∷ rest)
unfolding after_element skip_from
after_element_closing blank rest is = rw (skip_from-blank true blank (93 ∷ rest) is refl)

skip_closing : (rest : List ℕ) → skip_from true false (93 ∷ rest) ≡ 93 ∷ rest
unfolding skip_from
skip_closing rest = refl

closing_read : (val : List ℕ → Read Written) (n : ℕ) (found : List Written) (blank rest : List ℕ) → 0 < n
    → IsBlank true blank
    → elements val n found (blank ++ (93 ∷ rest)) ≡ Some (found, rest)
closing_read val n found blank rest some is =
    let skipped : skip_blank (blank ++ (93 ∷ rest)) ≡ 93 ∷ rest =
    skip_from-blank true blank (93 ∷ rest) is (skip_closing rest) in
    laws.elements_end val n found (blank ++ (93 ∷ rest)) some (rw skipped refl) ∙ rw skipped

-- an element, and the elements after it
element_read : (val : List ℕ → Read Written) (n : ℕ) (found : List Written) (blank start after next : List ℕ)
    (v : Written) → 0 < n → IsBlank true blank → begins (first start) ≡ true
    → val start ≡ Some (v, after) → after_element after ≡ Some next
    → elements val n found (blank ++ start) ≡ elements val (n - 1) (found ++ v ∷ []) next
element_read val n found blank start after next v some is starts read follows =
    let skipped : skip_blank (blank ++ start) ≡ start = skip_from-blank true blank start is
    (value_stops start starts) in
    laws.elements_more val n found (blank ++ start) v after next some (rw skipped (value_not_closed start starts))
    (rw skipped read) follows

-- a key, `=` and the value
key_read : (val : List ℕ → Read Written) (at total : ℕ) (cs spaces more start rest : List ℕ) (path : List Key)
    (v : Written) → IsKey depth_limit at cs path → AreSpaces spaces → AreSpaces more
    → begins (first start) ≡ true → val start ≡ Some (v, rest)
    → at + length (cs ++ (spaces ++ (61 ∷ (more ++ start)))) ≡ total
    → assignment val total (cs ++ (spaces ++ (61 ∷ (more ++ start)))) ≡ Some (assignment_with path v, rest)
key_read val at total cs spaces more start rest path v is_key are_spaces are_more starts read offset =
    let tail = spaces ++ (61 ∷ (more ++ start)) in
    let skipped : skip_spaces tail ≡ 61 ∷ (more ++ start) = skip_spaces-run spaces (61 ∷ (more ++ start)) are_spaces
    refl in
    let again : skip_spaces (more ++ start) ≡ start = skip_spaces-run more start are_more
    (value_no_space start starts) in
    let stop : is_bare (first tail) ≡ false = spaces_equals spaces (more ++ start) are_spaces in
    let key_is : key total (cs ++ tail) ≡ Some (path, 61 ∷ (more ++ start)) =
    key_after-complete depth_limit at total [] cs tail path is_key stop (rw skipped refl) offset ∙ rw skipped in
    laws.assignment_is val total (cs ++ tail) (61 ∷ (more ++ start)) path key_is
    ∙ laws.assigned_some val path (61 ∷ (more ++ start)) rest v refl (rw again read)
  where
    spaces_equals : (spaces more : List ℕ) → AreSpaces spaces → is_bare (first (spaces ++ (61 ∷ more))) ≡ false
    spaces_equals [] more all = refl
    spaces_equals (c ∷ cs) more all =
        let space : is_space c ≡ true = (and_parts (is_space c) (list_all is_space cs) all).0 in grind
        (arith, nat_tests)

member_last_read : (val : List ℕ → Read Written) (n total : ℕ) (found : List Assignment) (text spaces rest : List ℕ)
    (a : Assignment) → 0 < n → AreSpaces spaces
    → assignment val total text ≡ Some (a, spaces ++ (125 ∷ rest))
    → members val n total found text ≡ Some (found ++ a ∷ [], rest)
member_last_read val n total found text spaces rest a some are_spaces read =
    let skipped : skip_spaces (spaces ++ (125 ∷ rest)) ≡ 125 ∷ rest =
    skip_spaces-run spaces (125 ∷ rest) are_spaces refl in
    laws.members_last val n total found text a (spaces ++ (125 ∷ rest)) some read (rw skipped refl) (rw skipped refl)
    ∙ rw skipped

member_more_read : (val : List ℕ → Read Written) (n total : ℕ) (found : List Assignment)
    (text spaces more start : List ℕ) (a : Assignment) → 0 < n → AreSpaces spaces → AreSpaces more
    → is_space (first start) ≡ false → assignment val total text ≡ Some (a, spaces ++ (44 ∷ (more ++ start)))
    → members val n total found text ≡ members val (n - 1) total (found ++ a ∷ []) start
member_more_read val n total found text spaces more start a some are_spaces are_more stop read =
    let skipped : skip_spaces (spaces ++ (44 ∷ (more ++ start))) ≡ 44 ∷ (more ++ start) =
    skip_spaces-run spaces (44 ∷ (more ++ start)) are_spaces refl in
    let again : skip_spaces (more ++ start) ≡ start = skip_spaces-run more start are_more stop in
    laws.members_more val n total found text a (spaces ++ (44 ∷ (more ++ start))) some read (rw skipped refl)
    ∙ rw (skipped, again)

-- the span of a prefix
pub its_span_is : (at total : ℕ) (cs rest : List ℕ) → at + length (cs ++ rest) ≡ total
    → record_of (total - length (cs ++ rest)) (total - length rest) ≡ span_of at (length cs)
its_span_is at total cs rest offset =
    let lens = length-append cs rest in
    span_is _ _ at (length cs) (omega arith) (omega arith)

scalar_text : (at total : ℕ) (cs rest : List ℕ) (v : Scalar) (span : Span) → IsText at cs v span → Follows rest
    → at + length (cs ++ rest) ≡ total
    → scalar total (cs ++ rest) ≡ Some (written_with span (written.Scalar v), rest)
unfolding scalar
scalar_text at total cs rest v span is follows offset =
    rw (text_starts at cs rest v span is, quoted-complete at total cs rest v span is follows.no_quote offset)
  where
    text_starts : (at : ℕ) (cs rest : List ℕ) (v : Scalar) (span : Span) → IsText at cs v span
        → starts_string (cs ++ rest) ≡ true
    text_starts at cs rest v span (strings.one_line _ _ _ (strings.quoted d inner _ is_d is)) = is_d
    text_starts at cs rest v span (strings.multi_line _ _ _ (strings.framed d opening inner _ is_d is_opening is)) =
        is_d

scalar_token : (at total : ℕ) (cs rest : List ℕ) (v : Scalar) → IsScalar cs v → Follows rest
    → is_delimiter (first (cs ++ rest)) ≡ false → at + length (cs ++ rest) ≡ total
    → scalar total (cs ++ rest) ≡ Some (written_with (span_of at (length cs)) (written.Scalar v), rest)
unfolding scalar
scalar_token at total cs rest v is follows no_string offset =
    rw (no_string, unquoted-complete cs rest v (token_of cs v is) follows.no_token follows.apart)
    (ap (λ s. Some (written_with s (written.Scalar v), rest)) (its_span_is at total cs rest offset))

text_first : (at : ℕ) (cs rest : List ℕ) (v : Scalar) (span : Span) → IsText at cs v span
    → is_delimiter (first (cs ++ rest)) ≡ true
text_first at cs rest v span (strings.one_line _ _ _ (strings.quoted d inner _ is_d is)) = is_d
text_first at cs rest v span (strings.multi_line _ _ _ (strings.framed d opening inner _ is_d is_opening is)) = is_d

-- whether a byte begins a key
abbrev pub begins_key : ℕ → Bool
begins_key c = is_bare c || is_delimiter c

pub assignment_first : (depth at : ℕ) (cs rest : List ℕ) (a : Assignment) → IsAssignment depth at cs a
    → begins_key (first (cs ++ rest)) ≡ true
assignment_first depth at cs rest a (grammar.assigned _ _ key_ spaces more cs' path v is_key are_spaces are_more is) =
    rw (append_assoc key_ (spaces ++ 61 ∷ (more ++ cs')) rest)
    (key_first depth_limit at key_ ((spaces ++ 61 ∷ (more ++ cs')) ++ rest) path is_key)

members_first : (depth at : ℕ) (cs rest : List ℕ) (ms : List Assignment) → IsMembers depth at cs ms
    → begins_key (first (cs ++ rest)) ≡ true
members_first depth at cs rest ms (grammar.last_member _ _ cs' spaces a is are_spaces) =
    rw (append_assoc cs' (spaces ++ 125 ∷ []) rest) (assignment_first depth at cs' ((spaces ++ 125 ∷ []) ++ rest) a is)
members_first depth at cs rest ms (grammar.more_members _ _ cs' spaces after rest' a ms' is are_spaces are_after more) =
    rw (append_assoc cs' (spaces ++ 44 ∷ (after ++ rest')) rest)
    (assignment_first depth at cs' ((spaces ++ 44 ∷ (after ++ rest')) ++ rest) a is)

pub key_no_space : (c : ℕ) → begins_key c ≡ true → is_space c ≡ false
key_no_space c e = grind (arith, nat_tests)

key_no_brace : (c : ℕ) → begins_key c ≡ true → (c == 125) ≡ false
key_no_brace c e = grind (arith, nat_tests)

pub some_bytes : (depth at : ℕ) (cs : List ℕ) (w : Written) → IsValue depth at cs w → 0 < length cs
some_bytes depth at [] w is = absurd (false≢true (value_first depth at [] [] w is))
some_bytes depth at (c ∷ cs) w is = omega arith

three_parts : (a b c : List ℕ) (x : ℕ) (d rest : List ℕ) → (a ++ (b ++ (c ++ x ∷ d))) ++ rest ≡ a ++
    (b ++ (c ++ (x ∷ (d ++ rest))))
three_parts a b c x d rest = rw (
  append_assoc a (b ++ (c ++ x ∷ d)) rest,
  append_assoc b (c ++ x ∷ d) rest,
  append_assoc
      c (x ∷ d) rest,
)

four_parts : (a b : List ℕ) (x : ℕ) (c d rest : List ℕ) → (a ++ (b ++ x ∷ (c ++ d))) ++ rest ≡ a ++
    (b ++ (x ∷ (c ++ (d ++ rest))))
four_parts a b x c d rest = rw (
  append_assoc a (b ++ x ∷ (c ++ d)) rest,
  append_assoc b (x ∷ (c ++ d)) rest,
  append_assoc c d rest,
)

mutual
  -- a value of the grammar is read where the text after it does not continue it
  value-complete : (depth at total : ℕ) (cs rest : List ℕ) (w : Written) → IsValue depth at cs w → Follows rest
      → at + length (cs ++ rest) ≡ total
      → value depth total (cs ++ rest) ≡ Some (w, rest)
  value-complete depth at total cs rest w (grammar.text _ _ _ v span is) follows offset =
      let start = text_first at cs rest v span is in
      laws.value_scalar depth total (cs ++ rest) (grind (arith, nat_tests)) (grind (arith, nat_tests))
      ∙ scalar_text at total cs rest v span is follows offset
  value-complete depth at total cs rest w (grammar.token _ _ _ v is) follows offset =
      let start = token_first cs rest v (token_of cs v is) in
      laws.value_scalar depth total (cs ++ rest) (grind (arith, nat_tests)) (grind (arith, nat_tests))
      ∙ scalar_token at total cs rest v is follows (grind (arith, nat_tests)) offset
  value-complete depth at total cs rest w (grammar.array depth' _ cs' vs is) follows offset =
      let text = 91 ∷ (cs' ++ rest) in
      let less : suc depth' - 1 ≡ depth' = omega arith in
      let read : elements (value depth' total) (length text) [] (cs' ++ rest) ≡ Some (vs, rest) =
      elements-complete depth' (at + 1) total [] cs' rest vs is (length text) (omega arith) (omega arith) in
      laws.value_array (suc depth') total text (omega arith) refl
      ∙ rw (less, read) (ap (λ s. Some (written_with s (written.Array vs), rest))
      (its_span_is at total (91 ∷ cs') rest offset))
  value-complete depth at total cs rest w (grammar.inline_table depth' _ spaces cs' ms are_spaces is) follows offset =
      let text = 123 ∷ ((spaces ++ cs') ++ rest) in
      let less : suc depth' - 1 ≡ depth' = omega arith in
      let joined : (spaces ++ cs') ++ rest ≡ spaces ++ (cs' ++ rest) = append_assoc spaces cs' rest in
      let lens : length ((spaces ++ cs') ++ rest) ≡ length spaces + length (cs' ++ rest) =
      rw joined (length-append spaces (cs' ++ rest)) in
      let starts = members_first depth' (at + 1 + length spaces) cs' rest ms is in
      let skipped : skip_spaces ((spaces ++ cs') ++ rest) ≡ cs' ++ rest =
      rw joined (skip_spaces-run spaces (cs' ++ rest) are_spaces (key_no_space (first (cs' ++ rest)) starts)) in
      let inner : inline_table (value depth' total) total ((spaces ++ cs') ++ rest) ≡ Some (ms, rest) =
      laws.inline_table_is (value depth' total) total ((spaces ++ cs') ++ rest)
      (rw skipped (key_no_brace (first (cs' ++ rest)) starts))
      ∙ rw skipped (members-complete depth' (at + 1 + length spaces) total [] cs' rest ms is
      (suc (length ((spaces ++ cs') ++ rest))) (omega arith) (omega arith)) in
      laws.value_table (suc depth') total text (omega arith) refl refl
      ∙ rw (less, inner) (ap (λ s. Some (written_with s (written.InlineTable ms), rest))
      (its_span_is at total (123 ∷ (spaces ++ cs')) rest offset))
  value-complete depth at total cs rest w (grammar.empty_table depth' _ spaces are_spaces) follows offset =
      let text = 123 ∷ ((spaces ++ 125 ∷ []) ++ rest) in
      let less : suc depth' - 1 ≡ depth' = omega arith in
      let joined : (spaces ++ 125 ∷ []) ++ rest ≡ spaces ++ (125 ∷ rest) = append_assoc spaces (125 ∷ []) rest in
      let skipped : skip_spaces ((spaces ++ 125 ∷ []) ++ rest) ≡ 125 ∷ rest =
      rw joined (skip_spaces-run spaces (125 ∷ rest) are_spaces refl) in
      let inner : inline_table (value depth' total) total ((spaces ++ 125 ∷ []) ++ rest) ≡ Some ([], rest) =
      laws.inline_table_empty (value depth' total) total ((spaces ++ 125 ∷ []) ++ rest) (rw skipped refl)
      ∙ rw skipped in
      laws.value_table (suc depth') total text (omega arith) refl refl
      ∙ rw (less, inner) (ap (λ s. Some (written_with s (written.InlineTable []), rest))
      (its_span_is at total (123 ∷ (spaces ++ 125 ∷ [])) rest offset))

  elements-complete : (depth at total : ℕ) (found : List Written) (cs rest : List ℕ) (vs : List Written)
      → IsElements depth at cs vs → (n : ℕ) → length (cs ++ rest) < n
      → at + length (cs ++ rest) ≡ total → elements (value depth total) n found (cs ++ rest) ≡ Some (found ++ vs, rest)
  elements-complete depth at total found cs rest vs (grammar.closed _ _ blank is) n room offset =
      rw (append_assoc blank (93 ∷ []) rest) (closing_read (value depth total) n found blank rest (omega arith) is
      ∙ rw (append-nil found))
  elements-complete depth at total found cs rest vs (grammar.last_element _ _ blank cs' more v is_blank is is_more) n
      room offset =
      let joined = three_parts blank cs' more 93 [] rest in
      let start = cs' ++ (more ++ (93 ∷ rest)) in
      let lens : length (blank ++ start) ≡ length blank + length start = length-append blank start in
      let whole : length ((blank ++ (cs' ++ (more ++ 93 ∷ []))) ++ rest) ≡ length (blank ++ start) = ap length joined in
      let read = value-complete depth (at + length blank) total cs' (more ++ (93 ∷ rest)) v is
      (blank_follows more (93 ∷ rest) is_more refl) (omega arith) in
      let starts = value_first depth (at + length blank) cs' (more ++ (93 ∷ rest)) v is in
      let two : 1 < n = omega (
        arith,
        length-append cs' (more ++ (93 ∷ rest)),
        length-append more (93 ∷ rest),
        some_bytes depth (at + length blank) cs' v is,
      ) in
      rw joined (element_read (value depth total) n found blank start (more ++ (93 ∷ rest)) (93 ∷ rest) v (omega arith)
      is_blank starts read (after_element_closing more rest is_more)
      ∙ closing_read (value depth total) (n - 1) (found ++ v ∷ []) [] rest (omega arith) strings.none)
  elements-complete depth at total found cs rest vs (grammar.more_elements _ _ blank cs' after rest' v vs' is_blank is
      is_after more) n room offset =
      let joined = three_parts blank cs' after 44 rest' rest in
      let start = cs' ++ (after ++ (44 ∷ (rest' ++ rest))) in
      let lens : length (blank ++ start) ≡ length blank + (length cs' + (length after + (1 + length (rest' ++ rest)))) =
      simp length-append (omega arith) in
      let whole : length ((blank ++ (cs' ++ (after ++ 44 ∷ rest'))) ++ rest) ≡ length (blank ++ start) =
      ap length joined in
      let inner : length (blank ++ start) ≡ length blank + length start = length-append blank start in
      let read = value-complete depth (at + length blank) total cs' (after ++ (44 ∷ (rest' ++ rest))) v is
      (blank_follows after (44 ∷ (rest' ++ rest)) is_after refl) (omega arith) in
      let starts = value_first depth (at + length blank) cs' (after ++ (44 ∷ (rest' ++ rest))) v is in
      let ih = elements-complete depth (at + length blank + length cs' + length after + 1) total (found ++ v ∷ []) rest'
      rest vs' more (n - 1) (omega arith) (omega arith) in
      rw joined (element_read (value depth total) n found blank start (after ++ (44 ∷ (rest' ++ rest))) (rest' ++ rest)
      v (omega arith) is_blank starts read (after_element_comma after (rest' ++ rest) is_after)
      ∙ ih ∙ rw (append_assoc found (v ∷ []) vs'))

  members-complete : (depth at total : ℕ) (found : List Assignment) (cs rest : List ℕ) (ms : List Assignment)
      → IsMembers depth at cs ms → (n : ℕ) → length (cs ++ rest) < n
      → at + length (cs ++ rest) ≡ total → members (value depth total) n total found (cs ++ rest) ≡ Some
      (found ++ ms, rest)
  members-complete depth at total found cs rest ms (grammar.last_member _ _ cs' spaces a is are_spaces) n room offset =
      let joined : (cs' ++ (spaces ++ 125 ∷ [])) ++ rest ≡ cs' ++ (spaces ++ (125 ∷ rest)) =
      rw (append_assoc cs' (spaces ++ 125 ∷ []) rest, append_assoc spaces (125 ∷ []) rest) in
      let here : at + length (cs' ++ (spaces ++ (125 ∷ rest))) ≡ total = rw joined at offset in
      let read = assignment-complete depth at total cs' (spaces ++ (125 ∷ rest)) a is
      (spaces_follows spaces (125 ∷ rest) are_spaces refl) here in
      rw joined (member_last_read (value depth total) n total found (cs' ++ (spaces ++ (125 ∷ rest))) spaces rest a
      (omega arith) are_spaces read)
  members-complete depth at total found cs rest ms (grammar.more_members _ _ cs' spaces after rest' a ms' is are_spaces
      are_after more) n room offset =
      let joined = four_parts cs' spaces 44 after rest' rest in
      let tail = spaces ++ (44 ∷ (after ++ (rest' ++ rest))) in
      let here : at + length (cs' ++ tail) ≡ total = rw joined at offset in
      let lens : length (cs' ++ tail) ≡ length cs' + (length spaces + (1 + (length after + length (rest' ++ rest)))) =
      simp length-append (omega arith) in
      let whole : length ((cs' ++ (spaces ++ 44 ∷ (after ++ rest'))) ++ rest) ≡ length (cs' ++ tail) =
      ap length joined in
      let read = assignment-complete depth at total cs' tail a is
      (spaces_follows spaces (44 ∷ (after ++ (rest' ++ rest))) are_spaces refl) here in
      let starts = members_first depth (at + length cs' + length spaces + 1 + length after) rest' rest ms' more in
      let ih = members-complete depth (at + length cs' + length spaces + 1 + length after) total (found ++ a ∷ []) rest'
      rest ms' more (n - 1) (omega arith) (omega arith) in
      rw joined (member_more_read (value depth total) n total found (cs' ++ tail) spaces after (rest' ++ rest) a
      (omega arith) are_spaces are_after (key_no_space (first (rest' ++ rest)) starts) read
      ∙ ih ∙ rw (append_assoc found (a ∷ []) ms'))

  pub assignment-complete : (depth at total : ℕ) (cs rest : List ℕ) (a : Assignment) → IsAssignment depth at cs a
      → Follows rest → at + length (cs ++ rest) ≡ total
      → assignment (value depth total) total (cs ++ rest) ≡ Some (a, rest)
  assignment-complete depth at total cs rest a (grammar.assigned _ _ key_ spaces more cs' path v is_key are_spaces
      are_more is) follows offset =
      let joined = four_parts key_ spaces 61 more cs' rest in
      let here : at + length (key_ ++ (spaces ++ (61 ∷ (more ++ (cs' ++ rest))))) ≡ total = rw joined at offset in
      let lens : length (key_ ++ (spaces ++ (61 ∷ (more ++ (cs' ++ rest))))) ≡ length key_ +
      (length spaces + (1 + (length more + length (cs' ++ rest)))) = simp length-append (omega arith) in
      let at' = at + length key_ + length spaces + 1 + length more in
      let read = value-complete depth at' total cs' rest v is follows (omega arith) in
      let starts = value_first depth at' cs' rest v is in
      rw joined (key_read (value depth total) at total key_ spaces more (cs' ++ rest) rest path v is_key are_spaces
      are_more starts read here)
