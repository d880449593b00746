-- A line and a document that are read are in the grammar.
use Rattle.std.proofs.Common.{◌≡◌, ℕ, zero, suc, ◌+◌, ◌-◌, ◌≤◌, true, false, ◌==◌, if◌then◌else◌, List, [], ◌∷◌, ◌++◌}
use Rattle.std.proofs.Common.{length, Some, None, option_and_then, refl, sym, subst, ◌∙◌, inl, inr, arith, append_assoc}
use Rattle.std.proofs.Common.{append-nil, length-append, add-zero}
use Rattle.std.proofs.lemmas.Option.{none-some, same_Some}
use Rattle.std.proofs.lemmas.Bool.{cases_Bool, true≢false, false≢true}
use Rattle.std.proofs.lemmas.Bool.Decides.{nat_tests}
use Rattle.std.specs.List.{list_all}
use Rattle.deny_toml_grammar.specs.declared.parts.Key.{Key}
use Rattle.deny_toml_grammar.specs.declared.expression.Assignment.{Assignment}
use Rattle.deny_toml_grammar.specs.declared.expression.TomlExpression.{TomlExpression}
use Rattle.deny_toml_grammar.specs.declared.expression.TomlExpression.TheVariants as expression
use Rattle.deny_toml_grammar.specs.Lexical.{Read, first, is_space, is_comment_byte, skip_spaces}
use Rattle.deny_toml_grammar.specs.private.Lexical.{skip_blank}
use Rattle.deny_toml_grammar.specs.private.Reading.{read_map}
use Rattle.deny_toml_grammar.specs.Expression.{depth_limit}
use Rattle.deny_toml_grammar.specs.private.Keys.{key}
use Rattle.deny_toml_grammar.specs.private.Values.{assignment, value}
use Rattle.deny_toml_grammar.specs.Expression.{header_with}
use Rattle.deny_toml_grammar.specs.private.Lines.{after_byte, header_path, array_header, header, expression_at}
use Rattle.deny_toml_grammar.specs.private.Lines.{ends_line, line, lines, expressions}
use Rattle.deny_toml_grammar.specs.GrammarStrings.{AreSpaces, IsNewline, IsBlank}
use Rattle.deny_toml_grammar.specs.GrammarStrings as strings
use Rattle.deny_toml_grammar.specs.Grammar.{IsKey, IsAssignment, IsExpression, IsComment, IsLine, AreLines, IsDocument}
use Rattle.deny_toml_grammar.specs.Grammar as grammar
use Rattle.deny_toml_grammar.proofs.Blanks.{skip_spaces-run, Skipped, done, unclosed, skip_from_found}
use Rattle.deny_toml_grammar.proofs.StringsSound.{read_of, read_same, SpacesPrefix, spaces_prefix, spaces_found}
use Rattle.deny_toml_grammar.proofs.QuotedLaws.{Prefix, prefix}
use Rattle.deny_toml_grammar.proofs.KeysGrammar.{KeyPrefix, key_prefix, key_after-sound}
use Rattle.deny_toml_grammar.proofs.ValuesSound.{assignment-sound}
use Rattle.deny_toml_grammar.proofs.LinesComplete.{begins_expression, expression_first}
use Rattle.deny_toml_grammar.proofs.LinesLaws.{lines_zero, lines_end, lines_more, lines_bad}

-- the path of a header at the start of a text, and its first closing bracket
data PathPrefix (total : ℕ) (rest : List ℕ) : List ℕ → List Key → Type 0 where
  path_prefix : (spaces cs after : List ℕ) (path : List Key) → AreSpaces spaces
      → IsKey depth_limit (total - length (cs ++ (after ++ (93 ∷ rest)))) cs path → AreSpaces after
      → PathPrefix total rest (spaces ++ (cs ++ (after ++ (93 ∷ rest)))) path

closing_path : (total c : ℕ) (tail rest spaces start : List ℕ) (path all : List Key) → AreSpaces spaces
    → (c == 93) ≡ true
    → KeyPrefix depth_limit (total - length start) [] (c ∷ tail) start path → read_of path tail ≡ read_of all rest
    → PathPrefix total rest (spaces ++ start) all
closing_path total c tail rest spaces start path all are_spaces closes (key_prefix cs after path' is_key are_after) e =
    let c_is : c ≡ 93 = grind (arith, nat_tests) in
    let key' : IsKey depth_limit (total - length (cs ++ (after ++ (93 ∷ tail)))) cs path' =
    subst (λ x. IsKey depth_limit (total - length (cs ++ (after ++ (x ∷ tail)))) cs path') c_is is_key in
    read_same (λ p r. PathPrefix total r (spaces ++ (cs ++ (after ++ (c ∷ tail)))) p) path' all tail rest e
    (subst (λ x. PathPrefix total tail (spaces ++ (cs ++ (after ++ (x ∷ tail)))) path') (sym c_is)
    (path_prefix spaces cs after path' are_spaces key' are_after))

path_closed : (total : ℕ) (krest rest spaces start : List ℕ) (path all : List Key) → AreSpaces spaces
    → KeyPrefix depth_limit (total - length start) [] krest start path
    → option_and_then (λ r. read_of path r) (after_byte 93 krest) ≡ read_of all rest
    → PathPrefix total rest (spaces ++ start) all
path_closed total [] rest spaces start path all are_spaces is e = absurd (none-some (all, rest) e)
path_closed total (c ∷ tail) rest spaces start path all are_spaces is e =
    elim (cases_Bool (c == 93)) [
      | inl closes ↦ closing_path total c tail rest spaces start path all are_spaces closes is (rw closes at e)
      | inr other ↦ absurd (none-some (all, rest) (rw other at e))
    ]

path_by : (total : ℕ) (spaces start rest : List ℕ) (all : List Key) (o : Read (List Key)) → length start ≤ total
    → AreSpaces spaces → key total start ≡ o
    → option_and_then (λ p. option_and_then (λ r. read_of p.0 r) (after_byte 93 p.1)) o ≡ read_of all rest
    → PathPrefix total rest (spaces ++ start) all
path_by total spaces start rest all None within are_spaces is e = absurd (none-some (all, rest) e)
path_by total spaces start rest all (Some (path, krest)) within are_spaces is e =
    path_closed total krest rest spaces start path all are_spaces
    (key_after-sound depth_limit total krest [] start path within is) e

path_spaced : (total : ℕ) (text start rest : List ℕ) (all : List Key) → length text ≤ total → SpacesPrefix start text
    → option_and_then (λ p. option_and_then (λ r. read_of p.0 r) (after_byte 93 p.1)) (key total start) ≡ read_of all
    rest → PathPrefix total rest text all
path_spaced total text start rest all within (spaces_prefix spaces are_spaces) e =
    path_by total spaces start rest all (key total start) (omega (arith, length-append spaces start)) are_spaces refl e

path-sound : (total : ℕ) (text rest : List ℕ) (path : List Key) → length text ≤ total
    → header_path total text ≡ read_of path rest → PathPrefix total rest text path
unfolding header_path
path-sound total text rest path within e = path_spaced total text (skip_spaces text) rest path within
    (spaces_found text) e

table_prefix : (total : ℕ) (text rest : List ℕ) (path : List Key) → length (91 ∷ text) ≤ total
    → PathPrefix total rest text path
    → Prefix (IsExpression (total - length (91 ∷ text))) rest (91 ∷ text) (expression.Header (header_with false path))
table_prefix total text rest path within (path_prefix spaces cs after path' are_spaces is_key are_after) =
    let tail = cs ++ (after ++ (93 ∷ rest)) in
    let at = total - length (91 ∷ (spaces ++ tail)) in
    let lens : length (spaces ++ tail) ≡ length spaces + length tail = length-append spaces tail in
    let at_is : total - length tail ≡ at + 1 + length spaces = omega arith in
    subst (λ t. Prefix (IsExpression at) rest (91 ∷ t) (expression.Header (header_with false path')))
    (rw (
      append_assoc spaces (cs ++ (after ++ 93 ∷ [])) rest,
      append_assoc cs (after ++ 93 ∷ []) rest,
      append_assoc
          after (93 ∷ []) rest,
    ))
    (prefix (91 ∷ (spaces ++ (cs ++ (after ++ 93 ∷ [])))) (expression.Header (header_with false path'))
    (grammar.table spaces cs after path' are_spaces (subst (λ a. IsKey depth_limit a cs path') at_is is_key) are_after))

array_prefix : (total : ℕ) (text rest : List ℕ) (path : List Key) → length (91 ∷ (91 ∷ text)) ≤ total
    → PathPrefix total (93 ∷ rest) text path
    → Prefix (IsExpression (total - length (91 ∷ (91 ∷ text)))) rest (91 ∷ (91 ∷ text))
    (expression.Header (header_with true path))
array_prefix total text rest path within (path_prefix spaces cs after path' are_spaces is_key are_after) =
    let tail = cs ++ (after ++ (93 ∷ (93 ∷ rest))) in
    let at = total - length (91 ∷ (91 ∷ (spaces ++ tail))) in
    let lens : length (spaces ++ tail) ≡ length spaces + length tail = length-append spaces tail in
    let at_is : total - length tail ≡ at + 2 + length spaces = omega arith in
    subst (λ t. Prefix (IsExpression at) rest (91 ∷ (91 ∷ t)) (expression.Header (header_with true path')))
    (rw (
      append_assoc spaces (cs ++ (after ++ 93 ∷ (93 ∷ []))) rest,
      append_assoc cs (after ++ 93 ∷ (93 ∷ [])) rest,
      append_assoc after (93 ∷ (93 ∷ [])) rest,
    ))
    (prefix (91 ∷ (91 ∷ (spaces ++ (cs ++ (after ++ 93 ∷ (93 ∷ [])))))) (expression.Header (header_with true path'))
    (grammar.array_of_tables spaces cs after path' are_spaces (subst (λ a. IsKey depth_limit a cs path') at_is is_key)
    are_after))

array_by : (total : ℕ) (text rest : List ℕ) (e : TomlExpression) (o : Read (List Key))
    → length (91 ∷ (91 ∷ text)) ≤ total
    → header_path total text ≡ o
    → read_map expression.Header (option_and_then (λ p. option_and_then (λ r. read_of (header_with true p.0) r)
    (after_byte 93 p.1)) o) ≡ read_of e rest
    → Prefix (IsExpression (total - length (91 ∷ (91 ∷ text)))) rest (91 ∷ (91 ∷ text)) e
array_by total text rest e None within is same = absurd (none-some (e, rest) same)
array_by total text rest e (Some (path, [])) within is same = absurd (none-some (e, rest) same)
array_by total text rest e (Some (path, c ∷ tail)) within is same =
    elim (cases_Bool (c == 93)) [
      | inl closes ↦
          let c_is : c ≡ 93 = grind (arith, nat_tests) in
          let read : header_path total text ≡ read_of path (93 ∷ tail) =
          subst (λ x. header_path total text ≡ read_of path (x ∷ tail)) c_is is in
          let there : read_of (expression.Header (header_with true path)) tail ≡ read_of e rest = rw closes at same in
          read_same (λ x r. Prefix (IsExpression (total - length (91 ∷ (91 ∷ text)))) r (91 ∷ (91 ∷ text)) x)
          (expression.Header (header_with true path)) e tail rest there
          (array_prefix total text tail path within (path-sound total text (93 ∷ tail) path (omega arith) read))
      | inr other ↦ absurd (none-some (e, rest) (rw other at same))
    ]

table_by : (total : ℕ) (text rest : List ℕ) (e : TomlExpression) (o : Read (List Key)) → length (91 ∷ text) ≤ total
    → header_path total text ≡ o
    → read_map expression.Header (read_map (header_with false) o) ≡ read_of e rest
    → Prefix (IsExpression (total - length (91 ∷ text))) rest (91 ∷ text) e
table_by total text rest e None within is same = absurd (none-some (e, rest) same)
table_by total text rest e (Some (path, r)) within is same =
    read_same (λ x t. Prefix (IsExpression (total - length (91 ∷ text))) t (91 ∷ text) x)
    (expression.Header (header_with false path)) e r rest same
    (table_prefix total text r path within (path-sound total text r path (omega arith) is))

header_found : (total : ℕ) (text rest : List ℕ) (e : TomlExpression) → length (91 ∷ text) ≤ total
    → read_map expression.Header (header total text) ≡ read_of e rest
    → Prefix (IsExpression (total - length (91 ∷ text))) rest (91 ∷ text) e
unfolding header array_header
header_found total [] rest e within same = table_by total [] rest e (header_path total []) within refl same
header_found total (c ∷ text) rest e within same =
    elim (cases_Bool (c == 91)) [
      | inl opens ↦
          let c_is : c ≡ 91 = grind (arith, nat_tests) in
          subst (λ x. Prefix (IsExpression (total - length (91 ∷ (x ∷ text)))) rest (91 ∷ (x ∷ text)) e) (sym c_is)
          (array_by total text rest e (header_path total text) within refl (rw opens at same))
      | inr other ↦ table_by total (c ∷ text) rest e (header_path total (c ∷ text)) within refl (rw other at same)
    ]

assignment_by : (total : ℕ) (text rest : List ℕ) (e : TomlExpression) (o : Read Assignment) → length text ≤ total
    → assignment (value depth_limit total) total text ≡ o
    → read_map expression.Assignment o ≡ read_of e rest → Prefix (IsExpression (total - length text)) rest text e
assignment_by total text rest e None within is same = absurd (none-some (e, rest) same)
assignment_by total text rest e (Some (a, r)) within is same =
    read_same (λ x t. Prefix (IsExpression (total - length text)) t text x) (expression.Assignment a) e r rest same
    (of_prefix (total - length text) r text a (assignment-sound depth_limit total text r a within is))
  where
    of_prefix : (at : ℕ) (r text : List ℕ) (a : Assignment) → Prefix (IsAssignment depth_limit at) r text a
        → Prefix (IsExpression at) r text (expression.Assignment a)
    of_prefix at r text a (prefix cs _ is) = prefix cs (expression.Assignment a) (grammar.assignment cs a is)

-- an expression that is read is in the grammar
expression-sound : (total : ℕ) (text rest : List ℕ) (e : TomlExpression) → length text ≤ total
    → expression_at total text ≡ read_of e rest
    → Prefix (IsExpression (total - length text)) rest text e
unfolding expression_at
expression-sound total [] rest e within same = assignment_by total [] rest e
    (assignment (value depth_limit total) total []) within refl same
expression-sound total (c ∷ text) rest e within same =
    elim (cases_Bool (c == 91)) [
      | inl opens ↦
          let c_is : c ≡ 91 = grind (arith, nat_tests) in
          subst (λ x. Prefix (IsExpression (total - length (x ∷ text))) rest (x ∷ text) e) (sym c_is)
          (header_found total text rest e within (rw opens at same))
      | inr other ↦ assignment_by total (c ∷ text) rest e (assignment (value depth_limit total) total (c ∷ text)) within
          refl (rw other at same)
    ]

-- a line with a space before it
line_space : (at c : ℕ) (cs : List ℕ) (es : List TomlExpression) → is_space c ≡ true → IsLine (at + 1) cs es
    → IsLine at (c ∷ cs) es
line_space at c cs es space (grammar.blank spaces comment are_spaces is_comment) =
    grammar.blank (c ∷ spaces) comment (rw space are_spaces) is_comment
line_space at c cs es space (grammar.says spaces cs' after comment e are_spaces is are_after is_comment) =
    let at_is : at + 1 + length spaces ≡ at + length (c ∷ spaces) = omega arith in
    grammar.says (c ∷ spaces) cs' after comment e (rw space are_spaces) (subst (λ a. IsExpression a cs' e) at_is is)
    are_after is_comment

lines_space : (at c : ℕ) (text : List ℕ) (es : List TomlExpression) → is_space c ≡ true → AreLines (at + 1) text es
    → AreLines at (c ∷ text) es
lines_space at c text es space (grammar.last _ _ _ is) = grammar.last at (c ∷ text) es
    (line_space at c text es space is)
lines_space at c text es' space (grammar.more _ cs end rest es fs is is_newline others) =
    let at_is : at + 1 + length cs + length end ≡ at + length (c ∷ cs) + length end = omega arith in
    grammar.more at (c ∷ cs) end rest es fs (line_space at c cs es space is) is_newline
    (subst (λ a. AreLines a rest fs) at_is others)

-- lines with a line end before them
lines_newline : (at : ℕ) (comment end rest : List ℕ) (es : List TomlExpression) → IsComment comment → IsNewline end
    → AreLines (at + length comment + length end) rest es
    → AreLines at (comment ++ (end ++ rest)) es
lines_newline at comment end rest es is_comment is_newline others =
    grammar.more at comment end rest [] es (grammar.blank [] comment refl is_comment) is_newline others

-- lines with blanks before them
lines_blank : (at : ℕ) (blank rest : List ℕ) (es : List TomlExpression) → IsBlank true blank
    → AreLines (at + length blank) rest es → AreLines at (blank ++ rest) es
lines_blank at blank rest es strings.none is = subst (λ a. AreLines a rest es) (add-zero at) is
lines_blank at blank rest es (strings.space c cs space more) is =
    let at_is : at + length (c ∷ cs) ≡ at + 1 + length cs = omega arith in
    lines_space at c (cs ++ rest) es space (lines_blank (at + 1) cs rest es more
    (subst (λ a. AreLines a rest es) at_is is))
lines_blank at blank rest es (strings.newline end cs is_newline more) is =
    let at_is : at + length (end ++ cs) ≡ at + 0 + length end + length cs = omega (arith, length-append end cs) in
    subst (λ t. AreLines at t es) (sym (append_assoc end cs rest))
    (lines_newline at [] end (cs ++ rest) es grammar.none is_newline
    (lines_blank (at + 0 + length end) cs rest es more (subst (λ a. AreLines a rest es) at_is is)))
lines_blank at blank rest es (strings.comment body end cs allowed all is_newline more) is =
    let lens : length (35 ∷ (body ++ (end ++ cs))) ≡ length (35 ∷ body) + (length end + length cs) =
    simp length-append (omega arith) in
    let at_is : at + length (35 ∷ (body ++ (end ++ cs))) ≡ at + length (35 ∷ body) + length end + length cs =
    omega arith in
    let same : (body ++ (end ++ cs)) ++ rest ≡ body ++ (end ++ (cs ++ rest)) =
    rw (append_assoc body (end ++ cs) rest, append_assoc end cs rest) in
    subst (λ t. AreLines at (35 ∷ t) es) (sym same)
    (lines_newline at (35 ∷ body) end (cs ++ rest) es (grammar.comment body all) is_newline
    (lines_blank (at + length (35 ∷ body) + length end) cs rest es more (subst (λ a. AreLines a rest es) at_is is)))

-- a text that is blank has no expressions
nothing_left : (at : ℕ) (text : List ℕ) → Skipped true [] text → AreLines at text []
nothing_left at text (done blank is) = lines_blank at blank [] [] is
    (grammar.last (at + length blank) [] [] (grammar.blank [] [] refl grammar.none))
nothing_left at text (unclosed blank body allowed is all stop) =
    let all' : list_all is_comment_byte (body ++ []) ≡ true = rw append-nil all in
    lines_blank at blank (35 ∷ (body ++ [])) [] is (grammar.last (at + length blank) (35 ∷ (body ++ [])) []
    (grammar.blank [] (35 ∷ (body ++ [])) refl (grammar.comment (body ++ []) all')))

-- a line end or a comment begins no expression
says_nothing : (at : ℕ) (spaces cs rest : List ℕ) (e : TomlExpression) → AreSpaces spaces → IsExpression at cs e
    → ends_line (skip_spaces (spaces ++ (cs ++ rest))) ≡ true → ⊥
says_nothing at spaces cs rest e are_spaces is ends =
    let starts = expression_first at cs rest e is in
    let skipped : skip_spaces (spaces ++ (cs ++ rest)) ≡ cs ++ rest =
    skip_spaces-run spaces (cs ++ rest) are_spaces (no_space (first (cs ++ rest)) starts) in
    true≢false (sym (rw skipped at ends) ∙ no_end (cs ++ rest) starts)
  where
    no_space : (c : ℕ) → begins_expression c ≡ true → is_space c ≡ false
    no_space c e = grind (arith, nat_tests)

    no_end : (text : List ℕ) → begins_expression (first text) ≡ true → ends_line text ≡ false
    no_end [] e = absurd (false≢true e)
    no_end (c ∷ cs) e = grind (arith, nat_tests)

-- an expression before the rest of its line, and the lines after it
expression_before : (at : ℕ) (cs after : List ℕ) (e : TomlExpression) (es : List TomlExpression) → IsExpression at cs e
    → ends_line (skip_spaces after) ≡ true
    → AreLines (at + length cs) after es → AreLines at (cs ++ after) (e ∷ es)
expression_before at cs after e es is ends (grammar.last _ _ _ (grammar.blank spaces comment are_spaces is_comment)) =
    grammar.last at (cs ++ (spaces ++ comment)) (e ∷ []) (grammar.says [] cs spaces comment e refl
    (subst (λ a. IsExpression a cs e) (sym (add-zero at)) is) are_spaces is_comment)
expression_before at cs after e es is ends (grammar.last _ _ _
    (grammar.says spaces cs' after' comment e' are_spaces is' are_after is_comment)) =
    absurd (says_nothing (at + length cs + length spaces) spaces cs' (after' ++ comment) e' are_spaces is' ends)
expression_before at cs after e es' is ends (grammar.more _ _ end rest es fs
    (grammar.blank spaces comment are_spaces is_comment) is_newline others) =
    let first_line = grammar.says [] cs spaces comment e refl (subst (λ a. IsExpression a cs e) (sym (add-zero at)) is)
    are_spaces is_comment in
    let whole = cs ++ (spaces ++ comment) in
    let at_is : at + length cs + length (spaces ++ comment) + length end ≡ at + length whole + length end =
    omega (arith, length-append cs (spaces ++ comment)) in
    subst (λ t. AreLines at t (e ∷ fs)) (append_assoc cs (spaces ++ comment) (end ++ rest))
    (grammar.more at whole end rest (e ∷ []) fs first_line is_newline (subst (λ a. AreLines a rest fs) at_is others))
expression_before at cs after e es' is ends (grammar.more _ _ end rest es fs
    (grammar.says spaces cs' after' comment e' are_spaces is' are_after is_comment) is_newline others) =
    let same : (spaces ++ (cs' ++ (after' ++ comment))) ++ (end ++ rest) ≡ spaces ++
    (cs' ++ ((after' ++ comment) ++ (end ++ rest))) =
    rw (
      append_assoc spaces (cs' ++ (after' ++ comment)) (end ++ rest),
      append_assoc cs' (after' ++ comment)
          (end ++ rest),
    ) in
    absurd (says_nothing (at + length cs + length spaces) spaces cs' ((after' ++ comment) ++ (end ++ rest)) e'
    are_spaces is' (rw same at ends))

-- the expressions of a text, after those found before
data LinesFound (at : ℕ) (found : List TomlExpression) (text : List ℕ) : List TomlExpression → Type 0 where
  lines_found : (es : List TomlExpression) → AreLines at text es → LinesFound at found text (found ++ es)

abbrev LinesRest : ℕ → ℕ → Type 0
LinesRest n total = (found : List TomlExpression) (text : List ℕ) (all : List TomlExpression) → length text ≤ total
    → lines n total found text ≡ Some all → LinesFound (total - length text) found text all

more_found : (total : ℕ) (found : List TomlExpression) (blank cs after : List ℕ) (e : TomlExpression)
    (all : List TomlExpression)
    → length (blank ++ (cs ++ after)) ≤ total → IsBlank true blank
    → IsExpression (total - length (cs ++ after)) cs e → ends_line (skip_spaces after) ≡ true
    → LinesFound (total - length after) (found ++ e ∷ []) after all
    → LinesFound (total - length (blank ++ (cs ++ after))) found (blank ++ (cs ++ after)) all
more_found total found blank cs after e all within is_blank is ends (lines_found es are) =
    let at = total - length (blank ++ (cs ++ after)) in
    let lens : length (blank ++ (cs ++ after)) ≡ length blank + (length cs + length after) =
    simp length-append (omega arith) in
    let inner : length (cs ++ after) ≡ length cs + length after = length-append cs after in
    let at_is : total - length (cs ++ after) ≡ at + length blank = omega arith in
    let at_after : total - length after ≡ at + length blank + length cs = omega arith in
    let whole : AreLines (at + length blank) (cs ++ after) (e ∷ es) =
    expression_before (at + length blank) cs after e es (subst (λ a. IsExpression a cs e) at_is is) ends
    (subst (λ a. AreLines a after es) at_after are) in
    subst (LinesFound at found (blank ++ (cs ++ after))) (sym (append_assoc found (e ∷ []) es))
    (lines_found (e ∷ es) (lines_blank at blank (cs ++ after) (e ∷ es) is_blank whole))

expression_inked : (c : ℕ) → begins_expression c ≡ true → is_comment_byte c ≡ true
expression_inked c e = grind (arith, nat_tests)

prefix_first : (at : ℕ) (start after : List ℕ) (e : TomlExpression) → Prefix (IsExpression at) after start e
    → begins_expression (first start) ≡ true
prefix_first at start after e (prefix cs _ is) = expression_first at cs after e is

skipped_found : (total : ℕ) (found : List TomlExpression) (text start after : List ℕ) (e : TomlExpression)
    (all : List TomlExpression) → length text ≤ total → Skipped true start text
    → begins_expression (first start) ≡ true → Prefix (IsExpression (total - length start)) after start e
    → ends_line (skip_spaces after) ≡ true
    → (length after ≤ total → LinesFound (total - length after) (found ++ e ∷ []) after all)
    → LinesFound (total - length text) found text all
skipped_found total found text start after e all within (unclosed blank body allowed is_blank body_all stop) starts is
    ends ih =
    absurd (true≢false (sym (expression_inked (first start) starts) ∙ stop))
skipped_found total found text start after e all within (done blank is_blank) starts (prefix cs _ is) ends ih =
    let lens : length (blank ++ (cs ++ after)) ≡ length blank + (length cs + length after) =
    simp length-append (omega arith) in
    more_found total found blank cs after e all within is_blank is ends (ih (omega arith))

line_parts : (total : ℕ) (text rest : List ℕ) (e : TomlExpression) → line total text ≡ read_of e rest
    → (expression_at total text ≡ read_of e rest) × (ends_line (skip_spaces rest) ≡ true)
unfolding line
line_parts total text rest e same = by_expression (expression_at total text) same
  where
    by_expression : (o : Read TomlExpression) → option_and_then
        (λ x. if ends_line (skip_spaces x.1) then Some x else None)
        o ≡ read_of e rest → (o ≡ read_of e rest) × (ends_line (skip_spaces rest) ≡ true)
    by_expression None same = absurd (none-some (e, rest) same)
    by_expression (Some (e', r)) same =
        elim (cases_Bool (ends_line (skip_spaces r))) [
          | inl ends ↦
              let there : read_of e' r ≡ read_of e rest = rw ends at same in
              (there, read_same (λ x t. ends_line (skip_spaces t) ≡ true) e' e r rest there ends)
          | inr other ↦ absurd (none-some (e, rest) (rw other at same))
        ]

line_by : (n total : ℕ) (found : List TomlExpression) (text : List ℕ) (all : List TomlExpression)
    (o : Read TomlExpression)
    → LinesRest n total → length text ≤ total → length (skip_blank text) ≤ total
    → (length (skip_blank text) == 0) ≡ false → line total (skip_blank text) ≡ o
    → lines (suc n) total found text ≡ Some all → LinesFound (total - length text) found text all
line_by n total found text all None ih within inner other is e =
    absurd (none-some all (sym (lines_bad (suc n) total found text other is) ∙ e))
line_by n total found text all (Some (x, after)) ih within inner other is e =
    let start = skip_blank text in
    let less : suc n - 1 ≡ n = omega arith in
    let (read, ends) = line_parts total start after x is in
    let goes_on : lines n total (found ++ x ∷ []) after ≡ Some all =
    rw less at (sym (lines_more (suc n) total found text x after (omega arith) other is) ∙ e) in
    let found_x = expression-sound total start after x inner read in
    skipped_found total found text start after x all within (skip_from_found true text)
    (prefix_first (total - length start) start after x found_x) found_x ends
    (λ room. ih (found ++ x ∷ []) after all room goes_on)

over_found : (total : ℕ) (found : List TomlExpression) (text start : List ℕ) → (length start == 0) ≡ true
    → Skipped true start text → LinesFound (total - length text) found text found
over_found total found text [] over skipped = subst (LinesFound (total - length text) found text) (append-nil found)
    (lines_found [] (nothing_left (total - length text) text skipped))
over_found total found text (c ∷ start) over skipped = absurd (grind (arith, nat_tests))

skipped_within : (start text : List ℕ) → Skipped true start text → length start ≤ length text
skipped_within start text (done blank is) = omega (arith, length-append blank start)
skipped_within start text (unclosed blank body allowed is all stop) =
    omega (arith, length-append blank (35 ∷ (body ++ start)), length-append body start)

lines-sound : (n total : ℕ) → LinesRest n total
lines-sound zero total found text all within e = absurd (none-some all (sym (lines_zero total found text) ∙ e))
lines-sound (suc n) total found text all within e =
    elim (cases_Bool (length (skip_blank text) == 0)) [
      | inl over ↦
          subst (LinesFound (total - length text) found text)
          (same_Some found all (sym (lines_end (suc n) total found text (omega arith) over) ∙ e))
          (over_found total found text (skip_blank text) over (skip_from_found true text))
      | inr other ↦
          line_by n total found text all (line total (skip_blank text)) (lines-sound n total) within
          (omega (arith, skipped_within (skip_blank text) text (skip_from_found true text))) other refl e
    ]

document_of : (at : ℕ) (text : List ℕ) (es : List TomlExpression) → LinesFound at [] text es → at ≡ 0
    → IsDocument text es
document_of at text es' (lines_found es are) is_zero = subst (λ a. AreLines a text es) is_zero are

-- a document that is read is in the grammar
pub expressions-sound : (text : List ℕ) (es : List TomlExpression) → expressions text ≡ Some es → IsDocument text es
unfolding expressions
expressions-sound text es e = document_of (length text - length text) text es
    (lines-sound (suc (length text)) (length text) [] text es (omega arith) e) (omega arith)
