-- A line and a document of the grammar are read.
use Rattle.std.proofs.Common.{◌≡◌, ℕ, zero, suc, ◌+◌, ◌-◌, ◌<◌, Bool, true, false, ◌||◌, ◌==◌, List, [], ◌∷◌, ◌++◌}
use Rattle.std.proofs.Common.{length, Some, None, refl, sym, ap, subst, ◌∙◌, arith, append_assoc, append-nil}
use Rattle.std.proofs.Common.{length-append}
use Rattle.std.proofs.lemmas.Bool.{and_parts, false≢true}
use Rattle.std.proofs.lemmas.Bool.Decides.{nat_tests}
use Rattle.std.specs.List.{list_all}
use Rattle.deny_toml_grammar.specs.declared.parts.Key.{Key}
use Rattle.deny_toml_grammar.specs.declared.expression.Assignment.{Assignment}
use Rattle.deny_toml_grammar.specs.declared.expression.TomlExpression.{TomlExpression}
use Rattle.deny_toml_grammar.specs.declared.expression.TomlExpression.TheVariants as expression
use Rattle.deny_toml_grammar.specs.Lexical.{first, is_space, is_bare, skip_spaces, skip_turn, skip_from}
use Rattle.deny_toml_grammar.specs.private.Lexical.{skip_blank}
use Rattle.deny_toml_grammar.specs.Expression.{depth_limit}
use Rattle.deny_toml_grammar.specs.private.Keys.{key}
use Rattle.deny_toml_grammar.specs.private.Values.{assignment, value}
use Rattle.deny_toml_grammar.specs.Expression.{header_with}
use Rattle.deny_toml_grammar.specs.private.Lines.{header_path, array_header, header, expression_at, ends_line}
use Rattle.deny_toml_grammar.specs.private.Lines.{line, lines, expressions}
use Rattle.deny_toml_grammar.specs.GrammarStrings.{AreSpaces, IsNewline, IsBlank}
use Rattle.deny_toml_grammar.specs.GrammarStrings as strings
use Rattle.deny_toml_grammar.specs.Grammar.{IsKey, IsExpression, IsComment, AreLines, IsDocument}
use Rattle.deny_toml_grammar.specs.Grammar as grammar
use Rattle.deny_toml_grammar.proofs.Blanks.{skip_spaces-run, skip_from-blanks, skip_from-last, skip_from-spaces}
use Rattle.deny_toml_grammar.proofs.Blanks.{IsBlank-spaces}
use Rattle.deny_toml_grammar.proofs.KeysGrammar.{key_first, key_after-complete}
use Rattle.deny_toml_grammar.proofs.ValuesComplete.{Follows, is_end, begins_key, key_no_space, spaces_follows}
use Rattle.deny_toml_grammar.proofs.ValuesComplete.{assignment_first, assignment-complete}
use Rattle.deny_toml_grammar.proofs.LinesLaws.{lines_end, lines_more}

not_bare_after : (spaces tail : List ℕ) (b : ℕ) → AreSpaces spaces → is_bare b ≡ false
    → is_bare (first (spaces ++ (b ∷ tail))) ≡ false
not_bare_after [] tail b all stop = stop
not_bare_after (c ∷ cs) tail b all stop =
    let space : is_space c ≡ true = (and_parts (is_space c) (list_all is_space cs) all).0 in grind (arith, nat_tests)

-- the key of a header of the grammar is read
path_read : (at total : ℕ) (spaces cs after rest : List ℕ) (path : List Key) → AreSpaces spaces
    → IsKey depth_limit (at + length spaces) cs path → AreSpaces after
    → at + length (spaces ++ (cs ++ (after ++ (93 ∷ rest)))) ≡ total
    → header_path total (spaces ++ (cs ++ (after ++ (93 ∷ rest)))) ≡ Some (path, rest)
unfolding header_path
path_read at total spaces cs after rest path are_spaces is_key are_after offset =
    let tail = after ++ (93 ∷ rest) in
    let starts = key_first depth_limit (at + length spaces) cs tail path is_key in
    let skipped : skip_spaces (spaces ++ (cs ++ tail)) ≡ cs ++ tail =
    skip_spaces-run spaces (cs ++ tail) are_spaces (key_no_space (first (cs ++ tail)) starts) in
    let ends : skip_spaces tail ≡ 93 ∷ rest = skip_spaces-run after (93 ∷ rest) are_after refl in
    let lens : length (spaces ++ (cs ++ tail)) ≡ length spaces + length (cs ++ tail) =
    length-append spaces (cs ++ tail) in
    let read : key total (cs ++ tail) ≡ Some (path, 93 ∷ rest) =
    key_after-complete depth_limit (at + length spaces) total [] cs tail path is_key
    (not_bare_after after rest 93 are_after refl) (rw ends refl) (omega arith) ∙ rw ends in
    rw (skipped, read)

not_bracket : (spaces cs tail : List ℕ) → AreSpaces spaces → begins_key (first (cs ++ tail)) ≡ true
    → (first (spaces ++ (cs ++ tail)) == 91) ≡ false
not_bracket [] cs tail all starts = grind (arith, nat_tests)
not_bracket (c ∷ spaces) cs tail all starts =
    let space : is_space c ≡ true = (and_parts (is_space c) (list_all is_space spaces) all).0 in grind
    (arith, nat_tests)

table_read : (at total : ℕ) (spaces cs after rest : List ℕ) (path : List Key) → AreSpaces spaces
    → IsKey depth_limit (at + 1 + length spaces) cs path → AreSpaces after
    → at + length (91 ∷ (spaces ++ (cs ++ (after ++ (93 ∷ rest))))) ≡ total
    → expression_at total (91 ∷ (spaces ++ (cs ++ (after ++ (93 ∷ rest))))) ≡ Some
    (expression.Header (header_with false path), rest)
unfolding expression_at header
table_read at total spaces cs after rest path are_spaces is_key are_after offset =
    let starts = key_first depth_limit (at + 1 + length spaces) cs (after ++ (93 ∷ rest)) path is_key in
    rw (
      not_bracket spaces cs (after ++ (93 ∷ rest)) are_spaces starts,
      path_read (at + 1) total spaces cs after rest
          path are_spaces is_key are_after (omega arith),
    )

array_read : (at total : ℕ) (spaces cs after rest : List ℕ) (path : List Key) → AreSpaces spaces
    → IsKey depth_limit (at + 2 + length spaces) cs path → AreSpaces after
    → at + length (91 ∷ (91 ∷ (spaces ++ (cs ++ (after ++ (93 ∷ (93 ∷ rest))))))) ≡ total
    → expression_at total (91 ∷ (91 ∷ (spaces ++ (cs ++ (after ++ (93 ∷ (93 ∷ rest))))))) ≡ Some
    (expression.Header (header_with true path), rest)
unfolding expression_at header array_header
array_read at total spaces cs after rest path are_spaces is_key are_after offset =
    rw (path_read (at + 2) total spaces cs after (93 ∷ rest) path are_spaces is_key are_after (omega arith))

-- whether a byte begins an expression
abbrev pub begins_expression : ℕ → Bool
begins_expression c = begins_key c || c == 91

pub expression_first : (at : ℕ) (cs rest : List ℕ) (e : TomlExpression) → IsExpression at cs e
    → begins_expression (first (cs ++ rest)) ≡ true
expression_first at cs rest e (grammar.table spaces cs' after path are_spaces is_key are_after) = refl
expression_first at cs rest e (grammar.array_of_tables spaces cs' after path are_spaces is_key are_after) = refl
expression_first at cs rest e (grammar.assignment _ a is) = rw (assignment_first depth_limit at cs rest a is) refl

some_bytes : (at : ℕ) (cs : List ℕ) (e : TomlExpression) → IsExpression at cs e → 0 < length cs
some_bytes at [] e is = absurd (false≢true (expression_first at [] [] e is))
some_bytes at (c ∷ cs) e is = omega arith

joined : (spaces cs after tail rest : List ℕ) → (spaces ++ (cs ++ (after ++ tail))) ++ rest ≡ spaces ++
    (cs ++ (after ++ (tail ++ rest)))
joined spaces cs after tail rest = rw (
  append_assoc spaces (cs ++ (after ++ tail)) rest,
  append_assoc cs (after ++ tail)
      rest,
  append_assoc after tail rest,
)

assignment_read : (total : ℕ) (text rest : List ℕ) (a : Assignment) → (first text == 91) ≡ false
    → assignment (value depth_limit total) total text ≡ Some (a, rest)
    → expression_at total text ≡ Some (expression.Assignment a, rest)
unfolding expression_at
assignment_read total text rest a other read = rw (other, read)

expression-complete : (at total : ℕ) (cs rest : List ℕ) (e : TomlExpression) → IsExpression at cs e → Follows rest
    → at + length (cs ++ rest) ≡ total
    → expression_at total (cs ++ rest) ≡ Some (e, rest)
expression-complete at total cs rest e (grammar.table spaces cs' after path are_spaces is_key are_after) follows
    offset =
    let same = joined spaces cs' after (93 ∷ []) rest in
    rw same (table_read at total spaces cs' after rest path are_spaces is_key are_after (rw same at offset))
expression-complete at total cs rest e (grammar.array_of_tables spaces cs' after path are_spaces is_key are_after)
    follows offset =
    let same = joined spaces cs' after (93 ∷ (93 ∷ [])) rest in
    rw same (array_read at total spaces cs' after rest path are_spaces is_key are_after (rw same at offset))
expression-complete at total cs rest e (grammar.assignment _ a is) follows offset =
    let starts = assignment_first depth_limit at cs rest a is in
    let other : (first (cs ++ rest) == 91) ≡ false = not_bracket [] cs rest refl starts in
    assignment_read total (cs ++ rest) rest a other (assignment-complete depth_limit at total cs rest a is follows
    offset)

-- two texts that are equal after their blanks have equal lines
lines_skipped : (n total : ℕ) (found : List TomlExpression) (one other : List ℕ) → skip_blank one ≡ skip_blank other
    → lines n total found one ≡ lines n total found other
unfolding lines
lines_skipped zero total found one other same = refl
lines_skipped (suc n) total found one other same = rw same

line_read : (at total : ℕ) (cs rest : List ℕ) (e : TomlExpression) → IsExpression at cs e → Follows rest
    → ends_line (skip_spaces rest) ≡ true → at + length (cs ++ rest) ≡ total
    → line total (cs ++ rest) ≡ Some (e, rest)
unfolding line
line_read at total cs rest e is follows ends offset =
    rw (expression-complete at total cs rest e is follows offset, ends)

expression_stops : (text : List ℕ) → begins_expression (first text) ≡ true → skip_from true false text ≡ text
unfolding skip_from
expression_stops [] e = refl
expression_stops (c ∷ cs) e = let none : skip_turn true false c (first cs) ≡ None = grind (arith, nat_tests) in rw none

-- the expression of a line is read, and the loop continues after it
line_goes_on : (at total n : ℕ) (found : List TomlExpression) (spaces cs after tail : List ℕ) (e : TomlExpression)
    → AreSpaces spaces → IsExpression (at + length spaces) cs e → AreSpaces after
    → is_end (first tail) ≡ true → ends_line tail ≡ true → is_space (first tail) ≡ false
    → at + length (spaces ++ (cs ++ (after ++ tail))) ≡ total
    → lines (suc n) total found (spaces ++ (cs ++ (after ++ tail))) ≡ lines n total (found ++ e ∷ []) (after ++ tail)
line_goes_on at total n found spaces cs after tail e are_spaces is are_after ends ends_it no_space offset =
    let start = cs ++ (after ++ tail) in
    let starts = expression_first (at + length spaces) cs (after ++ tail) e is in
    let blank : IsBlank true (spaces ++ []) = IsBlank-spaces true spaces [] are_spaces strings.none in
    let blank' : IsBlank true spaces = subst (IsBlank true) (append-nil spaces) blank in
    let skipped : skip_blank (spaces ++ start) ≡ start = skip_from-blanks true spaces start blank'
    ∙ expression_stops start starts in
    let after_is : skip_spaces (after ++ tail) ≡ tail = skip_spaces-run after tail are_after no_space in
    let lens : length (spaces ++ start) ≡ length spaces + length start = length-append spaces start in
    let read = line_read (at + length spaces) total cs (after ++ tail) e is (spaces_follows after tail are_after ends)
    (rw after_is ends_it) (omega arith) in
    let some : (length (skip_blank (spaces ++ start)) == 0) ≡ false = rw skipped (not_empty start starts) in
    let less : suc n - 1 ≡ n = omega arith in
    rw less at (lines_more (suc n) total found (spaces ++ start) e (after ++ tail) (omega arith) some (rw skipped read))
  where
    not_empty : (text : List ℕ) → begins_expression (first text) ≡ true → (length text == 0) ≡ false
    not_empty [] e = absurd (false≢true e)
    not_empty (c ∷ cs) e = grind (arith, nat_tests)

hash_ends : (cs : List ℕ) → ends_line (35 ∷ cs) ≡ true
hash_ends cs = grind (arith, nat_tests)

feed_ends : (cs : List ℕ) → ends_line (10 ∷ cs) ≡ true
feed_ends cs = grind (arith, nat_tests)

return_ends : (cs : List ℕ) → ends_line (13 ∷ cs) ≡ true
return_ends cs = grind (arith, nat_tests)

-- what follows the expression of a line
comment_end : (comment : List ℕ) → IsComment comment → (is_end (first comment) ≡ true) × (ends_line comment ≡ true)
    × (is_space (first comment) ≡ false)
comment_end comment grammar.none = (refl, refl, refl)
comment_end comment (grammar.comment body all) = (refl, hash_ends body, refl)

comment_newline : (comment end rest : List ℕ) → IsComment comment → IsNewline end
    → (is_end (first (comment ++ (end ++ rest))) ≡ true) × (ends_line (comment ++ (end ++ rest)) ≡ true)
    × (is_space (first (comment ++ (end ++ rest))) ≡ false)
comment_newline comment end rest grammar.none strings.line_feed = (refl, feed_ends rest, refl)
comment_newline comment end rest grammar.none strings.both = (refl, return_ends (10 ∷ rest), refl)
comment_newline comment end rest (grammar.comment body all) is_newline = (refl, hash_ends (body ++ (end ++ rest)), refl)

-- the last line's blanks are skipped
rest_skipped : (spaces comment : List ℕ) → AreSpaces spaces → IsComment comment → skip_blank (spaces ++ comment) ≡ []
rest_skipped spaces comment all grammar.none = ap (skip_from true false) (append-nil spaces)
    ∙ skip_from-spaces true spaces all
rest_skipped spaces comment all (grammar.comment body all') = skip_from-last spaces body all all'

-- the blanks of a line are skipped, with its line end
line_skipped : (spaces comment end rest : List ℕ) → AreSpaces spaces → IsComment comment → IsNewline end
    → skip_blank (spaces ++ (comment ++ (end ++ rest))) ≡ skip_blank rest
line_skipped spaces comment end rest all grammar.none is_newline =
    let blank : IsBlank true (spaces ++ (end ++ [])) = IsBlank-spaces true spaces (end ++ []) all
    (strings.newline end [] is_newline strings.none) in
    let same : (spaces ++ (end ++ [])) ++ rest ≡ spaces ++ (end ++ rest) =
    rw (append-nil end, append_assoc spaces end rest) in
    ap (skip_from true false) (sym same) ∙ skip_from-blanks true (spaces ++ (end ++ [])) rest blank
line_skipped spaces comment end rest all (grammar.comment body all') is_newline =
    let blank : IsBlank true (spaces ++ (35 ∷ (body ++ (end ++ [])))) =
    IsBlank-spaces true spaces (35 ∷ (body ++ (end ++ []))) all
    (strings.comment body end [] refl all' is_newline strings.none) in
    let same : (spaces ++ (35 ∷ (body ++ (end ++ [])))) ++ rest ≡ spaces ++ (35 ∷ (body ++ (end ++ rest))) =
    rw (append-nil end, append_assoc spaces (35 ∷ (body ++ end)) rest, append_assoc body end rest) in
    ap (skip_from true false) (sym same) ∙ skip_from-blanks true (spaces ++ (35 ∷ (body ++ (end ++ [])))) rest blank

lines_over : (n total : ℕ) (found : List TomlExpression) (text : List ℕ) → 0 < n → skip_blank text ≡ []
    → lines n total found text ≡ Some found
lines_over n total found text some over = lines_end n total found text some (rw over refl)

-- lines of the grammar are read
lines-complete : (at total n : ℕ) (found : List TomlExpression) (text : List ℕ) (es : List TomlExpression)
    → AreLines at text es → length text < n → at + length text ≡ total
    → lines n total found text ≡ Some (found ++ es)
lines-complete at total zero found text es is room offset = absurd (omega arith)
lines-complete at total (suc n) found text es (grammar.last _ _ _ (grammar.blank spaces comment are_spaces is_comment))
    room offset =
    lines_over (suc n) total found (spaces ++ comment) (omega arith) (rest_skipped spaces comment are_spaces is_comment)
    ∙ ap Some (sym (append-nil found))
lines-complete at total (suc n) found text es (grammar.last _ _ _
    (grammar.says spaces cs after comment e are_spaces is are_after is_comment)) room offset =
    let (ends, ends_it, no_space) = comment_end comment is_comment in
    let some : 0 < n = omega (
      arith,
      length-append spaces (cs ++ (after ++ comment)),
      length-append cs
          (after ++ comment),
      some_bytes (at + length spaces) cs e is,
    ) in
    line_goes_on at total n found spaces cs after comment e are_spaces is are_after ends ends_it no_space offset
    ∙ lines_over n total (found ++ e ∷ []) (after ++ comment) some (rest_skipped after comment are_after is_comment)
lines-complete at total (suc n) found text es' (grammar.more _ _ end rest es fs
    (grammar.blank spaces comment are_spaces is_comment) is_newline others) room offset =
    let same : (spaces ++ comment) ++ (end ++ rest) ≡ spaces ++ (comment ++ (end ++ rest)) =
    append_assoc spaces comment (end ++ rest) in
    let lens : length ((spaces ++ comment) ++ (end ++ rest)) ≡ length (spaces ++ comment) + (length end + length rest) =
    simp length-append (omega arith) in
    let skipped : skip_blank ((spaces ++ comment) ++ (end ++ rest)) ≡ skip_blank rest = ap (skip_from true false) same
    ∙ line_skipped spaces comment end rest are_spaces is_comment is_newline in
    lines_skipped (suc n) total found ((spaces ++ comment) ++ (end ++ rest)) rest skipped
    ∙ lines-complete (at + length (spaces ++ comment) + length end) total (suc n) found rest fs others (omega arith)
    (omega arith)
lines-complete at total (suc n) found text es' (grammar.more _ _ end rest es fs
    (grammar.says spaces cs after comment e are_spaces is are_after is_comment) is_newline others) room offset =
    let whole = spaces ++ (cs ++ (after ++ comment)) in
    let same : whole ++ (end ++ rest) ≡ spaces ++ (cs ++ (after ++ (comment ++ (end ++ rest)))) =
    joined spaces cs after comment (end ++ rest) in
    let lens : length (whole ++ (end ++ rest)) ≡ length whole + (length end + length rest) =
    simp length-append (omega arith) in
    let inner : length whole ≡ length spaces + (length cs + (length after + length comment)) =
    simp length-append (omega arith) in
    let (ends, ends_it, no_space) = comment_newline comment end rest is_comment is_newline in
    let some = some_bytes (at + length spaces) cs e is in
    rw same (line_goes_on at total n found spaces cs after (comment ++ (end ++ rest)) e are_spaces is are_after ends
    ends_it no_space (rw same at offset)
    ∙ lines_skipped n total (found ++ e ∷ []) (after ++ (comment ++ (end ++ rest))) rest
    (line_skipped after comment end rest are_after is_comment is_newline)
    ∙ lines-complete (at + length whole + length end) total n (found ++ e ∷ []) rest fs others (omega arith)
    (omega arith) ∙ ap Some (append_assoc found (e ∷ []) fs))

-- a document of the grammar is read
pub expressions-complete : (text : List ℕ) (es : List TomlExpression) → IsDocument text es → expressions text ≡ Some es
unfolding expressions
expressions-complete text es is = lines-complete 0 (length text) (suc (length text)) [] text es is (omega arith)
    (omega arith)
