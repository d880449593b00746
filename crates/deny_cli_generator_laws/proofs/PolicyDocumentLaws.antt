-- The text of the policy is in the grammar.
use Rattle.std.proofs.Common.{◌≡◌, ◌++◌, ◌+◌, ◌∷◌, [], ℕ, List, append-nil, codes, length, refl, subst, true, false}
use Rattle.std.proofs.Common.{sym, ◌∙◌}
use Rattle.std.proofs.lemmas.Option.{same_Some}
use Rattle.std.specs.List.{list_all}
use Rattle.deny_toml_grammar.specs.declared.expression.TomlExpression.{TomlExpression}
use Rattle.deny_toml_grammar.specs.declared.expression.TomlExpression.TheVariants as expression
use Rattle.deny_toml_grammar.specs.declared.expression.Written.{Written}
use Rattle.deny_toml_grammar.specs.Expression.{assignment_with, depth_limit, header_with}
use Rattle.deny_toml_grammar.specs.Grammar.{AreLines, IsDocument, IsExpression, IsKey, IsLine, IsValue}
use Rattle.deny_toml_grammar.specs.Grammar as grammar
use Rattle.deny_toml_grammar.specs.GrammarStrings as strings
use Rattle.deny_toml_grammar.specs.Lexical.{is_bare}
use Rattle.deny_toml_grammar.proofs.LinesComplete.{expressions-complete}
use Rattle.deny_cli_generator_laws.proofs.PolicyDocument.{assigned_at, deny_written, key_at, level_written}
use Rattle.deny_cli_generator_laws.proofs.PolicyDocument.{skip_written, text_of, written_by}
use Rattle.deny_cli_generator_laws.proofs.PolicyElements.{elements_text, texts_from}
use Rattle.deny_cli_generator_laws.proofs.PolicyElementsLaws.{ArePlain, elements-texts, value-text}

key-bare : (at c : ℕ) (cs : List ℕ) → list_all is_bare (c ∷ cs) ≡ true
    → IsKey depth_limit at (c ∷ cs) (key_at at (c ∷ cs) ∷ [])
key-bare at c cs bare = grammar.last 63 at (c ∷ cs) (key_at at (c ∷ cs)) (grammar.bare c cs bare)

-- a key and its value, with a space on both sides of the equals sign
assignment-spaced : (at c : ℕ) (cs text : List ℕ) (value : Written) → list_all is_bare (c ∷ cs) ≡ true
    → IsValue depth_limit (at + length (c ∷ cs) + 1 + 1 + 1) text value
    → IsExpression at ((c ∷ cs) ++ (32 ∷ (61 ∷ (32 ∷ text)))) (assigned_at at (c ∷ cs) value)
assignment-spaced at c cs text value bare is =
    grammar.assignment ((c ∷ cs) ++ (32 ∷ (61 ∷ (32 ∷ text)))) (assignment_with (key_at at (c ∷ cs) ∷ []) value)
    (grammar.assigned depth_limit at (c ∷ cs) (32 ∷ []) (32 ∷ []) text (key_at at (c ∷ cs) ∷ []) value
    (key-bare at c cs bare) refl refl is)

-- a line with one expression and nothing else
line-alone : (at : ℕ) (text : List ℕ) (e : TomlExpression) → IsExpression (at + 0) text e → IsLine at text (e ∷ [])
line-alone at text e is =
    subst (λ t. IsLine at t (e ∷ [])) (append-nil text) (grammar.says [] text [] [] e refl is refl grammar.none)

header-line : IsLine 0 (codes "[bans]") (expression.Header (header_with false (key_at 1 (codes "bans") ∷ [])) ∷ [])
header-line = line-alone 0 (codes "[bans]") (expression.Header (header_with false (key_at 1 (codes "bans") ∷ [])))
    (grammar.table [] (codes "bans") [] (key_at 1 (codes "bans") ∷ []) refl (key-bare 1 98 (codes "ans") refl) refl)

level-line : IsLine 7 (codes "multiple-versions = \"deny\"")
    (assigned_at 7 (codes "multiple-versions") level_written ∷ [])
level-line =
    line-alone 7 (codes "multiple-versions = \"deny\"") (assigned_at 7 (codes "multiple-versions") level_written)
    (assignment-spaced 7 109 (codes "ultiple-versions") (codes "\"deny\"") level_written refl
    (value-text depth_limit 27 (codes "deny") refl))

deny-line : IsLine 34 (codes "deny = [\"c1\"]") (assigned_at 34 (codes "deny") deny_written ∷ [])
deny-line = line-alone 34 (codes "deny = [\"c1\"]") (assigned_at 34 (codes "deny") deny_written)
    (assignment-spaced 34 100 (codes "eny") (codes "[\"c1\"]") deny_written refl
    (grammar.array 63 41 (codes "\"c1\"]") (texts_from 42 (codes "c1" ∷ []))
    (elements-texts 63 42 (codes "c1" ∷ []) (refl, tt))))

skip-line : (texts : List (List ℕ)) → ArePlain texts
    → IsLine 48 (codes "skip = [" ++ elements_text texts) (assigned_at 48 (codes "skip") (skip_written texts) ∷ [])
skip-line texts plain =
    line-alone 48 (codes "skip = [" ++ elements_text texts) (assigned_at 48 (codes "skip") (skip_written texts))
    (assignment-spaced 48 115 (codes "kip") (91 ∷ elements_text texts) (skip_written texts) refl
    (grammar.array 63 55 (elements_text texts) (texts_from 56 texts) (elements-texts 63 56 texts plain)))

-- a line in front of other lines
line_before : (at offset : ℕ) (text rest : List ℕ) (e : TomlExpression) (es : List TomlExpression)
    → IsLine at text (e ∷ []) → at + length text + 1 ≡ offset → AreLines offset rest es
    → AreLines at (text ++ (10 ∷ rest)) (e ∷ es)
line_before at offset text rest e es is here others =
    grammar.more at text (10 ∷ []) rest (e ∷ []) es is strings.line_feed
    (subst (λ p. AreLines p rest es) (sym here) others)

-- ---- the lines from each line to the end
lines-skip : (texts : List (List ℕ)) → ArePlain texts
    → AreLines 48 (codes "skip = [" ++ (elements_text texts ++ codes "\n"))
    (assigned_at 48 (codes "skip") (skip_written texts) ∷ [])
lines-skip texts plain =
    let end = 48 + length (codes "skip = [" ++ elements_text texts) + 1 in
    line_before 48 end (codes "skip = [" ++ elements_text texts) [] (assigned_at 48 (codes "skip") (skip_written texts))
    [] (skip-line texts plain) refl (grammar.last end [] [] (grammar.blank [] [] refl grammar.none))

pub text-document : (texts : List (List ℕ)) → ArePlain texts → IsDocument (text_of texts) (written_by texts)
text-document texts plain =
    let skips = assigned_at 48 (codes "skip") (skip_written texts) ∷ [] in
    let denies = assigned_at 34 (codes "deny") deny_written ∷ skips in
    let levels = assigned_at 7 (codes "multiple-versions") level_written ∷ denies in
    let last = codes "skip = [" ++ (elements_text texts ++ codes "\n") in
    line_before 0 7 (codes "[bans]") (codes "multiple-versions = \"deny\"\ndeny = [\"c1\"]\n" ++ last)
    (expression.Header (header_with false (key_at 1 (codes "bans") ∷ []))) levels header-line refl
    (line_before 7 34 (codes "multiple-versions = \"deny\"") (codes "deny = [\"c1\"]\n" ++ last)
    (assigned_at 7 (codes "multiple-versions") level_written) denies level-line refl
    (line_before 34 48 (codes "deny = [\"c1\"]") last (assigned_at 34 (codes "deny") deny_written) skips deny-line refl
    (lines-skip texts plain)))

-- the text is not a document of any other expressions
pub document-only : (texts : List (List ℕ)) → ArePlain texts → (others : List TomlExpression)
    → IsDocument (text_of texts) others → others ≡ written_by texts
document-only texts plain others is =
    same_Some others (written_by texts)
    (sym (expressions-complete (text_of texts) others is)
    ∙ expressions-complete (text_of texts) (written_by texts) (text-document texts plain))
