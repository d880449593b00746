-- The reader of whole texts gives the document of the grammar, and only that.
use Rattle.std.proofs.Common.{◌≡◌, ℕ, List, IsUtf8, None, Result, Ok, Err, sym, ◌∙◌}
use Rattle.std.proofs.lemmas.Option.{none-some, same_Some}
use Rattle.std.specs.Result.{IfOk, IfErr}
use Rattle.deny_base_lists.specs.Reader.{Fails}
use Rattle.deny_base_lists.proofs.ReaderLemmas.{fails_weaker}
use Rattle.deny_toml_grammar.specs.declared.read_error.ReadError.{ReadError}
use Rattle.deny_toml_grammar.specs.declared.read_error.ReadError.TheVariants.{Memory}
use Rattle.deny_toml_grammar.specs.declared.expression.TomlExpression.{TomlExpression}
use Rattle.deny_toml_grammar.specs.private.Reading.{GivesAs}
use Rattle.deny_toml_grammar.specs.private.Lines.{expressions}
use Rattle.deny_toml_grammar.specs.Grammar.{IsDocument}
use Rattle.deny_toml_grammar.proofs.LinesComplete.{expressions-complete}
use Rattle.deny_toml_grammar.proofs.LinesSound.{expressions-sound}
use Rattle.deny_toml_grammar.specs.Spans.{AllOccur}
use Rattle.deny_toml_grammar.proofs.SpansLaws.{all_hold}

pub gives_document : (text : List ℕ) (r : Result (List TomlExpression) ReadError)
    → GivesAs (λ es. es) r (expressions text)
    → IfOk r (λ es. IsDocument text es)
gives_document text (Ok es) gives = expressions-sound text es gives
gives_document text (Err e) gives = tt

pub gives_only : (text : List ℕ) (r : Result (List TomlExpression) ReadError) → GivesAs (λ es. es) r (expressions text)
    → IfOk r (λ es. (others : List TomlExpression) → IsDocument text others → others ≡ es)
gives_only text (Ok es) gives = λ others is. same_Some others es (sym (expressions-complete text others is) ∙ gives)
gives_only text (Err e) gives = tt

pub gives_holding : (text : List ℕ) (r : Result (List TomlExpression) ReadError) → IsUtf8 text
    → GivesAs (λ es. es) r (expressions text)
    → IfOk r (AllOccur text)
gives_holding text (Ok es) utf8 gives = all_hold text utf8 es (expressions-sound text es gives)
gives_holding text (Err e) utf8 gives = tt

pub refuses_all : (text : List ℕ) (r : Result (List TomlExpression) ReadError) → GivesAs (λ es. es) r (expressions text)
    → IfErr r (Fails Memory (λ _. (es : List TomlExpression) → IsDocument text es → ⊥))
refuses_all text (Ok es) gives = tt
refuses_all text (Err e) gives =
    fails_weaker Memory (λ _. expressions text ≡ None) (λ _. (es : List TomlExpression) → IsDocument text es → ⊥) e
    (λ _ none es is. none-some es (sym none ∙ expressions-complete text es is)) gives
