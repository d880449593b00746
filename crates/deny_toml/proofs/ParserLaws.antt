-- The span of a clash, and the keys and values of a tree.
use Rattle.std.proofs.Common.{◌≡◌, ℕ, List, IsUtf8, IfSome, Option, Some, sym, subst, ◌∙◌, arith, ap, inl, inr}
use Rattle.std.proofs.lemmas.Str.{IsCharBoundary-start, IsCharBoundary-end}
use Rattle.deny_base_lists.specs.Reader.{Fails}
use Rattle.deny_base.specs.declared.span.Span.{Span}
use Rattle.deny_toml_tree.specs.declared.value.Value.{Value}
use Rattle.deny_toml.specs.declared.error.TomlError.TheVariants as error
use Rattle.deny_toml.specs.declared.error.TomlKind.{TomlKind}
use Rattle.deny_toml_grammar.specs.declared.expression.TomlExpression.{TomlExpression}
use Rattle.deny_toml_grammar.specs.declared.read_error.ReadError.{ReadError}
use Rattle.deny_toml_grammar.specs.declared.read_error.ReadError.TheVariants as read
use Rattle.deny_toml_grammar.specs.Expression.{span_of}
use Rattle.deny_toml_tree.specs.Spans.{IsSpan, KeyOccurs, Occurs, OccursIn}
use Rattle.deny_toml_tree.specs.Clash.{clash}
use Rattle.deny_toml_tree.specs.Tree.{tree}
use Rattle.deny_toml.specs.Parser.{ClashesAt, IsDocumentOf, IsFaultWith, IsOutside, IsTreeOf, whole}
use Rattle.deny_toml_grammar.proofs.SpansLaws.{all_hold, keys_lie}
use Rattle.deny_toml_tree.proofs.ClashSpans.{clash_lies}
use Rattle.deny_toml_tree.proofs.TreeSpans.{tree_ok}

pub clash_span : (text : List ℕ) (es : List TomlExpression) (found : Option Span) (span : Span) → IsUtf8 text
    → IsDocumentOf text es → found ≡ clash es → found ≡ Some span
    → IsSpan text span
clash_span text es found span utf8 of exact is =
    subst (λ o. IfSome o (IsSpan text)) (sym exact ∙ is) (clash_lies (IsSpan text) (λ w. Unit {0}) es
    (keys_lie text utf8 es of.written))

pub clash_found : (text : List ℕ) (es : List TomlExpression) (found : Option Span) (span : Span) → IsDocumentOf text es
    → found ≡ clash es → found ≡ Some span → ClashesAt text span
clash_found text es found span of exact is = (es, of, sym exact ∙ is)

empty_span : (text : List ℕ) → IsUtf8 text → IsSpan text (span_of 0 0)
empty_span text utf8 = record {
  ordered = omega arith;
  within = omega arith;
  starts =
      IsCharBoundary-start text utf8;
  ends = IsCharBoundary-start text utf8;
}

whole_span : (text : List ℕ) → IsUtf8 text → IsSpan text (whole text)
whole_span text utf8 = record {
  ordered = omega arith;
  within = omega arith;
  starts =
      IsCharBoundary-start text utf8;
  ends = IsCharBoundary-end text;
}

pub tree_holds : (text : List ℕ) (es : List TomlExpression) (span : Span) (v : Value) → IsUtf8 text
    → IsDocumentOf text es
    → span ≡ whole text → v ≡ tree span es → OccursIn text v
tree_holds text es span v utf8 of this_span exact =
    subst (OccursIn text) (sym (exact ∙ (λ i. tree (this_span i) es)))
    (tree_ok (KeyOccurs text) (Occurs text) (λ key here. record { lies = here.lies; written = tt })
    (record { lies = empty_span text utf8; written = tt })
    (whole text) (record { lies = whole_span text utf8; written = tt }) es (all_hold text utf8 es of.written))

-- a text has one tree at most
pub one_tree : (text : List ℕ) (v w : Value) → IsTreeOf text v → IsTreeOf text w → v ≡ w
one_tree text v w one other =
    one.3 ∙ ap (tree (whole text)) (sym (one.1.only other.0 other.1.written)) ∙ sym other.3

-- a property of a fault
pub fault_is : (Is : TomlKind → Span → Type 0) (kind : TomlKind) (span : Span)
    → Fails error.Memory (IsFaultWith Is) (error.Fault kind span) → Is kind span
fault_is Is kind span fails = elim fails [
  | inl is ↦ absurd (cc is)
  | inr fault ↦ fault
]

-- a text that the reader refuses is outside the grammar
pub outside : (text : List ℕ) (left : ℕ) (e : ReadError) → e ≡ read.Grammar left
    → Fails read.Memory (λ _. IsOutside text) e → IsOutside text
outside text left e is fails = elim fails [
  | inl memory ↦ absurd (cc (sym is ∙ memory))
  | inr refused ↦ refused
]
