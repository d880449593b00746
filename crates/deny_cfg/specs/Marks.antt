-- The spans of a policy's text that labels may mark: those of the values of its tree, and of the names of the specs
-- that its strings write.
use Rattle.std.specs.Prelude.{◌≡◌, ◌⊎◌, ◌+◌, ◌≤◌, ℕ, List, Contains, Option, Some}
use Rattle.deny_base.specs.declared.span.Span.{Span}
use Rattle.deny_toml.specs.Calls.{array_in, table_in, text_in}
use Rattle.deny_toml.specs.Parser.{IsTreeOf}
use Rattle.deny_toml.specs.Spans.{IsSpan}
use Rattle.deny_toml.specs.Value.{entries_in, span_in}
use Rattle.deny_toml.specs.Key.{Key}
use Rattle.deny_toml.specs.value.Table.{Table}
use Rattle.deny_toml.specs.value.Value.{Value}
use Rattle.deny_cfg_entries.specs.Spec.{name_span, spec_in}

-- a value is in another one, at any depth: it is that one, or is in an item of it, or in the value at a key of it
pub data IsValueIn : Value → Value → Type 0 where
  itself : (v : Value) → IsValueIn v v
  in_item : (v w part : Value) (items : List Value) → array_in v ≡ Some items → Contains items w → IsValueIn w part
      → IsValueIn v part
  below_key : (v w part : Value) (t : Table) (key : Key) → table_in v ≡ Some t → Contains (entries_in t) (key, w)
      → IsValueIn w part → IsValueIn v part

-- the span is that of the name of the spec that a string writes
pub record IsNameOf (v : Value) (span : Span) : Type 0 where
  pub text : List ℕ
  pub name : List ℕ
  pub requirement : Option (List ℕ)
  pub is_text : text_in v ≡ Some text
  pub is_spec : spec_in text ≡ Some (name, requirement)
  pub is : span ≡ name_span v name

-- the span is that of a value in this one, or of the name of the spec that such a value writes
pub record IsMarkIn (v : Value) (span : Span) : Type 0 where
  pub part : Value
  pub inside : IsValueIn v part
  pub marks : (span ≡ span_in part) ⊎ IsNameOf part span

-- the span is that of a value of the text's tree, or of a name in one
pub record IsMarked (text : List ℕ) (span : Span) : Type 0 where
  pub tree : Value
  pub is_tree : IsTreeOf text tree
  pub mark : IsMarkIn tree span

-- The span lies in the text, between characters, and is that of a value of the text's tree or of a name in one.
pub record IsPolicySpan (text : List ℕ) (span : Span) : Type 0 where
  pub located : IsSpan text span
  pub marked : IsMarked text span

-- the span is a byte of a value of the text's tree
pub record IsByteOfMarked (text : List ℕ) (span : Span) : Type 0 where
  pub whole : Span
  pub marked : IsMarked text whole
  pub from : whole.start ≤ span.start
  pub one : span.end ≡ span.start + 1
  pub to : span.end ≤ whole.end

-- The span of a label of a clash: as that of any other label, or the first byte of an extension that is not allowed.
pub record IsClashSpan (text : List ℕ) (span : Span) : Type 0 where
  pub located : IsSpan text span
  pub marked : IsMarked text span ⊎ IsByteOfMarked text span
