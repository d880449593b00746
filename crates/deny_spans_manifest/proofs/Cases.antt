-- Values of small manifests for worked cases. Numbers are byte offsets.
use Rattle.std.proofs.Common.{ℕ, List, Bool}
use Rattle.deny_base.specs.declared.span.Span.{Span}
use Rattle.deny_toml.specs.Key.{Key}
use Rattle.deny_toml.specs.Scalar.TheVariants as scalar
use Rattle.deny_toml.specs.Value.{span_of, table_with, value_with}
use Rattle.deny_toml.specs.value.Content.TheVariants as content
use Rattle.deny_toml.specs.value.Value.{Value}

-- the span of one byte
abbrev pub span : ℕ → Span
span at = span_of at 1

abbrev pub text : ℕ → List ℕ → Value
text at bytes = value_with (span at) (content.Scalar (scalar.Text bytes))

abbrev pub flag : ℕ → Bool → Value
flag at b = value_with (span at) (content.Scalar (scalar.Boolean b))

abbrev pub table : ℕ → List (Key × Value) → Value
table at entries = value_with (span at) (content.Table (table_with entries))

abbrev pub array : ℕ → List Value → Value
array at values = value_with (span at) (content.Array values)

-- a key with its value
abbrev pub entry : ℕ → List ℕ → Value → Key × Value
entry at name value = (record { name = name; span = span at }, value)
