-- The first crate that hits each ignore, by the span of the ignore.
use Rattle.std.specs.Prelude.{ℕ, Bool, Option}
use Rattle.std.specs.BTreeMap as tree
use Rattle.deny_base.specs.KeyOrder.{span_cmp}
use Rattle.deny_base.specs.declared.span.Span.{Span}
use Rattle.deny_spec.specs.Wrappers.{same_span}
use Rattle.deny_std.specs.declared.first_witnesses.FirstWitnesses.{FirstWitnesses}

-- a span that is looked up equals that of an entry
abbrev pub is_same_span : Span → Span → Bool
is_same_span asked span = same_span span asked

abbrev pub place_in : FirstWitnesses → Span → Option ℕ
place_in found span = tree.get span_cmp found.places span
