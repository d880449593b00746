-- Wrappers by their names: each name leads to the span of its first wrapper.
use Rattle.std.specs.Prelude.{◌≡◌, ℕ, Bool, List, Option, find, is_some, option_and_then, option_map}
use Rattle.std.specs.FinMap as finite
use Rattle.deny_base_lists.specs.TextMap.{TextFinMap}
use Rattle.deny_base.specs.declared.span.Span.{Span}
use Rattle.deny_spec.specs.Graph.{Crate, Graph}
use Rattle.deny_spec.specs.Policy.{SpannedText}
use Rattle.deny_spec.specs.Text.{same_text}
use Rattle.deny_spec.specs.DiagParts.{crate_at}

-- the first wrapper of a name
unfoldable pub first_of : List SpannedText → List ℕ → Option SpannedText
first_of wrappers name = find (λ w. same_text w.value name) wrappers

-- each name leads to the span of its first wrapper
unfoldable pub AreFirstSpans : List SpannedText → TextFinMap Span → Type 0
AreFirstSpans wrappers spans = (name : List ℕ)
    → finite.get spans name ≡ option_map (λ w. w.span) (first_of wrappers name)

-- the span at a crate's name
unfoldable pub span_of : TextFinMap Span → Crate → Option Span
span_of spans parent = finite.get spans parent.name

unfoldable pub span_at : Graph → TextFinMap Span → ℕ → Option Span
span_at g spans place = option_and_then (span_of spans) (crate_at g place)

unfoldable pub has_span : TextFinMap Span → Crate → Bool
has_span spans parent = is_some (span_of spans parent)
