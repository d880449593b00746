-- The first match: of several entries that match, the first one counts.
use Rattle.std.specs.Prelude.{Bool, false, List, Option, find}
use Rattle.std.specs.Option.{option_map_or}
use Rattle.deny_base.specs.declared.span.Span.{Span}
use Rattle.deny_spec.specs.Wrappers.{same_span}

-- the first entry that matches
abbrev pub first_of : {E W : Type 0} → (E → W → Bool) → List E → W → Option E
first_of matches entries w = find (λ e. matches e w) entries

-- the first entry that matches has the span of this one
abbrev pub is_first : {E W : Type 0} → (E → Span) → (E → W → Bool) → List E → E → W → Bool
is_first span matches entries e w = option_map_or (λ first. same_span (span first) (span e))
    (first_of matches entries w) false
