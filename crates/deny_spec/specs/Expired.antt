-- Waivers of a policy that expired: the keys of the warnings about them, and what these say.
use Rattle.std.specs.Prelude.{ℕ, ◌++◌, ◌∷◌, List, Option, codes, find, map}
use Rattle.deny_base.specs.declared.code.DiagnosticCode.TheVariants.{Expired}
use Rattle.deny_base.specs.declared.key.Key.{Key}
use Rattle.deny_base.specs.declared.key.Section.TheVariants as section
use Rattle.deny_base.specs.declared.label.Label.{Label}
use Rattle.deny_base.specs.declared.span.Span.{Span}
use Rattle.deny_spec.specs.DiagParts.{label_at, primary, spec_text}
use Rattle.deny_spec.specs.Keys.{plain_key}
use Rattle.deny_spec.specs.Policy.{Spec, SpannedText}
use Rattle.deny_spec.specs.Wrappers.{same_span}

-- an entry that let something pass until a day that is over: the day is the text of its key `expires`
pub record PastWaiver : Type 0 where
  pub spec : Spec
  pub expires : SpannedText
  pub reason : Option SpannedText

-- the key of the warning about an expired waiver
unfoldable pub expired_key : PastWaiver → Key
expired_key w = plain_key section.Deprecated Expired 0 w.spec.span

abbrev pub expired_keys : List PastWaiver → List Key
expired_keys waivers = map expired_key waivers

-- the expired waiver with a span
abbrev pub past_waiver_at : List PastWaiver → Span → Option PastWaiver
past_waiver_at waivers span = find (λ w. same_span w.spec.span span) waivers

unfoldable pub expired_message : PastWaiver → List ℕ
expired_message w = codes "waiver '" ++ (spec_text w.spec ++ (codes "' expired on " ++ w.expires.value))

-- the labels of an expired waiver: at its day, and at its reason
unfoldable pub expired_labels : ℕ → PastWaiver → List Label
expired_labels file w = primary file w.expires.span (codes "expired here") ∷ label_at file (codes "reason") w.reason
