-- The labels of expired waivers mark their last days and reasons.
use Rattle.std.proofs.Common.{◌≡◌, ℕ, List, [], ◌∷◌, Contains, Option, None, Some, codes, refl}
use Rattle.std.specs.Option.{option_map_or}
use Rattle.std.proofs.lemmas.List.Elements.{All-cons, All-nil}
use Rattle.deny_base_lists.proofs.Finding.{found_member}
use Rattle.deny_base_lists.proofs.Members.{Contains-first, Contains-flat_map, Contains-rest}
use Rattle.deny_base.specs.declared.key.Key.{Key}
use Rattle.deny_base.specs.declared.span.Span.{Span}
use Rattle.deny_spec.specs.DiagParts.{label_at, primary, secondary}
use Rattle.deny_spec.specs.Expired.{PastWaiver, expired_labels, past_waiver_at}
use Rattle.deny_spec.specs.Policy.{SpannedText}
use Rattle.deny_spec.specs.Wrappers.{same_span}
use Rattle.deny_spec_report.specs.Expired.{expired_diag, expired_diag_of}
use Rattle.deny_spec_report.specs.MessageParts.{not_built}
use Rattle.deny_gate.specs.private.Labels.{past_spans, past_waiver_spans, span_of}
use Rattle.deny_gate.proofs.LabelLaws.{AreOf, IsOf}

module _ (file : ℕ) (waivers : List PastWaiver) where
  none : AreOf (past_spans waivers) file []
  none = All-nil (IsOf (past_spans waivers) file)

  -- a span of a waiver is among those of all
  past_known : (w : PastWaiver) (span : Span) → Contains waivers w → Contains (w.expires.span ∷ span_of w.reason) span
      → Contains (past_spans waivers) span
  unfolding past_waiver_spans
  past_known w span there at = Contains-flat_map past_waiver_spans waivers w span there at

  at_reason : (o : Option SpannedText)
      → ((span : Span) → Contains (span_of o) span → Contains (past_spans waivers) span)
      → AreOf (past_spans waivers) file (label_at file (codes "reason") o)
  at_reason None is = none
  at_reason (Some words) is =
      All-cons (IsOf (past_spans waivers) file) (secondary file words.span (codes "reason")) []
      (record { in_file = refl; known = is words.span (Contains-first words.span []) }) none

  of_waiver : (w : PastWaiver) → Contains waivers w → AreOf (past_spans waivers) file (expired_labels file w)
  unfolding expired_labels
  of_waiver w there =
      All-cons (IsOf (past_spans waivers) file) (primary file w.expires.span (codes "expired here"))
      (label_at file (codes "reason") w.reason)
      (record {
        in_file = refl;
        known = past_known w w.expires.span there (Contains-first w.expires.span (span_of w.reason));
      })
      (at_reason w.reason
      (λ span at. past_known w span there (Contains-rest w.expires.span (span_of w.reason) span at)))

  of_past : (o : Option PastWaiver) → ((w : PastWaiver) → o ≡ Some w → Contains waivers w)
      → AreOf (past_spans waivers) file (option_map_or (expired_diag_of file) o not_built).labels
  of_past None there = none
  of_past (Some w) there = of_waiver w (there w refl)

  pub of_expired : (key : Key) → AreOf (past_spans waivers) file (expired_diag waivers file key).labels
  unfolding expired_diag
  of_expired key = of_past (past_waiver_at waivers key.entry)
      (λ w is. found_member (λ (v : PastWaiver). same_span v.spec.span key.entry) waivers w is)
