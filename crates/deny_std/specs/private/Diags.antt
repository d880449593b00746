-- Messages and packs of ignores that were not hit, and of replaced crates.
use Rattle.std.specs.Prelude.{◌≡◌, ◌++◌, ◌∷◌, ℕ, List, [], Option, None, Some, codes, map, option_map, take}
use Rattle.std.specs.Option.{option_map_or}
use Rattle.deny_base.specs.Level.{severity_of}
use Rattle.deny_base.specs.declared.code.Code.TheVariants.{UnmatchedReplacementIgnore}
use Rattle.deny_base.specs.declared.finding.Pack.{Pack}
use Rattle.deny_base.specs.declared.label.Label.{Label}
use Rattle.deny_base.specs.declared.level.LintLevel.{LintLevel}
use Rattle.deny_base.specs.declared.level.Severity.TheVariants.{Warning}
use Rattle.deny_base.specs.declared.span.Span.{Span}
use Rattle.deny_spec.specs.Graph.{Graph}
use Rattle.deny_spec.specs.Keys.{unused_key}
use Rattle.deny_spec.specs.Policy.{Entry}
use Rattle.deny_spec.specs.DiagParts.{crate_text_at, kid_at, primary, secondary, spec_text}
use Rattle.deny_spec_report.specs.Saying.{Saying}
use Rattle.deny_spec_report.specs.StdReplacements.{ignore_span, note_at, replaced_key, replacement_note}
use Rattle.deny_spec_report.specs.MessageParts.{plainly}
use Rattle.deny_spec_report.specs.Diags.{pack_of}
use Rattle.deny_spec_report.specs.declared.message.Message.{Message}
use Rattle.deny_std.specs.declared.diags.Unmatched.{Unmatched}

-- what is kept of an ignore that was not hit
abbrev pub unmatched_of : Entry → Unmatched
unmatched_of e = record {
  span = ignore_span e;
  spec = spec_text e.spec;
  reason = option_map (λ reason. reason.span) e.reason;
}

abbrev pub reason_label : ℕ → Option Span → List Label
reason_label file None = []
reason_label file (Some span) = secondary file span (codes "ignore reason") ∷ []

abbrev pub unmatched_message : ℕ → Unmatched → Message
unmatched_message file u = plainly Warning
    (codes "std replacement ignore '" ++ (u.spec ++ codes "' was not encountered"))
    (primary file u.span (codes "unmatched ignore configuration") ∷ reason_label file u.reason)
    None

unfoldable pub unmatched_pack : ℕ → Unmatched → Pack
unmatched_pack file u = pack_of (unused_key UnmatchedReplacementIgnore u.span) (unmatched_message file u)

-- the note of the crate of a name, where the table has an entry for it
abbrev pub note_of : Saying → List ℕ → List (List ℕ)
note_of said name = option_map_or (λ items. replacement_note name items ∷ []) (said name) []

abbrev pub replaced_message : Graph → ℕ → List ℕ
replaced_message g place =
    codes "crate '" ++ (crate_text_at g place ++ codes "' is partially or fully replaced in std and/or core")

abbrev pub replacement_message : LintLevel → Graph → Saying → ℕ → Message
replacement_message level g said place =
    record (plainly (severity_of level) (replaced_message g place) [] (kid_at g place)) {
      notes = note_at g said place;
    }

unfoldable pub replaced_pack : LintLevel → Graph → Saying → ℕ → Pack
replaced_pack level g said place = pack_of (replaced_key place) (replacement_message level g said place)

-- the packs of a prefix of a list were appended
abbrev pub ReportsFirst : {A : Type 0} → (A → Pack) → List A → List Pack → List Pack → Type 0
ReportsFirst pack xs old new = (n : ℕ) × (new ≡ old ++ map pack (take n xs))
