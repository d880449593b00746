-- The pack of a crate by its judgement, and that of an unused entry.
use Rattle.std.specs.Prelude.{◌≡◌, ◌++◌, ◌∷◌, ℕ, Contains, List, [], None, Some, codes, map}
use Rattle.std.specs.Fmt.{decimal}
use Rattle.std.specs.List.{flat_map}
use Rattle.deny_base_lists.specs.Ascending.{Lists}
use Rattle.deny_base.specs.Level.{severity_of}
use Rattle.deny_base.specs.declared.finding.Pack.{Pack}
use Rattle.deny_base.specs.declared.key.Key.{Key}
use Rattle.deny_base.specs.declared.key.Section.TheVariants as section
use Rattle.deny_base.specs.declared.level.LintLevel.{LintLevel}
use Rattle.deny_base.specs.declared.level.Severity.{Severity}
use Rattle.deny_base.specs.declared.level.Severity.TheVariants as severity
use Rattle.deny_spec.specs.Graph.{Crate, crate_text, kid_of}
use Rattle.deny_spec.specs.DiagParts.{primary}
use Rattle.deny_spec_report.specs.Licences.{license_key, licence_text, licensed_key, with_text}
use Rattle.deny_spec_report.specs.MessageParts.{plainly}
use Rattle.deny_spec_report.specs.Diags.{pack_of}
use Rattle.deny_spec_report.specs.declared.message.Message.{Message}
use Rattle.deny_gate_licenses.specs.declared.granter.Granter.{Granter}
use Rattle.deny_gate_licenses.specs.declared.granter.Granter.TheVariants as granter
use Rattle.deny_gate_licenses.specs.declared.judgement.Judgement.{Judgement}
use Rattle.deny_gate_licenses.specs.declared.judgement.Judgement.TheVariants as judgement
use Rattle.deny_gate_licenses.specs.declared.witnesses.Witnesses.{Witnesses}
use Rattle.deny_gate_licenses.specs.private.Granters.{granter_cmp, granter_span, unused_code}
use Rattle.deny_gate_licenses.specs.private.Judgements.{code_of}
use Rattle.deny_gate_licenses.specs.private.Witnesses.{unused_at}

abbrev pub crate_message : Crate → Severity → List ℕ → List (List ℕ) → Message
crate_message c severity message notes = record (plainly severity message [] (Some (kid_of c))) { notes = notes }

abbrev pub judged_message : Crate → Judgement → List ℕ
judged_message c judgement.Private = codes "skipping private workspace crate '" ++ (crate_text c ++ codes "'")
judged_message c judgement.Unlicensed = codes "crate '" ++ (crate_text c ++ codes "' is unlicensed")
judged_message c (judgement.Unreadable at) =
    codes "license expression of crate '" ++ (crate_text c ++ (codes "' can't be read at byte " ++ decimal at))
judged_message c (judgement.Accepted granters) = codes "license requirements satisfied"
judged_message c (judgement.Rejected granters notes) = codes "failed to satisfy license requirements"

abbrev pub judged_notes : Crate → Judgement → List (List ℕ)
judged_notes c judgement.Private = []
judged_notes c judgement.Unlicensed = []
judged_notes c (judgement.Unreadable at) = with_text (licence_text c) ∷ []
judged_notes c (judgement.Accepted granters) = with_text (licence_text c) ∷ []
judged_notes c (judgement.Rejected granters notes) = with_text (licence_text c) ∷ notes

abbrev pub judged_severity : Judgement → Severity
judged_severity judgement.Private = severity.Note
judged_severity judgement.Unlicensed = severity.Error
judged_severity (judgement.Unreadable at) = severity.Error
judged_severity (judgement.Accepted granters) = severity.Note
judged_severity (judgement.Rejected granters notes) = severity.Error

abbrev pub judgement_message : Crate → Judgement → Message
judgement_message c j = crate_message c (judged_severity j) (judged_message c j) (judged_notes c j)

unfoldable pub judged_pack : Crate → Judgement → Pack
judged_pack c j = pack_of (licensed_key (code_of j) c) (judgement_message c j)

abbrev pub unused_key : Granter → Key
unused_key by = license_key section.LicensesUnused (unused_code by) 0 (granter_span by)

abbrev pub unused_message : LintLevel → ℕ → Granter → Message
unused_message level file (granter.Allowance span) = plainly (severity_of level) (codes "license was not encountered")
    (primary file span (codes "unmatched license allowance") ∷ []) None
unused_message level file (granter.Exception span) =
    plainly severity.Warning (codes "license exception was not encountered")
    (primary file span (codes "unmatched license exception") ∷ []) None

unfoldable pub unused_pack : LintLevel → ℕ → Granter → Pack
unused_pack level file by = pack_of (unused_key by) (unused_message level file by)

-- each unused entry has its pack, in the order of the entries
pub record ReportsUnused (level : LintLevel) (file : ℕ) (granters : List Granter) (witnesses : Witnesses)
    (old new : List Pack) : Type 0 where
  pub unused : List Granter
  pub listed : Lists granter_cmp (Contains (flat_map (unused_at witnesses) granters)) unused
  pub reported : new ≡ old ++ map (unused_pack level file) unused
