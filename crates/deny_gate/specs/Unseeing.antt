-- The part of a report that depends on no files, and so is the same whatever was seen of them.
use Rattle.std.specs.Prelude.{Bool, true, false, List, filter}
use Rattle.deny_base.specs.Code.{asks_no_file}
use Rattle.deny_base.specs.declared.entry.EntryId.{EntryId}
use Rattle.deny_base.specs.declared.entry.EntryKind.{EntryKind}
use Rattle.deny_base.specs.declared.entry.EntryKind.TheVariants as kind
use Rattle.deny_base.specs.declared.entry.Hit.{Hit}
use Rattle.deny_gate.specs.declared.report.Finding.{Finding}

-- findings whose codes depend on no files
abbrev pub unseeing_findings : List Finding → List Finding
unseeing_findings findings = filter (λ f. asks_no_file f.diag.key.code) findings

-- kinds of entries whose hits depend on no files: all but those that let packages pass
abbrev pub is_free_kind : EntryKind → Bool
is_free_kind kind.Skip = true
is_free_kind kind.SkipRoot = true
is_free_kind kind.Wrapper = true
is_free_kind kind.Bypass = false
is_free_kind kind.BypassPath = false
is_free_kind kind.BypassGlob = false
is_free_kind kind.ReplacementIgnore = true
is_free_kind kind.LicenseAllow = true
is_free_kind kind.LicenseException = true

abbrev pub unseeing_entries : List EntryId → List EntryId
unseeing_entries entries = filter (λ e. is_free_kind e.kind) entries

abbrev pub unseeing_hits : List Hit → List Hit
unseeing_hits hits = filter (λ h. is_free_kind h.entry.kind) hits
