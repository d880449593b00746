-- Dead entries as the lines of a report show them.
use Rattle.std.specs.Prelude.{ℕ, List, codes}
use Rattle.serde_json.specs.Data.{Data, string, number, unsigned, member, no_members}
use Rattle.deny_base.specs.declared.entry.EntryId.{EntryId}
use Rattle.deny_base.specs.declared.entry.EntryKind.{EntryKind}
use Rattle.deny_base.specs.declared.entry.EntryKind.TheVariants as kind
use Rattle.deny_gate_json.specs.Diagnostics.{reports}

abbrev pub entry_word : EntryKind → List ℕ
entry_word kind.Skip = codes "skip"
entry_word kind.SkipRoot = codes "skip-root"
entry_word kind.Wrapper = codes "wrapper"
entry_word kind.Bypass = codes "bypass"
entry_word kind.BypassPath = codes "bypass-path"
entry_word kind.BypassGlob = codes "bypass-glob"
entry_word kind.ReplacementIgnore = codes "replacement-ignore"
entry_word kind.LicenseAllow = codes "license-allow"
entry_word kind.LicenseException = codes "license-exception"

-- a dead entry by the span of its text, in bytes, and by its kind
abbrev pub dead_value : EntryId → Data
dead_value e = reports (codes "dead")
    (member (codes "end") (number (unsigned e.range.end))
    (member (codes "kind") (string (entry_word e.kind))
    (member (codes "start") (number (unsigned e.range.start)) no_members)))
