-- The order of entries: by span, and then by kind.
use Rattle.std.specs.Prelude.{ℕ}
use Rattle.std.specs.Ordering.{nat_cmp, on, then_cmp}
use Rattle.std.specs.declared.cmp.Ordering.{Ordering}
use Rattle.deny_base.specs.KeyOrder.{span_cmp}
use Rattle.deny_base.specs.declared.entry.EntryId.{EntryId}
use Rattle.deny_base.specs.declared.entry.EntryKind.{EntryKind}
use Rattle.deny_base.specs.declared.entry.EntryKind.TheVariants as kind

-- kinds are ordered as they are declared
unfoldable pub entry_kind_number : EntryKind → ℕ
entry_kind_number kind.Skip = 0
entry_kind_number kind.SkipRoot = 1
entry_kind_number kind.Wrapper = 2
entry_kind_number kind.Bypass = 3
entry_kind_number kind.BypassPath = 4
entry_kind_number kind.BypassGlob = 5
entry_kind_number kind.ReplacementIgnore = 6
entry_kind_number kind.LicenseAllow = 7
entry_kind_number kind.LicenseException = 8

abbrev pub entry_kind_cmp : EntryKind → EntryKind → Ordering
entry_kind_cmp = on entry_kind_number nat_cmp

abbrev pub entry_cmp : EntryId → EntryId → Ordering
entry_cmp = then_cmp (on (λ e. e.range) span_cmp) (on (λ e. e.kind) entry_kind_cmp)
