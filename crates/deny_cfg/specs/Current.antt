-- The policy of a day: of the entries that let something pass, those whose last day has passed are taken out.
use Rattle.std.specs.Prelude.{◌≡◌, ◌++◌, Bool, int_lt, List, [], filter, filter_map, map, Contains, Option, None, Some}
use Rattle.std.specs.Prelude.{is_none, option_and_then, option_map, if◌then◌else◌}
use Rattle.std.specs.Option.{option_map_or}
use Rattle.deny_base.specs.Entry.{entry_cmp}
use Rattle.deny_base.specs.declared.entry.EntryId.{EntryId}
use Rattle.deny_base.specs.declared.entry.EntryKind.{EntryKind}
use Rattle.deny_base.specs.declared.entry.EntryKind.TheVariants as kind
use Rattle.deny_base.specs.declared.span.Spanned.{Spanned}
use Rattle.deny_base_lists.specs.Ascending.{AreFirst, Lists}
use Rattle.deny_cfg_build.specs.declared.valid.ValidBuildConfig.{ValidBuildConfig}
use Rattle.deny_cfg_build.specs.declared.valid.ValidBypass.{ValidBypass}
use Rattle.deny_cfg_entries.specs.declared.day.Day.{Day}
use Rattle.deny_cfg_entries.specs.declared.expiry.Expiry.{Expiry}
use Rattle.deny_cfg_entries.specs.declared.package_spec.PackageSpec.{PackageSpec}
use Rattle.deny_cfg_entries.specs.declared.reason.Reason.{Reason}
use Rattle.deny_cfg_entries.specs.declared.spec_or_extended.PackageSpecOrExtended.{PackageSpecOrExtended}
use Rattle.deny_cfg_entries.specs.declared.waiver.Waiver.{Waiver}
use Rattle.deny_cfg_tables.specs.declared.bans.cfg.std_replacements.StdReplacementConfig.{StdReplacementConfig}
use Rattle.deny_cfg_tables.specs.declared.bans.cfg.tree_skip.TreeSkipExtended.{TreeSkipExtended}
use Rattle.deny_cfg_tables.specs.declared.licenses.config.Config as licenses
use Rattle.deny_cfg_tables.specs.declared.licenses.exception.Exception.{Exception}
use Rattle.deny_cfg.specs.declared.bans.cfg.valid.ValidConfig.{ValidConfig}
use Rattle.deny_cfg.specs.declared.expired.ExpiredWaiver.{ExpiredWaiver}
use Rattle.deny_cfg.specs.declared.policy.Policy.{Policy}

-- the last day of an entry, where it is before today
abbrev pub passed : Option Day → Option (Spanned Expiry) → Option (Spanned Expiry)
passed (Some today) (Some last) = if int_lt last.value.day.0 today.0 then Some last else None
passed _ _ = None

-- whether an entry with this last day counts today: it counts through that day
abbrev pub counts : Option Day → Option (Spanned Expiry) → Bool
counts today last = is_none (passed today last)

-- the last day, and the reason, of an entry of `skip`, `ignore` or `skip-tree`
abbrev pub skip_expires : PackageSpecOrExtended Waiver → Option (Spanned Expiry)
skip_expires e = option_and_then (λ waiver. waiver.expires) e.inner

abbrev pub skip_reason : PackageSpecOrExtended Waiver → Option Reason
skip_reason e = option_and_then (λ waiver. waiver.reason) e.inner

abbrev pub root_expires : PackageSpecOrExtended TreeSkipExtended → Option (Spanned Expiry)
root_expires e = option_and_then (λ skip. skip.expires) e.inner

abbrev pub root_reason : PackageSpecOrExtended TreeSkipExtended → Option Reason
root_reason e = option_and_then (λ skip. skip.reason) e.inner

-- ---- the entries that count

abbrev pub current_std : Option Day → StdReplacementConfig → StdReplacementConfig
current_std today std = record std { ignore = filter (λ e. counts today (skip_expires e)) std.ignore }

-- a bypass goes with its paths and globs
abbrev pub current_build : Option Day → ValidBuildConfig → ValidBuildConfig
current_build today build = record build { bypass = filter (λ b. counts today b.expires) build.bypass }

unfoldable pub current_bans : Option Day → ValidConfig → ValidConfig
current_bans today written = record written {
  skipped = filter (λ e. counts today (skip_expires e)) written.skipped;
  tree_skipped = filter (λ e. counts today (root_expires e)) written.tree_skipped;
  std_replacements = option_map (current_std today) written.std_replacements;
  build = option_map (current_build today) written.build;
}

abbrev pub current_licenses : Option Day → licenses.Config → licenses.Config
current_licenses today config = record config { exceptions = filter (λ e. counts today e.expires) config.exceptions }

-- ---- the entries that have expired

abbrev pub expired_as : EntryKind → PackageSpec → Option Reason → Spanned Expiry → ExpiredWaiver
expired_as kind spec reason last = record {
  id = record { kind = kind; range = spec.name.span };
  spec = spec;
  reason = reason;
  expires = last;
}

abbrev pub expired_skip : Option Day → EntryKind → PackageSpecOrExtended Waiver → Option ExpiredWaiver
expired_skip today kind e = option_map (expired_as kind e.spec (skip_reason e)) (passed today (skip_expires e))

abbrev pub expired_root : Option Day → PackageSpecOrExtended TreeSkipExtended → Option ExpiredWaiver
expired_root today e = option_map (expired_as kind.SkipRoot e.spec (root_reason e)) (passed today (root_expires e))

abbrev pub expired_bypass : Option Day → ValidBypass → Option ExpiredWaiver
expired_bypass today b = option_map (expired_as kind.Bypass b.spec None) (passed today b.expires)

abbrev pub expired_exception : Option Day → Exception → Option ExpiredWaiver
expired_exception today e = option_map (expired_as kind.LicenseException e.spec None) (passed today e.expires)

abbrev pub expired_in_std : Option Day → StdReplacementConfig → List ExpiredWaiver
expired_in_std today std = filter_map (expired_skip today kind.ReplacementIgnore) std.ignore

abbrev pub expired_in_build : Option Day → ValidBuildConfig → List ExpiredWaiver
expired_in_build today build = filter_map (expired_bypass today) build.bypass

unfoldable pub expired_in_bans : Option Day → ValidConfig → List ExpiredWaiver
expired_in_bans today written =
    filter_map (expired_skip today kind.Skip) written.skipped
    ++ (filter_map (expired_root today) written.tree_skipped
    ++ (option_map_or (expired_in_std today) written.std_replacements []
    ++ option_map_or (expired_in_build today) written.build []))

abbrev pub expired_in_licenses : Option Day → Option licenses.Config → List ExpiredWaiver
expired_in_licenses today licensing =
    option_map_or (λ config. filter_map (expired_exception today) config.exceptions) licensing []

-- the entries of a written policy whose last day has passed
abbrev pub expired_in : Option Day → ValidConfig → Option licenses.Config → List ExpiredWaiver
expired_in today written licensing = expired_in_bans today written ++ expired_in_licenses today licensing

abbrev pub expired_id : ExpiredWaiver → EntryId
expired_id waiver = waiver.id

-- these are the expired entries in ascending order of range and kind
pub record AreInOrder (all ordered : List ExpiredWaiver) : Type 0 where
  pub ids : Lists entry_cmp (Contains (map expired_id all)) (map expired_id ordered)
  pub first : AreFirst entry_cmp expired_id all ordered

-- A policy is that of a day: it has the entries that count, and lists those that have expired.
pub record IsCurrent (today : Option Day) (written : ValidConfig) (licensing : Option licenses.Config) (policy : Policy)
    : Type 0 where
  pub bans : policy.bans ≡ current_bans today written
  pub licenses : policy.licenses ≡ option_map (current_licenses today) licensing
  pub waivers : AreInOrder (expired_in today written licensing) policy.expired_waivers
  pub expired : policy.expired ≡ map expired_id policy.expired_waivers
