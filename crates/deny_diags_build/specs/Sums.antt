-- The checksums of build scripts that a policy writes, by their spans.
use Rattle.std.specs.Prelude.{◌≡◌, Some, is_some}
use Rattle.deny_base.specs.declared.span.Span.{Span}
use Rattle.deny_base.specs.declared.span.Spanned.{Spanned}
use Rattle.deny_cfg_build.specs.BuildingView.{building_view}
use Rattle.deny_cfg_build.specs.declared.valid.ValidBuildConfig.{ValidBuildConfig}
use Rattle.deny_cfg.specs.declared.bans.cfg.valid.ValidConfig.{ValidConfig}
use Rattle.deny_spec_report.specs.PackageDiags.{is_script_sum}
use Rattle.deny_cfg_tables.specs.declared.bans.cfg.checksum.Checksum.{Checksum}
use Rattle.deny_diags_parts.specs.BySpan.{found_at}
use Rattle.deny_diags_parts.specs.declared.by_span.BySpan.{BySpan}

-- a checksum is found at a span exactly where a bypass writes one for its script there
pub record AreSumsOf (cfg : ValidConfig) (sums : BySpan (Spanned Checksum)) : Type 0 where
  pub at : (build : ValidBuildConfig) → cfg.build ≡ Some build → (span : Span)
      → is_some (found_at sums span) ≡ is_script_sum (building_view build) span
