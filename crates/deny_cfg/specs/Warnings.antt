-- The warnings about a policy itself: about the older key that stands for the table `build`, and about each waiver
-- that expired.
use Rattle.std.specs.Prelude.{◌++◌, ℕ, List, [], ◌∷◌, Option, Some, codes, map}
use Rattle.std.specs.Option.{option_map_or}
use Rattle.deny_base.specs.declared.code.DiagnosticCode.TheVariants as code
use Rattle.deny_base.specs.declared.finding.Diagnostic.{Diagnostic}
use Rattle.deny_base.specs.declared.label.LabelStyle.TheVariants.{Primary}
use Rattle.deny_base.specs.declared.level.Severity.TheVariants.{Warning}
use Rattle.deny_base.specs.declared.span.Span.{Span}
use Rattle.deny_cfg_tables.specs.declared.bans.cfg.config.Config.{Config}
use Rattle.deny_spec.specs.Expired.{PastWaiver, expired_labels, expired_message}
use Rattle.deny_cfg.specs.Clashes.{label_of}
use Rattle.deny_cfg.specs.Valid.{older_key_of}

unfoldable pub deprecated_diag : ℕ → Span → Diagnostic
deprecated_diag file span = record {
  severity = Warning;
  code = Some code.Deprecated;
  message = codes "[bans.allow-build-scripts] has been deprecated in favor of [bans.build.allow-build-scripts], "
      ++ codes "this will become an error in the future";
  labels = label_of Primary file span [] ∷ [];
  notes = [];
}

-- the warning about the older key, if that stands for the table
abbrev pub warnings_by : ℕ → Option Span → List Diagnostic
warnings_by file older_key = option_map_or (λ span. deprecated_diag file span ∷ []) older_key []

abbrev pub warnings_of : ℕ → Config → List Diagnostic
warnings_of file config = warnings_by file (older_key_of config)

unfoldable pub expired_diag : ℕ → PastWaiver → Diagnostic
expired_diag file w = record {
  severity = Warning;
  code = Some code.Expired;
  message = expired_message w;
  labels = expired_labels file w;
  notes = [];
}

abbrev pub expired_warnings : ℕ → List PastWaiver → List Diagnostic
expired_warnings file waivers = map (expired_diag file) waivers
