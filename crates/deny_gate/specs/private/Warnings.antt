-- The findings of the policy's own warnings: about the older key that stands for the table `build`, and about each
-- waiver that expired.
use Rattle.std.specs.Prelude.{◌≡◌, ◌++◌, ◌∷◌, ℕ, false, List, [], Option, None, Contains, map, option_and_then}
use Rattle.std.specs.List.{flat_map}
use Rattle.std.specs.Option.{option_map_or}
use Rattle.deny_base_lists.specs.Ascending.{Lists}
use Rattle.deny_base.specs.KeyOrder.{key_cmp}
use Rattle.deny_base.specs.declared.check.Check.TheVariants.{Bans}
use Rattle.deny_base.specs.declared.finding.Diagnostic.{Diagnostic}
use Rattle.deny_base.specs.declared.finding.Pack.{Pack}
use Rattle.deny_base.specs.declared.key.Key.{Key}
use Rattle.deny_base.specs.declared.span.Span.{Span}
use Rattle.deny_cfg.specs.Warnings.{deprecated_diag, expired_diag}
use Rattle.deny_cfg.specs.declared.bans.cfg.valid.ValidConfig.{ValidConfig}
use Rattle.deny_cfg.specs.declared.policy.Policy.{Policy}
use Rattle.deny_spec.specs.Expired.{PastWaiver, expired_key, expired_keys}
use Rattle.deny_spec.specs.Graph.{Graph}
use Rattle.deny_spec.specs.View.{View}
use Rattle.deny_spec.specs.declared.package.Package.{Package}
use Rattle.deny_spec_report.specs.Circumstances.{Circumstances}
use Rattle.deny_spec_report.specs.Packages.{deprecated_key, deprecated_keys_in}
use Rattle.deny_gate.specs.Gating.{circumstances_of}
use Rattle.deny_gate.specs.Report.{finding_for}
use Rattle.deny_gate.specs.declared.report.Finding.{Finding}
use Rattle.deny_gate.specs.private.Report.{findings_of}

-- the finding of a key with a diagnostic, of the bans check and about no crate
unfoldable pub warning_for : Key → Diagnostic → Finding
warning_for key diag = record {
  check = Bans;
  kid = None;
  diag = record { key = key; diag = diag; graph_nodes = []; with_features = false };
}

unfoldable pub deprecated_warning : ℕ → Span → Finding
deprecated_warning file span = warning_for (deprecated_key span) (deprecated_diag file span)

unfoldable pub expired_warning : ℕ → PastWaiver → Finding
expired_warning file w = warning_for (expired_key w) (expired_diag file w)

-- the older key of a configuration, where that stands for the table `build`
abbrev pub older_key_in : ValidConfig → Option Span
older_key_in cfg = option_and_then (λ build. build.older_key) cfg.build

abbrev pub deprecated_warnings : ℕ → Option Span → List Finding
deprecated_warnings file older_key = option_map_or (λ span. deprecated_warning file span ∷ []) older_key []

-- the warnings of a policy with this older key, and with these expired waivers
abbrev pub warnings_of : ℕ → Option Span → List PastWaiver → List Finding
warnings_of file older_key waivers = deprecated_warnings file older_key ++ map (expired_warning file) waivers

-- these are the findings, by their keys, of the warnings about the policy itself in circumstances
pub record AreWarnings (c : Circumstances) (findings : List Finding) : Type 0 where
  pub keys : List Key
  pub listed : Lists key_cmp (Contains (deprecated_keys_in c ++ expired_keys c.expired)) keys
  pub are : findings ≡ map (finding_for c) keys

-- these are the findings of a policy's own warnings, on each graph and whatever was seen of files
abbrev pub AreOwnWarnings : Policy → List Finding → Type 0
AreOwnWarnings said findings = (g : Graph) → (replacements : Option (List ℕ)) → (view : View)
    → (packages : List Package) → AreWarnings (circumstances_of said g replacements view packages) findings

-- these are the findings of a policy's own warnings, and behind them those of packs
pub record AreAllFindings (said : Policy) (packs : List Pack) (findings : List Finding) : Type 0 where
  pub warnings : List Finding
  pub are_own : AreOwnWarnings said warnings
  pub followed : findings ≡ warnings ++ flat_map findings_of packs
