-- Clashes and warnings of a configuration.
use Rattle.std.specs.Prelude.{◌≡◌, ◌++◌, ℕ, List}
use Rattle.deny_base.specs.declared.finding.Diagnostic.{Diagnostic}
use Rattle.deny_cfg_tables.specs.declared.bans.cfg.config.Config.{Config}
use Rattle.deny_cfg.specs.Clashes.{AreClashes}
use Rattle.deny_cfg.specs.Warnings.{warnings_of}

-- these diagnostics report a configuration that is read from the text: its clashes, and behind them its warnings
pub record AreReported (source : List ℕ) (config : Config) (file : ℕ) (reported : List Diagnostic) : Type 0 where
  pub clashes : List Diagnostic
  pub are : AreClashes source config file clashes
  pub is : reported ≡ clashes ++ warnings_of file config
