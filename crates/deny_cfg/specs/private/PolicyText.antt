-- Errors of reading a policy from a text.
use Rattle.std.specs.Prelude.{◌≡◌, ◌⊎◌, ⊤, ℕ, List, Option}
use Rattle.deny_base.specs.declared.files.File.{File}
use Rattle.deny_toml.specs.error.ConfigFault.{ConfigFault}
use Rattle.deny_cfg_entries.specs.declared.day.Day.{Day}
use Rattle.deny_cfg.specs.declared.policy.PolicyError.{PolicyError}
use Rattle.deny_cfg.specs.declared.policy.PolicyError.TheVariants as error
use Rattle.deny_cfg.specs.PolicyText.{AddsFiles}

-- the error has such faults, or is for lack of memory
abbrev pub IsConfig : (List ConfigFault → Type 0) → PolicyError → Type 0
IsConfig P (error.Config faults) = P faults
IsConfig P (error.Invalid reported) = ⊥
IsConfig P error.Memory = ⊤

-- the files after an error: with faults none is added, and when out of memory perhaps none
abbrev pub AddsOnError : Option Day → PolicyError → List ℕ → List File → List File → Type 0
AddsOnError today (error.Config faults) text old new = new ≡ old
AddsOnError today (error.Invalid reported) text old new = AddsFiles today text old new
AddsOnError today error.Memory text old new = (new ≡ old) ⊎ AddsFiles today text old new
