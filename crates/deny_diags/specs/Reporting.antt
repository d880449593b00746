-- Keys that hold, and what a list of packs holds where memory runs out.
use Rattle.std.specs.Prelude.{◌≡◌, ◌++◌, ℕ, All, List, map, take}
use Rattle.deny_base.specs.declared.finding.Pack.{Pack}
use Rattle.deny_base.specs.declared.key.Key.{Key}
use Rattle.deny_spec_report.specs.Circumstances.{Circumstances}
use Rattle.deny_spec_report.specs.Facts.{Facts}
use Rattle.deny_spec_report.specs.Holding.{Holds}
use Rattle.deny_spec_report.specs.Diags.{key_pack}

-- the key holds by some facts
abbrev pub CanHold : Circumstances → Key → Type 0
CanHold c key = (facts : Facts) × Holds c facts key

-- all these keys hold, each by some facts
abbrev pub CanAllHold : Circumstances → List Key → Type 0
CanAllHold c keys = All (CanHold c) keys

-- the packs of a first part of the keys were appended
abbrev pub ReportsPrefix : Circumstances → List Key → List Pack → List Pack → Type 0
ReportsPrefix c keys old new = (n : ℕ) × (new ≡ old ++ map (key_pack c) (take n keys))
