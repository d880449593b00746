-- What decides a file, and what is asked of it.
use Rattle.std.specs.Prelude.{◌≡◌, ℕ, Bool, List, Option}
use Rattle.std.specs.List.{list_any}
use Rattle.deny_spec.specs.Building.{Building, Bypass}
use Rattle.deny_spec_report.specs.PackageFiles.{ByExtension, ByGlob, ByHeader, ByPath, BySum, Step, step_of}
use Rattle.deny_spec.specs.Text.{same_text}
use Rattle.deny_build_scan.specs.Deciding.{AreDeciding}
use Rattle.deny_build_scan.specs.declared.decide.Asks.{Asks}
use Rattle.deny_build_scan.specs.declared.decide.Asks.TheVariants as asks
use Rattle.deny_build_scan.specs.declared.decide.Decision.{Decision}

abbrev pub asks_by : Step → Asks
asks_by (ByPath span) = asks.Nothing
asks_by ByGlob = asks.Nothing
asks_by (BySum sum) = asks.Sum
asks_by ByExtension = asks.Nothing
asks_by ByHeader = asks.Header

-- a glob is one of these, by its text
abbrev pub is_among : List (List ℕ) → List ℕ → Bool
is_among globs glob = list_any (same_text glob) globs

pub record IsDecided (b : Building) (used : Option Bypass) (path : List ℕ) (d : Decision) : Type 0 where
  pub globs : AreDeciding b used path d.globs
  pub asks : d.asks ≡ asks_by (step_of b used path (is_among d.globs))
