-- The crates with a build script that they may not have.
use Rattle.std.specs.Prelude.{Bool}
use Rattle.deny_spec_report.specs.BuildScripts.{is_script_denied}
use Rattle.deny_spec_report.specs.Packages.{Scanning, package_of}
use Rattle.deny_spec.specs.Graph.{Crate}

abbrev pub denies : Scanning → Crate → Bool
denies l c = is_script_denied l.building l.graph l.reached (package_of l c) c
