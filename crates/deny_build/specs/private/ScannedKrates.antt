-- A crate at its place, with the context of the build check.
use Rattle.std.specs.Prelude.{◌≡◌, List, map}
use Rattle.deny_spec_report.specs.Packages.{Scanning}
use Rattle.deny_krates.specs.Crates.{crate_view}
use Rattle.deny_spec.specs.Graph.{Crate}
use Rattle.deny_build.specs.ScanningOf.{scanning_of}
use Rattle.deny_build.specs.declared.scanned_krate.ScannedKrate.{ScannedKrate}

abbrev pub krate_of : ScannedKrate → Crate
krate_of at = crate_view at.place at.krate.now

abbrev pub scanning_at : ScannedKrate → Scanning
scanning_at at = scanning_of at.ctx.now

abbrev pub scanned_view : ScannedKrate → Scanning × Crate
scanned_view at = (scanning_at at, krate_of at)

-- these are all crates of the graph, in their order
abbrev pub AreScannedKrates : Scanning → List ScannedKrate → Type 0
AreScannedKrates l all = map scanned_view all ≡ map (λ c. (l, c)) l.graph.crates

-- a function of a context and a crate, applied to their pair
abbrev pub at_each : {T : Type 0} → (Scanning → Crate → T) → Scanning × Crate → T
at_each f at = f at.0 at.1
