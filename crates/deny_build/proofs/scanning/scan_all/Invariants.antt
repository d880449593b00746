use Rattle.std.proofs.Common.{◌≡◌, ◌++◌, drop, map}
use Rattle.deny_krates.specs.Crates.{crates_from}
use Rattle.deny_build.specs.ScanningOf.{scanning_of}
use Rattle.deny_build.specs.private.ScannedKrates.{scanned_view}
use Rattle.deny_build.proofs.scanning.scan_all.Given as goal

abbrev pub invariant-loop-place : goal.invariant-loop-place
invariant-loop-place l =
    map scanned_view l.all.items ++ map (λ c. (scanning_of l.ctx, c)) (crates_from l.place (drop l.place l.krates))
    ≡ map (λ c. (scanning_of l.ctx, c)) (crates_from 0 l.krates)
