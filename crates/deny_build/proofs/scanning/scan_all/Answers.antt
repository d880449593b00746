use Rattle.std.proofs.Common.{◌∙◌, List, Some, ap, arith, option_map, sym}
use Rattle.std.specs.Prelude.{slice_get}
use Rattle.std.proofs.lemmas.Grind.{common_steps}
use Rattle.std.proofs.lemmas.Option.{slice_get-get_or}
use Rattle.deny_krates.specs.Crates.{crate_view}
use Rattle.deny_krates.proofs.ResolutionLemmas.{crates-at}
use Rattle.deny_spec.specs.Graph.{Crate}
use Rattle.deny_build.proofs.scanning.scan_all.Goals as goal

pub scan_krate-requires-clause-placed : goal.scan_krate-requires-clause-placed
scan_krate-requires-clause-placed c =
    let place = c.loop-place.place in
    let krates = c.krates-krates.result.now in
    let krate = c.index-krates-place.result in
    ap (λ (crates : List Crate). slice_get crates place) (sym c.krates-krates.ensures.crates)
    ∙ (crates-at krates place
    ∙ ap (option_map (crate_view place))
    (slice_get-get_or krates place krate c.loop-place-test.true ∙ ap Some (sym c.index-krates-place.is)))

pub loop-place-preserved : goal.loop-place-preserved
loop-place-preserved c = grind (arith, common_steps)
