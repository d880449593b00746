use Rattle.std.proofs.Common.{◌≡◌, ◌∙◌, ℕ, List, Option, ap, map, sym}
use Rattle.std.specs.Prelude.{option_to_list, slice_get}
use Rattle.std.proofs.lemmas.Result.{IfOk-weaker}
use Rattle.deny_spec.specs.Graph.{Crate}
use Rattle.deny_spec_report.specs.Packages.{Scanning}
use Rattle.deny_build.specs.ScanningOf.{graph_judged, scanning_of}
use Rattle.deny_build.specs.private.ScannedKrates.{AreScannedKrates, scanned_view}
use Rattle.deny_build.proofs.scanning.scan_each.Goals as goal

pub returns-in-Some : goal.returns-in-Some
returns-in-Some c =
    let l = scanning_of c.args.ctx.now in
    let krates = c.args.ctx.now.krates.now in
    let paired : List Crate → List (Scanning × Crate) = λ cs. map (λ k. (l, k)) cs in
    IfOk-weaker c.scan_alone.result
    (λ all. map scanned_view all.items ≡ paired (option_to_list (slice_get krates.crates c.in-Some.place)))
    (λ all. AreScannedKrates l all.items)
    (λ all are. are ∙ ap (λ (o : Option ℕ). paired (graph_judged o krates).crates) (sym c.in-Some.is))
    c.scan_alone.ensures

pub returns-in-None : goal.returns-in-None
returns-in-None c =
    let l = scanning_of c.args.ctx.now in
    let krates = c.args.ctx.now.krates.now in
    let paired : List Crate → List (Scanning × Crate) = λ cs. map (λ k. (l, k)) cs in
    IfOk-weaker c.scan_all.result
    (λ all. map scanned_view all.items ≡ paired krates.crates)
    (λ all. AreScannedKrates l all.items)
    (λ all are. are ∙ ap (λ (o : Option ℕ). paired (graph_judged o krates).crates) (sym c.in-None.is))
    c.scan_all.ensures
