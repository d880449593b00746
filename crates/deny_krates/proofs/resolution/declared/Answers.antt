use Rattle.std.proofs.Common.{◌∙◌, ap, List}
use Rattle.std.specs.Prelude.{slice_get}
use Rattle.std.specs.Option.{option_and_then}
use Rattle.deny_krates_graph.specs.Crates.{crates_from}
use Rattle.deny_krates_graph.specs.declared.krate.Dependency.{Dependency}
use Rattle.deny_spec.specs.Graph.{Crate}
use Rattle.deny_krates.proofs.GetLemmas.{got}
use Rattle.deny_krates.proofs.ResolutionLemmas.{declaration_got, no_declaration}
use Rattle.deny_krates.proofs.resolution.declared.Goals as goal

pub returns-in_err-krate : goal.returns-in_err-krate
returns-in_err-krate c = no_declaration (λ (x : Crate). slice_get x.deps c.args.index)
    (slice_get (crates_from 0 c.args.krates.now) c.args.place) c.from_residual.result c.from_residual.ensures
    c.in_err-krate.ensures

pub returns : goal.returns
returns c =
    let k = c.in_ok-krate.krate.now in
    declaration_got k c.args.place c.args.index c.get.result
    (got c.as_slice.result.now c.args.index c.get.result c.get.ensures.lookup.3
    ∙ ap (λ (ds : List Dependency). slice_get ds c.args.index) c.as_slice.ensures)
    ∙ ap (option_and_then (λ (x : Crate). slice_get x.deps c.args.index)) c.in_ok-krate.ensures
