use Rattle.std.proofs.Common.{◌+◌, ◌-◌, ◌≤◌, length, List, ap, ◌∙◌, arith}
use Rattle.std.specs.Prelude.{filter}
use Rattle.deny_spec.specs.Graph.{Graph}
use Rattle.deny_spec.specs.Groups.{has_name}
use Rattle.deny_krates_graph.specs.Crates.{crates_from}
use Rattle.deny_krates_graph.specs.declared.krate.Krate.{Krate}
use Rattle.deny_krates_graph.proofs.CratesLemmas.{crates_from-part}
use Rattle.deny_krates.proofs.krates.Krates.krates_by_name.Goals as goal

pub returns : goal.returns
returns c =
    let start = c.run_of-places.result.start in
    let end = c.run_of-places.result.end in
    let krates = c.as_slice-krates.result.now in
    let upward : start ≤ end = c.run_of-places.ensures.upward in
    let within : end ≤ length krates = c.run_of-places.ensures.within in
    let inside : start ≤ length krates = omega arith in
    record {
      named = (
        0 + start,
        crates_from-part 0 krates start (end - start) inside ∙ (c.run_of-places.ensures.named
            ∙ ap (λ (ks : List Krate). filter (has_name c.args.name.now) (crates_from 0 ks)) c.as_slice-krates.ensures
            ∙ ap (λ (g : Graph). filter (has_name c.args.name.now) g.crates) c.self.view_is),
      );
    }
