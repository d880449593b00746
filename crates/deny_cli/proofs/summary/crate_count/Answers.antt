use Rattle.std.proofs.Common.{◌≡◌, ◌∙◌, List, ap, arith, length, sym}
use Rattle.deny_krates.proofs.CratesLemmas.{length-crates_from}
use Rattle.deny_spec.specs.Graph.{Crate}
use Rattle.deny_cli.proofs.summary.crate_count.Goals as goal

pub returns-clause-count : goal.returns-clause-count
returns-clause-count c = sym (length-crates_from 0 c.krates.result.now)
    ∙ ap (λ (crates : List Crate). length crates) c.krates.ensures.crates

pub returns-clause-fits : goal.returns-clause-fits
returns-clause-fits c =
    let same : length c.krates.result.now ≡ length c.args.krates.now.crates =
    sym (length-crates_from 0 c.krates.result.now)
    ∙ ap (λ (crates : List Crate). length crates) c.krates.ensures.crates in
    omega (arith, same, c.krates.ensures.few)
