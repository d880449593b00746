use Rattle.std.proofs.Common.{◌∙◌, ap, sym}
use Rattle.std.specs.Option.{option_copied}
use Rattle.deny_krates.specs.private.Sources.{node_here}
use Rattle.deny_krates.proofs.NodeLemmas.{crate_within, number_of_crate}
use Rattle.deny_krates.proofs.nodes.node_of.Goals as goal

pub returns-in-None-clause-found : goal.returns-in-None-clause-found
returns-in-None-clause-found c = number_of_crate c.args.krates.now c.args.place c.requires
    ∙ ap (λ o. node_here c.args.krates.now c.args.place (option_copied o)) (sym c.in-None.is)

pub returns-in-None-clause-within : goal.returns-in-None-clause-within
returns-in-None-clause-within c = crate_within c.args.krates.now c.args.place c.requires
