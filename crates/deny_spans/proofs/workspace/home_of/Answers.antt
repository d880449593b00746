use Rattle.std.proofs.Common.{◌∙◌}
use Rattle.deny_spans.proofs.HomeLemmas.{home_found, home_inside}
use Rattle.deny_spans.proofs.workspace.home_of.Goals as goal

pub returns-clause-is : goal.returns-clause-is
returns-clause-is c = c.first_home.ensures
    ∙ home_found c.args.krates.now c.args.path.now c.krates.result.now c.requires c.krates.ensures.crates

pub returns-clause-inside : goal.returns-clause-inside
returns-clause-inside c = home_inside c.args.krates.now c.first_home.result
    (c.first_home.ensures
    ∙ home_found c.args.krates.now c.args.path.now c.krates.result.now c.requires c.krates.ensures.crates)
