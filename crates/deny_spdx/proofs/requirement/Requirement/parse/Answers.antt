use Rattle.deny_spdx.specs.Grammar.{IsRequirement}
use Rattle.deny_spdx.proofs.BadLemmas.{only_answer, only_offset}
use Rattle.deny_spdx.proofs.KeepsLemmas.{requirement_clear}
use Rattle.deny_spdx.proofs.MeaningLemmas.{answer_means}
use Rattle.deny_spdx.proofs.requirement.Requirement.parse.Goals as goal

pub returns-clause-spelled : goal.returns-clause-spelled
returns-clause-spelled c = only_answer IsRequirement requirement_clear c.args.text.now c.read_requirement.result
    c.read_requirement.ensures

pub returns-clause-bad : goal.returns-clause-bad
returns-clause-bad c = only_offset IsRequirement c.args.text.now c.read_requirement.result c.read_requirement.ensures

pub returns-clause-meaning : goal.returns-clause-meaning
returns-clause-meaning c = answer_means c.args.text.now c.read_requirement.result c.read_requirement.ensures
