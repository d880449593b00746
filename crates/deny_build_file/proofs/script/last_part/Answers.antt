use Rattle.std.proofs.Common.{◌∙◌}
use Rattle.deny_build_file.proofs.ScriptLemmas.{last_alone, last_behind}
use Rattle.deny_build_file.proofs.script.last_part.Goals as goal

pub returns-in-Some : goal.returns-in-Some
returns-in-Some c =
    let split = c.in-Some.ensures.cases in
    split.4 ∙ last_behind c.args.text.now split.0 split.1 split.2.0 split.2.1

pub returns-in-None : goal.returns-in-None
returns-in-None c = last_alone c.args.text.now c.in-None.ensures.cases
