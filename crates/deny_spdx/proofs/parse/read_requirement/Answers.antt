use Rattle.std.proofs.lemmas.Result.{err_from_is_err_and}
use Rattle.deny_spdx.specs.declared.requirement_reader.RequirementReader.TheVariants.{Start}
use Rattle.deny_spdx.specs.Grammar.{IsRequirement}
use Rattle.deny_spdx.specs.private.RequirementReader.{requirement_step, whole_requirement}
use Rattle.deny_spdx.proofs.AnswerLemmas.{spells, ends_bad, stops_answer}
use Rattle.deny_spdx.proofs.KeepsLemmas.{requirement_keeps}
use Rattle.deny_spdx.proofs.parse.read_requirement.Goals as goal

pub returns-in_err-reader : goal.returns-in_err-reader
returns-in_err-reader c = let p = err_from_is_err_and c.from_residual.result c.from_residual.ensures.1 in
    rw (p.1, p.2) (stops_answer IsRequirement requirement_step Start whole_requirement requirement_keeps c.args.text.now
    _ c.in_err-reader.ensures)

pub returns-in-Some : goal.returns-in-Some
returns-in-Some c = spells IsRequirement requirement_step Start whole_requirement requirement_keeps c.args.text.now
    c.in_ok-reader.reader c.whole.result c.in-Some.requirement c.in_ok-reader.ensures c.whole.ensures c.in-Some.is

pub returns-in-None : goal.returns-in-None
returns-in-None c = ends_bad IsRequirement requirement_step Start whole_requirement requirement_keeps c.args.text.now
    c.in_ok-reader.reader c.whole.result c.in_ok-reader.ensures c.whole.ensures c.in-None.is
