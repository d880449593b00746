use Rattle.deny_gate_licenses.proofs.AnswerLemmas.{are-answers}
use Rattle.deny_gate_licenses.proofs.answers.answers_to.Goals as goal

pub returns : goal.returns
returns c =
    are-answers c.args.granting.now c.in_ok-excepted.excepted c.args.krate.now c.in_ok-excepted.ensures
    c.args.requirements.now c.answers_by_grants.result c.answers_by_grants.ensures.allowed
    c.answers_by_grants.ensures.granters c.answers_by_grants.ensures.notes
