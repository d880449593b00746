use Rattle.deny_gate.proofs.DeadLaws.{dead_of_unhit, dead_unhit}
use Rattle.deny_gate.proofs.laws.dead_can_go.Goals as goal

pub returns-clause-texts : goal.returns-clause-texts
returns-clause-texts c = λ told texts report of.
    dead_of_unhit told texts report (c.unhit_can_go.ensures.texts told texts report of)

pub returns-clause-reports : goal.returns-clause-reports
returns-clause-reports c = λ d taken report other is among.
    c.unhit_can_go.ensures.reports d taken report other is (dead_unhit d taken report is among)
