use Rattle.deny_gate.proofs.DeadLaws.{loses_only, without_unhit}
use Rattle.deny_gate.proofs.laws.unhit_can_go.Goals as goal

pub returns-clause-texts : goal.returns-clause-texts
returns-clause-texts c = without_unhit c.entries_can_go.ensures c.packages_stay.ensures

pub returns-clause-reports : goal.returns-clause-reports
returns-clause-reports c = λ d taken report other is unhit kept that.
    loses_only c.entries_can_go.ensures d taken report is unhit kept c.entry_order.ensures.total
    c.one_report.ensures other that
