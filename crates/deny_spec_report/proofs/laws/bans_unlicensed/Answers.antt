use Rattle.deny_base.specs.KeyOrder.{key_cmp}
use Rattle.deny_spec_report.specs.Circumstances.{licensed}
use Rattle.deny_spec_report.specs.Codes.{is_of_bans}
use Rattle.deny_spec_report.specs.Holding.{HoldsIn}
use Rattle.deny_spec_report.proofs.BansAlone.{held_back, held_there, reported_alike}
use Rattle.deny_spec_report.proofs.Parts.{lists_same}
use Rattle.deny_spec_report.proofs.laws.bans_unlicensed.Goals as goal

pub returns-clause-holds : goal.returns-clause-holds
returns-clause-holds c = λ d licensing facts keys listed. lists_same key_cmp (HoldsIn is_of_bans d facts)
    (HoldsIn is_of_bans (licensed d licensing) facts) keys listed
    (λ key is. held_there d licensing d.expired facts key is)
    (λ key is. held_back d licensing d.expired facts key is)

pub returns-clause-reported : goal.returns-clause-reported
returns-clause-reported c = λ d licensing facts key is. reported_alike d licensing d.expired facts key is
