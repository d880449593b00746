use Rattle.deny_base.specs.KeyOrder.{key_cmp}
use Rattle.deny_spec_report.specs.Circumstances.{with_expired}
use Rattle.deny_spec_report.specs.Codes.{is_of_bans}
use Rattle.deny_spec_report.specs.Holding.{HoldsIn}
use Rattle.deny_spec_report.proofs.BansAlone.{held_back, held_there, reported_alike}
use Rattle.deny_spec_report.proofs.Parts.{lists_same}
use Rattle.deny_spec_report.proofs.laws.bans_unexpired.Goals as goal

pub returns-clause-holds : goal.returns-clause-holds
returns-clause-holds c = λ d waivers facts keys listed. lists_same key_cmp (HoldsIn is_of_bans d facts)
    (HoldsIn is_of_bans (with_expired d waivers) facts) keys listed
    (λ key is. held_there d d.licensing waivers facts key is)
    (λ key is. held_back d d.licensing waivers facts key is)

pub returns-clause-reported : goal.returns-clause-reported
returns-clause-reported c = λ d waivers facts key is. reported_alike d d.licensing waivers facts key is
