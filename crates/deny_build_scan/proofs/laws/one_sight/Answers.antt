use Rattle.deny_build_scan.proofs.OneSightLemmas.{same_sight}
use Rattle.deny_build_scan.proofs.laws.one_sight.Goals as goal

pub returns : goal.returns
returns c = λ b g files reached other home unread packages others reports reports_too one two failures.
    same_sight files b g reached other home unread packages others reports reports_too one two failures
