-- Which keys the table over codes reports.
use Rattle.std.specs.Prelude.{IsTrue, List, All}
use Rattle.deny_base.specs.Code.{is_reported_here}
use Rattle.deny_base.specs.declared.key.Key.{Key}

-- all these keys have codes that the table reports
abbrev pub AreReportedHere : List Key → Type 0
AreReportedHere keys = All (λ key. IsTrue (is_reported_here key.code)) keys
