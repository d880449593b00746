-- What the bans check gives of the keys that hold, and the prefix that it reports where memory runs out.
use Rattle.std.specs.Prelude.{◌≡◌, ◌⊎◌, [], List}
use Rattle.deny_base.specs.declared.finding.Pack.{Pack}
use Rattle.deny_spec_report.specs.Circumstances.{Circumstances}
use Rattle.deny_rules.specs.Check.{IsChecked, IsPrefixReported}
use Rattle.deny_rules.specs.declared.check.BansEnd.{BansEnd}
use Rattle.deny_rules.specs.declared.check.HitsAndEdges.{HitsAndEdges}

-- the end of a check that has these hits and edges, where everything was read
abbrev end_of : HitsAndEdges → BansEnd
end_of shown = record { hits = shown.hits; dup_edges = shown.dup_edges; unread = [] }

abbrev pub IsReportedBy : Circumstances → List Pack → List Pack → HitsAndEdges → Type 0
IsReportedBy c old new shown = IsChecked c old new (end_of shown)

-- nothing was reported, or a prefix of the keys that hold
abbrev pub ReportsPrefixBy : Circumstances → List Pack → List Pack → Type 0
ReportsPrefixBy c old new = (new ≡ old) ⊎ IsPrefixReported c old new
