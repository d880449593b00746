use Rattle.std.proofs.Common.{take}
use Rattle.deny_rules_match.specs.Wrappers.{AreFirstSpans}
use Rattle.deny_rules_match.proofs.wrappers.spans_by_name.Given as goal

abbrev pub invariant-loop-wrapper : goal.invariant-loop-wrapper
invariant-loop-wrapper l = AreFirstSpans (take l.wrapper-index l.wrappers) l.spans
