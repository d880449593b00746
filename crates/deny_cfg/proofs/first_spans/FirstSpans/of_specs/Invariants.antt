use Rattle.std.proofs.Common.{map, take}
use Rattle.deny_base_lists.specs.First.{FindsFirst}
use Rattle.deny_cfg.specs.private.FirstSpans.{entry_span, first_span, same_wording}
use Rattle.deny_cfg.proofs.first_spans.FirstSpans.of_specs.Given as goal

abbrev pub invariant-loop-entry : goal.invariant-loop-entry
invariant-loop-entry g l = FindsFirst same_wording (map entry_span (take l.entry-index l.entries)) (first_span l.found)
