use Rattle.std.proofs.Common.{◌≡◌, ◌++◌, drop}
use Rattle.deny_cfg.specs.Waiting.{waiting_from}
use Rattle.deny_cfg.proofs.waiting.add_waiting_from.Given as goal

abbrev pub invariant-loop-entry : goal.invariant-loop-entry
invariant-loop-entry l =
    (l.index ≡ l.entry-index)
    × (l.faults ++ waiting_from l.array l.index (drop l.entry-index l.entries)
    ≡ l.fn.faults ++ waiting_from l.array 0 l.entries)
