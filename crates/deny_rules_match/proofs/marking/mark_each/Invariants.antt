use Rattle.std.proofs.Common.{take}
use Rattle.std.specs.Prelude.{◌==◌}
use Rattle.std.specs.List.{list_any}
use Rattle.deny_rules_match.specs.Marks.{HaveBesides}
use Rattle.deny_rules_match.proofs.marking.mark_each.Given as goal

abbrev pub invariant-loop-place : goal.invariant-loop-place
invariant-loop-place l = HaveBesides (λ n. list_any (λ place. place == n)
    (take l.place-index l.places)) l.initial.marks-inside.vec.items l.marks-inside.vec.items
