use Rattle.std.proofs.Common.{◌≡◌, drop}
use Rattle.deny_rules_match.specs.private.Groups.{all_have_name}
use Rattle.deny_rules_match.proofs.groups.all_have_name.Given as goal

abbrev pub invariant-loop-dependent : goal.invariant-loop-dependent
invariant-loop-dependent l =
    all_have_name l.krates l.name (drop l.dependent-index l.dependents) ≡ all_have_name l.krates l.name l.dependents
