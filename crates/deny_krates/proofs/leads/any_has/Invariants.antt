use Rattle.std.proofs.Common.{◌≡◌, drop}
use Rattle.std.specs.List.{list_any}
use Rattle.deny_krates.proofs.leads.any_has.Given as goal
use Rattle.deny_spec.specs.Text.{same_text}

abbrev pub invariant-loop-text : goal.invariant-loop-text
invariant-loop-text l = list_any (λ text. list_any (same_text text) l.texts) (drop l.text-index l.some)
    ≡ list_any (λ text. list_any (same_text text) l.texts) l.some
