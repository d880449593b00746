use Rattle.std.proofs.Common.{List, ℕ, sym, subst}
use Rattle.deny_rules_features.specs.private.Steps.{AreNames}
use Rattle.deny_rules_features.proofs.reached.reached.Goals as goal

pub reached_by_names-requires-clause-named : goal.reached_by_names-requires-clause-named
reached_by_names-requires-clause-named c =
    subst (λ (names : List (List ℕ)). AreNames c.args.features.now names) (sym c.as_slice.ensures)
    c.in_ok-names.ensures
