use Rattle.std.proofs.Common.{ℕ, IfOk, sym, subst}
use Rattle.deny_base_lists.specs.Walk.{AreUnset}
use Rattle.deny_krates.proofs.PlaceLemmas.{length_of}
use Rattle.deny_rules_dup_edges.proofs.above.unset_distances.Goals as goal

pub returns : goal.returns
returns c =
    subst (λ (n : ℕ). IfOk c.no_distances.result (AreUnset n))
    (sym (length_of c.krates.result.now c.args.krates.now.crates c.krates.ensures.crates)) c.no_distances.ensures
