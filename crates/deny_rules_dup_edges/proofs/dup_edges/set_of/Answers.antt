use Rattle.std.proofs.Common.{◌∙◌, List, Option, ℕ, refl, ap, subst, sym}
use Rattle.std.specs.Ordering.{nat_cmp}
use Rattle.deny_base_lists.specs.Ascending.{Lists}
use Rattle.deny_base_lists.specs.Walk.{AreThose}
use Rattle.deny_rules_dup_edges.specs.private.EdgeLists.{IsReachedNumber}
use Rattle.deny_base_lists.proofs.WalkLemmas.{nowhere}
use Rattle.deny_rules_dup_edges.proofs.DupSetLemmas.{set_numbers}
use Rattle.deny_rules_dup_edges.proofs.dup_edges.set_of.Goals as goal

pub take_back-requires : goal.take_back-requires
take_back-requires c =
    subst (AreThose c.reach_above.new.distances) (sym c.as_slice-2.ensures) c.in_ok-reached.ensures.those

pub returns-clause-set : goal.returns-clause-set
returns-clause-set c =
    let numbers = c.in_ok-numbers.numbers in
    let distances = c.reach_above.new.distances in
    record {
      of_crate = refl;
      numbers = set_numbers c.args.krates.now c.args.edges.now c.args.place distances c.in_ok-reached.reached numbers
          c.krates-orderly.ensures.orderly c.requires.hold c.in_ok-reached.ensures
          (subst (λ (ds : List (Option ℕ)). Lists nat_cmp
          (IsReachedNumber ds c.args.edges.now) numbers) c.as_slice.ensures c.in_ok-numbers.ensures);
    }

pub returns-clause-unset : goal.returns-clause-unset
returns-clause-unset c = c.take_back.ensures ∙ ap nowhere c.in_ok-reached.ensures.long
