use Rattle.std.proofs.Common.{◌+◌, List, take, sym, subst, get_or}
use Rattle.std.specs.List.{AllZip}
use Rattle.std.proofs.lemmas.List.{get_or_default}
use Rattle.deny_krates.proofs.GraphLemmas.{zip_more}
use Rattle.deny_rules_dup_edges.specs.DupEdges.{IsDupSetOf}
use Rattle.deny_rules_dup_edges.specs.declared.dup_edges.DupSet.{DupSet}
use Rattle.deny_rules_dup_edges.proofs.dup_edges.sets_of.Goals as goal

pub loop-place-preserved : goal.loop-place-preserved
loop-place-preserved c =
    let g = c.args.krates.now in
    let edges = c.args.edges.now in
    let places = c.args.places.now in
    let i = c.loop-place.place-index in
    let place = get_or places i 0 in
    record {
      sets = subst (λ (sets : List DupSet). AllZip (IsDupSetOf g edges) (take (i + 1) places) sets)
          (sym c.in_ok-push.ensures.ok)
          (zip_more (IsDupSetOf g edges) places c.loop-place.sets i place c.in_ok-set_of.field-0 c.loop-place-test.true
          (get_or_default places i 0 place c.loop-place-test.true) c.loop-place.invariant.sets
          c.in_ok-set_of.ensures.set);
      unset = c.in_ok-set_of.ensures.unset;
    }
