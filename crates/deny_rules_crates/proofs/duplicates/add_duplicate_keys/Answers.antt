use Rattle.std.proofs.Common.{arith}
use Rattle.deny_cfg.specs.PolicyView.{policy_view}
use Rattle.deny_rules_match.specs.Marks.{facts_of}
use Rattle.deny_rules_crates.proofs.DuplicateLemmas.{after_run, all_names, duplicates_added}
use Rattle.deny_krates.proofs.PlaceLemmas.{are_placed, length_of}
use Rattle.deny_rules_crates.proofs.duplicates.add_duplicate_keys.Goals as goal

pub add_next-requires : goal.add_next-requires
add_next-requires c = omega (
  arith,
  c.loop-next-test.true,
  length_of c.krates-size.result.now c.args.found.now.krates.now.crates
      c.krates-size.ensures.crates,
)

pub loop-next-preserved : goal.loop-next-preserved
loop-next-preserved c = record {
  within = omega (
    arith,
    c.in_ok-next.ensures.within,
    length_of c.krates-size.result.now c.args.found.now.krates.now.crates
        c.krates-size.ensures.crates,
  );
  so_far = after_run c.args.found.now.krates.now c.duplicate_policy_of-policy.result c.loop-next.next
      c.in_ok-next.next c.args.keys.now c.loop-next.keys c.add_next.new.keys c.loop-next.invariant.so_far
      c.in_ok-next.ensures;
}

pub returns : goal.returns
returns c =
    let ks = c.krates-size.result.now in
    let g = c.args.found.now.krates.now in
    let m = c.duplicate_policy_of-policy.result in
    duplicates_added (policy_view c.args.found.now.cfg.now) g (facts_of c.args.found.now.marks) m
    (are_placed ks g.crates c.krates-size.ensures.crates) c.duplicate_policy_of-policy.ensures c.args.keys.now
    c.loop-next.keys
    (all_names g m c.loop-next.next c.args.keys.now c.loop-next.keys
    (omega (arith, c.loop-next-test.false, length_of ks g.crates c.krates-size.ensures.crates))
    c.loop-next.invariant.so_far)
