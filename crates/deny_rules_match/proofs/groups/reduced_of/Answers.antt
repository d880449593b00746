use Rattle.std.proofs.Common.{map, ap, ◌∙◌, arith}
use Rattle.std.proofs.lemmas.List.{take_all}
use Rattle.deny_rules_match.specs.Groups.{is_left}
use Rattle.deny_rules_match.specs.Marks.{marked}
use Rattle.deny_rules_match.proofs.GroupLemmas.{more_left}
use Rattle.deny_krates.proofs.PlaceLemmas.{length_of}
use Rattle.deny_rules_match.proofs.groups.reduced_of.Goals as goal

pub reduce_next-requires : goal.reduce_next-requires
reduce_next-requires c =
    let ks = c.krates-size.result.now in
    omega (arith, c.loop-next-test.true, length_of ks c.args.krates.now.crates c.krates-size.ensures.crates)

pub loop-next-preserved : goal.loop-next-preserved
loop-next-preserved c =
    let ks = c.krates-size.result.now in
    record {
      within = omega (
        arith,
        c.in_ok-next.ensures.within,
        length_of ks c.args.krates.now.crates
            c.krates-size.ensures.crates,
      );
      so_far = more_left c.args.krates.now c.args.candidates.now c.loop-next.next c.in_ok-next.next c.loop-next.reduced
          c.reduce_next.new.reduced c.loop-next.invariant.so_far c.in_ok-next.ensures;
    }

pub returns : goal.returns
returns c =
    let ks = c.krates-size.result.now in
    let g = c.args.krates.now in
    c.loop-next.invariant.so_far
    ∙ ap (map (is_left g (marked c.args.candidates.now))) (take_all c.loop-next.next g.crates
    (omega (arith, c.loop-next-test.false, length_of ks c.args.krates.now.crates c.krates-size.ensures.crates)))
