use Rattle.std.proofs.Common.{arith, ap, length, refl}
use Rattle.deny_krates.proofs.CratesLemmas.{length-crates_from}
use Rattle.deny_krates.proofs.PlaceLemmas.{krate_at}
use Rattle.deny_spans_workspace.proofs.workspace.put.Goals as goal

pub bounds-krates-place : goal.bounds-krates-place
bounds-krates-place c = omega (
  arith,
  c.requires.inside,
  ap length c.krates.ensures.crates,
  length-crates_from 0 c.krates.result.now,
)

pub returns : goal.returns
returns c = record {
  span = _;
  is = refl;
  says = refl;
  of = krate_at c.args.krates.now c.krates.result.now c.args.place c.index-krates-place.result c.krates.ensures.crates
      (omega (arith, c.requires.inside, ap length c.krates.ensures.crates, length-crates_from 0 c.krates.result.now))
      c.index-krates-place.is;
}
