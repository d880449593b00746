use Rattle.std.proofs.Common.{ap, arith, length, sym, ◌∙◌}
use Rattle.deny_spans_manifest.proofs.ManifestLemmas.{left_at, none_left, nothing_left}
use Rattle.deny_spans_manifest.proofs.manifest.ManifestDepsIterator.next.Goals as goal

pub returns-in-Some-clause-steps : goal.returns-in-Some-clause-steps
returns-in-Some-clause-steps c = left_at c.args.self.now.ignored.now c.args.self.now.left.now c.in-Some.place
    c.index-left-place.result (sym c.first_kept.ensures ∙ c.in-Some.is) c.index-left-place.is

pub returns-in-Some-clause-goes : goal.returns-in-Some-clause-goes
returns-in-Some-clause-goes c =
    let steps = left_at c.args.self.now.ignored.now c.args.self.now.left.now c.in-Some.place
    c.index-left-place.result (sym c.first_kept.ensures ∙ c.in-Some.is) c.index-left-place.is in
    record { on = λ _. (tt, tt, omega (arith, ap length steps)); keeps = tt; rests = λ _. tt }

pub returns-in-None-clause-steps : goal.returns-in-None-clause-steps
returns-in-None-clause-steps c = (
  none_left c.args.self.now.ignored.now c.args.self.now.left.now (sym c.first_kept.ensures ∙ c.in-None.is),
  nothing_left c.args.self.now.ignored.now,
)
