use Rattle.std.proofs.Common.{◌≡◌, ap, arith, length}
use Rattle.deny_krates.proofs.CratesLemmas.{length-crates_from}
use Rattle.deny_spans_workspace.proofs.WorkspaceLemmas.{no_spans_all}
use Rattle.deny_spans.proofs.workspace.no_shared.Goals as goal

pub returns-clause-spans : goal.returns-clause-spans
returns-clause-spans c =
    let all : c.loop.index ≡ length c.args.krates.now.crates = omega (
      arith,
      ap length c.krates-items.ensures.crates,
      length-crates_from 0 c.krates-items.result.now,
    ) in
    no_spans_all c.args.krates.now c.loop.index c.loop.spans.items c.loop.invariant all
