use Rattle.std.proofs.Common.{◌≡◌, ap, arith, length}
use Rattle.deny_krates.proofs.CratesLemmas.{length-crates_from}
use Rattle.deny_spans_workspace.proofs.WorkspaceLemmas.{no_spans_all, no_spans_more, no_spans_yet}
use Rattle.deny_spans_workspace.proofs.workspace.no_spans.Goals as goal

pub loop-init : goal.loop-init
loop-init c = no_spans_yet c.new-spans.result.items c.new-spans.ensures.items

pub loop-preserved : goal.loop-preserved
loop-preserved c =
    no_spans_more c.loop.index c.loop.spans.items c.push.new.self.items c.loop.invariant c.in_ok-push.ensures.items

pub returns : goal.returns
returns c =
    let all : c.loop.index ≡ length c.args.krates.now.crates = omega (
      arith,
      ap length c.krates-items.ensures.crates,
      length-crates_from 0 c.krates-items.result.now,
    ) in
    no_spans_all c.args.krates.now c.loop.index c.loop.spans.items c.loop.invariant all
