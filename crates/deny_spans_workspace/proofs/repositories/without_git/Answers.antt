use Rattle.std.proofs.Common.{◌∙◌, ap}
use Rattle.deny_spans_workspace.specs.Repositories.{without_git}
use Rattle.deny_spans_workspace.proofs.SuffixLemmas.{none_left, one_less}
use Rattle.deny_spans_workspace.proofs.repositories.without_git.Goals as goal

pub loop-shorter-preserved : goal.loop-shorter-preserved
loop-shorter-preserved c =
    let cut = c.in-Some.ensures.cases in
    ap without_git cut.1 ∙ one_less c.loop-shorter.rest.now cut.0 ∙ c.loop-shorter.invariant

pub returns : goal.returns
returns c = none_left c.loop-shorter.rest.now c.in_default.ensures.cases ∙ c.loop-shorter.invariant
