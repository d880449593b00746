use Rattle.std.proofs.Common.{ap, ◌∙◌}
use Rattle.std.specs.List.{list_any}
use Rattle.deny_krates.specs.Crates.{target_view}
use Rattle.deny_krates_reach.specs.private.Executing.{has_executed_kind}
use Rattle.deny_krates_reach.proofs.StartLemmas.{executes_by_view}
use Rattle.deny_krates_reach.proofs.executing.executes_at_build_time.Goals as goal

pub returns : goal.returns
returns c = λ place. c.has_executed_target.ensures
    ∙ (ap (list_any (λ t. has_executed_kind (target_view t))) c.as_slice.ensures
    ∙ executes_by_view place c.args.krate.now)
