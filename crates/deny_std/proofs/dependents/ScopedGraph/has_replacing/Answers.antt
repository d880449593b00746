use Rattle.std.proofs.Common.{◌∙◌}
use Rattle.deny_cfg.specs.PolicyView.{replacing_view}
use Rattle.deny_spec_report.specs.StdReplacements.{may_replace}
use Rattle.deny_std.proofs.PlaceLemmas.{any-dependent}
use Rattle.deny_std.proofs.dependents.ScopedGraph.has_replacing.Goals as goal

pub returns : goal.returns
returns c = λ items least.
    let self = c.args.self.now in
    c.is_one_replacing.ensures items least
    ∙ any-dependent self.krates.now c.args.place c.direct_dependents.result.now
    (may_replace (replacing_view self.cfg.now) self.krates.now items) c.are_placed.ensures c.direct_dependents.ensures
