use Rattle.std.proofs.Common.{IfOk, subst}
use Rattle.deny_cfg.specs.LicensesConfig.{Config}
use Rattle.deny_cfg.specs.LicensingView.{licensing_view}
use Rattle.deny_gate_licenses.specs.private.JudgedCrates.{AreJudgedCrates}
use Rattle.deny_gate_licenses.proofs.licenses.judge_graph.Goals as goal

pub returns : goal.returns
returns c =
    subst (λ (cfg : Config). IfOk c.judge_by_granting.result
    (AreJudgedCrates cfg.include_dev (licensing_view cfg) c.args.krates.now))
    c.in_ok-granting.ensures c.judge_by_granting.ensures
