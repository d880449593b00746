use Rattle.std.proofs.Common.{◌∙◌}
use Rattle.deny_spans_manifest.proofs.TargetLemmas.{number_found}
use Rattle.deny_spans_manifest.proofs.targets.Targets.number.Goals as goal

pub returns : goal.returns
returns c = λ agrees reports keys numbers. c.unwrap_or.ensures
    ∙ number_found agrees reports keys c.args.self.now c.args.key.now c.in_ok-form.form c.find.result numbers
    c.in_ok-form.ensures c.find.ensures
