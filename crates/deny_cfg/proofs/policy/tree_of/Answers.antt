use Rattle.std.proofs.Common.{[], ◌∷◌, Option, ap, subst, ◌∙◌}
use Rattle.deny_toml.specs.Faults.{fault_at}
use Rattle.deny_toml.specs.Parser.{IsCauseOf, IsFaultOf, LiesIn}
use Rattle.deny_toml.specs.Spans.{IsSpan}
use Rattle.deny_toml.proofs.ParserLaws.{fault_is}
use Rattle.deny_cfg_entries.specs.declared.day.Day.{Day}
use Rattle.deny_cfg.specs.PolicyText.{ListsFaults}
use Rattle.deny_cfg.proofs.PolicyLaws.{config_weaker, toml_listed}
use Rattle.deny_cfg.proofs.policy.tree_of.Goals as goal

pub returns-in-Err-Fault-clause-faults : goal.returns-in-Err-Fault-clause-faults
returns-in-Err-Fault-clause-faults c =
    let text = c.args.text.now in
    let span = c.in-Err-Fault.span in
    config_weaker _ (λ faults. (today : Option Day) → ListsFaults today text faults) c.of_text.result
    (λ faults is today. toml_listed today text c.in-Err-Fault.kind span faults c.utf8.text
    (fault_is (IsFaultOf text) c.in-Err-Fault.kind span
    (subst (IsCauseOf text) c.in-Err-Fault.field-0-is c.in-Err-Fault.ensures.cause))
    (fault_is (λ _. IsSpan text) c.in-Err-Fault.kind span
    (subst (LiesIn text) c.in-Err-Fault.field-0-is c.in-Err-Fault.ensures.lies))
    (is ∙ ap (λ k. fault_at k [] span ∷ []) c.fault_kind.ensures))
    c.of_text.ensures
