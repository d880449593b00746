use Rattle.deny_cfg.specs.PolicyText.{ListsFaults}
use Rattle.deny_cfg.proofs.PolicyLaws.{config_weaker, kept_on_error, kept_policies, no_policy_of, utf8_listed}
use Rattle.deny_cfg.proofs.policy.read_policy.Goals as goal

pub returns-in_ok-file-in-Ok-clause-kept : goal.returns-in_ok-file-in-Ok-clause-kept
returns-in_ok-file-in-Ok-clause-kept c =
    let h = c.in-Ok.ensures.cases in
    kept_policies c.policy_of.result c.args.bytes.now c.in-Ok.text.now c.args.files.now _ c.policy_of.new.files h.0
    c.in_ok-file-in-Ok.ensures.ok c.policy_of.ensures.files

pub returns-in_ok-file-in-Ok-clause-kept_too : goal.returns-in_ok-file-in-Ok-clause-kept_too
returns-in_ok-file-in-Ok-clause-kept_too c =
    let h = c.in-Ok.ensures.cases in
    kept_on_error c.args.today c.policy_of.result c.args.bytes.now c.in-Ok.text.now c.args.files.now _ c.policy_of.new.files h.1 h.0
    c.in_ok-file-in-Ok.ensures.ok c.policy_of.ensures.files_too

pub returns-in-Err-clause-cause : goal.returns-in-Err-clause-cause
returns-in-Err-clause-cause c =
    let bytes = c.args.bytes.now in
    no_policy_of c.args.today bytes _ c.of_text.result
    (config_weaker _ (ListsFaults c.args.today bytes) c.of_text.result
    (λ faults is. utf8_listed c.args.today bytes faults c.in-Err.ensures.cases.0 is) c.of_text.ensures)
