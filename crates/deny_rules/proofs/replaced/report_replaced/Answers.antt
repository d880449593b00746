use Rattle.std.proofs.Common.{[], Option, append-nil, subst, sym}
use Rattle.deny_rules.proofs.CheckLemmas.{lists_nothing}
use Rattle.deny_rules.specs.private.Replaced.{IsFoundOf}
use Rattle.deny_std.specs.declared.replacements.Replacements.{Replacements}
use Rattle.deny_rules.proofs.replaced.report_replaced.Goals as goal

pub returns-in-None-clause-reported : goal.returns-in-None-clause-reported
returns-in-None-clause-reported c = λ d same found. record {
  keys = [];
  listed = lists_nothing d (subst (λ (o : Option Replacements). IsFoundOf d c.args.file o) c.in-None.is found);
  reported = sym (append-nil c.args.sink.now);
}
