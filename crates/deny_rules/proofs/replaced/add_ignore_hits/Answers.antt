use Rattle.std.proofs.Common.{List, Option, ap, append-nil, subst, sym, ◌++◌, ◌∙◌}
use Rattle.deny_base.specs.declared.entry.Hit.{Hit}
use Rattle.deny_spec_report.specs.Saying.{said_by}
use Rattle.deny_rules.proofs.StdLemmas.{no_hits_of_std}
use Rattle.deny_rules.specs.private.Replaced.{IsFoundForPolicy}
use Rattle.deny_std.specs.declared.replacements.Replacements.{Replacements}
use Rattle.deny_rules.proofs.replaced.add_ignore_hits.Goals as goal

pub returns-in-None : goal.returns-in-None
returns-in-None c = λ d found.
    let none = subst (λ (o : Option Replacements). IsFoundForPolicy d.policy d.graph (said_by d.table) o)
    c.in-None.is found in
    sym (append-nil c.args.hits.now)
    ∙ ap (λ (hits : List Hit). c.args.hits.now ++ hits) (sym (no_hits_of_std d none))
