use Rattle.std.proofs.Common.{sym, ◌∙◌, rules}
use Rattle.std.proofs.lemmas.Result.{on_ok_weaker}
use Rattle.deny_cfg.specs.PolicyView.{sharing_view}
use Rattle.deny_rules_manifests.proofs.RowLemmas.{kept_one, passed_over}
use Rattle.deny_rules_manifests.proofs.uses.put_counted.Goals as goal

pub returns-then-not-counts-clause-put : goal.returns-then-not-counts-clause-put
returns-then-not-counts-clause-put c = λ uses crates.
    passed_over c.args.file (sharing_view c.args.sharing.now) c.args.dep.now crates uses c.args.rows.now.items
    (sym c.counts.ensures ∙ search rules)

pub returns-clause-put : goal.returns-clause-put
returns-clause-put c = on_ok_weaker c.put_use.result
    (λ puts uses crates are. kept_one c.args.file (sharing_view c.args.sharing.now) c.args.dep.now crates uses
    c.put_use.new.rows.items (sym c.counts.ensures ∙ search rules) (puts uses crates are)) c.put_use.ensures.put
