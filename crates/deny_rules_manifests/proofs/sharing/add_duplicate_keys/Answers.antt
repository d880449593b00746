use Rattle.std.proofs.Common.{List, sym, ap, ◌∙◌, ◌++◌, append-nil}
use Rattle.std.specs.Prelude.{option_map}
use Rattle.std.proofs.lemmas.Result.{on_ok_weaker}
use Rattle.deny_base.specs.declared.key.Key.{Key}
use Rattle.deny_cfg.specs.PolicyView.{policy_view, sharing_view}
use Rattle.deny_rules_manifests.proofs.SharingLemmas.{duplicated_are, none_duplicated}
use Rattle.deny_rules_manifests.proofs.sharing.add_duplicate_keys.Goals as goal

pub returns-then-not-checks_duplicates : goal.returns-then-not-checks_duplicates
returns-then-not-checks_duplicates c = λ view are.
    sym (ap (λ (keys : List Key). c.args.keys.now ++ keys)
    (none_duplicated (policy_view c.args.cfg.now) c.args.krates.now view (sharing_view c.in-Some.sharing)
    (ap (option_map sharing_view) c.in-Some.is)
    (sym c.checks_duplicates.ensures ∙ c.if-not-checks_duplicates.true)) ∙ append-nil c.args.keys.now)

pub returns : goal.returns
returns c = on_ok_weaker c.add_duplicated.result
    (λ added view are. added ∙ ap (λ (keys : List Key). c.args.keys.now ++ keys)
    (duplicated_are (policy_view c.args.cfg.now) c.args.krates.now view (sharing_view c.in-Some.sharing) c.args.uses.now
    c.are_placed.ensures (ap (option_map sharing_view) c.in-Some.is)
    (sym c.checks_duplicates.ensures ∙ c.if-not-checks_duplicates.false) are)) c.add_duplicated.ensures
