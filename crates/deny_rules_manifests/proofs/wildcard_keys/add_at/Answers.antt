use Rattle.std.proofs.Common.{List, sym, ap, ◌∙◌, ◌++◌, append-nil}
use Rattle.std.proofs.lemmas.Result.{on_ok_weaker}
use Rattle.deny_base.specs.declared.key.Key.{Key}
use Rattle.deny_cfg.specs.PolicyView.{policy_view}
use Rattle.deny_krates.specs.Crates.{crate_view}
use Rattle.deny_spans.specs.SpansView.{manifest_view, spans_view}
use Rattle.deny_rules_manifests.proofs.WildcardLemmas.{found_there, none_there}
use Rattle.deny_rules_manifests.proofs.wildcard_keys.add_at.Goals as goal

pub returns-in_default-manifest_at : goal.returns-in_default-manifest_at
returns-in_default-manifest_at c =
    sym (ap (λ (keys : List Key). c.args.keys.now ++ keys)
    (none_there (policy_view c.args.cfg.now) c.args.krates.now (spans_view c.args.spans.now) c.args.asked.now
    c.args.place
    (crate_view c.args.place c.in-Some.krate.now) (sym c.mark_at.ensures ∙ c.if-not-mark_at.false)
    (sym c.in-Some.ensures)
    (sym c.in_default-manifest_at.ensures.is))
    ∙ append-nil c.args.keys.now)

pub returns : goal.returns
returns c = on_ok_weaker c.add_active.result
    (λ added. added ∙ ap (λ (keys : List Key). c.args.keys.now ++ keys)
    (sym (found_there (policy_view c.args.cfg.now) c.args.krates.now (spans_view c.args.spans.now) c.args.asked.now
    c.args.place
    (crate_view c.args.place c.in-Some.krate.now) (sym c.mark_at.ensures ∙ c.if-not-mark_at.false)
    (sym c.in-Some.ensures)
    (manifest_view c.in-Some-manifest_at.manifest.now)
    (sym c.in-Some-manifest_at.ensures.is)))) c.add_active.ensures
