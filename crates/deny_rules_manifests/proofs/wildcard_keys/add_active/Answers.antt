use Rattle.std.proofs.Common.{List, filter, map, sym, ap, ◌∙◌, ◌++◌, ◌∷◌, [], append-nil, append_assoc}
use Rattle.std.proofs.lemmas.Result.{on_ok_weaker}
use Rattle.deny_base.specs.declared.code.Code.TheVariants.{Wildcard}
use Rattle.deny_base.specs.declared.key.Key.{Key}
use Rattle.deny_base.specs.declared.span.Span.{Span}
use Rattle.deny_cfg.specs.PolicyView.{policy_view}
use Rattle.deny_spec_report.specs.Wildcards.{is_active_in, is_unresolved, wildcards_in}
use Rattle.deny_krates.specs.Crates.{crate_view}
use Rattle.deny_spans_manifest.specs.Manifest.{dep_view, deps_in}
use Rattle.deny_spec.specs.Keys.{crate_key, no_span}
use Rattle.deny_spans.specs.SpansView.{spans_view}
use Rattle.deny_rules_manifests.specs.private.Wildcards.{unresolved_key_at}
use Rattle.deny_rules_manifests.proofs.WildcardLemmas.{nothing_found, something_found}
use Rattle.deny_rules_manifests.proofs.wildcard_keys.add_active.Goals as goal

pub returns-then-not-has_wildcard : goal.returns-then-not-has_wildcard
unfolding wildcards_in
returns-then-not-has_wildcard c =
    sym (ap (λ (keys : List Key). c.args.keys.now ++ keys)
    (nothing_found (spans_view c.args.spans.now) c.args.place
    (is_active_in (policy_view c.args.cfg.now) c.args.krates.now (crate_view c.args.place c.args.krate.now))
    (map dep_view (deps_in c.args.manifest.now)) (sym c.has_wildcard.ensures ∙ c.if-not-has_wildcard.true))
    ∙ append-nil c.args.keys.now)

pub returns : goal.returns
unfolding wildcards_in
returns c =
    let view = spans_view c.args.spans.now in
    let found = filter (is_active_in (policy_view c.args.cfg.now) c.args.krates.now
    (crate_view c.args.place c.args.krate.now)) (map dep_view (deps_in c.args.manifest.now)) in
    let rest = map (unresolved_key_at c.args.place) (filter (is_unresolved view) found) in
    let one = crate_key Wildcard c.args.place no_span in
    let some = something_found (spans_view c.args.spans.now) c.args.place
    (is_active_in (policy_view c.args.cfg.now) c.args.krates.now (crate_view c.args.place c.args.krate.now))
    (map dep_view (deps_in c.args.manifest.now)) (sym c.has_wildcard.ensures ∙ c.if-not-has_wildcard.false) in
    on_ok_weaker c.add_unresolved.result
    (λ added. added ∙ (ap (λ (keys : List Key). keys ++ rest)
    (c.in_ok-push.ensures.ok ∙ ap (λ (key : Key). c.args.keys.now ++ key ∷ [])
    (c.crate_key.ensures ∙ ap (λ (span : Span). crate_key Wildcard c.args.place span) c.no_span.ensures))
    ∙ (append_assoc c.args.keys.now (one ∷ []) rest
    ∙ ap (λ (keys : List Key). c.args.keys.now ++ keys) (sym some)))) c.add_unresolved.ensures
