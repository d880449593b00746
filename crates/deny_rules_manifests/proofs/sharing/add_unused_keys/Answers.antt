use Rattle.std.proofs.Common.{List, None, map, sym, ap, ◌∙◌, ◌++◌, append-nil}
use Rattle.std.specs.Prelude.{option_map}
use Rattle.std.proofs.lemmas.Result.{on_ok_weaker}
use Rattle.deny_base.specs.declared.key.Key.{Key}
use Rattle.deny_cfg.specs.PolicyView.{policy_view, sharing_view}
use Rattle.deny_spec_report.specs.Sharing.{unused_entry_key}
use Rattle.deny_spans.specs.SpansView.{spans_view}
use Rattle.deny_spans_workspace.specs.Workspace.{dep_view}
use Rattle.deny_spans_workspace.specs.declared.workspace.UnusedWorkspaceDep.{UnusedWorkspaceDep}
use Rattle.deny_rules_manifests.proofs.SharingLemmas.{none_unused, unused_are}
use Rattle.deny_rules_manifests.proofs.sharing.add_unused_keys.Goals as goal

pub returns-then-not-is_active : goal.returns-then-not-is_active
returns-then-not-is_active c =
    let p = policy_view c.args.cfg.now in
    let view = spans_view c.args.spans.now in
    sym (ap (λ (keys : List Key). c.args.keys.now ++ keys)
    (none_unused p view (sharing_view c.in-Some.sharing) (ap (option_map sharing_view) c.in-Some.is)
    (sym c.is_active.ensures ∙ c.if-not-is_active.true)) ∙ append-nil c.args.keys.now)

pub returns : goal.returns
returns c =
    let p = policy_view c.args.cfg.now in
    let view = spans_view c.args.spans.now in
    on_ok_weaker c.add_unused.result
    (λ added. added ∙ ap (λ (keys : List Key). c.args.keys.now ++ keys)
    (ap (λ (entries : List UnusedWorkspaceDep). map unused_entry_key (map (dep_view None) entries)) c.as_slice.ensures
    ∙ unused_are p view (sharing_view c.in-Some.sharing) (ap (option_map sharing_view) c.in-Some.is)
    (sym c.is_active.ensures ∙ c.if-not-is_active.false))) c.add_unused.ensures
