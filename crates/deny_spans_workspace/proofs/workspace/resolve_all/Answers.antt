use Rattle.std.proofs.Common.{◌∙◌, ◌<◌, ap, length, subst, sym}
use Rattle.std.specs.Prelude.{IfSome}
use Rattle.deny_spans_workspace.specs.Workspace.{dep_view}
use Rattle.deny_spans_workspace.proofs.WorkspaceLemmas.{kept_at, kept_unused}
use Rattle.deny_spans_workspace.proofs.workspace.resolve_all.Goals as goal

pub entries-preserved-in-Some-place : goal.entries-preserved-in-Some-place
entries-preserved-in-Some-place c =
    let g = c.args.krates.now in
    let dep = c.in_ok-dep.field-0.dep in
    kept_at g c.args.registries.now c.entries.yielded c.in-Some.entry c.in-Some-place.place dep c.entries.spans.items
    c.put.new.spans.items c.entries.unused
    (ap (λ place. dep_view place dep) (sym c.in-Some-place.is) ∙ c.in_ok-dep.ensures.entry)
    (subst (λ o. IfSome o (λ p. p < length g.crates)) c.in-Some-place.is c.in_ok-dep.ensures.within) c.put.ensures
    c.entries.invariant

pub entries-preserved : goal.entries-preserved
entries-preserved c =
    let dep = c.in_ok-dep.field-0.dep in
    kept_unused c.args.krates.now c.args.registries.now c.entries.yielded c.in-Some.entry dep c.entries.spans.items
    c.entries.unused c.push.new.self
    (ap (λ place. dep_view place dep) (sym c.in-None-place.is) ∙ c.in_ok-dep.ensures.entry)
    c.in_ok-push-in-None-place.ensures.ok c.entries.invariant
