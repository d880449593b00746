use Rattle.std.proofs.Common.{◌≡◌, ◌∙◌, Option, ap, subst, sym}
use Rattle.std.specs.Borrow.{Bor}
use Rattle.std.specs.Option.{option_copied, option_flatten}
use Rattle.std.specs.Prelude.{IfSome, option_map, slice_get}
use Rattle.deny_spans.specs.SpansView.{IsSharedAt}
use Rattle.deny_spans.proofs.SharedLemmas.{copied_map, copied_some, got_at, shared_got}
use Rattle.deny_spans.proofs.krate_spans.KrateSpans.shared_at.Goals as goal
use Rattle.deny_spans_workspace.specs.Workspace.{span_view}
use Rattle.deny_spans_workspace.specs.declared.workspace.WorkspaceSpan.{WorkspaceSpan}

pub returns-in_err-get-clause-is : goal.returns-in_err-get-clause-is
returns-in_err-get-clause-is c =
    let place = c.args.place in
    let at = got_at c.as_slice.result.now c.args.self.now.shared place c.get.result c.get.ensures.lookup.0
    c.get.ensures.lookup.1 c.as_slice.ensures in
    ap (λ (r : Option (Bor WorkspaceSpan)). option_map (λ s. span_view place s.now) r) c.from_residual.ensures
    ∙ sym (shared_got c.args.self.now.shared place
    ∙ ap (λ (o : Option (Option WorkspaceSpan)). option_map (span_view place) (option_flatten o))
    (at ∙ ap (λ (r : Option (Bor (Option WorkspaceSpan))). option_copied r) c.in_err-get.was))

pub returns-clause-is : goal.returns-clause-is
returns-clause-is c =
    let place = c.args.place in
    let at = got_at c.as_slice.result.now c.args.self.now.shared place c.get.result c.get.ensures.lookup.0
    c.get.ensures.lookup.1 c.as_slice.ensures in
    copied_map (span_view place) c.as_ref.result
    ∙ ap (option_map (span_view place)) c.as_ref.ensures.value
    ∙ sym (shared_got c.args.self.now.shared place
    ∙ ap (λ (o : Option (Option WorkspaceSpan)). option_map (span_view place) (option_flatten o))
    (at ∙ ap (λ (r : Option (Bor (Option WorkspaceSpan))). option_copied r) c.in_ok-get.was))

pub returns-clause-of : goal.returns-clause-of
returns-clause-of c = λ g are.
    let place = c.args.place in
    let at = got_at c.as_slice.result.now c.args.self.now.shared place c.get.result c.get.ensures.lookup.0
    c.get.ensures.lookup.1 c.as_slice.ensures in
    let span : option_flatten (slice_get c.args.self.now.shared place) ≡ option_copied c.as_ref.result =
    ap (λ (o : Option (Option WorkspaceSpan)). option_flatten o)
    (at ∙ ap (λ (r : Option (Bor (Option WorkspaceSpan))). option_copied r) c.in_ok-get.was)
    ∙ sym c.as_ref.ensures.value in
    copied_some (IsSharedAt g place) c.as_ref.result
    (subst (λ (o : Option WorkspaceSpan). IfSome o (IsSharedAt g place)) span (are.shared place))
