-- What messages about a workspace are made from: the declarations that count, and the unused entries.
use Rattle.deny_cfg.specs.PolicyView.{policy_view}
use Rattle.deny_rules_manifests.specs.Uses.{AreUses}
use Rattle.deny_rules_manifests.specs.declared.uses.Uses.{Uses}
use Rattle.deny_spans.specs.SpansView.{spans_view}
use Rattle.deny_diags_parts.specs.BySpan.{IsBySpan}
use Rattle.deny_diags_parts.specs.declared.by_span.BySpan.{BySpan}
use Rattle.deny_diags_parts.specs.declared.context.DiagContext.{DiagContext}
use Rattle.deny_spans_workspace.specs.declared.workspace.UnusedWorkspaceDep.{UnusedWorkspaceDep}

abbrev pub AreUsesOf : DiagContext → Uses → Type 0
AreUsesOf ctx uses = AreUses (policy_view ctx.cfg.now) ctx.krates.now (spans_view ctx.spans.now) uses

abbrev pub AreUnusedOf : DiagContext → BySpan UnusedWorkspaceDep → Type 0
AreUnusedOf ctx unused = IsBySpan (λ e. e.key) ctx.spans.now.unused_workspace_deps unused
