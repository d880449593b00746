use Rattle.std.proofs.Common.{append-nil, subst, sym}
use Rattle.deny_base_lists.proofs.Results.{on_err_always}
use Rattle.deny_diags_parts.specs.Context.{circumstances_from as circumstances}
use Rattle.deny_diags_parts.specs.declared.context.DiagContext.{DiagContext}
use Rattle.deny_diags.specs.Reporting.{CanAllHold}
use Rattle.deny_diags.proofs.diag.report_all.Goals as goal

pub returns-in_err-writer-clause-prefix : goal.returns-in_err-writer-clause-prefix
returns-in_err-writer-clause-prefix c = on_err_always c.from_residual.result (0, sym (append-nil c.args.sink.now))

pub add_packs-requires-clause-hold : goal.add_packs-requires-clause-hold
add_packs-requires-clause-hold c =
    subst (λ (ctx : DiagContext). CanAllHold (circumstances ctx) c.args.keys.now)
    (sym c.in_ok-writer.ensures) c.requires.hold
