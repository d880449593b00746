use Rattle.std.proofs.Common.{sym, subst}
use Rattle.deny_krates_graph.specs.Read.{IsGraphOf}
use Rattle.deny_base_lists.proofs.ReaderLemmas.{if_err_handed}
use Rattle.deny_krates_metadata.specs.declared.fault.MetadataFault.TheVariants.{Memory}
use Rattle.deny_spec.specs.Graph.{Graph}
use Rattle.deny_krates.proofs.krates.Krates.build.Goals as goal

pub returns-in_err-graph-clause-err : goal.returns-in_err-graph-clause-err
returns-in_err-graph-clause-err c =
    if_err_handed Memory _ _ c.in_err-graph.field-0.0 c.from_residual.ensures.1
    c.in_err-graph.ensures.err

pub returns-clause-ok : goal.returns-clause-ok
returns-clause-ok c =
    subst (λ (g : Graph). IsGraphOf c.args.bytes.now g) (sym c.in_ok-finish.ensures) c.in_ok-graph.ensures.ok
