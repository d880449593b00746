use Rattle.std.proofs.Common.{◌∙◌}
use Rattle.deny_krates_sources.specs.Checked.{checked, resolved}
use Rattle.deny_krates_graph.specs.Read.{IsGraphOf, graph_read}
use Rattle.deny_krates_graph.proofs.BuildLemmas.{graph_is}
use Rattle.deny_base_lists.proofs.ReaderLemmas.{if_err_handed, if_err_weaker}
use Rattle.deny_base_lists.proofs.Results.{if_ok_then}
use Rattle.deny_base_lists.specs.Reader.{IsFault}
use Rattle.deny_krates_metadata.specs.declared.fault.MetadataFault.TheVariants.{Memory}
use Rattle.deny_krates_graph.proofs.read.graph_at.Goals as goal

pub returns-in_err-document-clause-err : goal.returns-in_err-document-clause-err
returns-in_err-document-clause-err c =
    if_err_handed Memory _ _ c.in_err-document.field-0.0 c.from_residual.ensures.1
    c.in_err-document.ensures.err

pub returns-clause-ok : goal.returns-clause-ok
returns-clause-ok c =
    let bytes = c.args.bytes.now in
    let doc = c.in_ok-document.document in
    if_ok_then {Q = λ r. IsGraphOf bytes (graph_read r)} c.graph_of_document.result c.graph_of_document.ensures.ok
    (λ g is. graph_is bytes doc (graph_read g) c.in_ok-document.ensures.ok is)

pub returns-clause-err : goal.returns-clause-err
returns-clause-err c =
    let bytes = c.args.bytes.now in
    let doc = c.in_ok-document.document in
    if_err_weaker Memory (IsFault (resolved doc)) (IsFault (checked bytes)) c.graph_of_document.result
    (λ f is. c.in_ok-document.ensures.ok ∙ is)
    c.graph_of_document.ensures.err
