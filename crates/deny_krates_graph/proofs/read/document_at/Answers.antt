use Rattle.deny_krates_graph.proofs.BuildLemmas.{document_fails, document_holds}
use Rattle.deny_krates_graph.proofs.read.document_at.Goals as goal

pub returns-clause-ok : goal.returns-clause-ok
returns-clause-ok c = document_holds c.args.bytes.now c.document_at.result c.document_at.ensures

pub returns-clause-err : goal.returns-clause-err
returns-clause-err c = document_fails c.args.bytes.now c.document_at.result c.document_at.ensures
