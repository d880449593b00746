use Rattle.deny_krates_sources.specs.Checked.{Resolved}
use Rattle.deny_krates_graph.proofs.ResolvedLemmas.{resolved_is}
use Rattle.deny_krates_graph.proofs.read.graph_of_document.Goals as goal

pub put_together-requires-clause-resolved : goal.put_together-requires-clause-resolved
put_together-requires-clause-resolved c =
    (resolved_is c.args.document _ c.in_ok-resolution.ensures.numbers).0

pub returns-clause-ok : goal.returns-clause-ok
returns-clause-ok c =
    let r : Resolved = record {
      document = c.args.document;
      starts = c.in_ok-resolution.resolution.starts;
      rows = c.in_ok-resolution.resolution.rows;
    } in (r, c.in_ok-resolution.ensures.numbers, c.in_ok-put_together.ensures.graph)
