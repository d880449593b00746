use Rattle.deny_krates.specs.Crates.{crate_view}
use Rattle.deny_spans_manifest.proofs.manifest.manifest_by.Goals as goal

pub returns-clause-manifest : goal.returns-clause-manifest
returns-clause-manifest c = λ text reads. record {
  crate = crate_view c.in-Some.place c.args.krate.now;
  tree = c.args.tree.now;
  in_graph = c.in-Some.ensures.some;
  reads = reads;
  is = c.in_ok-manifest_at_place.ensures.is;
}
