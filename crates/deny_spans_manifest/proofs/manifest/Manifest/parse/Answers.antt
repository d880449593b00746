use Rattle.deny_spans_manifest.proofs.manifest.Manifest.parse.Goals as goal

pub returns-clause-manifest : goal.returns-clause-manifest
returns-clause-manifest c = c.manifest_by.ensures.manifest c.args.contents.now c.in_ok-tree.ensures.tree

pub returns-clause-krate : goal.returns-clause-krate
returns-clause-krate c = c.manifest_by.ensures.krate

pub returns-clause-id : goal.returns-clause-id
returns-clause-id c = c.manifest_by.ensures.id

pub returns-clause-toml : goal.returns-clause-toml
returns-clause-toml c = λ e. absurd (c.manifest_by.ensures.toml e)

pub returns-clause-no_node : goal.returns-clause-no_node
returns-clause-no_node c = λ e. record {
  tree = c.in_ok-tree.tree;
  reads = c.in_ok-tree.ensures.tree;
  none = c.manifest_by.ensures.no_node e;
}
