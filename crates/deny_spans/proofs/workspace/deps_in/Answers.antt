use Rattle.std.proofs.Common.{Some, refl}
use Rattle.deny_spans.proofs.workspace.deps_in.Goals as goal

pub returns-in_ok-workspace_deps-in-Ok : goal.returns-in_ok-workspace_deps-in-Ok
returns-in_ok-workspace_deps-in-Ok c = record {
  tree = Some c.in-Ok.tree;
  reads = (c.utf8.text, c.in-Ok.ensures.tree);
  are = record {
    some = refl;
    are = record {
      spans = c.in_ok-workspace_deps-in-Ok.ensures.spans;
      unused = c.in_ok-workspace_deps-in-Ok.ensures.unused;
    };
  };
}
