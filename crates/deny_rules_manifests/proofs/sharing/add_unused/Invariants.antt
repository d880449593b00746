use Rattle.std.proofs.Common.{◌≡◌, ◌++◌, None, drop, map}
use Rattle.deny_spec_report.specs.Sharing.{unused_entry_key}
use Rattle.deny_spans_workspace.specs.Workspace.{dep_view}
use Rattle.deny_rules_manifests.proofs.sharing.add_unused.Given as goal

abbrev pub invariant-loop-entry : goal.invariant-loop-entry
invariant-loop-entry l =
    l.keys ++ map unused_entry_key (map (dep_view None) (drop l.entry-index l.entries))
    ≡ l.fn.keys ++ map unused_entry_key (map (dep_view None) l.entries)
