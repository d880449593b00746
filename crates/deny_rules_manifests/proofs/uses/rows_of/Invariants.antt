use Rattle.std.proofs.Common.{length, take}
use Rattle.std.specs.List.{flat_map}
use Rattle.deny_cfg.specs.PolicyView.{sharing_view}
use Rattle.deny_spec_report.specs.Sharing.{uses_at}
use Rattle.deny_spans.specs.SpansView.{spans_view}
use Rattle.deny_rules_manifests.specs.private.Rows.{AreRowsOf}
use Rattle.deny_rules_manifests.proofs.uses.rows_of.Given as goal

abbrev pub invariant-loop-member : goal.invariant-loop-member
invariant-loop-member l = AreRowsOf (length l.krates.crates)
    (flat_map (uses_at (sharing_view l.sharing) l.krates (spans_view l.spans)) (take l.member-index l.members))
    l.rows.items
