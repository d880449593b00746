use Rattle.std.proofs.Common.{◌++◌, ◌<◌, ℕ, List, length}
use Rattle.std.specs.Prelude.{All}
use Rattle.deny_cfg.specs.PolicyView.{sharing_view}
use Rattle.deny_spec_report.specs.Sharing.{Use, uses_in}
use Rattle.deny_spans_manifest.specs.Manifest.{deps_left}
use Rattle.deny_spans.specs.SpansView.{manifest_view}
use Rattle.deny_rules_manifests.specs.private.Rows.{AreRowsBut, AreRowsOf, counted_in}
use Rattle.deny_rules_manifests.proofs.uses.put_manifest_uses.Given as goal

abbrev pub invariant-loop-dep : goal.invariant-loop-dep
invariant-loop-dep l = record {
  inside : All (λ d. d.place < length l.rows.items) (deps_left l.dep-iterator);
  put : (uses : List Use) (crates : ℕ) → AreRowsOf crates uses l.fn.rows.items
      → AreRowsBut crates (counted_in l.manifest.id (sharing_view l.sharing) (deps_left l.dep-iterator))
      (uses ++ uses_in (sharing_view l.sharing) (manifest_view l.manifest)) l.rows.items;
}
