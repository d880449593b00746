use Rattle.std.proofs.Common.{◌≡◌, ◌++◌, None, Some, drop, map}
use Rattle.deny_krates_graph.specs.Crates.{crate_view}
use Rattle.deny_krates.specs.private.Sources.{parent_in}
use Rattle.deny_krates.proofs.incoming.add_own.Given as goal

abbrev pub invariant-loop-feature : goal.invariant-loop-feature
invariant-loop-feature l =
    l.parents ++ map (λ f. parent_in (crate_view l.place l.krate) None (Some f)) (drop l.feature-index l.enabled)
    ≡ l.fn.parents ++ map (λ f. parent_in (crate_view l.place l.krate) None (Some f)) l.enabled
