use Rattle.std.proofs.Common.{◌≡◌, ◌++◌, Some, drop, filter, map}
use Rattle.deny_krates_graph.specs.Crates.{crate_view}
use Rattle.deny_krates.specs.private.Sources.{is_led_over, parent_in}
use Rattle.deny_krates.proofs.incoming.add_led_over.Given as goal

abbrev pub invariant-loop-from : goal.invariant-loop-from
invariant-loop-from l =
    l.parents ++ map (λ f. parent_in (crate_view l.place l.krate) (Some l.kind) (Some f))
    (filter (is_led_over l.krate l.run l.kind l.feature) (drop l.from-index l.enabled))
    ≡ l.fn.parents ++ map (λ f. parent_in (crate_view l.place l.krate) (Some l.kind) (Some f))
    (filter (is_led_over l.krate l.run l.kind l.feature) l.enabled)
