use Rattle.std.proofs.Common.{◌≡◌, filter, map, take}
use Rattle.deny_cfg.specs.PolicyView.{replacing_view}
use Rattle.deny_spec_report.specs.Saying.{said_in}
use Rattle.deny_spec_report.specs.StdReplacements.{is_replaced}
use Rattle.deny_std.proofs.replaced.replaced_places.Given as goal

abbrev pub invariant-loop-place : goal.invariant-loop-place
invariant-loop-place l =
    l.places ≡ map (λ c. c.place)
    (filter (is_replaced (replacing_view l.scoped.cfg.now) l.scoped.krates.now (said_in l.table))
    (take l.place l.scoped.krates.now.crates))
