use Rattle.std.proofs.Common.{◌≡◌, drop}
use Rattle.std.specs.List.{list_any}
use Rattle.deny_cfg.specs.PolicyView.{replacing_view}
use Rattle.deny_spec_report.specs.Saying.{Items}
use Rattle.deny_std.specs.private.Dependents.{may_replace_at}
use Rattle.deny_std.specs.private.StableSince.{IsLeastMinor}
use Rattle.deny_std.proofs.dependents.is_one_replacing.Given as goal

abbrev pub invariant-loop-parent : goal.invariant-loop-parent
invariant-loop-parent l = (items : Items) → IsLeastMinor items l.least
    → list_any (λ d. may_replace_at (replacing_view l.scoped.cfg.now) l.scoped.krates.now items d.place)
    (drop l.parent-index l.parents)
    ≡ list_any (λ d. may_replace_at (replacing_view l.scoped.cfg.now) l.scoped.krates.now items d.place) l.parents
