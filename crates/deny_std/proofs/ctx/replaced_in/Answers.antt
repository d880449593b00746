use Rattle.std.proofs.Common.{◌≡◌, List, ℕ, ap, ◌∙◌, subst}
use Rattle.std.specs.Prelude.{IfOk}
use Rattle.deny_cfg.specs.PolicyView.{replacing_view}
use Rattle.deny_spec_report.specs.Saying.{said_in}
use Rattle.deny_spec.specs.Graph.{Graph}
use Rattle.deny_std.specs.private.Partition.{replaced_in}
use Rattle.deny_std.proofs.ctx.replaced_in.Goals as goal

pub returns : goal.returns
returns c =
    let said = said_in c.args.table.now in
    subst (λ (are : List ℕ). IfOk c.replaced_places.result (λ (places : List ℕ). places ≡ are))
    (ap (λ cfg. replaced_in (replacing_view cfg) c.in_ok-scoped.scoped.krates.now said) c.in_ok-scoped.ensures.cfg
    ∙ ap (λ (graph : Graph). replaced_in (replacing_view c.args.cfg.now) graph said) c.in_ok-scoped.ensures.krates)
    c.replaced_places.ensures
