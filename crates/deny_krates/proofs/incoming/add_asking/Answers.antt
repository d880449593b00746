use Rattle.std.proofs.Common.{◌∙◌, ◌++◌, ◌∷◌, [], None, Some, ap, append-nil, sym}
use Rattle.std.specs.Prelude.{cond}
use Rattle.deny_krates.specs.private.Sources.{parent_in}
use Rattle.deny_krates.proofs.incoming.add_asking.Goals as goal

pub returns-in_ok-push_crate : goal.returns-in_ok-push_crate
returns-in_ok-push_crate c x p x_at p_at =
    c.in_ok-push_crate.ensures p p_at
    ∙ ap (λ b. c.args.parents.now ++ cond b (parent_in p (Some c.args.kind) None ∷ []) [])
    (sym c.if-leads_by_asking.true ∙ c.leads_by_asking.ensures x p x_at p_at)

pub returns-else-leads_by_asking : goal.returns-else-leads_by_asking
returns-else-leads_by_asking c x p x_at p_at =
    sym (append-nil c.args.parents.now)
    ∙ ap (λ b. c.args.parents.now ++ cond b (parent_in p (Some c.args.kind) None ∷ []) [])
    (sym c.if-leads_by_asking.false ∙ c.leads_by_asking.ensures x p x_at p_at)
