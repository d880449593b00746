use Rattle.std.specs.Cmp.{nat_cmp_total, on_total, then_total}
use Rattle.deny_krates.specs.declared.resolved.ResolvedAt.{ResolvedAt}
use Rattle.deny_krates.proofs.resolved.resolved_order.Goals as goal

pub returns-clause-total : goal.returns-clause-total
returns-clause-total c = then_total (on_total (λ (r : ResolvedAt). r.child) nat_cmp_total)
    (then_total (on_total (λ (r : ResolvedAt). r.parent) nat_cmp_total)
    (on_total (λ (r : ResolvedAt). r.index) nat_cmp_total))
