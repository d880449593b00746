use Rattle.std.specs.Cmp.{IsTotalOrder, nat_cmp_total, on_total, then_total}
use Rattle.std.specs.Cmp.Lexicographic.{nat_list_cmp_total}
use Rattle.semver.specs.OrderLaws.{pre_total}
use Rattle.semver.specs.Parse.{Parts}
use Rattle.deny_base_lists.proofs.Sorted.{one_list}
use Rattle.deny_spec.specs.Graph.{Crate}
use Rattle.deny_spec.specs.VersionOrder.{precedence, version_cmp}
use Rattle.deny_spec.proofs.laws.one_group.Goals as goal

precedence-total : IsTotalOrder precedence
precedence-total =
    then_total (on_total (λ (v : Parts). v.0) nat_cmp_total)
    (then_total (on_total (λ (v : Parts). v.1) nat_cmp_total)
    (then_total (on_total (λ (v : Parts). v.2) nat_cmp_total)
    (on_total (λ (v : Parts). v.3) pre_total)))

version_cmp-total : IsTotalOrder version_cmp
version_cmp-total = then_total (on_total (λ (c : Crate). c.version) precedence-total)
    (on_total (λ (c : Crate). c.id) nat_list_cmp_total)

pub returns : goal.returns
returns c = λ p g facts name xs ys these those. one_list version_cmp-total xs ys these those
