-- Only equal target edges tie.
use Rattle.std.proofs.Common.{◌≡◌, ℕ, List, Option, refl}
use Rattle.std.specs.Cmp.{IsTotalOrder, nat_cmp_total, on_total, then_total}
use Rattle.std.specs.Cmp.Lexicographic.{slice_cmp, nat_list_cmp_total, options_total}
use Rattle.std.specs.FinMap.{IsAntisymmetric, nat_cmp-IsAntisymmetric}
use Rattle.std.specs.Option.{option_cmp}
use Rattle.std.specs.Ordering.{nat_cmp}
use Rattle.deny_base.specs.Edge.{kind_cmp, kind_number}
use Rattle.deny_base.specs.declared.edge.DepKind.{DepKind}
use Rattle.deny_base.proofs.EdgeEqual.{kind_cmp-exact}
use Rattle.deny_base_lists.proofs.Orders.{option_text_cmp-exact, then_first, then_second}
use Rattle.deny_spec.specs.TargetEdge.{target_edge_cmp}
use Rattle.deny_spec.specs.declared.target_edge.TargetEdge.{TargetEdge}

target_edge_from : ℕ → ℕ → DepKind → Option (List ℕ) → TargetEdge
target_edge_from parent child kind target = record { parent = parent; child = child; kind = kind; target = target }

target_edge_from-is : (e : TargetEdge) → target_edge_from e.parent e.child e.kind e.target ≡ e
unfolding target_edge_from
target_edge_from-is e = refl

pub target_edge_cmp-exact : IsAntisymmetric target_edge_cmp
target_edge_cmp-exact a b e =
    let after_parent = then_second (nat_cmp a.parent b.parent) _ e in
    let after_child = then_second (nat_cmp a.child b.child) _ after_parent in
    let parent : a.parent ≡ b.parent = nat_cmp-IsAntisymmetric a.parent b.parent (then_first _ _ e) in
    let child : a.child ≡ b.child = nat_cmp-IsAntisymmetric a.child b.child (then_first _ _ after_parent) in
    let kind : a.kind ≡ b.kind = kind_cmp-exact a.kind b.kind (then_first _ _ after_child) in
    let target : a.target ≡ b.target = option_text_cmp-exact a.target b.target
    (then_second (kind_cmp a.kind b.kind) (option_cmp (slice_cmp nat_cmp) a.target b.target) after_child) in
    cc (target_edge_from-is a, target_edge_from-is b)

pub target_edge_cmp-total : IsTotalOrder target_edge_cmp
target_edge_cmp-total =
    then_total (on_total (λ (e : TargetEdge). e.parent) nat_cmp_total)
    (then_total (on_total (λ (e : TargetEdge). e.child) nat_cmp_total)
    (then_total (on_total (λ (e : TargetEdge). e.kind) (on_total kind_number nat_cmp_total))
    (on_total (λ (e : TargetEdge). e.target) (options_total nat_list_cmp_total))))
