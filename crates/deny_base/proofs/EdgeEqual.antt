-- Only equal edges tie.
use Rattle.std.proofs.Common.{◌≡◌, ℕ, [], ◌∷◌, slice_index_or, refl, sym, ap, ◌∙◌}
use Rattle.std.specs.Ordering.{nat_cmp}
use Rattle.std.specs.Cmp.{IsTotalOrder, nat_cmp_total, on_total, then_total}
use Rattle.std.specs.FinMap.{IsAntisymmetric, nat_cmp-IsAntisymmetric}
use Rattle.deny_base_lists.proofs.Orders.{then_first, then_second}
use Rattle.deny_base.specs.Edge.{kind_number, kind_cmp, edge_cmp}
use Rattle.deny_base.specs.declared.edge.DepKind.{DepKind}
use Rattle.deny_base.specs.declared.edge.DepKind.TheVariants.{Normal, Dev, Build}
use Rattle.deny_base.specs.declared.edge.Edge.{Edge}

kind_at : ℕ → DepKind
kind_at n = slice_index_or (Normal ∷ Dev ∷ Build ∷ []) n Normal

kind_at-number : (kind : DepKind) → kind_at (kind_number kind) ≡ kind
unfolding kind_at kind_number
kind_at-number Normal = refl
kind_at-number Dev = refl
kind_at-number Build = refl

pub kind_cmp-exact : IsAntisymmetric kind_cmp
kind_cmp-exact a b e = sym (kind_at-number a)
    ∙ (ap kind_at (nat_cmp-IsAntisymmetric (kind_number a) (kind_number b) e) ∙ kind_at-number b)

unfoldable pub edge_from : ℕ → ℕ → DepKind → Edge
edge_from parent child kind = record { parent = parent; child = child; kind = kind }

pub edge_from-is : (e : Edge) → edge_from e.parent e.child e.kind ≡ e
unfolding edge_from
edge_from-is e = refl

pub edge_cmp-exact : IsAntisymmetric edge_cmp
edge_cmp-exact a b e =
    let after_parent = then_second (nat_cmp a.parent b.parent) _ e in
    let parent : a.parent ≡ b.parent = nat_cmp-IsAntisymmetric a.parent b.parent (then_first _ _ e) in
    let child : a.child ≡ b.child = nat_cmp-IsAntisymmetric a.child b.child (then_first _ _ after_parent) in
    let kind : a.kind ≡ b.kind = kind_cmp-exact a.kind b.kind
    (then_second (nat_cmp a.child b.child) (kind_cmp a.kind b.kind) after_parent) in
    cc (edge_from-is a, edge_from-is b)

pub edge_cmp-total : IsTotalOrder edge_cmp
edge_cmp-total =
    then_total (on_total (λ (e : Edge). e.parent) nat_cmp_total)
    (then_total (on_total (λ (e : Edge). e.child) nat_cmp_total)
    (on_total (λ (e : Edge). e.kind) (on_total kind_number nat_cmp_total)))
