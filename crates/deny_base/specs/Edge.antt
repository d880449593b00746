-- The order of edges: by parent, child and kind.
use Rattle.std.specs.Prelude.{ℕ}
use Rattle.std.specs.Ordering.{nat_cmp, on, then_cmp}
use Rattle.std.specs.declared.cmp.Ordering.{Ordering}
use Rattle.deny_base.specs.declared.edge.DepKind.{DepKind}
use Rattle.deny_base.specs.declared.edge.DepKind.TheVariants.{Normal, Dev, Build}
use Rattle.deny_base.specs.declared.edge.Edge.{Edge}

unfoldable pub kind_number : DepKind → ℕ
kind_number Normal = 0
kind_number Dev = 1
kind_number Build = 2

abbrev pub kind_cmp : DepKind → DepKind → Ordering
kind_cmp = on kind_number nat_cmp

abbrev pub edge_cmp : Edge → Edge → Ordering
edge_cmp = then_cmp (on (λ e. e.parent) nat_cmp) (then_cmp (on (λ e. e.child) nat_cmp) (on (λ e. e.kind) kind_cmp))
