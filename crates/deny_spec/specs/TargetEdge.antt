-- The order of target edges: by parent, child, kind and target, none first.
use Rattle.std.specs.Cmp.Lexicographic.{slice_cmp}
use Rattle.std.specs.Option.{option_cmp}
use Rattle.std.specs.Ordering.{nat_cmp, on, then_cmp}
use Rattle.std.specs.declared.cmp.Ordering.{Ordering}
use Rattle.deny_base.specs.Edge.{kind_cmp}
use Rattle.deny_base.specs.declared.edge.Edge.{Edge}
use Rattle.deny_spec.specs.declared.target_edge.TargetEdge.{TargetEdge}

abbrev pub target_edge_cmp : TargetEdge → TargetEdge → Ordering
target_edge_cmp =
    then_cmp (on (λ e. e.parent) nat_cmp) (then_cmp (on (λ e. e.child) nat_cmp)
    (then_cmp (on (λ e. e.kind) kind_cmp) (on (λ e. e.target) (option_cmp (slice_cmp nat_cmp)))))

-- the edge of a target edge, without its target
abbrev pub edge_of : TargetEdge → Edge
edge_of e = record { parent = e.parent; child = e.child; kind = e.kind }
