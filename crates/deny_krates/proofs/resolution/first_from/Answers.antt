use Rattle.std.proofs.Common.{rules}
use Rattle.std.proofs.lemmas.List.Sorted.{IsPartitionPoint-from_clause}
use Rattle.std.specs.Cmp.Lexicographic.{slice_cmp}
use Rattle.std.specs.Option.{option_cmp}
use Rattle.std.specs.Ordering.{nat_cmp, on, then_cmp}
use Rattle.deny_base.specs.Edge.{kind_cmp}
use Rattle.deny_krates.specs.private.Resolved.{is_before}
use Rattle.deny_krates.proofs.BeforeLemmas.{partitioned_before}
use Rattle.deny_krates.proofs.resolution.first_from.Goals as goal

pub returns-clause-point : goal.returns-clause-point
returns-clause-point c =
    let edges = c.args.edges.now in
    IsPartitionPoint-from_clause (λ e. is_before e.parent e.child c.args.parent c.args.child) edges
    c.partition_point.result c.partition_point.ensures.partitioned
    (partitioned_before (λ e. e.parent) (λ e. e.child)
    (then_cmp (on (λ e. e.kind) kind_cmp) (on (λ e. e.target) (option_cmp (slice_cmp nat_cmp)))) edges c.args.parent
    c.args.child c.requires) (λ a r f called. search rules)
