use Rattle.std.proofs.Common.{rules}
use Rattle.std.proofs.lemmas.List.Sorted.{IsPartitionPoint-from_clause}
use Rattle.std.specs.Ordering.{nat_cmp, on}
use Rattle.deny_krates.specs.private.Resolved.{is_before}
use Rattle.deny_krates.proofs.BeforeLemmas.{partitioned_before}
use Rattle.deny_krates.proofs.resolved.first_from.Goals as goal

pub returns-clause-point : goal.returns-clause-point
returns-clause-point c =
    let resolved = c.args.resolved.now in
    IsPartitionPoint-from_clause (λ r. is_before r.child r.parent c.args.child c.args.parent) resolved
    c.partition_point.result c.partition_point.ensures.partitioned
    (partitioned_before (λ r. r.child) (λ r. r.parent) (on (λ r. r.index) nat_cmp) resolved c.args.child
    c.args.parent c.requires) (λ a r f called. search rules)
