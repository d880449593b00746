use Rattle.std.proofs.Common.{rules}
use Rattle.std.proofs.lemmas.List.Sorted.{IsPartitionPoint-from_clause, searchable_from_sorted}
use Rattle.std.specs.Cmp.Lexicographic.{slice_cmp, nat_list_cmp_total}
use Rattle.std.specs.Ordering.{nat_cmp, is_lt}
use Rattle.deny_base_lists.proofs.Orders.{partitioned_lt}
use Rattle.deny_krates.proofs.names.first_at_least.Goals as goal

pub returns-clause-point : goal.returns-clause-point
returns-clause-point c =
    let krates = c.args.krates.now in
    let name = c.args.name.now in
    IsPartitionPoint-from_clause (λ k. is_lt (slice_cmp nat_cmp k.name name)) krates c.partition_point.result
    c.partition_point.ensures.partitioned
    (partitioned_lt (λ k. slice_cmp nat_cmp k.name name) krates
    (searchable_from_sorted nat_list_cmp_total (λ k. k.name) krates name c.requires))
    (λ a r f called. search rules)
