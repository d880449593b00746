use Rattle.std.proofs.Common.{rules}
use Rattle.std.specs.Prelude.{nat_le}
use Rattle.std.proofs.lemmas.List.Sorted.{IsPartitionPoint-from_clause}
use Rattle.deny_krates.proofs.NumberLemmas.{partitioned_starts}
use Rattle.deny_krates.proofs.numbers.above.Goals as goal

pub returns-clause-point : goal.returns-clause-point
returns-clause-point c =
    let starts = c.args.starts.now in
    let number = c.args.number in
    IsPartitionPoint-from_clause (λ n. nat_le n number) starts c.partition_point.result
    c.partition_point.ensures.partitioned (partitioned_starts c.requires.0 c.requires.1 number starts c.requires.2)
    (λ a r f called. search rules)
