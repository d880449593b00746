-- The order of files.
use Rattle.std.specs.Cmp.{IsTotalOrder, nat_cmp_total, on_total}
use Rattle.std.specs.Cmp.Lexicographic.{lists_total}
use Rattle.std.specs.Ordering.{on}
use Rattle.std.specs.declared.cmp.Ordering.{Ordering}
use Rattle.deny_spec.specs.Paths.{path_cmp, rank}
use Rattle.deny_build_scan.specs.declared.order.FilePath.{FilePath}

abbrev pub file_cmp : FilePath → FilePath → Ordering
file_cmp = on (λ file. file.path) path_cmp

pub file_cmp_total : IsTotalOrder file_cmp
file_cmp_total = on_total (λ (file : FilePath). file.path) (lists_total (on_total rank nat_cmp_total))
