use Rattle.std.proofs.Common.{sym, arith}
use Rattle.std.proofs.lemmas.List.{take_all, length-take-le}
use Rattle.deny_build_file.proofs.script.first_bytes.Goals as goal

pub slice_bounds-result-end : goal.slice_bounds-result-end
slice_bounds-result-end c = sym (length-take-le 256 c.args.prefix.now (omega arith))

pub returns-else-prefix-gt256-clause-prefix : goal.returns-else-prefix-gt256-clause-prefix
returns-else-prefix-gt256-clause-prefix c = sym (take_all 256 c.args.prefix.now (omega arith))

pub returns-then-prefix-gt256-clause-short : goal.returns-then-prefix-gt256-clause-short
returns-then-prefix-gt256-clause-short c = omega (arith, length-take-le 256 c.args.prefix.now (omega arith))
