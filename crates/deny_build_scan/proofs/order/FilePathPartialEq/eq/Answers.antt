use Rattle.std.proofs.Common.{◌∙◌}
use Rattle.deny_build_scan.proofs.OrderLemmas.{same_paths}
use Rattle.deny_build_scan.proofs.order.FilePathPartialEq.eq.Goals as goal

pub returns : goal.returns
returns c = c.eq.ensures ∙ same_paths c.args.self.now.path c.args.other.now.path
