use Rattle.std.proofs.Common.{refl}
use Rattle.std.proofs.Math.Nat.{sub-zero}
use Rattle.std.proofs.lemmas.Iterator.{YieldsList-from_range, items_from_collect}
use Rattle.deny_cli_generator.proofs.made.below.Goals as goal

pub returns : goal.returns
returns c = items_from_collect _ c.collect.ensures.ran
    (YieldsList-from_range 0 c.args.bound c.args.bound refl (sub-zero c.args.bound))
