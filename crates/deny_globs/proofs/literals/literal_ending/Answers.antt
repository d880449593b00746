use Rattle.deny_globs.proofs.LiteralLemmas.{back_one, ends_all}
use Rattle.deny_globs.proofs.literals.literal_ending.Goals as goal

pub loop-token-preserved : goal.loop-token-preserved
loop-token-preserved c =
    back_one c.in-Some.ensures.steps c.in-Character.is c.in_ok-push-in-Character.ensures.items c.loop-token.invariant

pub returns : goal.returns
returns c = ends_all c.loop-token.invariant

pub returns-in_default : goal.returns-in_default
returns-in_default c = ends_all c.loop-token.invariant
