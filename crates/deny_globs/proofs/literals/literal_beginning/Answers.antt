use Rattle.std.proofs.Common.{arith}
use Rattle.deny_globs.proofs.LiteralLemmas.{drop_token, read_none, read_one, begins_all}
use Rattle.deny_globs.proofs.literals.literal_beginning.Goals as goal

pub loop-token-init : goal.loop-token-init
loop-token-init c = read_none c.args.tokens.now c.new-literal.ensures.items

pub loop-token-preserved : goal.loop-token-preserved
loop-token-preserved c =
    read_one (drop_token c.args.tokens.now c.loop-token.token-index (omega arith) c.token-item.is c.in-Character.is)
    c.in_ok-push-in-Character.ensures.items c.loop-token.invariant

pub returns : goal.returns
returns c = begins_all c.loop-token.invariant

pub returns-in_default : goal.returns-in_default
returns-in_default c = begins_all c.loop-token.invariant
