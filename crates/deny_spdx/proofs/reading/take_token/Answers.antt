use Rattle.deny_spdx.proofs.ReadingLemmas.{stuck_byte, stuck_token}
use Rattle.deny_spdx.proofs.reading.take_token.Goals as goal

pub returns-in-NoToken : goal.returns-in-NoToken
returns-in-NoToken g c = stuck_byte g.R.TokenReader.step c.args.reader c.args.rest.now c.in_ok-read_prefix.field-0
    c.in_ok-read_prefix.ensures c.in-NoToken.is

pub returns-in-None : goal.returns-in-None
returns-in-None g c = stuck_token g.R.TokenReader.step c.args.reader c.args.rest.now c.in_ok-read_prefix.field-0
    c.in-Token.token c.in-Token.length c.in_ok-after-in-Token.field-0 c.in_ok-read_prefix.ensures c.in-Token.is
    c.in_ok-after-in-Token.ensures c.in-None.is
