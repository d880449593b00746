use Rattle.std.proofs.Common.{inr}
use Rattle.deny_toml.proofs.ParserLaws.{outside}
use Rattle.deny_toml.proofs.parser.expressions.Goals as goal

pub returns-in-Ok : goal.returns-in-Ok
returns-in-Ok c = record {
  document = record { written = c.in-Ok.ensures.found; only = c.in-Ok.ensures.only };
  cause = tt;
  lies = tt;
}

pub returns-in-Err-Grammar-clause-cause : goal.returns-in-Err-Grammar-clause-cause
returns-in-Err-Grammar-clause-cause c =
    inr (outside c.args.text.now c.in-Err-Grammar.left c.in-Err-Grammar.field-0 c.in-Err-Grammar.field-0-is
    c.in-Err-Grammar.ensures.refused)
