use Rattle.std.proofs.Common.{◌∙◌, ap, sym}
use Rattle.deny_cli.specs.Arguments.{is_plain}
use Rattle.deny_cli.proofs.CountLemmas.{few, many, too_many}
use Rattle.deny_cli.proofs.arguments.count_of.Goals as goal

pub returns-then-crates-le-MOST_CRATES : goal.returns-then-crates-le-MOST_CRATES
returns-then-crates-le-MOST_CRATES c =
    few c.args.argument.now c.parse.result c.parse.ensures.value.0
    (ap is_plain (sym c.as_bytes.ensures.value) ∙ (sym c.is_plain.ensures ∙ c.if-not-is_plain.false)) c.in-Ok.crates
    c.in-Ok.is c.if-crates-le-MOST_CRATES.true

pub returns-else-crates-le-MOST_CRATES : goal.returns-else-crates-le-MOST_CRATES
returns-else-crates-le-MOST_CRATES c =
    many c.args.argument.now c.parse.result c.parse.ensures.value.0
    (ap is_plain (sym c.as_bytes.ensures.value) ∙ (sym c.is_plain.ensures ∙ c.if-not-is_plain.false)) c.in-Ok.crates
    c.in-Ok.is c.if-crates-le-MOST_CRATES.false

pub returns-in-Err : goal.returns-in-Err
returns-in-Err c =
    too_many c.args.argument.now c.parse.result c.parse.ensures.value.0
    (ap is_plain (sym c.as_bytes.ensures.value) ∙ (sym c.is_plain.ensures ∙ c.if-not-is_plain.false)) _ c.in-Err.is
