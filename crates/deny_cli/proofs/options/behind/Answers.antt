use Rattle.deny_cli.proofs.OptionLemmas.{behind_is}
use Rattle.deny_cli.proofs.options.behind.Goals as goal

pub returns : goal.returns
returns c = behind_is c.strip_prefix.result c.args.prefix.now c.args.argument.now c.strip_prefix.ensures.cases
