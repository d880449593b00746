use Rattle.deny_cli.specs.private.Commands.{command_view}
use Rattle.deny_cli.specs.Arguments.{texts}
use Rattle.deny_cli.proofs.ArgumentsLemmas.{asks_for_few}
use Rattle.deny_cli.proofs.program.answer_to.Goals as goal

pub report_for_command-requires : goal.report_for_command-requires
report_for_command-requires g c = asks_for_few (texts c.args.arguments.now) (command_view c.in-Ok.command)
    c.in-Ok.ensures
