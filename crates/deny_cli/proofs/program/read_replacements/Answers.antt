use Rattle.std.proofs.Common.{ap}
use Rattle.std.specs.Prelude.{option_map}
use Rattle.deny_cli.specs.private.Commands.{text_view}
use Rattle.deny_cli.proofs.program.read_replacements.Goals as goal

pub returns-in-Err-clause-stop : goal.returns-in-Err-clause-stop
returns-in-Err-clause-stop g c =
    (c.in-Some.path.now, ap (option_map text_view) c.in-Some.is, c.in-Err.ensures.stop)
