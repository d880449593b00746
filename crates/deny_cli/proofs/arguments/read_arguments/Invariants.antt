use Rattle.std.proofs.Common.{◌≡◌, Some, take}
use Rattle.deny_cli.specs.private.Commands.{form_view}
use Rattle.deny_cli.specs.Arguments.{filled, nothing, texts}
use Rattle.deny_cli.proofs.arguments.read_arguments.Given as goal

abbrev pub invariant-loop-at : goal.invariant-loop-at
invariant-loop-at l = filled (Some nothing) (take l.at (texts l.arguments)) ≡ Some (form_view l.form)
