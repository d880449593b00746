use Rattle.std.proofs.Common.{◌≡◌, ◌++◌, drop}
use Rattle.deny_cli.specs.Registries.{registries_in}
use Rattle.deny_cli.specs.Arguments.{texts}
use Rattle.deny_cli.proofs.registries.registries_in.Given as goal

abbrev pub invariant-loop-argument : goal.invariant-loop-argument
invariant-loop-argument l =
    l.registries ++ registries_in (texts (drop l.argument-index l.arguments)) ≡ registries_in (texts l.arguments)
