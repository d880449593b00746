use Rattle.std.proofs.Common.{◌≡◌, ◌++◌, drop}
use Rattle.std.specs.List.{flat_map}
use Rattle.deny_cli_generator.specs.MetadataText.{dep_text}
use Rattle.deny_cli_generator.proofs.metadata.push_deps.Given as goal

abbrev pub invariant-loop-number : goal.invariant-loop-number
invariant-loop-number l =
    l.text ++ flat_map dep_text (drop l.number-index l.numbers) ≡ l.fn.text ++ flat_map dep_text l.numbers
