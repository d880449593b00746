use Rattle.std.proofs.Common.{◌≡◌, ◌++◌, drop}
use Rattle.std.specs.List.{flat_map}
use Rattle.deny_cli_generator.specs.MetadataText.{declaration_text}
use Rattle.deny_cli_generator.proofs.metadata.push_declarations.Given as goal

abbrev pub invariant-loop-number : goal.invariant-loop-number
invariant-loop-number l =
    l.text ++ flat_map declaration_text (drop l.number-index l.numbers) ≡ l.fn.text
    ++ flat_map declaration_text l.numbers
