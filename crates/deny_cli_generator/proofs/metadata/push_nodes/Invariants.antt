use Rattle.std.proofs.Common.{◌≡◌, ◌++◌, drop}
use Rattle.std.specs.List.{flat_map}
use Rattle.deny_cli_generator.specs.MetadataText.{node_text}
use Rattle.deny_cli_generator.proofs.metadata.push_nodes.Given as goal

abbrev pub invariant-loop-number : goal.invariant-loop-number
invariant-loop-number l =
    l.text ++ flat_map node_text (drop l.number-index l.numbers) ≡ l.fn.text ++ flat_map node_text l.numbers
