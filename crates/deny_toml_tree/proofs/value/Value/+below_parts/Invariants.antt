use Rattle.std.proofs.Common.{length}
use Rattle.deny_toml_tree.proofs.value.Value.+below_parts.Given as goal

abbrev pub decreases-below_parts : goal.decreases-below_parts
decreases-below_parts l = length l.path.now
