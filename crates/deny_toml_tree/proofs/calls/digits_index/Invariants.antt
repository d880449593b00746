use Rattle.std.proofs.Common.{◌≡◌, drop}
use Rattle.deny_toml_tree.specs.Calls.{digits_index}
use Rattle.deny_toml_tree.proofs.calls.digits_index.Given as goal

abbrev pub invariant-digits : goal.invariant-digits
invariant-digits l = digits_index l.index (drop l.byte-index l.digits) ≡ digits_index 0 l.digits
