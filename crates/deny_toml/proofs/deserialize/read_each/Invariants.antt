use Rattle.std.proofs.Common.{◌≡◌, [], length}
use Rattle.deny_toml.specs.Deserialize.{ReadsEach, faults_from}
use Rattle.deny_toml.proofs.deserialize.read_each.Given as goal

abbrev pub invariant-elements : goal.invariant-elements
invariant-elements g l = record {
  count : l.index ≡ length l.yielded;
  faults : l.faults ≡ faults_from g.T.Deserialize.faults_of 0 l.yielded;
  items : l.faults ≡ [] → ReadsEach g.T.Deserialize.reads l.yielded l.items;
}
