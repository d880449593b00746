use Rattle.std.proofs.Common.{◌≤◌, ◌-◌, length, drop}
use Rattle.deny_globs.proofs.TrieLemmas.{IsReading}
use Rattle.deny_globs.proofs.trie.find_prefixes.Given as goal

abbrev pub invariant-loop-node : goal.invariant-loop-node
invariant-loop-node l = record {
  reading : IsReading l.nodes l.path l.fn.found.items l.found.items l.node (drop l.index l.path);
  inside : l.index ≤ length l.path;
}

abbrev pub decreases-loop-node : goal.decreases-loop-node
decreases-loop-node l = length l.path - l.index
