use Rattle.std.proofs.Common.{◌<◌, length, take}
use Rattle.deny_globs.specs.private.Trie.{Keeps}
use Rattle.deny_globs.proofs.TrieLemmas.{Along}
use Rattle.deny_globs.proofs.trie.add_literal.Given as goal

abbrev pub invariant-loop-character : goal.invariant-loop-character
invariant-loop-character l = record {
  keeps : Keeps l.fn.nodes.items l.nodes.items;
  along : Along l.nodes.items (take l.character-index l.literal) l.node;
  inside : l.node < length l.nodes.items;
}
