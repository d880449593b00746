use Rattle.std.proofs.Common.{refl}
use Rattle.std.proofs.lemmas.Result.{on_ok_weaker}
use Rattle.deny_globs.proofs.TrieLemmas.{bare_some, keeps_same}
use Rattle.deny_globs.proofs.trie.push_root.Goals as goal

pub returns-then-is_empty-clause-ok : goal.returns-then-is_empty-clause-ok
returns-then-is_empty-clause-ok c = on_ok_weaker c.push_node.result bare_some c.push_node.ensures.ok

pub returns-clause-keeps : goal.returns-clause-keeps
returns-clause-keeps c = keeps_same c.requires refl
