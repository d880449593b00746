use Rattle.deny_globs.proofs.TrieLemmas.{bare_new, keeps_same, keeps_pushed}
use Rattle.deny_globs.proofs.trie.push_node.Goals as goal

pub returns-in_err-push-clause-keeps : goal.returns-in_err-push-clause-keeps
returns-in_err-push-clause-keeps c = keeps_same c.requires c.in_err-push.ensures.items

pub returns-clause-keeps : goal.returns-clause-keeps
returns-clause-keeps c = keeps_pushed _ c.requires (bare_new c.new.ensures c.new-2.ensures.empty)
    c.in_ok-push.ensures.items

pub returns-clause-ok : goal.returns-clause-ok
returns-clause-ok c = record {
  node = record { numbers = c.new.result; edges = c.new-2.result };
  bare = bare_new c.new.ensures c.new-2.ensures.empty;
  whole = c.in_ok-push.ensures.items;
}
