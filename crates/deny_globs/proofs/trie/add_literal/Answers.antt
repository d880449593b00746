use Rattle.std.proofs.Common.{arith, ap, sym, take, ◌++◌, ◌∷◌, [], ◌∙◌}
use Rattle.std.proofs.lemmas.List.{take_more}
use Rattle.std.proofs.lemmas.Result.{on_ok_weaker, on_err_weaker}
use Rattle.deny_base_lists.proofs.Results.{on_err_always}
use Rattle.deny_globs.proofs.MarkedLemmas.{take_all}
use Rattle.deny_globs.proofs.TrieLemmas.{at_root, along_on, along_kept, keeps_on, keeps_still, literal_put}
use Rattle.deny_globs.proofs.trie.add_literal.Goals as goal

pub loop-character-init : goal.loop-character-init
loop-character-init c = record
    { keeps = c.push_root.ensures.keeps; along = at_root; inside = c.in_ok-push_root.ensures.ok }

pub descend-requires-clause-trie : goal.descend-requires-clause-trie
descend-requires-clause-trie c = c.loop-character.invariant.keeps.trie

pub loop-character-preserved : goal.loop-character-preserved
loop-character-preserved c =
    let old = c.loop-character.invariant in
    let d = c.in_ok-node.ensures in
    let literal = c.args.literal.now in
    let k = c.loop-character.character-index in
    record {
      keeps = keeps_on old.keeps d.keeps;
      along = along_on (along_kept d.keeps.edges old.along) d.ok
          (take_more literal k c.character-item.result (omega arith)
          ∙ ap (λ x. take k literal ++ x ∷ []) (sym c.character-item.is));
      inside = d.keeps.trie.within _ _ _ d.ok;
    }

pub returns-in_err-node-clause-err : goal.returns-in_err-node-clause-err
returns-in_err-node-clause-err c = on_err_always c.from_residual-in_err-node.result
    (keeps_on c.loop-character.invariant.keeps c.in_err-node.ensures.keeps)

pub returns-clause-ok : goal.returns-clause-ok
returns-clause-ok c =
    on_ok_weaker c.push_number.result
    (λ p. literal_put c.loop-character.invariant.keeps c.loop-character.invariant.along
    (take_all c.args.literal.now c.loop-character.character-index (omega arith)) p)
    c.push_number.ensures.ok

pub returns-clause-err : goal.returns-clause-err
returns-clause-err c = on_err_weaker c.push_number.result (λ e. keeps_still c.loop-character.invariant.keeps e)
    c.push_number.ensures.err
