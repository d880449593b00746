use Rattle.std.proofs.Common.{◌∙◌, [], ◌∷◌, ◌++◌, ap, sym, refl, take, append_assoc, append-nil}
use Rattle.std.proofs.lemmas.List.{take_more}
use Rattle.deny_krates_trees.specs.Text.{is_last, trunk}
use Rattle.deny_krates_trees.specs.private.Levels.{before_in, to_come}
use Rattle.deny_krates_trees.proofs.LevelLemmas.{before_in-push}
use Rattle.deny_krates_trees.proofs.text.write_before.Goals as goal

pub loop-level-init : goal.loop-level-init
unfolding before_in
loop-level-init c = sym (append-nil c.args.text.now)

pub loop-level-preserved : goal.loop-level-preserved
loop-level-preserved c =
    let text = c.args.text.now in
    let levels = c.args.levels.now in
    let i = c.loop-level.level-index in
    let level = c.level-item.result in
    let passed = take i levels in
    let more = take_more levels i level c.loop-level-test.true
    ∙ ap (λ x. passed ++ x ∷ []) (sym c.level-item.is) in
    let shown = c.trunk.ensures ∙ ap trunk c.is_last.ensures in
    c.in_ok-push_str.ensures.ok
    ∙ (ap (λ t. t ++ c.trunk.result.now) c.loop-level.invariant
    ∙ (ap (λ t. (text ++ before_in passed) ++ t) shown
    ∙ (append_assoc text (before_in passed) (trunk (is_last (to_come level)))
    ∙ ap (λ t. text ++ t) (sym (ap before_in more ∙ before_in-push passed level (to_come level) refl)))))
