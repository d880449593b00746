use Rattle.std.proofs.Common.{◌≡◌, ◌∙◌, ◌++◌, [], ◌∷◌, List, ap, length, arith}
use Rattle.std.proofs.lemmas.List.{drop_all, nil_from_length}
use Rattle.deny_krates_trees.specs.Text.{line_text, tree_text}
use Rattle.deny_krates_trees.specs.declared.node.GraphNode.{out-GraphNode}
use Rattle.deny_krates_trees.specs.declared.text.LevelCursor.{LevelCursor}
use Rattle.deny_krates_trees.proofs.LevelLemmas.{begun, ended, fewer_left, passed}
use Rattle.deny_krates_trees.proofs.text.write_graph_as_text.Goals as goal

pub loop-level-init : goal.loop-level-init
loop-level-init c =
    let root = c.args.root.now in
    let level : LevelCursor = record { parents = c.as_slice.result; next = 0 } in
    let one : c.push.new.self.items ≡ level ∷ [] = c.in_ok-push.ensures.items
    ∙ ap (λ (levels : List LevelCursor). levels ++ level ∷ []) c.new-levels.ensures.items in
    begun root c.push.new.self.items level c.write_line.new.text one c.as_slice.ensures
    (c.in_ok-write_line.ensures
    ∙ ap (λ t. t ++ line_text (out-GraphNode root).inner (out-GraphNode root).repeat) c.new-text.ensures)

pub loop-level-smaller : goal.loop-level-smaller
loop-level-smaller c = fewer_left c.loop-level.levels.items c.pop.new.self.items c.in-Some.level c.in-Some.ensures.items

pub loop-level-preserved : goal.loop-level-preserved
loop-level-preserved c =
    ap (λ t. c.loop-level.text ++ t) (passed c.loop-level.levels.items c.pop.new.self.items c.in-Some.level
    c.in-Some.ensures.items (drop_all c.in-Some.level.next c.in-Some.level.parents.now c.if-level.false))
    ∙ c.loop-level.invariant

pub returns : goal.returns
returns c =
    let levels = c.loop-level.levels in
    let none : length levels.items ≡ 0 = omega (arith, levels.ok.0, c.in_default.ensures.cases.0) in
    ended c.loop-level.text (tree_text c.args.root.now) levels.items (nil_from_length levels.items none)
    c.loop-level.invariant
