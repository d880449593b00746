-- A tree that is partly written: which parents are still to come at each level, the lowest first.
use Rattle.std.specs.Prelude.{ℕ, ◌+◌, ◌++◌, List, [], ◌∷◌, drop, map, sum_by}
use Rattle.deny_krates_trees.specs.Text.{is_last, parents_text, text_after, trunk}
use Rattle.deny_krates_trees.specs.private.Weights.{weights}
use Rattle.deny_krates_trees.specs.declared.node.GraphNode.{GraphNode}
use Rattle.deny_krates_trees.specs.declared.text.LevelCursor.{LevelCursor}

abbrev pub to_come : LevelCursor → List GraphNode
to_come level = drop level.next level.parents.now

-- the text before the lines above these levels
unfoldable pub before_in : List LevelCursor → List ℕ
before_in [] = []
before_in (level ∷ levels) = trunk (is_last (to_come level)) ++ before_in levels

-- the text that is still to be written
unfoldable pub rest_text : List ℕ → List LevelCursor → List ℕ
rest_text before [] = []
rest_text before (level ∷ levels) =
    rest_text (before ++ trunk (is_last (to_come level))) levels ++ parents_text before (map text_after (to_come level))

-- the number of nodes that are still to be written, where a node weighs more than a level
abbrev pub left_at : LevelCursor → ℕ
left_at level = (weights (to_come level) + weights (to_come level)) + 1

unfoldable pub nodes_left : List LevelCursor → ℕ
nodes_left levels = sum_by left_at levels
