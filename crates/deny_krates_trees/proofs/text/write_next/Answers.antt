use Rattle.std.proofs.Common.{◌≡◌, ◌∙◌, ◌+◌, ◌<◌, ℕ, List, ◌∷◌, ◌++◌, ap, refl, drop, get_or, length, add-one}
use Rattle.std.proofs.Math.Seq.{drop-cons}
use Rattle.deny_krates_trees.specs.Text.{branch, line_text}
use Rattle.deny_krates_trees.specs.private.Levels.{before_in, to_come}
use Rattle.deny_krates_trees.specs.declared.node.GraphNode.{GraphNode, out-GraphNode}
use Rattle.deny_krates_trees.specs.declared.text.LevelCursor.{LevelCursor}
use Rattle.deny_krates_trees.proofs.LevelLemmas.{less_left, written}
use Rattle.deny_krates_trees.proofs.text.write_next.Goals as goal

next_is : (parents : List GraphNode) (n : ℕ) (d : GraphNode) → n < length parents
    → drop n parents ≡ get_or parents n d ∷ drop (n + 1) parents
next_is parents n d within = rw add-one (drop-cons parents n d within)

pub returns-clause-text : goal.returns-clause-text
returns-clause-text c =
    let levels = c.args.levels.now.items in
    let level = c.args.level in
    let node = get_or level.parents.now level.next c.index-level-level.result in
    let below : LevelCursor = record { parents = level.parents; next = level.next + 1 } in
    let above : LevelCursor = record { parents = c.as_slice-2.result; next = 0 } in
    let line = line_text (out-GraphNode node).inner (out-GraphNode node).repeat in
    let before = c.in_ok-write_before.ensures ∙ ap (λ ls. c.args.text.now ++ before_in ls) c.as_slice.ensures.value in
    let branched = c.branch-is_last.ensures ∙ ap branch c.is_last.ensures in
    let is = c.in_ok-write_line.ensures ∙ ap (λ t. t ++ line) (c.in_ok-push_str.ensures.ok
    ∙ (ap (λ t. t ++ c.branch-is_last.result.now) before
    ∙ ap (λ t. (c.args.text.now ++ before_in levels) ++ t) branched)) in
    rw (c.in_ok-push-2.ensures.items, c.in_ok-push.ensures.items)
    (written levels level below above node (to_come below) c.args.text.now c.write_line.new.text
    (next_is level.parents.now level.next c.index-level-level.result c.requires) refl c.as_slice-2.ensures is)

pub returns-clause-less : goal.returns-clause-less
returns-clause-less c =
    let level = c.args.level in
    let node = get_or level.parents.now level.next c.index-level-level.result in
    let below : LevelCursor = record { parents = level.parents; next = level.next + 1 } in
    let above : LevelCursor = record { parents = c.as_slice-2.result; next = 0 } in
    rw (c.in_ok-push-2.ensures.items, c.in_ok-push.ensures.items)
    (less_left c.args.levels.now.items level below above node (to_come below)
    (next_is level.parents.now level.next c.index-level-level.result c.requires) refl c.as_slice-2.ensures)
