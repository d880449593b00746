-- The text of a tree by its parts, and the text that is still to be written.
use Rattle.std.proofs.Common.{Bool, ◌≡◌, ◌∙◌, ◌+◌, ◌<◌, ℕ, List, [], ◌∷◌, ◌++◌, ap, sym, refl, arith, map, append_assoc}
use Rattle.std.proofs.Common.{append-nil}
use Rattle.deny_krates_trees.specs.declared.node.GraphNode.{GraphNode, fold-roll-GraphNode, fold_out-GraphNode}
use Rattle.deny_krates_trees.specs.declared.node.GraphNode.{out-GraphNode}
use Rattle.deny_krates_trees.specs.declared.node.NodeInner.{NodeInner}
use Rattle.deny_krates_trees.specs.declared.text.LevelCursor.{LevelCursor}
use Rattle.deny_krates_trees.specs.Text.{branch, is_last, line_text, node_text, parents_text, text_after, tree_text}
use Rattle.deny_krates_trees.specs.Text.{trunk}
use Rattle.std.proofs.lemmas.List.Sums.{sum_by-cons, sum_by_push}
use Rattle.deny_krates_trees.specs.Tree.{node_with}
use Rattle.deny_krates_trees.specs.private.Levels.{before_in, left_at, nodes_left, rest_text, to_come}
use Rattle.deny_krates_trees.specs.private.Weights.{weight, weights}
use Rattle.deny_krates_trees.proofs.WeightLemmas.{weight-out}

-- a node's line, and then its parents
text-out : (tree : GraphNode) (before : List ℕ)
    → text_after tree before
    ≡ line_text (out-GraphNode tree).inner (out-GraphNode tree).repeat
    ++ parents_text before (map text_after (out-GraphNode tree).parents)
text-out tree before = ap (λ f. f before) (fold_out-GraphNode (List ℕ → List ℕ) node_text tree)

pub text-node : (inner : NodeInner) (repeat : Bool) (parents : List GraphNode) (before : List ℕ)
    → text_after (node_with inner repeat parents) before
    ≡ line_text inner repeat ++ parents_text before (map text_after parents)
text-node inner repeat parents before =
    ap (λ f. f before) (fold-roll-GraphNode (List ℕ → List ℕ) node_text
    (record { inner = inner; repeat = repeat; parents = parents }))

-- the text that is left above some levels is before the text that is left at them
rest_text-append : (before : List ℕ) (levels more : List LevelCursor)
    → rest_text before (levels ++ more) ≡ rest_text (before ++ before_in levels) more ++ rest_text before levels
unfolding rest_text before_in
rest_text-append before [] more =
    sym (append-nil (rest_text (before ++ []) more) ∙ ap (λ b. rest_text b more) (append-nil before))
rest_text-append before (level ∷ levels) more =
    let below = before ++ trunk (is_last (to_come level)) in
    let here = parents_text before (map text_after (to_come level)) in
    ap (λ text. text ++ here) (rest_text-append below levels more) ∙ simp append_assoc

before_in-append : (levels : List LevelCursor) (more : List LevelCursor)
    → before_in (levels ++ more) ≡ before_in levels ++ before_in more
unfolding before_in
before_in-append [] more = refl
before_in-append (level ∷ levels) more =
    ap (λ text. trunk (is_last (to_come level)) ++ text) (before_in-append levels more)
    ∙ sym (append_assoc (trunk (is_last (to_come level))) (before_in levels) (before_in more))

is_last-map : {A B : Type 0} (f : A → B) (xs : List A) → is_last (map f xs) ≡ is_last xs
is_last-map f [] = refl
is_last-map f (x ∷ xs) = refl

rest_text-one : (before : List ℕ) (level : LevelCursor)
    → rest_text before (level ∷ []) ≡ parents_text before (map text_after (to_come level))
unfolding rest_text
rest_text-one before level = refl

before_in-one : (level : LevelCursor) → before_in (level ∷ []) ≡ trunk (is_last (to_come level))
unfolding before_in
before_in-one level = append-nil (trunk (is_last (to_come level)))

-- the text that is left at some levels and one level above them
rest_text-push : (levels : List LevelCursor) (level : LevelCursor)
    → rest_text [] (levels ++ level ∷ [])
    ≡ parents_text (before_in levels) (map text_after (to_come level)) ++ rest_text [] levels
rest_text-push levels level =
    rest_text-append [] levels (level ∷ []) ∙ ap (λ text. text ++ rest_text [] levels)
    (rest_text-one (before_in levels) level)

pub before_in-push : (levels : List LevelCursor) (level : LevelCursor) (others : List GraphNode)
    → to_come level ≡ others
    → before_in (levels ++ level ∷ []) ≡ before_in levels ++ trunk (is_last others)
before_in-push levels level others left =
    before_in-append levels (level ∷ []) ∙ ap (λ text. before_in levels ++ text)
    (before_in-one level ∙ ap (λ trees. trunk (is_last trees)) left)

parents_text-cons : (before : List ℕ) (node : GraphNode) (others : List GraphNode)
    → parents_text before (map text_after (node ∷ others))
    ≡ (before ++ (branch (is_last others) ++ text_after node (before ++ trunk (is_last others))))
    ++ parents_text before (map text_after others)
unfolding parents_text
parents_text-cons before node others =
    ap (λ last. (before ++ (branch last ++ text_after node (before ++ trunk last)))
    ++ parents_text before (map text_after others)) (is_last-map text_after others)

-- a parent is written, and its own parents are to come above it
pub written : (levels : List LevelCursor) (level below above : LevelCursor) (node : GraphNode) (others : List GraphNode)
    (text more : List ℕ) → to_come level ≡ node ∷ others → to_come below ≡ others
    → to_come above ≡ (out-GraphNode node).parents
    → more ≡ ((text ++ before_in levels) ++ branch (is_last others))
    ++ line_text (out-GraphNode node).inner (out-GraphNode node).repeat
    → more ++ rest_text [] ((levels ++ below ∷ []) ++ above ∷ []) ≡ text ++ rest_text [] (levels ++ level ∷ [])
written levels level below above node others text more here left own is =
    let parents = map text_after (out-GraphNode node).parents in
    let before = before_in levels in
    let last = is_last others in
    let line = line_text (out-GraphNode node).inner (out-GraphNode node).repeat in
    let rest = parents_text before (map text_after others) ++ rest_text [] levels in
    let low : rest_text [] (levels ++ below ∷ []) ≡ rest = rest_text-push levels below
    ∙ ap (λ trees. parents_text before (map text_after trees) ++ rest_text [] levels) left in
    let high : rest_text [] ((levels ++ below ∷ []) ++ above ∷ [])
    ≡ parents_text (before ++ trunk last) parents ++ rest =
    rest_text-push (levels ++ below ∷ []) above
    ∙ (ap (λ trees. parents_text (before_in (levels ++ below ∷ [])) (map text_after trees)
    ++ rest_text [] (levels ++ below ∷ [])) own
    ∙ (ap (λ b. parents_text b parents ++ rest_text [] (levels ++ below ∷ [])) (before_in-push levels below others left)
    ∙ ap (λ r. parents_text (before ++ trunk last) parents ++ r) low)) in
    let whole : rest_text [] (levels ++ level ∷ [])
    ≡ ((before ++ (branch last ++ (line ++ parents_text (before ++ trunk last) parents)))
    ++ parents_text before (map text_after others)) ++ rest_text [] levels =
    rest_text-push levels level
    ∙ (ap (λ trees. parents_text before (map text_after trees) ++ rest_text [] levels) here
    ∙ (ap (λ t. t ++ rest_text [] levels) (parents_text-cons before node others)
    ∙ ap (λ t. ((before ++ (branch last ++ t)) ++ parents_text before (map text_after others)) ++ rest_text [] levels)
    (text-out node (before ++ trunk last)))) in
    rw (is, high, whole) (simp append_assoc)

-- a level with nothing to come has no text
pub passed : (levels rest : List LevelCursor) (level : LevelCursor) → levels ≡ rest ++ level ∷ [] → to_come level ≡ []
    → rest_text [] rest ≡ rest_text [] levels
unfolding parents_text
passed levels rest level is none =
    sym (ap (rest_text []) is ∙ (rest_text-push rest level
    ∙ ap (λ trees. parents_text (before_in rest) (map text_after trees) ++ rest_text [] rest) none))

nodes_left-push : (levels : List LevelCursor) (level : LevelCursor)
    → nodes_left (levels ++ level ∷ []) ≡ nodes_left levels + left_at level
unfolding nodes_left
nodes_left-push levels level = sum_by_push left_at levels level

-- a written node is no longer left
pub less_left : (levels : List LevelCursor) (level below above : LevelCursor) (node : GraphNode)
    (others : List GraphNode) → to_come level ≡ node ∷ others
    → to_come below ≡ others → to_come above ≡ (out-GraphNode node).parents
    → nodes_left ((levels ++ below ∷ []) ++ above ∷ []) < nodes_left (levels ++ level ∷ [])
less_left levels level below above node others here left own =
    let one = nodes_left-push (levels ++ below ∷ []) above in
    let two = nodes_left-push levels below in
    let three = nodes_left-push levels level in
    let high : weights (to_come above) ≡ weights (out-GraphNode node).parents = ap weights own in
    let low : weights (to_come below) ≡ weights others = ap weights left in
    let all : weights (to_come level) ≡ weight node + weights others = ap weights here
    ∙ sum_by-cons weight node others in
    let whole = weight-out node in
    omega (arith, one, two, three, high, low, all, whole)

-- a tree of which its root is written
pub begun : (root : GraphNode) (levels : List LevelCursor) (level : LevelCursor) (text : List ℕ) → levels ≡ level ∷ []
    → to_come level ≡ (out-GraphNode root).parents
    → text ≡ line_text (out-GraphNode root).inner (out-GraphNode root).repeat
    → text ++ rest_text [] levels ≡ tree_text root
begun root levels level text one own is =
    let line = line_text (out-GraphNode root).inner (out-GraphNode root).repeat in
    ap (λ t. t ++ rest_text [] levels) is
    ∙ (ap (λ t. line ++ t) (ap (rest_text []) one ∙ rest_text-one [] level ∙ ap (λ trees. parents_text []
    (map text_after trees)) own)
    ∙ sym (text-out root []))

-- a tree of which all is written
pub ended : (text whole : List ℕ) (levels : List LevelCursor) → levels ≡ [] → text ++ rest_text [] levels ≡ whole → text
    ≡ whole
unfolding rest_text
ended text whole levels none is =
    sym (append-nil text) ∙ (ap (λ ls. text ++ rest_text [] ls) (sym none) ∙ is)

pub fewer_left : (levels rest : List LevelCursor) (level : LevelCursor) → levels ≡ rest ++ level ∷ []
    → nodes_left rest < nodes_left levels
fewer_left levels rest level is =
    let same = ap nodes_left is in
    let more = nodes_left-push rest level in
    omega (arith, same, more)
