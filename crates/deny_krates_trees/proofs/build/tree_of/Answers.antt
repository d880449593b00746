use Rattle.std.proofs.Common.{◌≡◌, ◌∙◌, ◌∷◌, ◌++◌, [], List, None, Result, Ok, Err, IfOk, true, cond, ℕ, ap, length}
use Rattle.std.proofs.Common.{refl}
use Rattle.std.specs.BTreeMap.{is_at}
use Rattle.std.specs.BTreeSet.{insert_key}
use Rattle.std.specs.List.{list_any}
use Rattle.std.specs.Ordering.{nat_cmp}
use Rattle.deny_krates.specs.Nodes.{node_at}
use Rattle.deny_krates.specs.declared.nodes.InEdge.{InEdge}
use Rattle.deny_krates_trees.specs.Tree.{tree_of}
use Rattle.deny_krates_trees.specs.declared.build.Open.{Open}
use Rattle.deny_krates_trees.specs.private.Growing.{GrowToTree}
use Rattle.deny_krates_trees.proofs.AdvanceLemmas.{HasMore, begins}
use Rattle.deny_krates_trees.proofs.build.tree_of.Goals as goal

if_ok : {T E : Type 0} (P Q : T → Type 0) (r : Result T E) → IfOk r P → ((x : T) → P x → Q x) → IfOk r Q
if_ok P Q (Ok x) is more = more x is
if_ok P Q (Err e) is more = tt

pub returns : goal.returns
returns c =
    let g = c.args.krates.now in
    let number = c.args.node.0 in
    let edge : InEdge = record { node = c.args.node; kind = None } in
    let numbers = c.insert.new.self.keys in
    let nodes = c.push.new.self.items in
    let opened = c.in_ok-open_at.field-0 in
    let known = c.in_ok-insert.ensures in
    let empty = c.new-2.ensures.empty in
    let are = known.keys ∙ ap (λ (ks : List ℕ). insert_key nat_cmp ks number) empty in
    let has : HasMore [] numbers number = record {
      new = refl;
      updates = λ q. known.updates.0 q
          ∙ ap (λ (ks : List ℕ). cond (is_at (nat_cmp number) q) true (list_any (is_at (nat_cmp q)) ks)) empty;
      are = are;
      long = ap length are;
      ascend = known.ordered;
    } in
    let one : nodes ≡ opened ∷ [] = c.in_ok-push.ensures.items
    ∙ ap (λ (ns : List Open). ns ++ opened ∷ []) c.new.ensures.items in
    if_ok (GrowToTree g c.args.most numbers nodes) (λ tree. tree ≡ tree_of g c.args.most (node_at g number))
    c.grow-tree.result c.grow-tree.ensures
    (λ tree grows. begins g c.args.most edge numbers nodes opened tree c.requires.own c.requires.inside refl has one
    c.in_ok-open_at.ensures grows)
