use Rattle.std.proofs.Common.{◌≡◌, ◌++◌, ◌∷◌, [], List, false, length, arith, refl, sym, subst}
use Rattle.std.proofs.lemmas.List.{nil_from_length}
use Rattle.deny_krates_trees.specs.declared.build.Open.{Open}
use Rattle.deny_krates_trees.specs.private.Growing.{Advances, AreOpen, GrowToTree}
use Rattle.deny_krates_trees.specs.Tree.{node_with}
use Rattle.deny_krates_trees.proofs.AdvanceLemmas.{advance-close, ends}
use Rattle.deny_krates_trees.proofs.build.close.Goals as goal

pub returns-in_default : goal.returns-in_default
returns-in_default c =
    λ g most.
    let top = c.args.top in
    let numbers = c.args.growth.now.met.keys in
    let nodes = c.args.growth.now.nodes in
    let short : length nodes.items ≡ 0 = omega (arith, nodes.ok.0, c.in_default.ensures.cases.0) in
    let none = nil_from_length nodes.items short in
    subst (λ (ns : List Open). GrowToTree g most numbers (ns ++ top ∷ []) (node_with top.inner false top.grown))
    (sym none)
    (ends g most numbers top c.requires)

pub returns : goal.returns
returns c =
    λ g most are.
    let top = c.args.top in
    let numbers = c.args.growth.now.met.keys in
    let rest = c.pop.new.self.items in
    let below = c.in-Some.below in
    let after : Open = record below { grown = c.push_tree-kept.new.trees } in
    rw c.push_reserved.ensures.items
    (subst (λ (ns : List Open). Advances g most numbers (ns ++ top ∷ []) numbers (rest ++ after ∷ []))
    (sym c.in-Some.ensures.items)
    (advance-close g most numbers rest below top after
    (subst (λ (ns : List Open). AreOpen g numbers (ns ++ top ∷ [])) c.in-Some.ensures.items are) c.requires refl refl
    refl
    c.in_ok-kept.ensures))
