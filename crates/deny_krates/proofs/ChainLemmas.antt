-- Chains of steps along the edges of a graph, or against them, are chains of its edges.
use Rattle.std.proofs.Common.{◌≡◌, ◌<◌, ℕ, zero, suc, List, length, refl, sym, subst, ◌∙◌}
use Rattle.std.specs.Prelude.{Contains}
use Rattle.deny_base_lists.specs.Walk as walk
use Rattle.deny_base_lists.proofs.WalkLemmas.{chain_more}
use Rattle.deny_base.specs.declared.edge.Edge.{Edge}
use Rattle.deny_krates_graph.specs.Orderly.{IsOrderly}
use Rattle.deny_spec.specs.Counting.{Chain}
use Rattle.deny_spec.specs.Graph.{Graph}
use Rattle.deny_krates.specs.Steps.{HasEdge, HasEdgeFrom}
use Rattle.deny_krates.proofs.NeighbourLemmas.{child_holds}

pub chain_of_steps : (g : Graph) (a b n : ℕ) → walk.Chain (HasEdge g) a b n → Chain g.edges a b n
chain_of_steps g a b zero chain = chain
chain_of_steps g a b (suc n) chain =
    let edge = chain.1 in
    (edge.0, edge.1, edge.2, subst (λ (m : ℕ). Chain g.edges m b n) (sym edge.3) (chain_of_steps g chain.0 b n chain.2))

pub steps_of_chain : (g : Graph) (a b n : ℕ) → Chain g.edges a b n → walk.Chain (HasEdge g) a b n
steps_of_chain g a b zero chain = chain
steps_of_chain g a b (suc n) chain =
    (chain.0.child, (chain.0, chain.1, chain.2, refl), steps_of_chain g chain.0.child b n chain.3)

-- ---- against the edges

chain_longer : (es : List Edge) (a b n : ℕ) (e : Edge) → Chain es a b n → Contains es e → e.parent ≡ b
    → Chain es a e.child (suc n)
chain_longer es a b zero e chain holds from = (e, holds, from ∙ sym chain, refl)
chain_longer es a b (suc n) e chain holds from =
    (chain.0, chain.1, chain.2, chain_longer es chain.0.child b n e chain.3 holds from)

pub chain_of_steps_back : (g : Graph) (a b n : ℕ) → walk.Chain (HasEdgeFrom g) b a n → Chain g.edges a b n
chain_of_steps_back g a b zero chain = sym chain
chain_of_steps_back g a b (suc n) chain =
    let edge = chain.1 in
    subst (λ (end : ℕ). Chain g.edges a end (suc n)) edge.3
    (chain_longer g.edges a chain.0 n edge.0 (chain_of_steps_back g a chain.0 n chain.2) edge.1 edge.2)

pub steps_back_of_chain : (g : Graph) (a b n : ℕ) → Chain g.edges a b n → walk.Chain (HasEdgeFrom g) b a n
steps_back_of_chain g a b zero chain = sym chain
steps_back_of_chain g a b (suc n) chain =
    let e = chain.0 in
    chain_more (HasEdgeFrom g) b e.child a n (steps_back_of_chain g e.child b n chain.3) (e, chain.1, chain.2, refl)

-- ---- a chain from a crate leads to a crate

pub chain_stays : (g : Graph) (a b n : ℕ) → IsOrderly g → a < length g.crates → Chain g.edges a b n
    → b < length g.crates
chain_stays g a b zero orderly inside chain = subst (λ (m : ℕ). m < length g.crates) chain inside
chain_stays g a b (suc n) orderly inside chain =
    chain_stays g chain.0.child b n orderly (child_holds g orderly chain.0 chain.1) chain.3
