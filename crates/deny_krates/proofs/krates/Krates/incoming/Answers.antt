use Rattle.std.proofs.Common.{◌≡◌, ◌<◌, ◌∙◌, ℕ, List, Option, Some, ap, length, subst, sym}
use Rattle.std.specs.Prelude.{◌↔◌, All, Contains, map, slice_get}
use Rattle.deny_base_lists.specs.Ascending.{Lists}
use Rattle.deny_base_lists.proofs.Members.{some_at}
use Rattle.deny_krates.specs.Nodes.{node_at, sources_at}
use Rattle.deny_krates.specs.private.Sources.{IsThere, parent_cmp, parent_of, source_of}
use Rattle.deny_krates.specs.declared.incoming.Parent.{Parent}
use Rattle.deny_krates.proofs.NodeLemmas.{placed}
use Rattle.deny_krates.proofs.SourceLemmas.{incoming_are}
use Rattle.deny_krates.proofs.ThereLemmas.{all_there}
use Rattle.deny_krates.proofs.krates.Krates.incoming.Goals as goal

pub in_edges-requires : goal.in_edges-requires
in_edges-requires c =
    let g = c.args.self.now in
    let node = node_at g c.args.node.0 in
    let ps = c.put_in_order.new.list in
    let old = c.in_ok-parents.parents in
    let are = placed c.krates-placed.result.now g c.krates-placed.ensures.crates in
    let inside : node.place < length g.crates = subst (λ (m : ℕ). m < length g.crates) c.node_place-place.ensures.place
    c.node_place-place.ensures.within in
    let x = some_at g.crates node.place inside in
    let same : (p : Parent) → Contains old p ↔ Contains (map (parent_of g) (sources_at g node.feature x.0)) p =
    subst (λ (f : Option (List ℕ)). (p : Parent) → Contains old p
    ↔ Contains (map (parent_of g) (sources_at g f x.0)) p) c.node_feature-feature.ensures
    (c.in_ok-parents.ensures x.0
    (subst (λ (m : ℕ). slice_get g.crates m ≡ Some x.0) (sym c.node_place-place.ensures.place) x.1)) in
    let listed : Lists parent_cmp (Contains old) ps = c.in_ok-put_in_order.ensures.ok in
    let at : slice_get g.crates x.0.place ≡ Some x.0 = subst (λ (m : ℕ). slice_get g.crates m ≡ Some x.0)
    (sym (are.each node.place x.0 x.1)) x.1 in
    subst (λ (qs : List Parent). All (IsThere g) qs) (sym c.as_slice.ensures)
    (all_there g are x.0 node.feature old ps at listed same)

pub returns-clause-sources : goal.returns-clause-sources
returns-clause-sources c =
    let g = c.args.self.now in
    let node = node_at g c.args.node.0 in
    let ps = c.put_in_order.new.list in
    let old = c.in_ok-parents.parents in
    let are = placed c.krates-placed.result.now g c.krates-placed.ensures.crates in
    let inside : node.place < length g.crates = subst (λ (m : ℕ). m < length g.crates) c.node_place-place.ensures.place
    c.node_place-place.ensures.within in
    let x = some_at g.crates node.place inside in
    let same : (p : Parent) → Contains old p ↔ Contains (map (parent_of g) (sources_at g node.feature x.0)) p =
    subst (λ (f : Option (List ℕ)). (p : Parent) → Contains old p
    ↔ Contains (map (parent_of g) (sources_at g f x.0)) p) c.node_feature-feature.ensures
    (c.in_ok-parents.ensures x.0
    (subst (λ (m : ℕ). slice_get g.crates m ≡ Some x.0) (sym c.node_place-place.ensures.place) x.1)) in
    let listed : Lists parent_cmp (Contains old) ps = c.in_ok-put_in_order.ensures.ok in
    c.in_ok-edges.ensures.sources
    ∙ (ap (λ (qs : List Parent). map source_of qs) c.as_slice.ensures
    ∙ incoming_are g node x.0 old ps x.1 listed same)
