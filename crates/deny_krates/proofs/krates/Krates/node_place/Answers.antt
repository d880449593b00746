use Rattle.std.proofs.Common.{◌<◌, ◌≤◌, ◌∙◌, ℕ, List, ap, arith, length, subst, sym}
use Rattle.std.specs.Prelude.{slice_index_or}
use Rattle.std.proofs.lemmas.Option.{slice_get_within}
use Rattle.deny_krates.specs.Nodes.{Node}
use Rattle.deny_krates.specs.private.NodeNumbers.{IsLastUpTo}
use Rattle.deny_krates.proofs.NodeLemmas.{as_many, crate_node_of, first_start, owned_feature, placed, some_starts}
use Rattle.deny_krates.proofs.NumberLemmas.{length-first_features}
use Rattle.deny_krates.proofs.krates.Krates.node_place.Goals as goal

pub returns-then-node-krates-clause-place : goal.returns-then-node-krates-clause-place
returns-then-node-krates-clause-place c =
    sym (ap (λ (m : Node). m.place)
    (crate_node_of c.krates.result.now c.args.self.now c.krates.ensures.crates c.args.node.0 (omega arith)))

pub returns-then-node-krates-clause-within : goal.returns-then-node-krates-clause-within
returns-then-node-krates-clause-within c =
    omega (arith, as_many c.krates.result.now c.args.self.now c.krates.ensures.crates)

pub owner_of-requires-clause-few : goal.owner_of-requires-clause-few
owner_of-requires-clause-few c =
    omega (
      arith,
      as_many c.krates.result.now c.args.self.now c.krates.ensures.crates,
      c.krates.ensures.few,
      length-first_features c.args.self.now,
      ap (λ (ns : List ℕ). length ns) c.first_features.ensures,
    )

pub owner_of-requires-clause-some : goal.owner_of-requires-clause-some
owner_of-requires-clause-some c = subst (λ (ns : List ℕ). 0 < length ns) (sym c.first_features.ensures)
    (some_starts c.krates.result.now c.args.self.now c.krates.ensures.crates c.args.node.0 (omega arith) c.requires)

pub owner_of-requires-clause-first : goal.owner_of-requires-clause-first
owner_of-requires-clause-first c =
    subst (λ (ns : List ℕ). slice_index_or ns 0 0 ≤ c.args.node.0) (sym c.first_features.ensures)
    (first_start c.krates.result.now c.args.self.now c.krates.ensures.crates c.args.node.0 (omega arith))

pub returns-clause-place : goal.returns-clause-place
returns-clause-place c =
    let g = c.args.self.now in
    let p = c.owner_of.result in
    let n = c.args.node.0 in
    let last = subst (λ (ns : List ℕ). IsLastUpTo ns n p) c.first_features.ensures c.owner_of.ensures in
    let owned = owned_feature c.krates.result.now g c.krates.ensures.crates n p last c.requires in
    sym (ap (λ (m : Node). m.place) owned.is
    ∙ (placed c.krates.result.now g c.krates.ensures.crates).each p owned.krate owned.at)

pub returns-clause-within : goal.returns-clause-within
returns-clause-within c =
    let g = c.args.self.now in
    let p = c.owner_of.result in
    let n = c.args.node.0 in
    let last = subst (λ (ns : List ℕ). IsLastUpTo ns n p) c.first_features.ensures c.owner_of.ensures in
    let owned = owned_feature c.krates.result.now g c.krates.ensures.crates n p last c.requires in
    slice_get_within g.crates p owned.krate owned.at
