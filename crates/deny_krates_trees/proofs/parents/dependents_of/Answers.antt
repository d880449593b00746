use Rattle.std.proofs.Common.{◌≡◌, ◌∙◌, ◌<◌, ◌++◌, ◌∷◌, [], ℕ, List, None, Some, ap, arith, get_or, length, map}
use Rattle.std.proofs.Common.{slice_get, sym, subst, take}
use Rattle.std.specs.Prelude.{All}
use Rattle.std.proofs.lemmas.List.{map-append, take_all, take_more}
use Rattle.deny_base.specs.declared.edge.DepKind.TheVariants.{Normal}
use Rattle.deny_krates.specs.Crates.{crates_from}
use Rattle.deny_krates.specs.Dependents.{AreDirectDependents}
use Rattle.deny_krates.specs.Nodes.{incoming_at}
use Rattle.deny_krates.specs.krate.DirectDependent.{DirectDependent}
use Rattle.deny_krates.specs.krate.Krate.{Krate}
use Rattle.deny_krates.specs.declared.nodes.InEdge.{InEdge}
use Rattle.deny_krates.proofs.DependentsLemmas.{crate_place}
use Rattle.deny_krates.proofs.NodeLemmas.{as_many}
use Rattle.deny_spec.specs.Graph.{Crate, Graph}
use Rattle.deny_krates_trees.specs.private.Growing.{IsInside, edge_from}
use Rattle.deny_krates_trees.proofs.DependentLemmas.{are_dependents, are_inside}
use Rattle.deny_krates_trees.proofs.parents.dependents_of.Goals as goal

-- the crate at a place
record At (g : Graph) (place : ℕ) : Type 0 where
  krate : Crate
  at : slice_get g.crates krate.place ≡ Some krate
  is : krate.place ≡ place

at_place : (ks : List Krate) (g : Graph) (place : ℕ) → crates_from 0 ks ≡ g.crates → place < length g.crates
    → At g place
at_place ks g place same inside =
    let one = crate_place 0 ks place (omega (arith, inside, as_many ks g same)) in
    let is : one.0.place ≡ place = omega (arith, one.2) in
    record {
      krate = one.0;
      at = ap (slice_get g.crates) is ∙ (ap (λ (cs : List Crate). slice_get cs place) (sym same) ∙ one.1);
      is = is;
    }

pub returns-clause-parents : goal.returns-clause-parents
returns-clause-parents c =
    let ds = c.direct_dependents-dependent-items.result.now in
    let g = c.args.krates.now in
    let ks = c.krates-candidates.result.now in
    let same = c.krates-candidates.ensures.crates in
    let one = at_place ks g c.args.place same c.requires in
    let all = c.loop-dependent.invariant ∙ ap (map edge_from) (take_all c.loop-dependent.dependent-index ds
    c.loop-dependent-test.false) in
    ap (map (incoming_at g)) all
    ∙ are_dependents ks g same one.krate ds one.at (subst (λ n. AreDirectDependents g n ds) (sym one.is)
    c.direct_dependents-dependent-items.ensures) (record { place = c.args.place; feature = None }) (sym one.is)

pub returns-clause-inside : goal.returns-clause-inside
returns-clause-inside c =
    let ds = c.direct_dependents-dependent-items.result.now in
    let g = c.args.krates.now in
    let ks = c.krates-candidates.result.now in
    let same = c.krates-candidates.ensures.crates in
    let one = at_place ks g c.args.place same c.requires in
    let all = c.loop-dependent.invariant ∙ ap (map edge_from) (take_all c.loop-dependent.dependent-index ds
    c.loop-dependent-test.false) in
    subst (All (IsInside g)) (sym all)
    (are_inside ks g same one.krate ds one.at (subst (λ n. AreDirectDependents g n ds) (sym one.is)
    c.direct_dependents-dependent-items.ensures))

pub loop-dependent-preserved : goal.loop-dependent-preserved
loop-dependent-preserved c =
    let ds = c.direct_dependents-dependent-items.result.now in
    let i = c.loop-dependent.dependent-index in
    let none : DirectDependent = record { place = 0; kind = Normal } in
    let d = get_or ds i none in
    c.in_ok-push.ensures.ok
    ∙ (ap (λ (es : List InEdge). es ++ edge_from d ∷ []) c.loop-dependent.invariant
    ∙ sym (ap (map edge_from) (take_more ds i none c.loop-dependent-test.true)
    ∙ map-append edge_from (take i ds) (d ∷ [])))
