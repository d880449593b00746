use Rattle.std.proofs.Common.{◌<◌, ◌∙◌, ap, sym, arith, ℕ, List, length, subst}
use Rattle.std.specs.Prelude.{◌≢◌, All, AllPairs}
use Rattle.std.proofs.lemmas.List.{length-map}
use Rattle.deny_krates_graph.specs.private.Direct.{AreRanks}
use Rattle.deny_krates_graph.specs.private.Graph.{IsInverse}
use Rattle.deny_krates_graph.specs.declared.ids.IdEntry.{IdEntry}
use Rattle.deny_krates_graph.proofs.IdsLemmas.{few_entries, places_apart, places_inside, ranks_are}
use Rattle.deny_base_lists.proofs.Results.{if_ok_then}
use Rattle.deny_krates_graph.proofs.ids.ranks_of.Goals as goal

pub inverse_of-requires-clause-few : goal.inverse_of-requires-clause-few
inverse_of-requires-clause-few c =
    let places = c.as_slice.ensures ∙ c.in_ok-places.ensures in
    let long = ap (λ (ps : List ℕ). length ps) places ∙ length-map c.args.entries.now (λ (e : IdEntry). e.place) in
    let few = few_entries c.args.krates.now c.args.entries.now c.requires.apart c.requires.ids in
    omega (arith, long, few, c.requires.few)

pub inverse_of-requires-clause-inside : goal.inverse_of-requires-clause-inside
inverse_of-requires-clause-inside c =
    subst (λ (ps : List ℕ). All (λ n. n < length c.args.krates.now) ps)
    (sym (c.as_slice.ensures ∙ c.in_ok-places.ensures))
    (places_inside c.args.krates.now c.args.entries.now c.requires.apart c.requires.ids)

pub inverse_of-requires-clause-apart : goal.inverse_of-requires-clause-apart
inverse_of-requires-clause-apart c =
    subst (λ (ps : List ℕ). AllPairs (λ m n. m ≢ n) ps) (sym (c.as_slice.ensures ∙ c.in_ok-places.ensures))
    (places_apart c.args.krates.now c.args.entries.now c.requires.apart c.requires.ids)

pub returns : goal.returns
returns c =
    if_ok_then {Q = AreRanks c.args.krates.now} c.inverse_of.result c.inverse_of.ensures
    (λ ranks is. ranks_are c.args.krates.now c.args.entries.now c.requires.apart c.requires.ids ranks
    (subst (λ (ps : List ℕ). IsInverse ps (length c.args.krates.now) ranks)
    (c.as_slice.ensures ∙ c.in_ok-places.ensures) is))
