use Rattle.std.proofs.Common.{◌≡◌, ℕ, List, subst}
use Rattle.std.specs.Prelude.{option_map}
use Rattle.deny_spec.specs.Graph.{Crate, Graph}
use Rattle.deny_krates_graph.specs.Ids.{crate_of}
use Rattle.deny_krates_graph.specs.declared.ids.IdEntry.{IdEntry}
use Rattle.deny_krates_graph.proofs.IdsLemmas.{FoundIn, place_answers}
use Rattle.deny_krates_graph.proofs.OrderlyLemmas.{apart_of}
use Rattle.deny_krates.proofs.krates.Krates.nid_for_kid.Goals as goal

pub returns : goal.returns
returns c =
    let k = c.self.inside in
    let id = c.args.kid.now.0 in
    let place = c.place_of.result in
    let found : FoundIn k.ids id place =
    subst (λ (t : List ℕ). FoundIn k.ids t place) c.as_str.ensures
    (subst (λ (es : List IdEntry). FoundIn es c.as_str.result.now place) c.as_slice.ensures
    record { found = c.place_of.ensures.found; none = c.place_of.ensures.none }) in
    subst (λ (g : Graph). place ≡ option_map (λ (c : Crate). c.place) (crate_of g id)) c.self.view_is
    (place_answers k.target_edges k.root k.krates k.members k.edges k.ids
    (apart_of k.target_edges k.root k.krates k.members k.edges c.self.invariant.orderly) c.self.invariant.ids id place
    found)
