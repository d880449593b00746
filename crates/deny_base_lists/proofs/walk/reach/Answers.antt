use Rattle.std.proofs.Common.{◌≡◌, ◌∙◌, List, Bool, map, ap}
use Rattle.std.specs.Prelude.{is_some}
use Rattle.std.proofs.lemmas.Result.{IfOk-weaker}
use Rattle.deny_base_lists.specs.Walk.{AreMarks}
use Rattle.deny_base_lists.proofs.WalkLemmas.{marks_of_distances}
use Rattle.deny_base_lists.proofs.walk.reach.Goals as goal

pub returns : goal.returns
returns g c =
    let graph = g.G.Neighbours in
    let leads = graph.leads c.args.graph.now in
    let count = graph.count c.args.graph.now in
    let distances = c.in_ok-distances.distances in
    IfOk-weaker c.marks_of.result (λ (marks : List Bool). marks ≡ map is_some c.as_slice.result.now)
    (AreMarks leads count c.args.roots.now)
    (λ marks is. marks_of_distances leads count c.args.roots.now distances marks c.requires.inside c.requires.roots
    c.in_ok-distances.ensures
    (is ∙ ap (map is_some) c.as_slice.ensures)) c.marks_of.ensures
