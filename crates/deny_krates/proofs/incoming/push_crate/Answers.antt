use Rattle.std.proofs.Common.{◌≡◌, ◌<◌, ◌∙◌, ◌++◌, ◌∷◌, [], None, Some, arith, length, subst, sym}
use Rattle.std.proofs.lemmas.Option.{same_Some}
use Rattle.deny_krates_graph.specs.Crates.{crate_view}
use Rattle.deny_krates.specs.private.Sources.{parent_in}
use Rattle.deny_krates.proofs.NodeLemmas.{as_many, crate_read}
use Rattle.deny_krates.proofs.incoming.push_crate.Goals as goal
use Rattle.deny_spec.specs.Graph.{Crate}

pub bounds-krates-place : goal.bounds-krates-place
bounds-krates-place c = omega (arith, as_many c.krates.result.now c.args.krates.now c.krates.ensures.crates)

pub returns : goal.returns
returns c p at =
    let ks = c.krates.result.now in
    let g = c.args.krates.now in
    let place = c.args.place in
    let k = c.index-krates-place.result in
    let inside : place < length ks = omega (arith, as_many ks g c.krates.ensures.crates) in
    let there_is = crate_read ks g c.krates.ensures.crates place k inside c.index-krates-place.is in
    let same : crate_view place k ≡ p = same_Some (crate_view place k) p (sym there_is ∙ at) in
    subst (λ (q : Crate). c.add_krate.new.parents ≡ c.args.parents.now ++ parent_in q (Some c.args.kind) None ∷ []) same
    c.in_ok-add_krate.ensures
