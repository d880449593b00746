use Rattle.std.proofs.Common.{◌≡◌, ◌<◌, length, slice_index_or, sym, subst, List, refl}
use Rattle.std.proofs.lemmas.Option.{slice_get_read}
use Rattle.deny_spec.specs.Graph.{Graph}
use Rattle.deny_krates_graph.specs.declared.krate.DirectDependent.{DirectDependent}
use Rattle.deny_krates.proofs.krates.Krates.direct_dependents.Goals as goal

pub returns : goal.returns
returns c =
    let row = c.index-as_slice-place.result in
    let place = c.args.place in
    let rows = c.self.inside.dependents in
    let inside : place < length rows = let Q : Graph → Type 0 = λ g. place < length g.crates in rw
    c.self.invariant.dependent_rows.length (subst Q (sym c.self.view_is) c.requires) in
    let P : List (List DirectDependent) → Type 0 = λ xs. row ≡ slice_index_or xs place row in
    let is : row ≡ slice_index_or rows place row = subst P c.as_slice.ensures c.index-as_slice-place.is in
    rw (c.as_slice-2.ensures, ← c.self.view_is)
    (c.self.invariant.dependent_rows.each place row (slice_get_read rows (length rows) place row refl inside is))
