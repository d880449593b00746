use Rattle.std.proofs.Common.{◌≡◌, ◌<◌, ℕ, List, [], IfOk, Option, ap, arith, length, subst, sym}
use Rattle.std.specs.Option.{option_map_or}
use Rattle.semver.specs.Identifiers.{parts_text}
use Rattle.deny_spec.specs.Graph.{Crate}
use Rattle.deny_krates.proofs.NodeLemmas.{as_many, crate_read}
use Rattle.deny_krates_trees.proofs.shown.version_of.Goals as goal

pub bounds-krates-place : goal.bounds-krates-place
bounds-krates-place c =
    omega (arith, c.requires, as_many c.krates.result.now c.args.krates.now c.krates.ensures.crates)

pub returns : goal.returns
returns c =
    let ks = c.krates.result.now in
    let g = c.args.krates.now in
    let within : c.args.place < length ks = omega (arith, c.requires, as_many ks g c.krates.ensures.crates) in
    let at = crate_read ks g c.krates.ensures.crates c.args.place c.index-krates-place.result within
    c.index-krates-place.is in
    subst (λ (t : List ℕ). IfOk c.version_text.result (λ version. version ≡ t))
    (sym (ap (λ (o : Option Crate). option_map_or (λ x. parts_text x.version) o []) at)) c.version_text.ensures
