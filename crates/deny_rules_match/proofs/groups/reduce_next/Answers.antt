use Rattle.std.proofs.Common.{◌==◌, ◌<◌, List, ℕ, length, filter, sym, ap, ◌∙◌, arith}
use Rattle.deny_spec.specs.Graph.{Crate}
use Rattle.deny_rules_match.specs.Marks.{marked}
use Rattle.deny_rules_match.proofs.GroupLemmas.{left_in_run}
use Rattle.deny_krates.proofs.PlaceLemmas.{are_placed, krate_there, length_of}
use Rattle.deny_rules_match.proofs.RunLemmas.{count-run, run_of}
use Rattle.deny_rules_match.proofs.groups.reduce_next.Goals as goal

pub offset_bounds-krates-place : goal.offset_bounds-krates-place
offset_bounds-krates-place c = omega (
  arith,
  c.requires,
  c.krates.ensures.few,
  length_of c.krates.result.now
      c.args.krates.now.crates c.krates.ensures.crates,
)

pub bounds-krates-place : goal.bounds-krates-place
bounds-krates-place c =
    omega (arith, c.requires, length_of c.krates.result.now c.args.krates.now.crates c.krates.ensures.crates)

pub overflow_cast-rest : goal.overflow_cast-rest
overflow_cast-rest c = omega (
  arith,
  c.requires,
  c.krates.ensures.few,
  length_of c.krates.result.now
      c.args.krates.now.crates c.krates.ensures.crates,
)

pub reduce_run-requires-clause-upward : goal.reduce_run-requires-clause-upward
reduce_run-requires-clause-upward c =
    let ks = c.krates.result.now in
    let g = c.args.krates.now in
    let inside : c.args.place < length ks = omega (arith, c.requires, length_of ks g.crates c.krates.ensures.crates) in
    let run = run_of g.crates c.as_str-name.result.now c.args.place c.places_by_name-run.result.start
    c.places_by_name-run.result.end _
    (are_placed ks g.crates c.krates.ensures.crates)
    (krate_there ks g.crates c.args.place c.index-krates-place.result c.krates.ensures.crates inside)
    (sym c.as_str-name.ensures) c.places_by_name-run.ensures.upward c.places_by_name-run.ensures.within
    c.places_by_name-run.ensures.named in
    omega (arith, run.past)

pub returns : goal.returns
returns c =
    let ks = c.krates.result.now in
    let g = c.args.krates.now in
    let marks = c.args.candidates.now in
    let name = c.as_str-name.result.now in
    let start = c.places_by_name-run.result.start in
    let end = c.places_by_name-run.result.end in
    let placed = are_placed ks g.crates c.krates.ensures.crates in
    let inside : c.args.place < length ks = omega (arith, c.requires, length_of ks g.crates c.krates.ensures.crates) in
    let run = run_of g.crates name c.args.place start end _ placed
    (krate_there ks g.crates c.args.place c.index-krates-place.result c.krates.ensures.crates inside)
    (sym c.as_str-name.ensures) c.places_by_name-run.ensures.upward c.places_by_name-run.ensures.within
    c.places_by_name-run.ensures.named in
    let count = c.count_marked-alone.ensures ∙
    (count-run g.crates placed start end c.places_by_name-run.ensures.upward c.places_by_name-run.ensures.within marks
    ∙ ap (λ (cs : List Crate). length (filter (marked marks) cs)) c.places_by_name-run.ensures.named) in
    left_in_run g marks name
    (c.count_marked-alone.result == 1) c.args.place start end placed c.places_by_name-run.ensures.within run
    (ap (λ (n : ℕ). n == 1) count) c.args.reduced.now c.reduce_run.new.reduced c.in_ok-reduce_run.ensures
