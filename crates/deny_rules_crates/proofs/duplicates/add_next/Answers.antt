use Rattle.std.proofs.Common.{◌<◌, ◌-◌, Option, Some, None, length, take, drop, sym, subst, arith}
use Rattle.std.proofs.lemmas.List.{append-nil}
use Rattle.deny_base.specs.declared.key.Key.{Key}
use Rattle.deny_rules_crates.specs.private.Duplicates.{IsKeyOfCrates}
use Rattle.deny_rules_crates.proofs.DuplicateLemmas.{adds_key}
use Rattle.deny_krates.proofs.PlaceLemmas.{are_placed, krate_there, length_of}
use Rattle.deny_rules_match.proofs.RunLemmas.{run_of}
use Rattle.deny_rules_crates.proofs.duplicates.add_next.Goals as goal

pub offset_bounds-krates-place : goal.offset_bounds-krates-place
offset_bounds-krates-place c = omega (
  arith,
  c.requires,
  c.krates.ensures.few,
  length_of c.krates.result.now
      c.args.krates.now.crates c.krates.ensures.crates,
)

pub bounds-krates-place : goal.bounds-krates-place
bounds-krates-place c =
    omega (arith, c.requires, length_of c.krates.result.now c.args.krates.now.crates c.krates.ensures.crates)

pub returns-in_ok-push : goal.returns-in_ok-push
returns-in_ok-push c =
    let ks = c.krates.result.now in
    let g = c.args.krates.now in
    let run = c.places_by_name-run in
    let name = c.as_str-name.result.now in
    let inside : c.args.place < length ks = omega (arith, c.requires, length_of ks g.crates c.krates.ensures.crates) in
    let is = run_of g.crates name c.args.place run.result.start run.result.end _
    (are_placed ks g.crates c.krates.ensures.crates)
    (krate_there ks g.crates c.args.place c.index-krates-place.result c.krates.ensures.crates inside)
    (sym c.as_str-name.ensures) run.ensures.upward run.ensures.within run.ensures.named in
    adds_key g c.args.policy.now name c.args.place run.result.start run.result.end
    (Some c.in-Some.key) c.args.keys.now c.push.new.self run.ensures.within is run.ensures.named
    (subst (λ (key : Option Key). IsKeyOfCrates c.args.policy.now
    (take (run.result.end - run.result.start)
    (drop run.result.start g.crates)) key) c.in-Some.is c.in_ok-key.ensures) c.in_ok-push.ensures.ok

pub returns-in_default : goal.returns-in_default
returns-in_default c =
    let ks = c.krates.result.now in
    let g = c.args.krates.now in
    let run = c.places_by_name-run in
    let name = c.as_str-name.result.now in
    let inside : c.args.place < length ks = omega (arith, c.requires, length_of ks g.crates c.krates.ensures.crates) in
    let is = run_of g.crates name c.args.place run.result.start run.result.end _
    (are_placed ks g.crates c.krates.ensures.crates)
    (krate_there ks g.crates c.args.place c.index-krates-place.result c.krates.ensures.crates inside)
    (sym c.as_str-name.ensures) run.ensures.upward run.ensures.within run.ensures.named in
    adds_key g c.args.policy.now name c.args.place run.result.start run.result.end None c.args.keys.now c.args.keys.now
    run.ensures.within is run.ensures.named
    (subst (λ (key : Option Key). IsKeyOfCrates c.args.policy.now
    (take (run.result.end - run.result.start)
    (drop run.result.start g.crates)) key) c.in_default.is c.in_ok-key.ensures) (sym (append-nil c.args.keys.now))
