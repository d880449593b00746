use Rattle.std.proofs.Common.{◌∙◌, ◌≡◌, ◌≤◌, ◌+◌, ◌-◌, ◌<◌, ℕ, arith, ap, sym, length, subst, drop}
use Rattle.std.specs.Prelude.{◌&&◌, IfOk, IfSome, None, Option, Some, filter, find, option_map, take}
use Rattle.std.proofs.lemmas.List.{length-drop, length-take}
use Rattle.std.proofs.lemmas.Result.{IfOk-weaker}
use Rattle.deny_krates.proofs.CratesLemmas.{length-crates_from}
use Rattle.deny_krates.specs.Crates.{crates_from}
use Rattle.deny_spans_manifest.specs.Found.{requirement_read}
use Rattle.deny_spec.specs.Groups.{has_name}
use Rattle.deny_spans_workspace.specs.Agreement.{fits}
use Rattle.deny_spans_workspace.proofs.AgreementLemmas.{found_within, of_a_name}
use Rattle.deny_spans_workspace.proofs.agreement.place_of.Goals as goal

pub slice_bounds-named-end : goal.slice_bounds-named-end
slice_bounds-named-end c =
    let inside : c.places_by_name-places.result.end ≤ length c.krates.result.now = omega (
      arith,
      c.places_by_name-places.ensures.within,
      ap length c.krates.ensures.crates,
      length-crates_from 0 c.krates.result.now,
    ) in
    inside

pub returns-clause-place : goal.returns-clause-place
returns-clause-place c =
    let fitting = fits c.args.home.now (option_map (λ r. requirement_read r.now) c.args.requirement) in
    let ks = c.krates.result.now in
    let name = c.args.name.now in
    let start = c.places_by_name-places.result.start in
    let end = c.places_by_name-places.result.end in
    let inside : end ≤ length ks = omega (
      arith,
      c.places_by_name-places.ensures.within,
      ap length c.krates.ensures.crates,
      length-crates_from 0 ks,
    ) in
    let named : take (end - start) (drop start (crates_from 0 ks)) ≡ filter (has_name name) (crates_from 0 ks) =
    subst (λ cs. take (end - start) (drop start cs) ≡ filter (has_name name) cs) (sym c.krates.ensures.crates)
    c.places_by_name-places.ensures.named in
    let same = of_a_name fitting ks name start end c.places_by_name-places.ensures.upward inside named
    ∙ ap (find (λ k. fitting k && has_name name k)) c.krates.ensures.crates in
    subst (λ o. IfOk c.first_fitting.result (λ place. place ≡ option_map (λ k. k.place) o)) same c.first_fitting.ensures

pub returns-clause-within : goal.returns-clause-within
returns-clause-within c =
    let fitting = fits c.args.home.now (option_map (λ r. requirement_read r.now) c.args.requirement) in
    let ks = c.krates.result.now in
    let start = c.places_by_name-places.result.start in
    let end = c.places_by_name-places.result.end in
    let here = take (end - start) (drop start ks) in
    let within : start + length here ≤ length c.args.krates.now.crates = omega (
      arith,
      length-take (end - start) (drop start ks),
      length-drop start ks,
      c.places_by_name-places.ensures.upward,
      c.places_by_name-places.ensures.within,
      ap length c.krates.ensures.crates,
      length-crates_from 0 ks,
    ) in
    IfOk-weaker c.first_fitting.result _ _
    (λ place is. subst (λ o. IfSome o (λ n. n < length c.args.krates.now.crates)) (sym is)
    (below (option_map (λ k. k.place) (find fitting (crates_from start here))) (start + length here)
    (length c.args.krates.now.crates) within (found_within fitting start here))) c.first_fitting.ensures
  where
    below : (o : Option ℕ) (m n : ℕ) → m ≤ n → IfSome o (λ k. k < m) → IfSome o (λ k. k < n)
    below None m n le is = tt
    below (Some k) m n le is = omega arith
