use Rattle.std.proofs.Common.{◌≡◌, ◌++◌, ◌<◌, List, Some, drop, filter, length, map, slice_get, take, refl, sym, ap}
use Rattle.std.proofs.Common.{◌∙◌, arith, ℕ}
use Rattle.std.proofs.lemmas.List.{append-nil, map-append}
use Rattle.deny_cfg.specs.SpecView.{spec_view}
use Rattle.deny_krates.specs.Crates.{crate_view, crates_from}
use Rattle.deny_krates.specs.krate.Krate.{Krate}
use Rattle.deny_spec.specs.Graph.{Crate}
use Rattle.deny_spec.specs.Match.{meets}
use Rattle.semver.specs.Identifiers.{parts_of}
use Rattle.deny_rules_match.specs.private.Matching.{is_met_by}
use Rattle.deny_rules_match.proofs.MatchingLemmas.{met_is}
use Rattle.deny_krates.proofs.PlaceLemmas.{krate_there, place_of}
use Rattle.deny_rules_match.proofs.RunLemmas.{one-kept, one-left_out, run-step}
use Rattle.deny_rules_match.proofs.matching.meeting.Goals as goal
use Rattle.deny_rules_match.proofs.matching.meeting.Goals.{then-meets+in_ok-push, else-meets}

pub loop-place-preserved : goal.loop-place-preserved
loop-place-preserved c =
    let all = c.args.all.now in
    let crates = crates_from 0 all in
    let test = is_met_by (spec_view c.args.spec.now) in
    let place = c.loop-place.place in
    let krate = c.index-all-place.result in
    let inside : place < length all = omega arith in
    let here : slice_get crates place ≡ Some (crate_view place krate) = krate_there all crates place krate refl inside
    ∙ ap (λ k. Some (crate_view place k)) (sym c.index-all-place.is) in
    let met : test (crate_view place krate) ≡ c.meets.result =
    met_is (spec_view c.args.spec.now) place krate ∙ (ap (λ (k : Krate). meets (spec_view c.args.spec.now).requirement
    (parts_of k.version)) c.index-all-place.is ∙ sym c.meets.ensures) in
    let old : List ℕ = c.loop-place.places in
    let kept = λ (cs : List Crate). old ++ map place_of cs in
    let added : c.if-meets.places ≡ old ++ map place_of
    (filter test (take 1 (drop place crates))) = elim c.if-meets.branch as
    (λ _. c.if-meets.places ≡ old ++ map place_of (filter test (take 1 (drop place crates)))) [
      | then-meets+in_ok-push w ↦ w.places-is ∙ (w.in_ok-push.ensures.ok ∙ ap kept (sym (one-kept test crates place
          (crate_view place krate) here (met ∙ w.if-meets.true))))
      | else-meets w ↦ w.places-is ∙ (sym (append-nil old) ∙ ap kept (sym (one-left_out test crates place
          (crate_view place krate) here (met ∙ w.if-meets.false))))
    ] in
    run-step test (map place_of) (map-append place_of) crates old c.if-meets.places _ place c.args.run.end
    (omega arith) added c.loop-place.invariant
