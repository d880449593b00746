use Rattle.std.proofs.Common.{◌≡◌, ◌-◌, IfOk, List, drop, filter, map, take, ap, ◌∙◌, subst, arith}
use Rattle.deny_cfg.specs.SpecView.{spec_view}
use Rattle.deny_spec.specs.Graph.{Crate}
use Rattle.deny_spec.specs.Groups.{has_name}
use Rattle.deny_rules_match.specs.private.Matching.{is_met_by}
use Rattle.deny_rules_match.proofs.MatchingLemmas.{named-matches}
use Rattle.deny_krates.proofs.PlaceLemmas.{length_of}
use Rattle.deny_rules_match.proofs.matching.matched.Goals as goal

pub meeting-requires-clause-within : goal.meeting-requires-clause-within
meeting-requires-clause-within c =
    omega (
      arith,
      length_of c.krates-all.result.now c.args.krates.now.crates c.krates-all.ensures.crates,
      c.places_by_name-named.ensures.within,
    )

pub returns : goal.returns
returns c =
    let crates = c.args.krates.now.crates in
    let spec = spec_view c.args.spec.now in
    let run = c.places_by_name-named in
    let named = run.ensures.named ∙ ap (λ name. filter (has_name name) crates) c.as_str.ensures in
    let met = ap (λ (cs : List Crate). filter (is_met_by spec)
    (take (run.result.end - run.result.start) (drop run.result.start cs))) c.krates-all.ensures.crates
    ∙ (ap (filter (is_met_by spec)) named ∙ named-matches spec crates) in
    subst (λ (cs : List Crate). IfOk c.meeting.result
    (λ places. places ≡ map (λ (c : Crate). c.place) cs)) met c.meeting.ensures
