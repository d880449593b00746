use Rattle.std.proofs.Common.{◌≡◌, ◌++◌, ◌-◌, drop, filter, map, take}
use Rattle.deny_cfg.specs.SpecView.{spec_view}
use Rattle.deny_krates.specs.Crates.{crates_from}
use Rattle.deny_rules_match.specs.private.Matching.{is_met_by}
use Rattle.deny_rules_match.proofs.matching.meeting.Given as goal

abbrev pub invariant-loop-place : goal.invariant-loop-place
invariant-loop-place l =
    l.places ++ map (λ c. c.place) (filter (is_met_by (spec_view l.spec))
    (take (l.fn.run.end - l.place) (drop l.place (crates_from 0 l.all))))
    ≡ map (λ c. c.place) (filter (is_met_by (spec_view l.spec))
    (take (l.fn.run.end - l.fn.run.start) (drop l.fn.run.start (crates_from 0 l.all))))
