use Rattle.std.proofs.Common.{◌+◌, map, take}
use Rattle.std.specs.List.{list_any}
use Rattle.deny_cfg.specs.SpecView.{spec_view}
use Rattle.deny_spec.specs.Match.{matches}
use Rattle.deny_rules_match.proofs.MarkLemmas.{any_next_view, more_marks}
use Rattle.deny_rules_match.proofs.groups.matched_marks.Goals as goal

pub loop-spec-preserved : goal.loop-spec-preserved
loop-spec-preserved c =
    let crates = c.args.krates.now.crates in
    let specs = c.args.specs.now in
    let i = c.loop-spec.spec-index in
    let item = c.spec-item.result in
    more_marks crates (λ d. list_any (λ s. matches s d) (map spec_view (take i specs)))
    (λ d. list_any (λ s. matches s d) (map spec_view (take (i + 1) specs)))
    (matches (spec_view item)) c.loop-spec.marks c.mark_spec.new.marks c.loop-spec.invariant
    c.in_ok-mark_spec.ensures.marks
    (λ d. any_next_view spec_view (λ s. matches s d) specs i item c.loop-spec-test.true c.spec-item.is)
