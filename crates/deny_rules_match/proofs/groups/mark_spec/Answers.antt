use Rattle.std.proofs.Common.{length, ◌∙◌}
use Rattle.deny_cfg.specs.SpecView.{spec_view}
use Rattle.deny_spec.specs.Match.{matches}
use Rattle.deny_rules_match.proofs.MarkLemmas.{adds_matched, places_within}
use Rattle.deny_rules_match.proofs.groups.mark_spec.Goals as goal

pub mark_each-requires : goal.mark_each-requires
mark_each-requires c =
    places_within c.args.krates.now.crates c.are_placed.ensures
    (matches (spec_view c.args.spec.now)) c.as_slice.result.now (length c.args.marks.now)
    (c.as_slice.ensures ∙ c.in_ok-places.ensures) c.requires

pub returns-clause-marks : goal.returns-clause-marks
returns-clause-marks c =
    adds_matched c.args.krates.now.crates c.are_placed.ensures
    (matches (spec_view c.args.spec.now)) c.as_slice.result.now c.args.marks.now c.mark_each.new.marks
    (c.as_slice.ensures ∙ c.in_ok-places.ensures) c.mark_each.ensures
