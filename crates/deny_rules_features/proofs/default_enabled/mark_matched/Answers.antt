use Rattle.std.proofs.Common.{length, ◌∙◌}
use Rattle.deny_spec.specs.Match.{matches}
use Rattle.deny_rules_match.proofs.MarkLemmas.{adds_matched, places_within}
use Rattle.deny_rules_features.specs.private.FeatureMatches.{entry_of}
use Rattle.deny_rules_features.proofs.default_enabled.mark_matched.Goals as goal

pub mark_each-requires : goal.mark_each-requires
mark_each-requires c =
    places_within c.args.krates.now.crates c.are_placed.ensures
    (matches (entry_of c.args.found.now).spec) c.as_slice.result.now (length c.args.marks.now)
    (c.as_slice.ensures ∙ c.requires.is.places) c.requires.long

pub returns : goal.returns
returns c =
    adds_matched c.args.krates.now.crates c.are_placed.ensures
    (matches (entry_of c.args.found.now).spec) c.as_slice.result.now c.args.marks.now c.mark_each.new.marks
    (c.as_slice.ensures ∙ c.requires.is.places) c.mark_each.ensures
