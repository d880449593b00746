use Rattle.std.proofs.Common.{◌+◌, List, ap, arith, length, map, subst, sym, take, ◌∙◌}
use Rattle.std.specs.List.{list_any}
use Rattle.std.proofs.lemmas.List.{length-map, take_all}
use Rattle.deny_spec.specs.Match.{matches}
use Rattle.deny_rules_match.proofs.MarkLemmas.{any_next_view, more_marks}
use Rattle.deny_rules_features.specs.declared.feature_match.FeatureMatch.{FeatureMatch}
use Rattle.deny_rules_features.specs.private.FeatureMatches.{IsFeatureMatch, entry_of}
use Rattle.deny_rules_features.proofs.default_enabled.matched_marks.Goals as goal

pub loop-entry-init : goal.loop-entry-init
loop-entry-init c = c.in_ok-marks.ensures

pub mark_matched-requires-clause-is : goal.mark_matched-requires-clause-is
mark_matched-requires-clause-is c =
    subst (IsFeatureMatch c.args.krates.now) (sym c.entry-item.is)
    (c.requires c.loop-entry.entry-index c.entry-item.result c.loop-entry-test.true)

pub mark_matched-requires-clause-long : goal.mark_matched-requires-clause-long
mark_matched-requires-clause-long c =
    ap length c.loop-entry.invariant
    ∙ length-map c.args.krates.now.crates
    (λ d. list_any (λ e. matches e.spec d) (map entry_of (take c.loop-entry.entry-index c.args.found.now)))

pub loop-entry-preserved : goal.loop-entry-preserved
loop-entry-preserved c =
    let found = c.args.found.now in
    let i = c.loop-entry.entry-index in
    let item = c.entry-item.result in
    more_marks c.args.krates.now.crates (λ d. list_any (λ e. matches e.spec d) (map entry_of (take i found)))
    (λ d. list_any (λ e. matches e.spec d) (map entry_of (take (i + 1) found)))
    (matches (entry_of item).spec) c.loop-entry.marks c.mark_matched.new.marks c.loop-entry.invariant
    c.mark_matched.ensures
    (λ d. any_next_view entry_of (λ e. matches e.spec d) found i item c.loop-entry-test.true c.entry-item.is)

pub returns : goal.returns
returns c =
    c.loop-entry.invariant
    ∙ ap (λ (ms : List FeatureMatch). map (λ d. list_any (λ e. matches e.spec d) (map entry_of ms))
    c.args.krates.now.crates) (take_all c.loop-entry.entry-index c.args.found.now (omega arith))
