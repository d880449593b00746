use Rattle.std.proofs.Common.{◌+◌, List, ap, arith, length, map, subst, sym, take, ◌∙◌}
use Rattle.std.specs.List.{list_any}
use Rattle.std.proofs.lemmas.List.{length-map, take_all}
use Rattle.deny_spec_report.specs.Features.{leaves_default}
use Rattle.deny_rules_match.proofs.MarkLemmas.{any_next_view, more_marks}
use Rattle.deny_rules_features.specs.declared.feature_match.FeatureMatch.{FeatureMatch}
use Rattle.deny_rules_features.specs.private.FeatureMatches.{IsFeatureMatch, entry_of}
use Rattle.deny_rules_features.proofs.default_enabled.left_open.Goals as goal

pub mark_open-requires-clause-is : goal.mark_open-requires-clause-is
mark_open-requires-clause-is c =
    subst (IsFeatureMatch c.args.krates.now) (sym c.entry-item.is)
    (c.requires c.loop-entry.entry-index c.entry-item.result c.loop-entry-test.true)

pub mark_open-requires-clause-long : goal.mark_open-requires-clause-long
mark_open-requires-clause-long c =
    ap length c.loop-entry.invariant
    ∙ length-map c.args.krates.now.crates
    (λ d. list_any (leaves_default d) (map entry_of (take c.loop-entry.entry-index c.args.found.now)))

pub loop-entry-preserved : goal.loop-entry-preserved
loop-entry-preserved c =
    let found = c.args.found.now in
    let i = c.loop-entry.entry-index in
    let item = c.entry-item.result in
    more_marks c.args.krates.now.crates (λ d. list_any (leaves_default d) (map entry_of (take i found)))
    (λ d. list_any (leaves_default d) (map entry_of (take (i + 1) found)))
    (λ d. leaves_default d (entry_of item)) c.loop-entry.marks c.mark_open.new.marks c.loop-entry.invariant
    c.mark_open.ensures
    (λ d. any_next_view entry_of (leaves_default d) found i item c.loop-entry-test.true c.entry-item.is)

pub returns : goal.returns
returns c =
    c.loop-entry.invariant
    ∙ ap (λ (ms : List FeatureMatch). map (λ d. list_any (leaves_default d) (map entry_of ms))
    c.args.krates.now.crates) (take_all c.loop-entry.entry-index c.args.found.now (omega arith))
