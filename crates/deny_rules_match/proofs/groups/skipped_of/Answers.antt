use Rattle.std.proofs.Common.{◌+◌, ◌++◌, ◌∷◌, [], map, take, ap, ◌∙◌}
use Rattle.std.specs.List.{list_any}
use Rattle.deny_cfg.specs.PolicyView.{entry_view}
use Rattle.deny_cfg.specs.SpecView.{spec_view}
use Rattle.deny_spec.specs.Match.{matches}
use Rattle.deny_rules_match.specs.Marks.{facts_of}
use Rattle.deny_rules_match.specs.Matches.{skip_match}
use Rattle.deny_rules_match.specs.declared.entry_match.EntryMatch.{EntryMatch}
use Rattle.deny_rules_match.proofs.MarkLemmas.{any_next_view, more_marks}
use Rattle.deny_rules_match.proofs.MatchLemmas.{map-step}
use Rattle.deny_rules_match.proofs.groups.skipped_of.Goals as goal

pub loop-skip-preserved : goal.loop-skip-preserved
loop-skip-preserved c =
    let g = c.args.krates.now in
    let facts = facts_of c.args.marks.now in
    let skips = c.args.skips.now in
    let i = c.loop-skip.skip-index in
    let item = c.skip-item.result in
    let places = c.as_slice.ensures ∙ c.in_ok-places.ensures.places in
    record {
      marks = more_marks g.crates (λ d. list_any (λ s. matches s.spec d) (map entry_view (take i skips)))
          (λ d. list_any (λ s. matches s.spec d) (map entry_view (take (i + 1) skips)))
          (matches (spec_view item.spec)) c.loop-skip.skipped c.mark_spec.new.marks c.loop-skip.invariant.marks
          c.in_ok-places.ensures.marks
          (λ d. any_next_view entry_view (λ s. matches s.spec d) skips i item c.loop-skip-test.true c.skip-item.is);
      found = map-step (λ s. skip_match g facts (entry_view s)) skips item i c.loop-skip.found c.push.new.self _
          c.loop-skip-test.true c.skip-item.is
          (c.in_ok-push.ensures.ok
          ∙ ap (λ (m : EntryMatch). c.loop-skip.found ++ m ∷ []) (c.in_ok-counting.ensures g places))
          c.loop-skip.invariant.found;
    }
