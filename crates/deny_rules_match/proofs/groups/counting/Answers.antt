use Rattle.std.proofs.Common.{◌≡◌, Bool, List, ℕ, filter, ap, ◌∙◌}
use Rattle.deny_cfg.specs.PolicyView.{entry_view}
use Rattle.deny_spec.specs.Match.{matches}
use Rattle.deny_spec.specs.Skips.{is_skipped}
use Rattle.deny_rules_match.specs.Marks.{facts_of, mark_at}
use Rattle.deny_rules_match.specs.Matches.{places_of}
use Rattle.deny_rules_match.specs.declared.entry_match.EntryMatch.{EntryMatch}
use Rattle.deny_rules_match.proofs.MatchLemmas.{marked-places}
use Rattle.deny_rules_match.proofs.groups.counting.Goals as goal

pub returns : goal.returns
unfolding is_skipped
returns c = λ g are.
    let skip = entry_view c.args.skip.now in
    let counts = c.args.marks.now.counts.items in
    let kept : c.in_ok-counting.counting ≡ places_of g (is_skipped (facts_of c.args.marks.now) skip) =
    c.in_ok-counting.ensures
    ∙ (ap (λ (marks : List Bool). filter (mark_at marks) c.args.places.now) c.as_slice.ensures.value
    ∙ (ap (filter (mark_at counts)) are ∙ marked-places counts (matches skip.spec) g.crates)) in
    let made : List ℕ → List ℕ → EntryMatch = λ name places. record {
      name = name;
      span = skip.spec.span;
      places = places;
    } in
    ap (λ (name : List ℕ). made name c.in_ok-counting.counting) c.in_ok-clone.ensures.cases
    ∙ ap (made skip.spec.name) kept
