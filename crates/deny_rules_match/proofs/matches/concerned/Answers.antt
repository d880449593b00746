use Rattle.std.proofs.Common.{◌≡◌, IfOk, List, ℕ, not, filter, map, ap, ◌∙◌, subst}
use Rattle.deny_cfg.specs.SpecView.{spec_view}
use Rattle.deny_spec.specs.Match.{matches}
use Rattle.deny_rules_match.specs.Marks.{mark_at, marked}
use Rattle.deny_base_lists.proofs.Filters.{filter-filter, filter-map}
use Rattle.deny_krates.proofs.PlaceLemmas.{place_of}
use Rattle.deny_rules_match.proofs.matches.concerned.Goals as goal

pub returns : goal.returns
returns c =
    let crates = c.args.krates.now.crates in
    let exempt = c.args.exempt.now in
    let spec = spec_view c.args.spec.now in
    subst (λ (places : List ℕ). IfOk c.unmarked.result (λ rest. rest ≡ places))
    (ap (filter (λ place. not (mark_at exempt place))) (c.as_slice.ensures ∙ c.in_ok-places.ensures)
    ∙ (filter-map (λ place. not (mark_at exempt place)) place_of (filter (matches spec) crates)
    ∙ ap (map place_of) (filter-filter (matches spec) (λ k. not (marked exempt k)) crates)))
    c.unmarked.ensures
