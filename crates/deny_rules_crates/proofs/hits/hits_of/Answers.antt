use Rattle.std.proofs.Common.{◌≡◌, ◌++◌, List, [], ap, ◌∙◌, append_assoc}
use Rattle.deny_base.specs.declared.entry.Hit.{Hit}
use Rattle.deny_cfg.specs.PolicyView.{policy_view}
use Rattle.deny_rules_match.specs.Marks.{facts_of}
use Rattle.deny_rules_crates.proofs.HitLemmas.{root_hits_are, skip_hits_are}
use Rattle.deny_rules_crates.proofs.hits.hits_of.Goals as goal

three : (old first second third a b d : List Hit) → old ≡ [] → first ≡ old ++ a → second ≡ first ++ b
    → third ≡ second ++ d → third ≡ a ++ (b ++ d)
three old first second third a b d p q r s = rw (s, r, q, p) (append_assoc a b d)

pub returns : goal.returns
returns c =
    let found = c.args.found.now in
    let p = policy_view found.cfg.now in
    let g = found.krates.now in
    let placed = c.are_placed.ensures in
    three c.new-hits.result c.add_entry_hits.new.hits c.add_entry_hits-2.new.hits c.add_wrapper_hits.new.hits _ _ _
    c.new-hits.ensures
    (c.in_ok-add_entry_hits.ensures ∙ ap (λ (hits : List Hit). c.new-hits.result ++ hits)
    (skip_hits_are p g placed (facts_of found.marks) c.as_slice.result.now (c.as_slice.ensures ∙ found.skips_found)))
    (c.in_ok-add_entry_hits-2.ensures ∙ ap (λ (hits : List Hit). c.add_entry_hits.new.hits ++ hits)
    (root_hits_are p g placed c.as_slice-2.result.now (c.as_slice-2.ensures ∙ found.roots_found)))
    c.in_ok-add_wrapper_hits.ensures
