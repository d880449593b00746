use Rattle.std.proofs.Common.{◌++◌, List, ap, ◌∙◌, subst}
use Rattle.std.specs.List.{flat_map}
use Rattle.std.specs.Prelude.{filter_map}
use Rattle.deny_base.specs.declared.entry.Hit.{Hit}
use Rattle.deny_rules_match.specs.Matches.{ban_of}
use Rattle.deny_rules_match.proofs.MatchLemmas.{ban_first}
use Rattle.deny_spec.specs.Policy.{SpannedText}
use Rattle.deny_rules_crates.specs.private.WrappedEdges.{LeadToFirsts, hit_at, wrapped_edges_at}
use Rattle.deny_rules_crates.specs.declared.hits.WrappedEdge.{WrappedEdge}
use Rattle.deny_rules_crates.proofs.HitLemmas.{hits-made}
use Rattle.deny_rules_crates.proofs.hits.add_hits_of_ban.Goals as goal

pub returns : goal.returns
returns c = λ p is.
    let g = c.args.krates.now in
    let ban = ban_of c.args.ban.now in
    let spans = c.args.ban.now.spans in
    let old = c.args.hits.now in
    let firsts = c.in_ok-firsts.firsts in
    let leads : LeadToFirsts (flat_map (wrapped_edges_at g spans) c.as_slice.result.now) firsts =
    subst (λ (edges : List WrappedEdge). LeadToFirsts edges firsts)
    (c.as_slice-2.ensures ∙ c.in_ok-edges.ensures) c.in_ok-firsts.ensures in
    c.in_ok-add_first_hits.ensures
    ∙ (ap (λ (ws : List SpannedText). old ++ filter_map (hit_at g firsts) ws) c.wrappers_of-wrappers.ensures
    ∙ ap (λ (hits : List Hit). old ++ hits)
    (hits-made p g c.are_placed.ensures ban spans c.as_slice.result.now firsts (c.as_slice.ensures ∙ is.places)
    (ban_first p g c.args.ban.now is) leads))
