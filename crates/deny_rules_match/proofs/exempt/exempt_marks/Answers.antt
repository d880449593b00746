use Rattle.std.proofs.Common.{◌≡◌, ◌<◌, ℕ, List, true, false, length, sym, ap, ◌∙◌, subst, rules}
use Rattle.std.specs.Prelude.{All}
use Rattle.std.proofs.lemmas.List.{length-map}
use Rattle.deny_cfg.specs.PolicyView.{policy_view}
use Rattle.deny_rules_match.proofs.ExemptLemmas.{members_exempt, none_exempt}
use Rattle.deny_krates.proofs.PlaceLemmas.{are_placed}
use Rattle.deny_rules_match.proofs.exempt.exempt_marks.Goals as goal

pub returns-then-not-cfg : goal.returns-then-not-cfg
returns-then-not-cfg c =
    let denied : c.args.cfg.now.allow_workspace ≡ false = search rules in
    none_exempt (policy_view c.args.cfg.now) c.args.krates.now c.in_ok-marks.marks denied c.in_ok-marks.ensures

pub mark_each-requires : goal.mark_each-requires
mark_each-requires c =
    let g = c.args.krates.now in
    let long : length c.in_ok-marks.marks ≡ length g.crates =
    ap length c.in_ok-marks.ensures ∙ length-map g.crates (λ _. false) in
    subst (λ (n : ℕ). All (λ (place : ℕ). place < n) c.workspace_members.result.now) (sym long)
    (subst (λ (places : List ℕ). All (λ (place : ℕ). place < length g.crates) places)
    (sym c.workspace_members.ensures.members) c.krates-orderly.ensures.orderly.members)

pub returns : goal.returns
returns c =
    let g = c.args.krates.now in
    let allowed : c.args.cfg.now.allow_workspace ≡ true = search rules in
    members_exempt (policy_view c.args.cfg.now) g c.in_ok-marks.marks c.mark_each.new.marks
    c.workspace_members.result.now
    (are_placed c.krates-orderly.result.now g.crates c.krates-orderly.ensures.crates) allowed
    c.in_ok-marks.ensures c.workspace_members.ensures.members c.mark_each.ensures
