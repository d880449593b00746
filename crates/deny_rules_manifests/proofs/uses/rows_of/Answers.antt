use Rattle.std.proofs.Common.{ℕ, List, [], length, take, subst, sym, ap, ◌∙◌}
use Rattle.std.specs.Prelude.{replicate}
use Rattle.std.specs.List.{flat_map}
use Rattle.std.proofs.lemmas.List.{take_all}
use Rattle.deny_cfg.specs.PolicyView.{sharing_view}
use Rattle.deny_spec_report.specs.Sharing.{Use, all_uses, uses_at}
use Rattle.deny_krates.proofs.PlaceLemmas.{length_of}
use Rattle.deny_spans.specs.SpansView.{spans_view}
use Rattle.deny_rules_manifests.specs.declared.uses.Use.{Use as UseValue}
use Rattle.deny_rules_manifests.specs.private.Rows.{AreRowsOf}
use Rattle.deny_rules_manifests.proofs.FlatLemmas.{flat-take_more}
use Rattle.deny_rules_manifests.proofs.RowLemmas.{none_put}
use Rattle.deny_rules_manifests.proofs.uses.rows_of.Goals as goal

pub loop-member-init : goal.loop-member-init
loop-member-init c =
    let crates = c.args.krates.now.crates in
    let long = length_of c.krates.result.now crates c.krates.ensures.crates in
    subst (λ (rows : List (List UseValue)). AreRowsOf (length crates) [] rows)
    (sym (c.in_ok-rows.ensures ∙ ap (λ (n : ℕ). replicate n []) (sym long))) (none_put (length crates))

pub loop-member-preserved : goal.loop-member-preserved
loop-member-preserved c =
    let g = c.args.krates.now in
    let f = uses_at (sharing_view c.args.sharing.now) g (spans_view c.args.spans.now) in
    let members = c.workspace_members-members.result.now in
    let i = c.loop-member.member-index in
    subst (λ (us : List Use). AreRowsOf (length g.crates) us c.put_uses_at.new.rows.items)
    (sym (flat-take_more f members i 0 c.loop-member-test.true))
    (c.in_ok-put_uses_at.ensures (flat_map f (take i members)) c.loop-member.invariant)

pub returns : goal.returns
unfolding all_uses
returns c =
    let g = c.args.krates.now in
    let f = uses_at (sharing_view c.args.sharing.now) g (spans_view c.args.spans.now) in
    let members = c.workspace_members-members.result.now in
    subst (λ (rows : List (List UseValue)). AreRowsOf (length g.crates) (flat_map f g.members) rows)
    (sym c.from_vec.ensures)
    (subst (λ (us : List Use). AreRowsOf (length g.crates) us c.loop-member.rows.items)
    (ap (flat_map f) (take_all c.loop-member.member-index members c.loop-member-test.false
    ∙ c.workspace_members-members.ensures.members)) c.loop-member.invariant)
