use Rattle.std.proofs.Common.{◌≡◌, ◌++◌, List, length, map, sym, ap, ◌∙◌, append_assoc}
use Rattle.std.specs.List.{flat_map}
use Rattle.std.proofs.lemmas.Bool.{eqb-false, eqb-true}
use Rattle.std.proofs.lemmas.List.{append-nil, length-map}
use Rattle.std.proofs.lemmas.Result.{on_ok_weaker}
use Rattle.deny_base.specs.declared.key.Key.{Key}
use Rattle.deny_cfg.specs.PolicyView.{allow_view, policy_view}
use Rattle.deny_spec.specs.Bans.{allowed_keys_of, not_allowed_keys}
use Rattle.deny_spec.specs.Policy.{AllowEntry}
use Rattle.deny_rules_crates.specs.private.Allowed.{allows}
use Rattle.deny_rules_crates.proofs.AllowedLemmas.{not_allowed_are, nothing_allowed}
use Rattle.deny_rules_crates.proofs.allowed.add_allowed_keys.Goals as goal

pub returns-then-is_empty : goal.returns-then-is_empty
returns-then-is_empty c =
    let p = policy_view c.args.cfg.now in
    let none : length p.allow ≡ 0 =
    length-map c.args.cfg.now.allowed allow_view
    ∙ (ap length (sym c.as_slice-entries.ensures)
    ∙ eqb-true (length c.as_slice-entries.result.now) 0 (sym c.is_empty.ensures ∙ c.if-is_empty.true)) in
    sym (ap (λ (keys : List Key). c.args.keys.now ++ keys) (nothing_allowed p c.args.krates.now none)
    ∙ append-nil c.args.keys.now)

pub returns : goal.returns
returns c =
    let p = policy_view c.args.cfg.now in
    let g = c.args.krates.now in
    let entries = c.as_slice-entries.result.now in
    let view : map allow_view entries ≡ p.allow = ap (map allow_view) c.as_slice-entries.ensures in
    let marks : c.as_slice.result.now ≡ map (allows p.allow) g.crates = c.as_slice.ensures
    ∙ (c.in_ok-allowed.ensures.marks ∙ ap (λ (es : List AllowEntry). map (allows es) g.crates) view) in
    let left = not_allowed_are p g c.as_slice.result.now c.args.exempt.now c.are_placed.ensures
    (λ none. eqb-false (length entries) 0 (sym c.is_empty.ensures ∙ c.if-is_empty.false)
    (ap length c.as_slice-entries.ensures ∙ (sym (length-map c.args.cfg.now.allowed allow_view) ∙ none)))
    marks c.requires in
    let reported = c.in_ok-allowed.ensures.reported ∙ ap (λ (es : List AllowEntry). c.args.keys.now ++ flat_map
    (allowed_keys_of g) es) view in
    on_ok_weaker c.add_unmarked_keys.result
    (λ added. added
    ∙ (ap (λ (keys : List Key). c.allow_each.new.keys ++ keys) left
    ∙ (ap (λ (keys : List Key). keys ++ not_allowed_keys p g) reported
    ∙ append_assoc c.args.keys.now (flat_map (allowed_keys_of g) p.allow) (not_allowed_keys p g))))
    c.add_unmarked_keys.ensures
