use Rattle.std.proofs.Common.{◌≡◌, ◌++◌, ℕ, List, Bool, [], OnOk, filter, map, length, sym, ap, ◌∙◌, subst}
use Rattle.std.specs.List.{range_with_len}
use Rattle.std.specs.Prelude.{slice_index_or}
use Rattle.std.proofs.lemmas.Bool.{eqb-true}
use Rattle.std.proofs.lemmas.List.{append-nil, nil_from_length}
use Rattle.std.proofs.lemmas.Simd.{map-map}
use Rattle.deny_base.specs.declared.code.Code.TheVariants.{SkippedByRoot}
use Rattle.deny_base.specs.declared.key.Key.{Key}
use Rattle.deny_cfg.specs.PolicyView.{policy_view, root_view}
use Rattle.deny_spec.specs.Keys.{crate_key}
use Rattle.deny_spec.specs.Skips.{is_skipped_by_root, skipped_by_root_keys_of}
use Rattle.deny_rules_match.specs.Marks.{facts_of}
use Rattle.deny_rules_crates.specs.private.Skipping.{is_left_out}
use Rattle.deny_krates.proofs.PlaceLemmas.{are_placed, length_of, place_of}
use Rattle.deny_rules_crates.proofs.SkipLemmas.{left-out, no-tree}
use Rattle.deny_rules_crates.proofs.skips.add_skipped_by_root.Goals as goal

pub returns-then-is_empty : goal.returns-then-is_empty
returns-then-is_empty c =
    let root = root_view c.args.number c.args.root.now in
    let none : slice_index_or c.args.marks.now.trees c.args.number [] ≡ [] =
    sym (c.tree_at-tree.ensures ∙ ap
    (λ (trees : List (List Bool)). slice_index_or trees c.args.number []) c.as_slice.ensures)
    ∙ nil_from_length c.tree_at-tree.result.now (eqb-true (length c.tree_at-tree.result.now) 0
    (sym c.is_empty.ensures ∙ c.if-is_empty.true)) in
    sym (ap (λ (keys : List Key). c.args.keys.now ++ keys)
    (no-tree (policy_view c.args.cfg.now) c.args.krates.now c.args.marks.now root none)
    ∙ append-nil c.args.keys.now)

pub returns : goal.returns
unfolding skipped_by_root_keys_of
returns c =
    let p = policy_view c.args.cfg.now in
    let g = c.args.krates.now in
    let root = root_view c.args.number c.args.root.now in
    let all = c.krates.result.now in
    let placed = are_placed all g.crates c.krates.ensures.crates in
    let marks = c.args.marks.now in
    let skipped = c.args.skipped.now in
    let tree = c.tree_at-tree.result.now in
    let left = λ (counts : List Bool) (end : ℕ). filter (is_left_out counts skipped tree) (range_with_len 0 end) in
    subst (λ (keys : List Key). OnOk c.add_crate_keys.result (c.add_crate_keys.new.keys ≡ c.args.keys.now ++ keys))
    (ap (map (λ place. crate_key SkippedByRoot place root.spec.span)) (c.as_slice-3.ensures ∙ (c.in_ok-places.ensures
    ∙ (ap (λ (counts : List Bool). left counts (length all)) c.as_slice-2.ensures.value
    ∙ (ap (left marks.counts.items) (sym (length_of all g.crates c.krates.ensures.crates))
    ∙ left-out p g marks skipped tree root placed c.requires
    (c.tree_at-tree.ensures ∙ ap
    (λ (trees : List (List Bool)). slice_index_or trees c.args.number []) c.as_slice.ensures)))))
    ∙ map-map (λ place. crate_key SkippedByRoot place root.spec.span) place_of
    (filter (is_skipped_by_root p (facts_of c.args.marks.now) root) g.crates))
    c.add_crate_keys.ensures
