use Rattle.std.proofs.Common.{◌++◌, List, ap, ◌∙◌}
use Rattle.std.specs.List.{flat_map}
use Rattle.deny_base.specs.declared.key.Key.{Key}
use Rattle.deny_cfg.specs.PolicyView.{policy_view, roots_from}
use Rattle.deny_spec.specs.Skips.{skipped_by_root_keys_of}
use Rattle.deny_rules_match.specs.Marks.{facts_of}
use Rattle.deny_base_lists.proofs.Adding.{adds_list}
use Rattle.deny_rules_crates.proofs.SkipLemmas.{joined, needless_are, skipped_are, unmatched_are, unmatched_roots_are}
use Rattle.deny_rules_crates.proofs.skips.add_skip_keys.Goals as goal

pub add_skipped_by_roots-requires : goal.add_skipped_by_roots-requires
add_skipped_by_roots-requires c = c.as_slice.ensures ∙ c.args.found.now.grouped.marked

pub returns : goal.returns
returns c =
    let found = c.args.found.now in
    let p = policy_view found.cfg.now in
    let g = found.krates.now in
    let facts = facts_of found.marks in
    let skips = c.as_slice-skips.ensures ∙ found.skips_found in
    let roots = c.as_slice-roots.ensures ∙ found.roots_found in
    adds_list c.args.keys.now c.add_unmatched-2.new.keys _
    (joined c.args.keys.now c.add_skipped.new.keys c.add_skipped_by_roots.new.keys c.add_unmatched.new.keys
    c.add_unnecessary_skips.new.keys c.add_unmatched-2.new.keys _ _ _ _ _
    (c.in_ok-add_skipped.ensures ∙ ap (λ (keys : List Key). c.args.keys.now ++ keys)
    (skipped_are p g facts c.as_slice-skips.result.now skips))
    (c.in_ok-add_skipped_by_roots.ensures ∙ ap (λ es. c.add_skipped.new.keys ++ flat_map
    (skipped_by_root_keys_of p g facts) (roots_from 0 es)) c.as_slice-2.ensures)
    (c.in_ok-add_unmatched.ensures ∙ ap (λ (keys : List Key). c.add_skipped_by_roots.new.keys ++ keys)
    (unmatched_are p g facts c.as_slice-skips.result.now skips))
    (c.in_ok-add_unnecessary_skips.ensures ∙ ap (λ (keys : List Key). c.add_unmatched.new.keys ++ keys)
    (needless_are p g facts c.as_slice-skips.result.now skips))
    (c.in_ok-add_unmatched-2.ensures ∙ ap (λ (keys : List Key). c.add_unnecessary_skips.new.keys ++ keys)
    (unmatched_roots_are p g c.as_slice-roots.result.now roots)))
