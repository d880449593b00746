use Rattle.std.proofs.Common.{◌++◌, List, ℕ, length, sym, ap, ◌∙◌, append-nil, arith}
use Rattle.std.specs.List.{flat_map, range_with_len}
use Rattle.deny_base_lists.proofs.Loops.{flat-run}
use Rattle.deny_krates.proofs.PlaceLemmas.{length_of}
use Rattle.deny_rules_match.proofs.RunLemmas.{empty_range}
use Rattle.deny_cfg.specs.PolicyView.{policy_view}
use Rattle.deny_spans.specs.SpansView.{spans_view}
use Rattle.deny_rules_manifests.specs.private.Wildcards.{found_keys_at}
use Rattle.deny_rules_manifests.proofs.wildcard_keys.add_each.Goals as goal

pub loop-place-preserved : goal.loop-place-preserved
loop-place-preserved c = flat-run (found_keys_at (policy_view c.args.cfg.now) c.args.krates.now
    (spans_view c.args.spans.now) c.args.asked.now)
    c.loop-place.keys c.add_at.new.keys _ c.loop-place.place _ (omega arith) c.in_ok-add_at.ensures
    c.loop-place.invariant

pub returns : goal.returns
returns c =
    let f = found_keys_at (policy_view c.args.cfg.now) c.args.krates.now (spans_view c.args.spans.now)
    c.args.asked.now in
    let crates = c.args.krates.now.crates in
    let end = length c.krates.result.now in
    sym (append-nil c.loop-place.keys)
    ∙ (ap (λ (places : List ℕ). c.loop-place.keys ++ flat_map f places)
    (sym (empty_range c.loop-place.place end (omega arith)))
    ∙ (c.loop-place.invariant
    ∙ ap (λ (n : ℕ). c.args.keys.now ++ flat_map f (range_with_len 0 n))
    (sym (length_of c.krates.result.now crates c.krates.ensures.crates))))
