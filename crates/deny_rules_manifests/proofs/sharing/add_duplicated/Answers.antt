use Rattle.std.proofs.Common.{◌++◌, List, ℕ, length, sym, ap, ◌∙◌, append-nil, arith}
use Rattle.std.specs.List.{flat_map, range_with_len}
use Rattle.deny_base_lists.proofs.Loops.{flat-run}
use Rattle.deny_krates.proofs.PlaceLemmas.{length_of}
use Rattle.deny_rules_match.proofs.RunLemmas.{empty_range}
use Rattle.deny_rules_manifests.specs.Uses.{rows_in}
use Rattle.deny_rules_manifests.specs.private.Sharing.{duplicated_keys_at}
use Rattle.deny_rules_manifests.proofs.sharing.add_duplicated.Goals as goal

pub loop-place-preserved : goal.loop-place-preserved
loop-place-preserved c = flat-run (duplicated_keys_at (rows_in c.args.uses.now))
    c.loop-place.keys c.add_duplicated_at.new.keys _ c.loop-place.place _ (omega arith)
    c.in_ok-add_duplicated_at.ensures
    c.loop-place.invariant

pub returns : goal.returns
returns c =
    let f = duplicated_keys_at (rows_in c.args.uses.now) in
    let crates = c.args.krates.now.crates in
    let end = length c.krates.result.now in
    sym (append-nil c.loop-place.keys)
    ∙ (ap (λ (places : List ℕ). c.loop-place.keys ++ flat_map f places)
    (sym (empty_range c.loop-place.place end (omega arith)))
    ∙ (c.loop-place.invariant
    ∙ ap (λ (n : ℕ). c.args.keys.now ++ flat_map f (range_with_len 0 n))
    (sym (length_of c.krates.result.now crates c.krates.ensures.crates))))
