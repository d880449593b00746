use Rattle.std.proofs.Common.{◌++◌, ℕ, List, length, map, sym, ap, ◌∙◌, append-nil, arith}
use Rattle.std.specs.List.{range_with_len}
use Rattle.deny_krates.proofs.PlaceLemmas.{length_of}
use Rattle.deny_rules_match.proofs.RunLemmas.{empty_range, pushed-run}
use Rattle.deny_rules_manifests.specs.private.Asked.{is_asked_at}
use Rattle.deny_rules_manifests.proofs.asked.asked_by_marks.Goals as goal

pub loop-place-preserved : goal.loop-place-preserved
loop-place-preserved c =
    pushed-run (is_asked_at c.args.krates.now c.args.marks.now.counts.items c.args.groups.now) c.loop-place.asked
    c.push.new.self _ c.is_asked_at.result c.loop-place.place _ c.in_ok-push.ensures.ok c.is_asked_at.ensures
    (omega arith) c.loop-place.invariant

pub returns : goal.returns
returns c =
    let f = is_asked_at c.args.krates.now c.args.marks.now.counts.items c.args.groups.now in
    let crates = c.args.krates.now.crates in
    let end = length c.krates.result.now in
    sym (append-nil c.loop-place.asked)
    ∙ (ap (λ (places : List ℕ). c.loop-place.asked ++ map f places)
    (sym (empty_range c.loop-place.place end (omega arith)))
    ∙ (c.loop-place.invariant
    ∙ ap (λ (n : ℕ). map f (range_with_len 0 n)) (sym (length_of c.krates.result.now crates c.krates.ensures.crates))))
