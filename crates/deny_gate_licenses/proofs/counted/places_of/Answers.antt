use Rattle.std.proofs.Common.{◌++◌, List, ℕ, length, sym, ap, ◌∙◌, append-nil, arith}
use Rattle.std.specs.List.{flat_map, range_with_len}
use Rattle.deny_krates.proofs.PlaceLemmas.{length_of}
use Rattle.deny_rules_match.proofs.RunLemmas.{empty_range}
use Rattle.deny_gate_licenses.specs.private.Counted.{place_if}
use Rattle.deny_gate_licenses.proofs.JudgedLemmas.{places-more}
use Rattle.deny_gate_licenses.proofs.counted.places_of.Goals as goal

pub loop-place-preserved : goal.loop-place-preserved
loop-place-preserved c = places-more c.args.marks.now c.loop-place.places c.add_marked.new.places _ c.loop-place.place
    (length c.krates.result.now) (omega (arith, c.loop-place-test.true)) c.in_ok-add_marked.ensures
    c.loop-place.invariant

pub returns : goal.returns
returns c =
    let f = place_if c.args.marks.now in
    let end = length c.krates.result.now in
    sym (append-nil c.loop-place.places)
    ∙ (ap (λ (places : List ℕ). c.loop-place.places ++ flat_map f places)
    (sym (empty_range c.loop-place.place end (omega (arith, c.loop-place-test.false))))
    ∙ (c.loop-place.invariant
    ∙ ap (λ (n : ℕ). flat_map f (range_with_len 0 n))
    (sym (length_of c.krates.result.now c.args.krates.now.crates c.krates.ensures.crates))))
