use Rattle.std.proofs.Common.{◌≡◌, ◌++◌, ℕ, List, length, map, sym, ap, ◌∙◌, arith}
use Rattle.std.specs.List.{range_with_len}
use Rattle.std.proofs.lemmas.List.{append-nil}
use Rattle.std.proofs.lemmas.Simd.{map-map}
use Rattle.deny_rules_match.specs.private.Groups.{may_duplicate_at}
use Rattle.deny_krates.proofs.PlaceLemmas.{are_placed, length_of, place_of}
use Rattle.deny_rules_match.proofs.RunLemmas.{empty_range, pushed-run}
use Rattle.deny_rules_match.proofs.groups.candidates_of.Goals as goal

pub loop-place-preserved : goal.loop-place-preserved
loop-place-preserved c =
    pushed-run (may_duplicate_at c.args.counts.now c.args.skipped.now c.args.in_skipped_tree.now)
    c.loop-place.candidates
    c.push.new.self _ c.may_duplicate_at.result c.loop-place.place _
    c.in_ok-push.ensures.ok c.may_duplicate_at.ensures c.loop-place-test.true c.loop-place.invariant

pub returns : goal.returns
returns c =
    let crates = c.args.krates.now.crates in
    let ks = c.krates.result.now in
    let test = may_duplicate_at c.args.counts.now c.args.skipped.now c.args.in_skipped_tree.now in
    let long : length crates ≡ length ks = length_of ks crates c.krates.ensures.crates in
    sym (append-nil c.loop-place.candidates)
    ∙ (ap (λ (ps : List ℕ). c.loop-place.candidates ++ map test ps)
    (sym (empty_range c.loop-place.place (length ks) (omega (arith, c.loop-place-test.false))))
    ∙ (c.loop-place.invariant
    ∙ (ap (λ (n : ℕ). map test (range_with_len 0 n)) (sym long)
    ∙ (ap (map test) (sym (are_placed ks crates c.krates.ensures.crates).places)
    ∙ map-map test place_of crates))))
