use Rattle.std.proofs.Common.{false, replicate, sym, ap, ◌∙◌, rules}
use Rattle.deny_rules_match.proofs.MarkLemmas.{no_marks-are}
use Rattle.deny_krates.proofs.PlaceLemmas.{length_of}
use Rattle.deny_rules_match.proofs.marking.no_marks.Goals as goal

pub returns : goal.returns
returns c =
    let crates = c.args.krates.now.crates in
    c.from_vec.ensures
    ∙ (c.in_ok-vec.ensures.items_if_clones_equal (λ y is. search rules)
    ∙ (ap (λ size. replicate size false) (sym (length_of c.krates.result.now crates c.krates.ensures.crates))
    ∙ no_marks-are crates))
