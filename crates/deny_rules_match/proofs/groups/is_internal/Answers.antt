use Rattle.std.proofs.Common.{◌∙◌, arith}
use Rattle.std.proofs.lemmas.List.Elements.{Contains-get_or}
use Rattle.deny_rules_match.proofs.DependentLemmas.{all_have_name-dependents, dependent_within}
use Rattle.deny_krates.proofs.PlaceLemmas.{are_placed, length_of}
use Rattle.deny_rules_match.proofs.groups.is_internal.Goals as goal

pub all_have_name-requires : goal.all_have_name-requires
all_have_name-requires c = λ k d below.
    let g = c.args.krates.now in
    let ks = c.krates.result.now in
    let ds = c.direct_dependents.result.now in
    let within = dependent_within g c.args.place ds
    (are_placed ks g.crates c.krates.ensures.crates) c.direct_dependents.ensures _ (Contains-get_or ds k d below) in
    omega (arith, within, length_of ks g.crates c.krates.ensures.crates)

pub returns : goal.returns
returns c =
    let g = c.args.krates.now in
    let ks = c.krates.result.now in
    let placed = are_placed ks g.crates c.krates.ensures.crates in
    c.all_have_name.ensures ∙ all_have_name-dependents g c.args.place c.direct_dependents.result.now placed
    c.direct_dependents.ensures ks c.args.name.now c.krates.ensures.crates
