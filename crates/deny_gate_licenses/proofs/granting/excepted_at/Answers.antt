use Rattle.std.proofs.Common.{◌++◌, List, arith, get_or, refl, subst, take}
use Rattle.std.specs.List.{flat_map}
use Rattle.deny_base_lists.specs.First.{FindsFirst}
use Rattle.deny_gate_licenses.specs.declared.granter.Granter.{Granter}
use Rattle.deny_gate_licenses.specs.declared.grants.WantedLicence.{WantedLicence}
use Rattle.deny_gate_licenses.specs.private.Granting.{grants_at}
use Rattle.deny_gate_licenses.specs.private.Grants.{granter_in, same_wanted}
use Rattle.deny_gate_licenses.proofs.MapLemmas.{flat-more-at}
use Rattle.deny_gate_licenses.proofs.granting.excepted_at.Goals as goal

pub loop-number-preserved : goal.loop-number-preserved
loop-number-preserved c =
    let grants = grants_at c.args.exceptions.now c.args.krate.now in
    let numbers = c.args.numbers.now in
    let i = c.loop-number.number-index in
    let before = flat_map grants (take i numbers) in
    subst (λ (es : List (WantedLicence × Granter)). FindsFirst same_wanted es (granter_in c.add_excepted.new.grants))
    (flat-more-at grants numbers i 0 before (before ++ grants (get_or numbers i 0))
    (omega (arith, c.loop-number-test.true)) refl refl)
    (c.in_ok-add_excepted.ensures before c.loop-number.invariant)
