use Rattle.std.proofs.Common.{◌++◌, [], List, OnOk, Option, length, refl, sym, subst}
use Rattle.std.specs.Option.{option_map_or}
use Rattle.std.proofs.lemmas.Option.{slice_get_past, slice_get_read}
use Rattle.deny_base_lists.specs.First.{FindsFirst}
use Rattle.deny_cfg.specs.LicensesException.{Exception}
use Rattle.deny_gate_licenses.specs.declared.granter.Granter.{Granter}
use Rattle.deny_gate_licenses.specs.declared.grants.WantedLicence.{WantedLicence}
use Rattle.deny_gate_licenses.specs.private.Granting.{grants_to}
use Rattle.deny_gate_licenses.specs.private.Grants.{granter_in, same_wanted}
use Rattle.deny_gate_licenses.proofs.GrantLemmas.{finds-same}
use Rattle.deny_gate_licenses.proofs.granting.add_excepted.Goals as goal

pub returns-in-Some : goal.returns-in-Some
returns-in-Some c =
    let exceptions = c.args.exceptions.now in
    let exception = c.in-Some.exception.now in
    let at = c.in-Some.ensures.lookup in
    subst (λ (o : Option Exception). OnOk c.add_matching.result ((entries : List (WantedLicence × Granter))
    → FindsFirst same_wanted entries (granter_in c.args.grants.now)
    → FindsFirst same_wanted (entries ++ option_map_or (grants_to c.args.krate.now) o [])
    (granter_in c.add_matching.new.grants)))
    (sym (slice_get_read exceptions (length exceptions) c.args.number exception refl at.3.0 at.1))
    c.add_matching.ensures

pub returns-in-None : goal.returns-in-None
returns-in-None c = λ entries finds.
    subst (λ o. FindsFirst same_wanted (entries ++ option_map_or (grants_to c.args.krate.now) o [])
    (granter_in c.args.grants.now))
    (sym (slice_get_past c.args.exceptions.now c.args.number c.in-None.ensures.lookup.3))
    (finds-same entries c.args.grants.now finds)
