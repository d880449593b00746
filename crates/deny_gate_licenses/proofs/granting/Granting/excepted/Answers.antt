use Rattle.std.proofs.Common.{◌≡◌, ℕ, List, Contains, Some, option_map, subst}
use Rattle.std.specs.Prelude.{◌↔◌, slice_get}
use Rattle.std.specs.List.{flat_map}
use Rattle.std.proofs.lemmas.Result.{IfOk-weaker}
use Rattle.deny_base_lists.specs.First.{FindsFirst}
use Rattle.deny_spdx.specs.declared.requirement.Requirement.{Requirement}
use Rattle.deny_cfg.specs.LicensesException.{Exception}
use Rattle.deny_krates.specs.Crates.{crate_view}
use Rattle.deny_spec_report.specs.Licences.{asked_of, exception_of}
use Rattle.deny_cfg.specs.LicensingView.{licensing_view}
use Rattle.deny_gate_licenses.specs.private.Granters.{exception_granter}
use Rattle.deny_gate_licenses.specs.private.Granting.{grants_at}
use Rattle.deny_gate_licenses.specs.private.Grants.{granter_in, same_wanted, wanted_of}
use Rattle.deny_gate_licenses.proofs.GrantLemmas.{excepted-is}
use Rattle.deny_gate_licenses.proofs.granting.Granting.excepted.Goals as goal

pub returns : goal.returns
returns c =
    let self = c.args.self.now in
    let cfg = self.cfg.now in
    let k = c.args.krate.now in
    let numbers = c.numbers_of.new.numbers.items in
    IfOk-weaker c.excepted_at.result
    (λ grants. FindsFirst same_wanted (flat_map (grants_at c.as_slice.result.now k) c.as_slice-2.result.now)
    (granter_in grants))
    (λ grants. (r : Requirement) → granter_in grants (wanted_of r)
    ≡ option_map exception_granter (exception_of (licensing_view cfg) (asked_of (crate_view 0 k) r)))
    (λ grants finds. excepted-is cfg k self.names numbers grants self.named c.in_ok-numbers_of.ensures.ascending
    (subst (λ (name : List ℕ). (i : ℕ) → Contains numbers i ↔ (slice_get self.names i ≡ Some name))
    c.as_str.ensures c.in_ok-numbers_of.ensures.exact)
    (subst (λ (ns : List ℕ). FindsFirst same_wanted (flat_map (grants_at cfg.exceptions k) ns) (granter_in grants))
    c.as_slice-2.ensures.value
    (subst (λ (es : List Exception). FindsFirst same_wanted (flat_map (grants_at es k) c.as_slice-2.result.now)
    (granter_in grants)) c.as_slice.ensures finds)))
    c.excepted_at.ensures
