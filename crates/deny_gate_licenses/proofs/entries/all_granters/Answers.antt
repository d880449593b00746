use Rattle.std.proofs.Common.{◌++◌, List, map, sym, ap, ◌∙◌}
use Rattle.std.proofs.lemmas.Simd.{map-map}
use Rattle.deny_cfg.specs.LicensingView.{exception_view}
use Rattle.deny_gate_licenses.specs.declared.granter.Granter.{Granter}
use Rattle.deny_gate_licenses.specs.private.Granters.{allowance_granter, exception_granter}
use Rattle.deny_gate_licenses.proofs.entries.all_granters.Goals as goal

pub returns : goal.returns
returns c =
    let cfg = c.args.cfg.now in
    let exceptions = λ (e : _). exception_granter (exception_view e) in
    c.in_ok-add_exceptions.ensures
    ∙ (ap (λ (gs : List Granter). gs ++ map exceptions c.as_slice-2.result.now)
    (c.in_ok-add_allowances.ensures
    ∙ (ap (λ (gs : List Granter). gs ++ map allowance_granter c.as_slice.result.now) c.new-granters.ensures
    ∙ ap (map allowance_granter) c.as_slice.ensures))
    ∙ ap (λ (gs : List Granter). map allowance_granter cfg.allow ++ gs)
    (ap (map exceptions) c.as_slice-2.ensures ∙ sym (map-map exception_granter exception_view cfg.exceptions)))
