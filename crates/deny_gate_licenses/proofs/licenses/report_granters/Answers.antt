use Rattle.std.proofs.Common.{◌≡◌, IfOk, List, OnOk, ap, ◌∙◌, subst}
use Rattle.std.specs.Prelude.{Result, Ok, Err}
use Rattle.std.specs.List.{flat_map}
use Rattle.deny_base.specs.declared.entry.Hit.{Hit}
use Rattle.deny_gate_licenses.specs.declared.granter.Granter.{Granter}
use Rattle.deny_gate_licenses.specs.private.Reported.{ReportsUnused}
use Rattle.deny_gate_licenses.specs.private.Witnesses.{hits_at}
use Rattle.deny_gate_licenses.proofs.licenses.report_granters.Goals as goal

on_ok_always : {T X P : Type 0} (r : Result T X) → P → OnOk r P
on_ok_always (Ok x) is = is
on_ok_always (Err e) is = tt

pub returns-clause-reported : goal.returns-clause-reported
returns-clause-reported c = on_ok_always c.hits_of.result
    (subst (λ (bys : List Granter). ReportsUnused c.args.cfg.now.unused_allowed c.args.id bys
    c.args.judged.now.witnesses
    c.args.judged.now.packs c.add_unused.new.packs) (c.as_slice.ensures ∙ c.in_ok-granters.ensures)
    c.in_ok-add_unused.ensures)

pub returns-clause-hits : goal.returns-clause-hits
returns-clause-hits c =
    subst (λ (are : List Hit). IfOk c.hits_of.result (λ hits. hits ≡ are))
    (ap (flat_map (hits_at c.args.krates.now c.args.judged.now.witnesses))
    (c.as_slice-2.ensures ∙ c.in_ok-granters.ensures)) c.hits_of.ensures
