use Rattle.std.proofs.Common.{◌++◌, List, map, ap, ◌∙◌}
use Rattle.deny_base_lists.proofs.Results.{on_ok_then}
use Rattle.deny_gate_licenses.specs.declared.granter.Granter.{Granter}
use Rattle.deny_gate_licenses.specs.private.Reported.{unused_pack}
use Rattle.deny_gate_licenses.proofs.licenses.add_unused.Goals as goal

pub returns : goal.returns
returns c = on_ok_then c.report_unused.result c.report_unused.ensures (λ reported. record {
  unused = c.in_ok-unused.unused;
  listed = c.in_ok-unused.ensures;
  reported = reported
      ∙ ap (λ (bys : List Granter). c.args.packs.now ++ map (unused_pack c.args.level c.args.id) bys)
      c.as_slice.ensures;
})
