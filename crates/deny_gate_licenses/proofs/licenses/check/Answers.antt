use Rattle.std.proofs.Common.{◌≡◌, ◌++◌, ℕ, List, Contains, filter, map, ap, ◌∙◌, subst}
use Rattle.std.specs.List.{flat_map}
use Rattle.deny_base_lists.specs.Ascending.{Lists}
use Rattle.deny_base_lists.specs.First.{FindsFirst}
use Rattle.deny_base.specs.declared.finding.Pack.{Pack}
use Rattle.deny_rules_match.specs.Marks.{marked}
use Rattle.deny_cfg.specs.LicensingView.{licensing_view}
use Rattle.deny_gate_licenses.specs.declared.granter.Granter.{Granter}
use Rattle.deny_gate_licenses.specs.private.JudgedCrates.{crate_pack, packs_at, witnessed_at}
use Rattle.deny_gate_licenses.specs.private.Granters.{granter_cmp, policy_granters}
use Rattle.deny_gate_licenses.specs.private.Reported.{unused_pack}
use Rattle.deny_gate_licenses.specs.private.Witnesses.{hit_at, is_unused, place_in, same_granter}
use Rattle.deny_gate_licenses.proofs.JudgedLemmas.{packs-are}
use Rattle.deny_gate_licenses.proofs.HitLemmas.{flat-given, flat-kept}
use Rattle.deny_gate_licenses.proofs.ReportedLemmas.{is-licensed}
use Rattle.deny_gate_licenses.proofs.licenses.check.Goals as goal

pub returns-clause-checked : goal.returns-clause-checked
returns-clause-checked c =
    let l = licensing_view c.args.cfg.now in
    let g = c.args.krates.now in
    let judged = c.in_ok-judged.judged in
    let promised = c.in_ok-judged.ensures in
    let counted = promised.counted in
    let counts = marked counted.marks in
    let placed = c.are_placed.ensures in
    let added = c.in_ok-hits.ensures.reported in
    let packs : judged.packs ≡ map (crate_pack l) (filter counts g.crates) =
    promised.packs ∙ (ap (flat_map (packs_at l g)) counted.are ∙ packs-are l g placed counts) in
    is-licensed l g c.args.id placed counts counted.counted.each judged.witnesses added.unused c.in_ok-hits.hits
    c.args.sink.now c.append.new.sink c.report_granters.new.judged.packs
    (subst (λ (ns : List ℕ). FindsFirst same_granter (flat_map (witnessed_at l g) ns) (place_in judged.witnesses))
    counted.are promised.witnesses)
    (subst (λ (bys : List Granter). Lists granter_cmp (Contains bys) added.unused)
    (flat-kept (is_unused judged.witnesses) (policy_granters l)) added.listed)
    (c.in_ok-hits.ensures.hits ∙ flat-given (hit_at g judged.witnesses) (policy_granters l))
    (added.reported ∙ ap (λ (ps : List Pack). ps ++ map (unused_pack l.unused_allowed c.args.id) added.unused) packs)
    c.in_ok-append.ensures.ok
