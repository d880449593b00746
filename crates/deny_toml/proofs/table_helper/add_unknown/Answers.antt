use Rattle.std.proofs.Common.{[], ◌∷◌, ◌++◌, ◌+◌, append_assoc, append-nil, drop, map, sym, ap, ◌∙◌, arith}
use Rattle.deny_toml.specs.TableHelper.{unknown}
use Rattle.deny_toml_tree.proofs.ClashLaws.{map_next, map_end}
use Rattle.deny_toml.proofs.table_helper.add_unknown.Goals as goal

pub loop-entry-preserved : goal.loop-entry-preserved
loop-entry-preserved c =
    let l = c.loop-entry in
    let entry = c.entry-item.result in
    let rest = map unknown (drop (l.entry-index + 1) c.args.left.now) in
    let next = map_next unknown c.args.left.now l.entry-index entry (omega (arith, c.loop-entry-test.true))
    c.entry-item.is in
    ap (λ faults. faults ++ rest)
    (c.in_ok-push.ensures.ok ∙ ap (λ fault. l.faults ++ fault ∷ []) c.in_ok-unknown.ensures)
    ∙ append_assoc l.faults (unknown entry ∷ []) rest
    ∙ ap (λ more. l.faults ++ more) (sym next)
    ∙ l.invariant

pub returns : goal.returns
returns c =
    let l = c.loop-entry in
    let end = map_end unknown c.args.left.now l.entry-index (omega (arith, c.loop-entry-test.false)) in
    sym (append-nil l.faults) ∙ ap (λ more. l.faults ++ more) (sym end) ∙ l.invariant
