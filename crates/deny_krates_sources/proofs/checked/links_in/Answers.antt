use Rattle.std.proofs.Common.{◌≡◌, ℕ, List, Ok, subst, arith}
use Rattle.deny_krates_sources.specs.Checked.{known, links_to}
use Rattle.deny_krates_sources.specs.private.Index.{number_by}
use Rattle.deny_base_lists.specs.Reader.{Fails, IsFault}
use Rattle.deny_krates_sources.proofs.CheckedLemmas.{next_links, no_more_links}
use Rattle.deny_krates_metadata.specs.declared.fault.MetadataFault.TheVariants.{Memory}
use Rattle.deny_base_lists.proofs.ReaderLemmas.{goes_on_by, fails_here_by, handed_on, all_read}
use Rattle.deny_krates_sources.proofs.checked.links_in.Goals as goal

pub returns-in_err-node : goal.returns-in_err-node
returns-in_err-node c =
    let packages = number_by c.args.indexes.now.packages in
    let nodes = number_by c.args.indexes.now.nodes in
    let dep = c.dep-item.result in
    let step = next_links packages nodes c.args.deps.now c.loop-dep.dep-index dep (omega (arith, c.loop-dep-test.true))
    c.dep-item.is in
    let fault = c.in_err-node.field-0.0 in
    let fails : Fails Memory (IsFault (known packages nodes dep.pkg)) fault = subst
    (λ (t : List ℕ). Fails Memory (IsFault (known packages nodes t)) fault) c.as_str.ensures c.in_err-node.ensures in
    handed_on Memory _ _ _ fault c.from_residual.ensures.1
    (fails_here_by Memory _ _ _ (known packages nodes dep.pkg) (λ node. links_to node dep.kinds) c.loop-dep.links fault
    c.loop-dep.invariant step fails)

pub loop-dep-preserved : goal.loop-dep-preserved
loop-dep-preserved c =
    let packages = number_by c.args.indexes.now.packages in
    let nodes = number_by c.args.indexes.now.nodes in
    let dep = c.dep-item.result in
    let step = next_links packages nodes c.args.deps.now c.loop-dep.dep-index dep (omega (arith, c.loop-dep-test.true))
    c.dep-item.is in
    let knows : known packages nodes dep.pkg ≡ Ok c.in_ok-node.node = subst
    (λ (t : List ℕ). known packages nodes t ≡ Ok c.in_ok-node.node) c.as_str.ensures c.in_ok-node.ensures in
    rw (c.in_ok-push_links.ensures, c.as_slice.ensures)
    (goes_on_by _ _ _ (known packages nodes dep.pkg) (λ node. links_to node dep.kinds) c.loop-dep.links
    c.in_ok-node.node c.loop-dep.invariant step knows)

pub returns : goal.returns
returns c = all_read _ _ c.loop-dep.links c.loop-dep.invariant
    (no_more_links _ _ c.args.deps.now c.loop-dep.dep-index (omega (arith, c.loop-dep-test.false)))
