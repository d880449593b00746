use Rattle.std.proofs.Common.{◌≡◌, List, Ok, subst, map}
use Rattle.deny_krates_sources.specs.Checked.{distinct, resolved}
use Rattle.deny_krates_sources.specs.private.Index.{IsIndex}
use Rattle.deny_base_lists.specs.Reader.{Fails, IsFault}
use Rattle.deny_krates_metadata.specs.declared.node.MetadataNode.{MetadataNode}
use Rattle.deny_krates_metadata.specs.declared.package.MetadataPackage.{MetadataPackage}
use Rattle.deny_krates_sources.proofs.CheckedLemmas.{first_fails, second_fails, resolved_by_indexes, resolves}
use Rattle.deny_krates_metadata.specs.declared.fault.MetadataFault.TheVariants.{Memory}
use Rattle.deny_base_lists.proofs.ReaderLemmas.{fails_through, handed_on}
use Rattle.deny_krates_sources.proofs.checked.resolve.Goals as goal

pub returns-in_err-packages-clause-numbers : goal.returns-in_err-packages-clause-numbers
returns-in_err-packages-clause-numbers c =
    let doc = c.args.document.now in
    let fault = c.in_err-packages.field-0.0 in
    let fails = subst (λ (ps : List MetadataPackage). Fails Memory (IsFault (distinct (map (λ p. p.id) ps))) fault)
    c.as_slice.ensures c.in_err-packages.ensures.distinct in
    handed_on Memory _ _ _ fault c.from_residual.ensures.1
    (fails_through Memory fault (distinct (map (λ p. p.id) doc.packages)) (resolved doc)
    (λ f is. first_fails doc f is) fails)

pub returns-in_err-nodes-clause-numbers : goal.returns-in_err-nodes-clause-numbers
returns-in_err-nodes-clause-numbers c =
    let doc = c.args.document.now in
    let fault = c.in_err-nodes.field-0.0 in
    let apart = subst (λ (ps : List MetadataPackage). distinct (map (λ p. p.id) ps) ≡ Ok tt) c.as_slice.ensures
    c.in_ok-packages.ensures.distinct in
    let fails = subst (λ (ns : List MetadataNode). Fails Memory (IsFault (distinct (map (λ n. n.id) ns))) fault)
    c.as_slice-2.ensures c.in_err-nodes.ensures.distinct in
    handed_on Memory _ _ _ fault c.from_residual-in_err-nodes.ensures.1
    (fails_through Memory fault (distinct (map (λ n. n.id) doc.nodes)) (resolved doc)
    (λ f is. second_fails doc f apart is) fails)

pub returns-clause-numbers : goal.returns-clause-numbers
returns-clause-numbers c =
    let doc = c.args.document.now in
    let apart = subst (λ (ps : List MetadataPackage). distinct (map (λ p. p.id) ps) ≡ Ok tt) c.as_slice.ensures
    c.in_ok-packages.ensures.distinct in
    let nodes_apart = subst (λ (ns : List MetadataNode). distinct (map (λ n. n.id) ns) ≡ Ok tt) c.as_slice-2.ensures
    c.in_ok-nodes.ensures.distinct in
    let packages = subst (λ (ps : List MetadataPackage). IsIndex c.in_ok-packages.packages (map (λ p. p.id) ps))
    c.as_slice.ensures c.in_ok-packages.ensures.index in
    let nodes = subst (λ (ns : List MetadataNode). IsIndex c.in_ok-nodes.nodes (map (λ n. n.id) ns))
    c.as_slice-2.ensures
    c.in_ok-nodes.ensures.index in
    resolves doc _ c.resolve_indexed.result
    (resolved_by_indexes c.in_ok-packages.packages c.in_ok-nodes.nodes doc apart nodes_apart packages nodes)
    c.resolve_indexed.ensures.numbers
