use Rattle.std.proofs.Common.{ℕ, List, subst}
use Rattle.deny_base_lists.specs.Reader.{Fails, IsFault}
use Rattle.deny_base_lists.proofs.ReaderLemmas.{fails_through, handed_on}
use Rattle.deny_krates_metadata.specs.declared.fault.MetadataFault.TheVariants.{Memory}
use Rattle.deny_krates_sources.specs.Checked.{number_or, resolved_node}
use Rattle.deny_krates_sources.specs.private.Index.{number_by}
use Rattle.deny_krates_sources.proofs.CheckedLemmas.{owner_fails}
use Rattle.deny_krates_sources.proofs.checked.resolve_node.Goals as goal

pub returns-in_err-owner : goal.returns-in_err-owner
returns-in_err-owner c =
    let packages = number_by c.args.indexes.now.packages in
    let nodes = number_by c.args.indexes.now.nodes in
    let node = c.args.node.now in
    let fault = c.in_err-owner.field-0.0 in
    let fails = subst (λ (id : List ℕ). Fails Memory (IsFault (number_or id (packages id))) fault) c.as_str.ensures
    c.in_err-owner.ensures in
    handed_on Memory _ _ _ fault c.from_residual.ensures.1
    (fails_through Memory fault (number_or node.id (packages node.id)) (resolved_node packages nodes node)
    (λ e is. owner_fails packages nodes node e is) fails)
