use Rattle.std.proofs.Common.{◌≡◌, drop}
use Rattle.deny_krates_metadata.specs.private.Borrowed.{items_view}
use Rattle.deny_krates_metadata.specs.Elements.{elements_from}
use Rattle.deny_base_lists.proofs.ReaderLemmas.{with_prefix}
use Rattle.deny_krates_metadata.proofs.elements.elements.Given as goal

abbrev pub invariant-loop-index : goal.invariant-loop-index
invariant-loop-index g l =
    elements_from g.T.Element.read_at l.path 0 (items_view l.items) ≡ with_prefix l.list
    (elements_from g.T.Element.read_at l.path l.index (items_view (drop l.index l.items)))
