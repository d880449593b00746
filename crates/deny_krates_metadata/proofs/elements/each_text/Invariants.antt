use Rattle.std.proofs.Common.{◌≡◌, drop}
use Rattle.deny_krates_metadata.specs.private.Borrowed.{items_view}
use Rattle.deny_krates_metadata.specs.Elements.{elements_from, part_of, text_at}
use Rattle.deny_base_lists.proofs.ReaderLemmas.{with_prefix}
use Rattle.deny_krates_metadata.proofs.elements.each_text.Given as goal

abbrev pub invariant-loop-index : goal.invariant-loop-index
invariant-loop-index l =
    elements_from text_at (part_of l.path l.name) 0 (items_view l.items) ≡ with_prefix l.list
    (elements_from text_at (part_of l.path l.name) l.index (items_view (drop l.index l.items)))
