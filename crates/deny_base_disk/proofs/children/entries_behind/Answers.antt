use Rattle.std.proofs.Common.{◌∷◌, ◌∙◌, ap, map, sym}
use Rattle.deny_base_lists.specs.TextMap.{with_bytes}
use Rattle.deny_base_disk.specs.Children.{entry_behind}
use Rattle.deny_base_disk.proofs.ChildrenLemmas.{kept_next}
use Rattle.deny_base_disk.proofs.children.entries_behind.Goals as goal

pub loop-path-preserved : goal.loop-path-preserved
loop-path-preserved c =
    let rest = map with_bytes c.next.new.self in
    kept_next (entry_behind c.args.prefix.now) (c.as_str.result.now, c.in-Some.place.now)
    (map with_bytes c.loop-path.path-iterator) rest _ _ _
    (ap (map with_bytes) c.in-Some.ensures.steps ∙ (λ i. (sym c.as_str.ensures.value i, c.in-Some.place.now) ∷ rest))
    c.in_ok-add_behind.ensures c.loop-path.invariant
