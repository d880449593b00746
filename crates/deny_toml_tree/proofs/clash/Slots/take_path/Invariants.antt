use Rattle.std.proofs.Common.{◌≡◌, List, drop}
use Rattle.deny_toml_tree.specs.Clash.{Segment, walk}
use Rattle.deny_toml_tree.specs.private.Slots.{Reports}
use Rattle.deny_toml_tree.proofs.clash.Slots.take_path.Given as goal

abbrev pub invariant-loop-part : goal.invariant-loop-part
invariant-loop-part l =
    (before : List Segment) → Reports l.initial.self before
    → (now : List Segment) × (walk before l.fn.from l.passing l.last l.path ≡ walk now l.table l.passing l.last
    (drop l.part l.path)) × Reports l.self now
