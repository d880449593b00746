use Rattle.std.proofs.Common.{◌≡◌, ◌++◌, take}
use Rattle.deny_krates_sources.specs.Checked.{links_to}
use Rattle.deny_krates_sources.proofs.checked.push_links.Given as goal

abbrev pub invariant-loop-kind : goal.invariant-loop-kind
invariant-loop-kind l = l.links ≡ l.initial.links ++ links_to l.node (take l.kind-index l.kinds)
