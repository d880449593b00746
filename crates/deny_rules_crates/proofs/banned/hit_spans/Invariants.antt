use Rattle.std.proofs.Common.{[], Contains, take}
use Rattle.std.specs.List.{flat_map}
use Rattle.deny_base_lists.specs.Ascending.{Adds}
use Rattle.deny_rules_crates.specs.private.Banned.{hits_at}
use Rattle.deny_rules_crates.proofs.banned.hit_spans.Given as goal

abbrev pub invariant-loop-place : goal.invariant-loop-place
invariant-loop-place l = Adds (Contains (flat_map (hits_at l.krates l.spans) (take l.place-index l.places))) [] l.hits
