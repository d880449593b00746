use Rattle.std.proofs.Common.{◌≡◌, map, take}
use Rattle.deny_krates_graph.specs.declared.ids.IdEntry.{IdEntry}
use Rattle.deny_krates_graph.proofs.ids.places_by_id.Given as goal

abbrev pub invariant-loop-entry : goal.invariant-loop-entry
invariant-loop-entry l = l.places ≡ map (λ (e : IdEntry). e.place) (take l.entry-index l.entries)
