use Rattle.deny_krates_graph.proofs.CratesLemmas.{length-crates_from}
use Rattle.deny_krates.proofs.krates.Krates.places_by_name.Goals as goal

pub returns-clause-within : goal.returns-clause-within
returns-clause-within c = rw (← c.self.view_is, length-crates_from, ← c.as_slice.ensures) c.run_of.ensures.within
