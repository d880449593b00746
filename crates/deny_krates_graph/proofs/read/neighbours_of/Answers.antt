use Rattle.std.proofs.Common.{sym, ℕ, List, subst}
use Rattle.deny_krates_graph.specs.private.Direct.{AreRanks}
use Rattle.deny_krates_graph.specs.IdEntries.{AreIds}
use Rattle.deny_krates_graph.specs.declared.ids.IdEntry.{IdEntry}
use Rattle.deny_krates_graph.proofs.read.neighbours_of.Goals as goal

pub ranks_of-requires-clause-ids : goal.ranks_of-requires-clause-ids
ranks_of-requires-clause-ids c =
    subst (λ (es : List IdEntry). AreIds c.args.krates.now es) (sym c.as_slice.ensures) c.in_ok-ids.ensures

pub dependents_of-requires-clause-ranks : goal.dependents_of-requires-clause-ranks
dependents_of-requires-clause-ranks c =
    subst (λ (rs : List ℕ). AreRanks c.args.krates.now rs) (sym c.as_slice-2.ensures) c.in_ok-ranks.ensures

pub dependencies_of-requires-clause-ranks : goal.dependencies_of-requires-clause-ranks
dependencies_of-requires-clause-ranks c =
    subst (λ (rs : List ℕ). AreRanks c.args.krates.now rs) (sym c.as_slice-3.ensures) c.in_ok-ranks.ensures
