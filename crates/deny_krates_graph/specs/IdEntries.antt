-- Entries of the ids of crates with their places.
use Rattle.std.specs.Prelude.{ℕ, ◌+◌, List, [], ◌∷◌, Contains}
use Rattle.std.specs.Cmp.Lexicographic.{slice_cmp}
use Rattle.std.specs.Ordering.{nat_cmp, on, then_cmp}
use Rattle.std.specs.declared.cmp.Ordering.{Ordering}
use Rattle.deny_base_lists.specs.Ascending.{Lists}
use Rattle.deny_krates_graph.specs.declared.ids.IdEntry.{IdEntry}
use Rattle.deny_krates_graph.specs.declared.krate.Krate.{Krate}

abbrev pub id_entry_cmp : IdEntry → IdEntry → Ordering
id_entry_cmp = then_cmp (on (λ e. e.id) (slice_cmp nat_cmp)) (on (λ e. e.place) nat_cmp)

-- the entries of crates at consecutive places, given the place of the first
abbrev pub entries_from : ℕ → List Krate → List IdEntry
entries_from place [] = []
entries_from place (k ∷ ks) = record { id = k.id.0; place = place } ∷ entries_from (place + 1) ks

-- the entries of crates, ascending
abbrev pub AreIds : List Krate → List IdEntry → Type 0
AreIds krates entries = Lists id_entry_cmp (Contains (entries_from 0 krates)) entries
