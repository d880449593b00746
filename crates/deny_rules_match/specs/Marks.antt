-- The facts that the rules rest on, by marks: one for each crate, at its place.
use Rattle.std.specs.Prelude.{◌≡◌, ◌||◌, ◌<◌, ◌↔◌, ℕ, Bool, false, IsTrue, List, []}
use Rattle.std.specs.Prelude.{length, map, slice_index_or, Contains}
use Rattle.deny_spec.specs.Counting.{Counts}
use Rattle.deny_spec.specs.Facts.{Facts}
use Rattle.deny_spec.specs.Graph.{Crate, Graph}
use Rattle.deny_rules_match.specs.declared.facts.Marks.{Marks}

-- the mark at a place; `false` where there is none
abbrev pub mark_at : List Bool → ℕ → Bool
mark_at marks place = slice_index_or marks place false

-- the mark of a crate
abbrev pub marked : List Bool → Crate → Bool
marked marks c = mark_at marks c.place

-- each mark is true where it was, and where a test is true
pub record HaveBesides (test : ℕ → Bool) (old new : List Bool) : Type 0 where
  pub long : length new ≡ length old
  pub each : (place : ℕ) → place < length old → mark_at new place ≡ (mark_at old place || test place)

-- marks by any test become marks by that test or another one
pub record AddsMarks (crates : List Crate) (other : Crate → Bool) (old new : List Bool) : Type 0 where
  pub is : (test : Crate → Bool) → old ≡ map test crates → new ≡ map (λ c. test c || other c) crates

abbrev pub facts_of : Marks → Facts
facts_of m = record {
  counts = λ c. marked m.counts.items c;
  in_tree = λ t c. marked (slice_index_or m.trees t.number []) c;
}

-- the crates that count are marked
pub record AreCounted (include_dev : Bool) (g : Graph) (marks : List Bool) : Type 0 where
  pub each : (c : Crate) → Contains g.crates c → IsTrue (marked marks c) ↔ Counts include_dev g c
