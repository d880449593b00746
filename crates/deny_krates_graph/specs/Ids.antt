-- The crate of an id.
use Rattle.std.specs.Prelude.{ℕ, List, Option, find}
use Rattle.deny_spec.specs.Graph.{Crate, Graph}
use Rattle.deny_spec.specs.Text.{same_text}

-- the crate that has this id
abbrev pub crate_of : Graph → List ℕ → Option Crate
crate_of g id = find (λ c. same_text c.id id) g.crates
