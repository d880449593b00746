-- The states at which a walk over a path starts.
use Rattle.std.specs.Prelude.{ℕ, ◌⊎◌, List, reverse}
use Rattle.deny_globs.specs.declared.starts.Starts.{Starts}
use Rattle.deny_globs.specs.declared.state.GlobState.{GlobState}
use Rattle.deny_globs.specs.States.{Leads}
use Rattle.deny_globs.specs.Trie.{IsTrie, Finds}

pub record AreStarts (starts : Starts) : Type 0 where
  pub beginnings : IsTrie starts.beginnings.items
  pub endings : IsTrie starts.endings.items

-- the path begins or ends with a literal under which the state is stored
abbrev pub Starting : Starts → List ℕ → ℕ → Type 0
Starting starts path number = Finds starts.beginnings.items 0 path number ⊎
    Finds starts.endings.items 0 (reverse path) number

-- The characters lead from a state at which the walk over them starts to the end of the glob.
pub record SomeStarts (states : List GlobState) (starts : Starts) (glob : ℕ) (path : List ℕ) : Type 0 where
  pub number : ℕ
  pub starts_here : Starting starts path number
  pub leads : Leads states glob number path
