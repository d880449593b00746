-- Properties of the span of each key and value of a tree.
use Rattle.std.specs.Prelude.{ℕ, List, [], ◌∷◌}
use Rattle.deny_toml_grammar.specs.declared.parts.Key.{Key}
use Rattle.deny_toml_grammar.specs.declared.parts.Scalar.{Scalar}
use Rattle.deny_toml_tree.specs.declared.value.Value.{Value}
use Rattle.deny_toml_tree.specs.declared.value.Content.TheOpen.{Content-F}
use Rattle.deny_toml_tree.specs.declared.value.Table.{Table}
use Rattle.deny_toml_tree.specs.Value.{span_in, entries_in}
use Rattle.deny_toml_tree.specs.Calls.{Layer, layer_in, scalar_of}
pub use Rattle.deny_toml_grammar.specs.Spans.{IsSpan, bytes_in, IsWithoutEscapes, KeyOccurs, OneLineOccurs}
pub use Rattle.deny_toml_grammar.specs.Spans.{ScalarOccurs, Occurs}

abbrev pub ValueOccurs : List ℕ → Value → Type 0
ValueOccurs text v = Occurs text (span_in v) (scalar_of (layer_in v))

mutual
  -- K holds of each key and V of each value of a tree, at any depth.
  pub data AllOfValue (K : Key → Type 0) (V : Value → Type 0) : Value → Type 0 where
    value : (v : Value) → V v → AllOfContent K V (layer_in v) → AllOfValue K V v

  pub data AllOfContent (K : Key → Type 0) (V : Value → Type 0) : Layer → Type 0 where
    scalar_content : (s : Scalar) → AllOfContent K V (Content-F.Scalar s)
    array_content : (vs : List Value) → AllOfValues K V vs → AllOfContent K V (Content-F.Array vs)
    table_content : (t : Table) → AllOfEntries K V (entries_in t) → AllOfContent K V (Content-F.Table t)

  pub data AllOfValues (K : Key → Type 0) (V : Value → Type 0) : List Value → Type 0 where
    no_values : AllOfValues K V []
    values : (v : Value) (more : List Value) → AllOfValue K V v → AllOfValues K V more → AllOfValues K V (v ∷ more)

  pub data AllOfEntries (K : Key → Type 0) (V : Value → Type 0) : List (Key × Value) → Type 0 where
    no_entries : AllOfEntries K V []
    entries : (key : Key) (v : Value) (more : List (Key × Value)) → K key → AllOfValue K V v → AllOfEntries K V more
        → AllOfEntries K V ((key, v) ∷ more)

-- Each key and each value of the tree occurs in the text, at any depth.
abbrev pub OccursIn : List ℕ → Value → Type 0
OccursIn text tree = AllOfValue (KeyOccurs text) (ValueOccurs text) tree
