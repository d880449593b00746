-- The names of each table of a tree ascend.
use Rattle.std.specs.Prelude.{List, [], ◌∷◌, map}
use Rattle.std.specs.Cmp.Lexicographic.{slice_cmp}
use Rattle.std.specs.List.Sorted.{IsStrictlySortedBy}
use Rattle.std.specs.Ordering.{nat_cmp}
use Rattle.deny_toml_grammar.specs.declared.parts.Scalar.{Scalar}
use Rattle.deny_toml_tree.specs.declared.value.Table.{Table}
use Rattle.deny_toml_tree.specs.declared.value.Value.{Value}
use Rattle.deny_toml_tree.specs.declared.value.Content.TheOpen.{Content-F}
use Rattle.deny_toml_tree.specs.Value.{entries_in}
use Rattle.deny_toml_tree.specs.Calls.{Layer, layer_in}

-- the names of one table ascend in byte order, so that no two are equal
abbrev pub NamesAscend : Table → Type 0
NamesAscend t = IsStrictlySortedBy (slice_cmp nat_cmp) (map (λ e. e.0.name) (entries_in t))

mutual
  -- the names of the tables of a value ascend, at any depth
  pub data IsOrderly : Value → Type 0 where
    value : (v : Value) → IsOrderlyLayer (layer_in v) → IsOrderly v

  pub data IsOrderlyLayer : Layer → Type 0 where
    scalar : (s : Scalar) → IsOrderlyLayer (Content-F.Scalar s)
    array : (vs : List Value) → AreOrderly vs → IsOrderlyLayer (Content-F.Array vs)
    table : (t : Table) → NamesAscend t → AreOrderly (map (λ e. e.1) (entries_in t))
        → IsOrderlyLayer (Content-F.Table t)

  pub data AreOrderly : List Value → Type 0 where
    none : AreOrderly []
    more : (v : Value) (vs : List Value) → IsOrderly v → AreOrderly vs → AreOrderly (v ∷ vs)
