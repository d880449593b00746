-- The offsets at which the scalars of a tree begin, and trees in which no two begin at one offset.
use Rattle.std.specs.Prelude.{ℕ, ◌≢◌, List, [], ◌∷◌, AllPairs}
use Rattle.std.specs.List.{flat_map}
use Rattle.deny_toml_tree.specs.declared.value.Value.{Value}
use Rattle.deny_toml_tree.specs.declared.value.Content.TheOpen.{Content-F, Table-F, Value-F}
use Rattle.deny_toml_tree.specs.declared.value.Content.TheFolds.{fold-Value}

-- the offsets at which the scalars begin in the content of a value that begins at an offset: its own, or those of its
-- parts
abbrev pub content_starts : Content-F (ℕ → List ℕ) (List ℕ) (List ℕ) → ℕ → List ℕ
content_starts (Content-F.Scalar scalar) at = at ∷ []
content_starts (Content-F.Array elements) at = flat_map (λ starts. starts) elements
content_starts (Content-F.Table starts) at = starts

abbrev pub table_starts : Table-F (ℕ → List ℕ) (List ℕ) (List ℕ) → List ℕ
table_starts t = flat_map (λ entry. entry.1) t.entries

abbrev pub value_starts : Value-F (ℕ → List ℕ) (List ℕ) (List ℕ) → List ℕ
value_starts v = v.content v.span.start

-- the offsets at which the scalars of a value begin, at any depth, in the order of the tree
unfoldable pub starts_in : Value → List ℕ
starts_in v = fold-Value (ℕ → List ℕ) (List ℕ) (List ℕ) content_starts table_starts value_starts v

-- no two scalars of the value begin at one offset
abbrev pub AreApart : Value → Type 0
AreApart v = AllPairs (λ one other. one ≢ other) (starts_in v)
