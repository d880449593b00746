-- Names in their order, each once and with its numbers.
use Rattle.std.specs.Prelude.{ℕ, List}
use Rattle.deny_base_lists.specs.Search as by_name
use Rattle.deny_cfg_index.specs.declared.bucket.Named.{Named}

abbrev pub name_of : Named → List ℕ
name_of named = named.name

-- the names ascend, each once
abbrev pub Ascend : List Named → Type 0
Ascend = by_name.Ascend name_of

-- the name is at this index
abbrev pub IsNamedAt : List Named → List ℕ → ℕ → Type 0
IsNamedAt = by_name.IsNamedAt name_of
