-- Elements while they are read.
use Rattle.std.specs.Prelude.{◌≡◌, ◌+◌, List, [], ◌∷◌, ◌++◌}
use Rattle.deny_toml_tree.specs.declared.value.Value.{Value}

-- the list has one more element at its end, which is read from the value
abbrev pub Adds : {T : Type 0} → (Value → T → Type 0) → Value → List T → List T → Type 0
Adds {T} Reads v old new = (x : T) × (new ≡ old ++ x ∷ []) × Reads v x
