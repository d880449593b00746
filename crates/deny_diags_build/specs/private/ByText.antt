-- Items while they are put in order.
use Rattle.std.specs.Prelude.{◌++◌, ℕ, List}
use Rattle.deny_diags_build.specs.declared.by_text.ByText.{ByText}
use Rattle.deny_diags_build.specs.ByText.{IsByText}

-- items are put before those that were found already
abbrev pub PutsBefore : {T : Type 0} → (T → List ℕ) → List T → ByText T → ByText T → Type 0
PutsBefore text_of items old new = (others : List _) → IsByText text_of others old
    → IsByText text_of (items ++ others) new
