-- What a validation finds in its context, and what it leaves there.
use Rattle.std.specs.Prelude.{ℕ, List, [], slice_get}
use Rattle.std.specs.Option.{option_map_or}
use Rattle.deny_base.specs.declared.files.File.{File}

-- the text of the file of a number; empty where there is no such file
abbrev pub source_in : List File → ℕ → List ℕ
source_in files number = option_map_or (λ file. file.source) (slice_get files number) []

-- In a clause on the return, the context's fields are nested pairs: the third is its files, the
-- fourth its diagnostics.
abbrev pub files_left : {A B C D : Type 0} → A × (B × (C × D)) → C
files_left fields = fields.1.1.0

abbrev pub diagnostics_left : {A B C D E : Type 0} → A × (B × (C × (D × E))) → D
diagnostics_left fields = fields.1.1.1.0
