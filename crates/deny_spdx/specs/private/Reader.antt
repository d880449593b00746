-- Readers that take all tokens of a text.
use Rattle.std.specs.Prelude.{List, [], ◌∷◌, Option, Some}
use Rattle.std.specs.Prelude.{option_and_then}
use Rattle.deny_spdx.specs.declared.token.SpdxToken.{SpdxToken}
use Rattle.deny_spdx.specs.declared.reader.Reader.{Reader}
use Rattle.deny_spdx.specs.Reader.{step}

-- the reader after these tokens, or none where one of them may not come
abbrev pub run_by : {R : Type 0} → (R → SpdxToken → Option R) → R → List SpdxToken → Option R
run_by step s [] = Some s
run_by step s (t ∷ tokens) = option_and_then (λ after. run_by step after tokens) (step s t)

abbrev pub run : Reader → List SpdxToken → Option Reader
run = run_by step
