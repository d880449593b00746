-- The reader of one requirement after each token.
use Rattle.std.specs.Prelude.{List, ℕ, Option, Some, None}
use Rattle.deny_spdx.specs.declared.token.SpdxToken.{SpdxToken}
use Rattle.deny_spdx.specs.declared.token.SpdxToken.TheVariants.{Word, And, Or, With, Open, Close}
use Rattle.deny_spdx.specs.declared.requirement.Requirement.{Requirement}
use Rattle.deny_spdx.specs.declared.requirement_reader.RequirementReader.{RequirementReader}
use Rattle.deny_spdx.specs.declared.requirement_reader.RequirementReader.TheVariants.{Start, Named, Excepted, Whole}

-- the reader after a word
abbrev pub behind_word : RequirementReader → List ℕ → Option RequirementReader
behind_word Start word = Some (Named word)
behind_word (Named id) word = None
behind_word (Excepted id) word = Some (Whole (record { id = id; exception = Some word }))
behind_word (Whole r) word = None

-- the reader after WITH
abbrev pub behind_with : RequirementReader → Option RequirementReader
behind_with Start = None
behind_with (Named id) = Some (Excepted id)
behind_with (Excepted id) = None
behind_with (Whole r) = None

-- the reader after the token, or none where the token may not come
abbrev pub requirement_step : RequirementReader → SpdxToken → Option RequirementReader
requirement_step s (Word word) = behind_word s word
requirement_step s With = behind_with s
requirement_step s And = None
requirement_step s Or = None
requirement_step s Open = None
requirement_step s Close = None

-- the requirement that the tokens so far are, if they are one
abbrev pub whole_requirement : RequirementReader → Option Requirement
whole_requirement Start = None
whole_requirement (Named id) = Some (record { id = id; exception = None })
whole_requirement (Excepted id) = None
whole_requirement (Whole r) = Some r
