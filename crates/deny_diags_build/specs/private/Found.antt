-- What was found of a file or a folder that may be missing.
use Rattle.std.specs.Prelude.{◌++◌, ℕ, List, Option}
use Rattle.std.specs.Option.{option_map_or}
use Rattle.deny_spec.specs.declared.package.Found.{Found}
use Rattle.deny_spec.specs.declared.package.Found.TheVariants.{Unasked}
use Rattle.deny_spec_report.specs.PackageDiags.{mismatch_text, script_failed}

abbrev pub found_or_unasked : Option Found → Found
found_or_unasked found = option_map_or (λ f. f) found Unasked

-- why a script has another checksum than is expected
abbrev pub script_error : Found → List ℕ
script_error found = script_failed found ++ mismatch_text found
