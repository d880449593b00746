use Rattle.std.proofs.Common.{ap, ◌∙◌}
use Rattle.std.specs.Option.{option_and_then}
use Rattle.deny_spans_manifest.specs.Ignored.{duplicates_in}
use Rattle.deny_toml.specs.Calls.{array_in}
use Rattle.deny_spans_manifest.proofs.ignored.listed_in.Goals as goal

pub returns-in-Some : goal.returns-in-Some
unfolding duplicates_in
returns-in-Some c = c.as_array.ensures ∙ ap (option_and_then array_in) c.in-Some.ensures

pub returns-in-None : goal.returns-in-None
unfolding duplicates_in
returns-in-None c = ap (option_and_then array_in) c.in-None.ensures
