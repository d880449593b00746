-- Which elements of a list name a kind.
use Rattle.std.specs.Prelude.{Bool, false}
use Rattle.std.specs.Option.{option_map_or}
use Rattle.deny_base.specs.declared.edge.DepKind.{DepKind}
use Rattle.deny_spans_manifest.specs.Ignored.{kind_word}
use Rattle.deny_spec.specs.Text.{same_text}
use Rattle.deny_toml.specs.Calls.{text_in}
use Rattle.deny_toml.specs.value.Value.{Value}

-- whether an element names a kind; one that is no text names none
abbrev pub names_kind : DepKind → Value → Bool
names_kind kind v = option_map_or (same_text (kind_word kind)) (text_in v) false
