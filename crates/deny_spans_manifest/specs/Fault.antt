-- Why a text gives no manifest.
use Rattle.std.specs.Prelude.{ℕ, List}
use Rattle.deny_spans_manifest.specs.declared.fault.ManifestFault.{ManifestFault}
use Rattle.deny_spans_manifest.specs.declared.fault.ManifestFault.TheVariants as manifest
use Rattle.deny_toml.specs.Parser.{IsTreeOf}
use Rattle.deny_toml.specs.declared.error.TomlError.{TomlError}
use Rattle.deny_toml.specs.declared.error.TomlError.TheVariants as toml
use Rattle.deny_toml.specs.value.Value.{Value}

abbrev pub fault_of : TomlError → ManifestFault
fault_of (toml.Fault kind span) = manifest.Toml
fault_of toml.Memory = manifest.Memory

-- the text has no tree: it is outside TOML, or goes past the limits
abbrev pub HasNoTree : List ℕ → Type 0
HasNoTree text = (tree : Value) → IsTreeOf text tree → ⊥
