-- The declarations of a crate that its manifest writes.
use Rattle.std.specs.Prelude.{ℕ, Bool, List, Option, filter_map, option_and_then, option_map}
use Rattle.std.specs.List.{enumerate_from}
use Rattle.deny_spans_manifest.specs.Found.{rename_of, version_of, workspace_of}
use Rattle.deny_spans_manifest.specs.Written.{found_in}
use Rattle.deny_spec.specs.Graph.{Crate, Dependency, Graph}
use Rattle.deny_spec.specs.Resolution.{resolution}
use Rattle.deny_spec.specs.View.{Declared}
use Rattle.deny_toml.specs.Key.{Key}
use Rattle.deny_toml.specs.Value.{span_in}
use Rattle.deny_toml.specs.value.Value.{Value}

abbrev pub declared_by : ℕ → Dependency → ℕ → Key × Value → Declared
declared_by index d child entry = record {
  index = index;
  declaration = d;
  child = child;
  key = entry.0.span;
  value = span_in entry.1;
  version_req = version_of entry.1;
  workspace = workspace_of entry.1;
  rename = rename_of entry.1;
}

-- `agrees` tests whether target keys agree; `tree` is that of the manifest of the crate at `place`
module _ (agrees : List ℕ → List ℕ → Bool) (g : Graph) (place : ℕ) (tree : Value) where
  -- a declaration with its index, where it resolves to a crate and the manifest writes it
  unfoldable pub declared_at : ℕ × Dependency → Option Declared
  declared_at numbered = option_and_then
      (λ child. option_map (declared_by numbered.0 numbered.1 child) (found_in agrees tree numbered.1))
      (resolution g place numbered.1)

-- the declarations of a crate that resolve and that its manifest writes, in their order
unfoldable pub declared_in : (List ℕ → List ℕ → Bool) → Graph → Crate → Value → List Declared
declared_in agrees g c tree = filter_map (declared_at agrees g c.place tree) (enumerate_from 0 c.deps)
