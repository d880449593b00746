-- The registries that options name.
use Rattle.std.specs.Prelude.{ℕ, ◌==◌, ◌||◌, Bool, List, Option, Some, None, codes, length, option_and_then}
use Rattle.std.specs.Prelude.{if◌then◌else◌}
use Rattle.std.specs.List.{after_first, before_first, filter_map}
use Rattle.deny_spans_workspace.specs.declared.registries.Registry.{Registry}
use Rattle.deny_cli.specs.Options.{behind}

-- whether a character is an equals sign, whose code is 61
abbrev pub is_equals_sign : ℕ → Bool
is_equals_sign byte = byte == 61

-- a registry whose name and address are not empty
abbrev pub nonempty_registry : List ℕ → List ℕ → Option Registry
nonempty_registry name address =
    if length name == 0 || length address == 0 then None else Some (record { name = name; address = address })

-- the registry of `NAME=ADDRESS`; the first `=` divides them, so that a name has none
abbrev pub named_by : List ℕ → Option Registry
named_by text = nonempty_registry (before_first is_equals_sign text) (after_first is_equals_sign text)

-- the registry of the option `--registry=NAME=ADDRESS`
unfoldable pub registry_of : List ℕ → Option Registry
registry_of argument = option_and_then named_by (behind (codes "--registry=") argument)

-- the registries that the options among arguments name, in their order; no other accepted argument names one
unfoldable pub registries_in : List (List ℕ) → List Registry
registries_in arguments = filter_map registry_of arguments
