-- The keys of wildcards in the manifest of the crate at a place.
use Rattle.std.specs.Prelude.{◌==◌, ◌∷◌, ℕ, Bool, List, [], filter, length, map, if◌then◌else◌}
use Rattle.std.specs.Option.{option_map_or}
use Rattle.deny_base.specs.declared.code.Code.TheVariants as code
use Rattle.deny_base.specs.declared.key.Key.{Key}
use Rattle.deny_spec_report.specs.Wildcards.{is_unresolved, wildcards_in}
use Rattle.deny_rules_match.specs.Marks.{mark_at}
use Rattle.deny_spec.specs.Graph.{Crate, Graph}
use Rattle.deny_spec.specs.Keys.{crate_key, no_span}
use Rattle.deny_spec.specs.Policy.{Policy}
use Rattle.deny_spec.specs.DiagParts.{crate_at}
use Rattle.deny_spec.specs.View.{Declared, View, manifest_of}

abbrev pub unresolved_key_at : ℕ → Declared → Key
unresolved_key_at place d = crate_key code.UnresolvedWorkspaceDependency place d.key

-- the keys of the wildcards that were found
unfoldable pub found_keys_of : View → ℕ → List Declared → List Key
found_keys_of view place found = if length found == 0 then []
    else crate_key code.Wildcard place no_span
    ∷ map (unresolved_key_at place) (filter (is_unresolved view) found)

-- the wildcards in the manifest of a crate
abbrev pub found_in : Policy → Graph → View → Crate → List Declared
found_in p g view c = option_map_or (wildcards_in p g c) (manifest_of view c) []

-- the keys of the crate at a place, where its mark says that it is checked
unfoldable pub found_keys_at : Policy → Graph → View → List Bool → ℕ → List Key
found_keys_at p g view asked place = if mark_at asked place
    then option_map_or (λ c. found_keys_of view place (found_in p g view c)) (crate_at g place) [] else []
