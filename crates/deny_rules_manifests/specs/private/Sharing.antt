-- The keys of what members declare, by the rows of declarations.
use Rattle.std.specs.Prelude.{◌&&◌, ◌∷◌, ℕ, Bool, List, [], length, map, nat_le, if◌then◌else◌}
use Rattle.deny_base.specs.declared.code.Code.TheVariants as code
use Rattle.deny_base.specs.declared.key.Key.{Key}
use Rattle.deny_base.specs.declared.key.Section.TheVariants as section
use Rattle.deny_spec_report.specs.Sharing.{is_duplicated}
use Rattle.deny_spec_report.specs.Wildcards.{is_active}
use Rattle.deny_spec.specs.Graph.{Graph}
use Rattle.deny_spec.specs.Keys.{key_of, no_span}
use Rattle.deny_spec.specs.Policy.{Sharing}
use Rattle.deny_rules_manifests.specs.Uses.{row_at, use_view}
use Rattle.deny_rules_manifests.specs.declared.uses.Use.{Use as UseValue}

unfoldable pub duplicated_keys_at : List (List UseValue) → ℕ → List Key
duplicated_keys_at rows place = if is_duplicated (map use_view (row_at rows place))
    then key_of section.Workspace code.WorkspaceDuplicate place no_span 0 ∷ [] else []

-- the policy checks duplicated declarations, and there are several members to share
abbrev pub checks_duplicates : Sharing → Graph → Bool
checks_duplicates s g = is_active s.duplicates && nat_le 2 (length g.members)
