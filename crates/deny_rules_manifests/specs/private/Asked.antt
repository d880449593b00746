-- The crates that are checked for wildcards, by marks.
use Rattle.std.specs.Prelude.{◌&&◌, ℕ, Bool, false, List, not}
use Rattle.std.specs.Option.{option_map_or}
use Rattle.deny_rules_match.specs.Marks.{mark_at}
use Rattle.deny_rules_match.specs.declared.groups.Groups.{Groups}
use Rattle.deny_spec.specs.Crates.{is_git_source}
use Rattle.deny_spec.specs.Graph.{Graph}
use Rattle.deny_spec.specs.DiagParts.{crate_at}

-- the crate at a place comes from a git repository
abbrev pub is_git_at : Graph → ℕ → Bool
is_git_at g place = option_map_or is_git_source (crate_at g place) false

unfoldable pub is_asked_at : Graph → List Bool → Groups → ℕ → Bool
is_asked_at g counts groups place = mark_at counts place
    && (not (mark_at groups.marked place) && (not (mark_at groups.in_skipped_tree place) && not (is_git_at g place)))
