-- Duplicates: several crates of one name.
use Rattle.std.specs.Prelude.{◌≡◌, ◌≢◌, ◌≤◌, ℕ, Bool, List, map, length, Contains, if◌then◌else◌}
use Rattle.std.specs.List.{list_any}
use Rattle.deny_base_lists.specs.Ascending.{Lists}
use Rattle.deny_base.specs.declared.key.Key.{Key}
use Rattle.deny_base.specs.declared.level.LintLevel.{LintLevel}
use Rattle.deny_base.specs.declared.level.LintLevel.TheVariants.{Allow, Deny}
use Rattle.deny_spec.specs.Facts.{Facts}
use Rattle.deny_spec.specs.Graph.{Crate, Graph}
use Rattle.deny_spec.specs.Groups.{unmarked}
use Rattle.deny_spec.specs.Keys.{duplicate_key}
use Rattle.deny_spec.specs.VersionOrder.{version_cmp}
use Rattle.deny_spec.specs.Match.{matches}
use Rattle.deny_spec.specs.Policy.{Policy}

-- an entry denies several versions of the crate
unfoldable pub is_denied_multiple : Policy → Crate → Bool
is_denied_multiple p c = list_any (λ s. matches s c) p.deny_multiple

-- the level of a duplicate that consists of these crates
unfoldable pub duplicate_level : Policy → List Crate → LintLevel
duplicate_level p crates = if list_any (is_denied_multiple p) crates then Deny else p.multiple_versions

-- two or more unmarked crates of a name are left of its group, at a level that is not `allow`
pub record IsDuplicateOf (p : Policy) (g : Graph) (facts : Facts) (name : List ℕ) (key : Key) : Type 0 where
  pub crates : List Crate
  pub listed : Lists version_cmp (Contains (unmarked p g facts name)) crates
  pub several : 2 ≤ length crates
  pub active : duplicate_level p crates ≢ Allow
  pub is : key ≡ duplicate_key (map (λ c. c.place) crates)

abbrev pub IsDuplicate : Policy → Graph → Facts → Key → Type 0
IsDuplicate p g facts key = (c : Crate) × Contains g.crates c × IsDuplicateOf p g facts c.name key
