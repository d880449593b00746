-- Duplicates, crates of one name, as the code finds them.
use Rattle.std.specs.Prelude.{◌≡◌, ◌⊎◌, ◌&&◌, ◌++◌, ◌-◌, ◌<◌, ◌≤◌, ℕ, Bool, not, List, filter, take, drop, map, length}
use Rattle.std.specs.Prelude.{nat_lt, Option, Some, None, Contains, if◌then◌else◌}
use Rattle.std.specs.List.{list_any}
use Rattle.std.specs.Option.{option_to_list}
use Rattle.deny_base_lists.specs.Ascending.{Lists}
use Rattle.deny_base.specs.declared.key.Key.{Key}
use Rattle.deny_base.specs.declared.level.LintLevel.{LintLevel}
use Rattle.deny_base.specs.declared.level.LintLevel.TheVariants.{Allow, Warn, Deny}
use Rattle.deny_krates.specs.Crates.{crate_view}
use Rattle.deny_spec.specs.Duplicates.{is_denied_multiple}
use Rattle.deny_spec.specs.Facts.{Facts}
use Rattle.deny_spec.specs.Graph.{Crate, Graph}
use Rattle.deny_spec.specs.Groups.{has_name}
use Rattle.deny_spec.specs.Keys.{duplicate_key}
use Rattle.deny_spec.specs.Policy.{Policy}
use Rattle.deny_spec.specs.VersionOrder.{version_cmp}
pub use Rattle.deny_spec.specs.Ids.{same_id}
use Rattle.deny_rules_match.specs.Groups.{AreGroups}
use Rattle.deny_rules_match.specs.Marks.{mark_at, marked}
use Rattle.deny_rules_crates.specs.declared.duplicates.DuplicatePolicy.{DuplicatePolicy}
use Rattle.deny_rules_crates.specs.declared.duplicates.PlacedKrate.{PlacedKrate}
use Rattle.deny_rules_match.specs.declared.groups.Groups.{Groups}

-- what a policy says of the duplicates of a graph
pub record IsDuplicatePolicy (p : Policy) (g : Graph) (facts : Facts) (m : DuplicatePolicy) : Type 0 where
  pub groups : AreGroups p g facts m.groups.now
  pub denied : m.denied.now ≡ map (is_denied_multiple p) g.crates
  pub level : m.level ≡ p.multiple_versions

-- a crate at its place
abbrev pub placed_view : PlacedKrate → Crate
placed_view s = crate_view s.place s.krate.now

-- the crate at a place is in the reduced group of its name, and no skip matches it
unfoldable pub is_unmarked_at : Groups → ℕ → Bool
is_unmarked_at groups place = mark_at groups.reduced place && not (mark_at groups.marked place)

abbrev pub is_unmarked : Groups → Crate → Bool
is_unmarked groups c = is_unmarked_at groups c.place

-- the level of the rule on duplicates for these crates
unfoldable pub level_at : DuplicatePolicy → List Crate → LintLevel
level_at m crates = if list_any (marked m.denied.now) crates then Deny else m.level

-- the key of crates at a level that is active
abbrev pub key_at : LintLevel → List Crate → Option Key
key_at Allow crates = None
key_at Warn crates = Some (duplicate_key (map (λ c. c.place) crates))
key_at Deny crates = Some (duplicate_key (map (λ c. c.place) crates))

-- the key of crates in the order of their versions, where they are several and the level is active
unfoldable pub key_of_group : LintLevel → List Crate → Option Key
key_of_group level crates = if nat_lt (length crates) 2 then None else key_at level crates

-- the key of the duplicates among some crates, where there are several
pub record IsKeyOfCrates (m : DuplicatePolicy) (run : List Crate) (key : Option Key) : Type 0 where
  pub crates : List Crate
  pub listed : Lists version_cmp (Contains (filter (is_unmarked m.groups.now) run)) crates
  pub is : key ≡ key_of_group (level_at m crates) crates

-- the key of the duplicates of a name
abbrev pub IsKeyOfName : Graph → DuplicatePolicy → List ℕ → Option Key → Type 0
IsKeyOfName g m name key = IsKeyOfCrates m (filter (has_name name) g.crates) key

-- the key of a name is appended, and the crates from one place to the next all have that name
pub record AddsKey (g : Graph) (m : DuplicatePolicy) (place next : ℕ) (old new : List Key) : Type 0 where
  pub name : List ℕ
  pub key : Option Key
  pub is_key : IsKeyOfName g m name key
  pub added : new ≡ old ++ option_to_list key
  pub up : place < next
  pub within : next ≤ length g.crates
  pub owner : Crate
  pub holds : Contains g.crates owner
  pub owned : owner.name ≡ name
  pub named : (c : Crate) → Contains (take (next - place) (drop place g.crates)) c → c.name ≡ name

-- the keys of duplicates are added for the names of these crates
pub record AddsDuplicates (g : Graph) (m : DuplicatePolicy) (crates : List Crate) (old new : List Key) : Type 0 where
  pub kept : (key : Key) → Contains old key → Contains new key
  pub whole : (c : Crate) (key : Key) → Contains crates c → IsKeyOfName g m c.name (Some key) → Contains new key
  pub sound : (key : Key) → Contains new key → Contains old key ⊎
      ((c : Crate) × Contains g.crates c × IsKeyOfName g m c.name (Some key))
