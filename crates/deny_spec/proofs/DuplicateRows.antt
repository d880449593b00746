-- Worked cases of duplicates by the level at which they are reported.
use Rattle.std.proofs.Common.{◌≡◌, ℕ, List, [], ◌∷◌, false, None, codes, refl, ap}
use Rattle.std.specs.Prelude.{if◌then◌else◌}
use Rattle.std.specs.List.{list_any}
use Rattle.deny_base.specs.declared.key.Key.{Key}
use Rattle.deny_base.specs.declared.level.LintLevel.{LintLevel}
use Rattle.deny_base.specs.declared.level.LintLevel.TheVariants.{Allow, Deny}
use Rattle.deny_spec.specs.Duplicates.{IsDuplicate, duplicate_level, is_denied_multiple}
use Rattle.deny_spec.specs.Facts.{Facts}
use Rattle.deny_spec.specs.Graph.{Crate, Graph}
use Rattle.deny_spec.specs.Match.{matches}
use Rattle.deny_spec.specs.Policy.{Policy, Spec}
use Rattle.deny_spec.proofs.ResolutionRows.{crate}

-- a policy with a level for several versions, and entries that deny several versions of their crates
unfoldable at_level : LintLevel → List Spec → Policy
at_level level specs = record {
  multiple_versions = level;
  include_dev = false;
  simplest = false;
  lowest = false;
  deny = [];
  deny_multiple = specs;
  allow = [];
  allow_workspace = false;
  skip = [];
  skip_tree = [];
  features = [];
  workspace_default = None;
  external_default = None;
  wildcards = Allow;
  allow_wildcard_paths = false;
  sharing = None;
  replacing = None;
}

denied_by_none : (level : LintLevel) (crates : List Crate)
    → list_any (is_denied_multiple (at_level level [])) crates ≡ false
unfolding at_level is_denied_multiple
denied_by_none level [] = refl
denied_by_none level (c ∷ crates) = denied_by_none level crates

level_of_the_policy : (level : LintLevel) (crates : List Crate) → duplicate_level (at_level level []) crates ≡ level
unfolding at_level duplicate_level
level_of_the_policy level crates = ap (λ b. if b then Deny else level) (denied_by_none level crates)

-- at level `allow` no crates are a duplicate, whatever the graph is
none_at_allow : (g : Graph) (facts : Facts) (key : Key) → IsDuplicate (at_level Allow []) g facts key → ⊥
none_at_allow g facts key (c, is, found) = found.active (level_of_the_policy Allow found.crates)

denied : List ℕ → Spec
denied name = record { name = name; requirement = None; written = None; span = record { start = 9; end = 10 } }

-- the level of two versions of `x`, at level `allow`, with an entry that denies several versions of a name
level_with : List ℕ → LintLevel
level_with name = duplicate_level (at_level Allow (denied name ∷ []))
    (crate 1 (codes "x") 1 ∷ crate 2 (codes "x") 2 ∷ [])

-- such an entry raises the level where it matches one of the crates, and otherwise the level stays
by_an_entry : (level_with (codes "x") ≡ Deny) × (level_with (codes "y") ≡ Allow)
unfolding level_with denied at_level crate duplicate_level is_denied_multiple matches
by_an_entry = (refl, refl)
