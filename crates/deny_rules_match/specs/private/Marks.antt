-- Marks of the crates in the tree of an entry.
use Rattle.std.specs.Prelude.{◌↔◌, ℕ, max, Bool, true, false, IsTrue, List, Option, None, Some, nat_lt, Contains}
use Rattle.deny_cfg.specs.PolicyView.{root_view}
use Rattle.deny_cfg.specs.TreeSkipExtended.{TreeSkipExtended}
use Rattle.deny_cfg.specs.PackageSpecOrExtended.{PackageSpecOrExtended}
use Rattle.deny_spec.specs.Graph.{Crate, Graph}
use Rattle.deny_spec.specs.Roots.{IsInTree}
use Rattle.deny_rules_match.specs.Marks.{marked}

-- the crates of an entry's tree are marked, whichever number the entry has
pub record IsTreeOf (g : Graph) (entry : PackageSpecOrExtended TreeSkipExtended) (marks : List Bool) : Type 0 where
  pub each : (number : ℕ) (c : Crate) → Contains g.crates c
      → IsTrue (marked marks c) ↔ IsInTree g (root_view number entry) c

-- a distance that is near enough for a depth, of which 0 counts as 1; without a depth each distance is
unfoldable pub is_near : Option ℕ → Option ℕ → Bool
is_near depth None = false
is_near None (Some distance) = true
is_near (Some depth) (Some distance) = nat_lt distance (max depth 1)
