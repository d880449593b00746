-- The build check of one crate.
use Rattle.std.specs.Prelude.{◌≡◌, ◌+◌, ◌≤◌, ◌++◌, ◌∷◌, [], ℕ, Bool, List, Option, None, Some, position, replicate}
use Rattle.std.specs.Prelude.{if◌then◌else◌}
use Rattle.deny_base.specs.declared.key.Key.{Key}
use Rattle.deny_base_disk.specs.Disk.{Disk}
use Rattle.deny_base_unread.specs.Added.{added}
use Rattle.deny_base_unread.specs.Bound.{Folders}
use Rattle.deny_spec.specs.Building.{Building}
use Rattle.deny_spec.specs.Crates as crates
use Rattle.deny_spec.specs.Graph.{Crate, Graph, kid_of}
use Rattle.deny_spec.specs.Unseen.{unseen_package}
use Rattle.deny_spec.specs.declared.package.Package.{Package}
use Rattle.deny_spec_report.specs.BuildScripts.{bypasses, is_checked}
use Rattle.deny_spec_report.specs.Packages.{Scanning, bypass_hits, package_keys}
use Rattle.deny_build_scan.specs.Failures.{calls_for}
use Rattle.deny_build_scan.specs.Seen.{IsPackageSeen}
use Rattle.deny_build_scan.specs.Wanted.{AreWantedOf}
use Rattle.deny_build_scan.specs.Why.{IsBecause}
use Rattle.deny_build.specs.declared.krate_check.BuildNotes.{BuildNotes}

-- the number of the bypass that a crate uses: the first that matches it, where the crate is checked
abbrev pub number_used : Building → Graph → (Crate → Bool) → Crate → Option ℕ
number_used b g reached c = if is_checked b g reached c then position (λ y. bypasses y c) b.bypass else None

-- what the rules read where this crate alone is judged, by what was seen of its package
abbrev pub scanning_alone : Building → Graph → (Crate → Bool) → Crate → Package → Scanning
scanning_alone b g reached c contents = record {
  building = b;
  graph = record g { crates = c ∷ [] };
  packages = replicate c.place unseen_package ++ contents ∷ [];
  reached = reached;
}

-- What the check of one crate finds between two disks: something was seen of its package, with entries for what was
-- not read, each of which is wanted; and it adds the keys of the crate, and the hits of bypasses by it alone.
pub record IsBuildChecked (before after : Disk) (b : Building) (g : Graph) (reached : Crate → Bool)
    (home : Option (List ℕ)) (c : Crate) (old_keys new_keys : List Key) (old new : BuildNotes) : Type 0 where
  pub contents : Package
  pub seen : (folder : Folders) → folder (Some (kid_of c)) ≡ crates.folder c
      → IsPackageSeen (IsBecause folder before after) before.files b reached home g (added old.unread new.unread) c
      contents
  pub wanted : AreWantedOf before.files b reached g (added old.unread new.unread) c contents
  pub faults : after.faults ≤ before.faults + calls_for contents
  pub keys : new_keys ≡ old_keys ++ package_keys (scanning_alone b g reached c contents) c
  pub hits : new.hits ≡ old.hits ++ bypass_hits (scanning_alone b g reached c contents)
