-- Two tests that agree on the crates of a graph give the same keys of build scripts and of the files of packages.
use Rattle.std.proofs.Common.{◌≡◌, ◌∙◌, ◌&&◌, ◌||◌, ◌++◌, ℕ, Bool, List, [], None, Option, Some, ap, not, refl}
use Rattle.std.specs.List.{flat_map, list_any}
use Rattle.std.specs.Option.{option_map_or}
use Rattle.std.specs.Prelude.{filter_map, map, option_and_then, option_map}
use Rattle.deny_base.specs.declared.entry.EntryKind.TheVariants as kind
use Rattle.deny_base.specs.declared.entry.Hit.{Hit}
use Rattle.deny_base.specs.declared.entry.Witness.TheVariants.{Krate}
use Rattle.deny_base.specs.declared.key.Key.{Key}
use Rattle.deny_spec.specs.Building.{Building, Bypass}
use Rattle.deny_spec.specs.Unseen.{package_at}
use Rattle.deny_spec.specs.declared.package.Package.{Package}
use Rattle.deny_spec.specs.declared.package.PackageFile.{PackageFile}
use Rattle.deny_base_lists.proofs.Agreement.{AgreeOn, filter_map_on, filter_on, find_on, flat_map_on, list_any_on}
use Rattle.deny_base_lists.proofs.Agreement.{same_test}
use Rattle.deny_spec.specs.Graph.{Crate, Graph, kid_of}
use Rattle.deny_spec.specs.Hits.{hit_of}
use Rattle.deny_spec.specs.Keys.{unused_key}
use Rattle.deny_krates_reach.specs.Reached.{executes_at_build_time}
use Rattle.deny_spec_report.specs.BuildScripts.{bypass_span, is_checked, is_active, is_script_denied, is_script_ok}
use Rattle.deny_spec_report.specs.BuildScripts.{is_walked}
use Rattle.deny_spec_report.specs.BuildScripts.{passes_by_script, uses}
use Rattle.deny_spec_report.specs.Circumstances.{Circumstances}
use Rattle.deny_spec_report.specs.Facts.{Facts, TestsReached}
use Rattle.deny_spec_report.specs.Members.{is_member}
use Rattle.deny_spec_report.specs.Packages.{Scanning, build_keys, build_keys_in, bypass_hit, bypass_hits}
use Rattle.deny_spec_report.specs.Packages.{bypass_hits_in}
use Rattle.deny_spec_report.specs.Packages.{bypass_hits_of, checks, denied_script_keys, file_hit, file_hit_at}
use Rattle.deny_spec_report.specs.Packages.{file_keys}
use Rattle.deny_spec_report.specs.Packages.{glob_hit, if_hit, is_used, scanning, meets_file, package_keys, path_hit}
use Rattle.deny_spec_report.specs.Packages.{right_script_keys, script_keys, sum_keys, unmatched_bypass_keys}
use Rattle.deny_spec_report.specs.Packages.{unmatched_keys}
use Rattle.deny_spec_report.specs.Packages.{walked_keys, walks}

module _ (b : Building) (g : Graph) (packages : List Package) (these those : Crate → Bool)
    (agree : AgreeOn g.crates these those) where
  abbrev by : (Crate → Bool) → Scanning
  by reached = record { building = b; graph = g; packages = packages; reached = reached }

  checks_alike : AgreeOn g.crates (checks (by these)) (checks (by those))
  unfolding is_checked
  checks_alike = λ c known. ap (λ (r : Bool). (not (is_script_ok b c) || is_active b.executables)
      && ((not (is_member g c) || b.with_workspace)
      && (executes_at_build_time c || (b.with_dependencies && r)))) (agree c known)

  walks_alike : AgreeOn g.crates (walks (by these)) (walks (by those))
  unfolding is_walked
  walks_alike = λ c known.
      ap (λ (r : Bool). r && (is_script_ok b c && not (passes_by_script b (package_at packages c.place) c)))
      (checks_alike c known)

  package_keys_alike : AgreeOn g.crates (package_keys (by these)) (package_keys (by those))
  unfolding package_keys script_keys denied_script_keys is_script_denied sum_keys right_script_keys walked_keys
      unmatched_keys file_keys
  package_keys_alike = λ c known. rw (checks_alike c known, walks_alike c known) refl

  used_alike : (y : Bypass) → is_used (by these) y ≡ is_used (by those) y
  unfolding is_used
  used_alike y = list_any_on (λ c. checks (by these) c && uses b y c) (λ c. checks (by those) c && uses b y c) g.crates
      (λ c known. ap (λ (r : Bool). r && uses b y c) (checks_alike c known))

  unmatched_alike : unmatched_bypass_keys (by these) ≡ unmatched_bypass_keys (by those)
  unfolding unmatched_bypass_keys
  unmatched_alike = ap (map (λ y. unused_key _ (bypass_span y)))
      (filter_on (λ y. not (is_used (by these) y)) (λ y. not (is_used (by those) y)) b.bypass
      (λ y written. ap not (used_alike y)))

  build_keys_alike : build_keys (by these) ≡ build_keys (by those)
  build_keys_alike = ap (λ (keys : List Key). keys ++ unmatched_bypass_keys (by these))
      (flat_map_on (package_keys (by these)) (package_keys (by those)) g.crates package_keys_alike)
      ∙ ap (λ (keys : List Key). flat_map (package_keys (by those)) g.crates ++ keys) unmatched_alike

  bypass_hit_alike : (y : Bypass) → bypass_hit (by these) y ≡ bypass_hit (by those) y
  unfolding bypass_hit
  bypass_hit_alike y = ap (option_map (λ (c : Crate). hit_of kind.Bypass (bypass_span y) (Krate (kid_of c))))
      (find_on (λ c. checks (by these) c && uses b y c) (λ c. checks (by those) c && uses b y c) g.crates
      (λ c known. ap (λ (r : Bool). r && uses b y c) (checks_alike c known)))

  file_hit_alike : (y : Bypass) (test : PackageFile → Bool) (hit : List ℕ → Crate → Hit)
      → file_hit (by these) y test hit ≡ file_hit (by those) y test hit
  unfolding file_hit file_hit_at meets_file
  file_hit_alike y test hit = ap (option_and_then (file_hit_at (by those) test hit))
      (find_on (meets_file (by these) y test) (meets_file (by those) y test) g.crates
      (λ c known. ap (λ (r : Bool). (r && uses b y c) && list_any test (package_at packages c.place).files)
      (walks_alike c known)))

  hits_of_alike : (y : Bypass) → bypass_hits_of (by these) y ≡ bypass_hits_of (by those) y
  unfolding bypass_hits_of path_hit glob_hit
  hits_of_alike y =
      ap (λ (hit : Option Hit). if_hit hit
      ++ (filter_map (path_hit (by these) y) y.allow ++ filter_map (glob_hit (by these) y) y.globs))
      (bypass_hit_alike y)
      ∙ ap (λ (hits : List Hit). if_hit (bypass_hit (by those) y)
      ++ (hits ++ filter_map (glob_hit (by these) y) y.globs))
      (filter_map_on (path_hit (by these) y) (path_hit (by those) y) y.allow (λ a written. file_hit_alike y _ _))
      ∙ ap (λ (hits : List Hit). if_hit (bypass_hit (by those) y)
      ++ (filter_map (path_hit (by those) y) y.allow ++ hits))
      (filter_map_on (glob_hit (by these) y) (glob_hit (by those) y) y.globs (λ w written. file_hit_alike y _ _))

  bypass_hits_alike : bypass_hits (by these) ≡ bypass_hits (by those)
  bypass_hits_alike = flat_map_on (bypass_hits_of (by these)) (bypass_hits_of (by those)) b.bypass
      (λ y written. hits_of_alike y)

pub reached_alike : (g : Graph) (one other : Crate → Bool) → TestsReached g one → TestsReached g other
    → AgreeOn g.crates one other
reached_alike g one other reports reports_too = λ c known. same_test (one c) (other c) (reports c known)
    (reports_too c known)

module _ (c : Circumstances) (these those : Facts) (left : TestsReached c.graph these.reached)
    (right : TestsReached c.graph those.reached) where
  abbrev agree : AgreeOn c.graph.crates these.reached those.reached
  agree = reached_alike c.graph these.reached those.reached left right

  pub keys_of_builds_alike : build_keys_in c these ≡ build_keys_in c those
  keys_of_builds_alike = by_building c.building
    where
      by_building : (o : Option Building) → option_map_or (λ b. build_keys (scanning c these b)) o []
          ≡ option_map_or (λ b. build_keys (scanning c those b)) o []
      by_building None = refl
      by_building (Some b) = build_keys_alike b c.graph c.packages these.reached those.reached agree

  pub hits_of_builds_alike : bypass_hits_in c these ≡ bypass_hits_in c those
  hits_of_builds_alike = by_building c.building
    where
      by_building : (o : Option Building) → option_map_or (λ b. bypass_hits (scanning c these b)) o []
          ≡ option_map_or (λ b. bypass_hits (scanning c those b)) o []
      by_building None = refl
      by_building (Some b) = bypass_hits_alike b c.graph c.packages these.reached those.reached agree
