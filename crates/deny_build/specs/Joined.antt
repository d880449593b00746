-- The keys and hits of all crates, joined from those of each crate that is judged alone.
use Rattle.std.specs.Prelude.{◌≡◌, ◌++◌, [], ◌∷◌, List, Option, None}
use Rattle.std.specs.List.{flat_map, list_any}
use Rattle.std.specs.Option.{option_or}
use Rattle.deny_base.specs.declared.entry.Hit.{Hit}
use Rattle.deny_spec.specs.Building.{AllowedPath, Bypass}
use Rattle.deny_spec.specs.Graph.{Crate}
use Rattle.deny_spec.specs.Policy.{SpannedText}
use Rattle.deny_spec_report.specs.Packages.{Scanning, build_keys, bypass_hit, glob_hit, is_used, package_keys}
use Rattle.deny_spec_report.specs.Packages.{package_of, path_hit, unmatched_bypass_keys}
use Rattle.deny_build.specs.OneCrate.{scanning_alone}

-- what is read of one of the crates where it alone is judged
abbrev pub alone : Scanning → Crate → Scanning
alone l c = scanning_alone l.building l.graph l.reached c (package_of l c)

-- the first hit that a crate has, in the order of the crates
abbrev pub first_hit : (Crate → Option Hit) → List Crate → Option Hit
first_hit hit [] = None
first_hit hit (c ∷ cs) = option_or (hit c) (first_hit hit cs)

-- The keys of all crates are those of each alone, one crate after another, and then those of the bypasses that none of
-- them uses; an entry is hit by the first crate that hits it alone.
pub record AreJoined (l : Scanning) : Type 0 where
  pub keys : build_keys l
      ≡ flat_map (λ c. package_keys (alone l c) c) l.graph.crates ++ unmatched_bypass_keys l
  pub used : (y : Bypass) → is_used l y ≡ list_any (λ c. is_used (alone l c) y) l.graph.crates
  pub bypasses : (y : Bypass) → bypass_hit l y ≡ first_hit (λ c. bypass_hit (alone l c) y) l.graph.crates
  pub paths : (y : Bypass) (a : AllowedPath)
      → path_hit l y a ≡ first_hit (λ c. path_hit (alone l c) y a) l.graph.crates
  pub globs : (y : Bypass) (w : SpannedText)
      → glob_hit l y w ≡ first_hit (λ c. glob_hit (alone l c) y w) l.graph.crates
