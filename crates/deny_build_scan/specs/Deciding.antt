-- Which globs decide a file: those of the bypass of its crate, or else those of script extensions.
use Rattle.std.specs.Prelude.{◌≡◌, ℕ, true, false, List, [], ◌∷◌, Option, None, Some, map}
use Rattle.deny_spec.specs.Building.{AllowedPath, Building, Bypass}
use Rattle.deny_spec_report.specs.PackageFiles.{globs_of, leaves_to_globs, path_of_used}
use Rattle.deny_build_scan.specs.Globs.{AreFitting}

abbrev pub own_texts : Option Bypass → List (List ℕ)
own_texts used = map (λ w. w.value) (globs_of used)

abbrev pub script_texts : Building → List (List ℕ)
script_texts b = map (λ e. e.text) b.extensions

-- the globs that decide the file at a path, in a crate with this bypass
pub data AreDeciding (b : Building) (used : Option Bypass) (path : List ℕ) : List (List ℕ) → Type 0 where
  -- an allowed path without a checksum comes first
  by_path : leaves_to_globs (path_of_used used path) ≡ false → AreDeciding b used path []
  -- then the fitting globs of the bypass, at least one
  by_glob : (glob : List ℕ) (globs : List (List ℕ)) → leaves_to_globs (path_of_used used path) ≡ true
      → AreFitting path (own_texts used) (glob ∷ globs) → AreDeciding b used path (glob ∷ globs)
  -- then an allowed path with a checksum
  by_sum : (allowed : AllowedPath) → path_of_used used path ≡ Some allowed
      → leaves_to_globs (path_of_used used path) ≡ true → AreFitting path (own_texts used) []
      → AreDeciding b used path []
  -- then the fitting globs of script extensions, if any
  by_extension : (globs : List (List ℕ)) → path_of_used used path ≡ None → AreFitting path (own_texts used) []
      → AreFitting path (script_texts b) globs → AreDeciding b used path globs
