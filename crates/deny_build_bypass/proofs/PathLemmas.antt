-- An allowed path is found among those with equal components.
use Rattle.std.proofs.Common.{◌≡◌, ◌∙◌, ◌∷◌, [], ℕ, arith, true, Bor, Contains, List, Option, Some, None, find, map}
use Rattle.std.proofs.Common.{length, option_map, refl, sym, ap}
use Rattle.std.specs.Prelude.{◌↔◌, ◌==◌, option_and_then, slice_get}
use Rattle.std.specs.Cmp.Lexicographic.{bytes_decides, pointwise}
use Rattle.std.specs.List.Sorted.{IsStrictlyIncreasing}
use Rattle.std.specs.Option.{option_copied}
use Rattle.std.proofs.lemmas.Bool.{and_parts, eqb-true}
use Rattle.deny_cfg_build.specs.BuildingView.{bypass_view, path_view}
use Rattle.deny_cfg_build.specs.declared.valid.ValidBypass.{ValidBypass}
use Rattle.deny_spec.specs.Building.{AllowedPath}
use Rattle.deny_spec.specs.Paths.{components, same_path}
use Rattle.deny_spec_report.specs.FirstMatch.{first_of}
use Rattle.deny_spec_report.specs.PackageFiles.{allows, path_of, path_of_used}
use Rattle.deny_spec.specs.Text.{same_text}
use Rattle.deny_cfg_tables.specs.declared.bans.cfg.bypass.BypassPath.{BypassPath}
use Rattle.deny_build_bypass.specs.private.Paths.{files_of, spelled, spelling, spelling_of}
use Rattle.deny_build_bypass.specs.private.Components.{has_components, has_components_at}
use Rattle.deny_base_lists.proofs.Finding.{first-numbered}
use Rattle.deny_build_bypass.proofs.ViewLemmas.{found_viewed}

same_names : (xs ys : List (List ℕ)) → pointwise same_text xs ys ≡ true → xs ≡ ys
same_names [] [] same = refl
same_names [] (y ∷ ys) same = absurd (cc)
same_names (x ∷ xs) [] same = absurd (cc)
same_names (x ∷ xs) (y ∷ ys) same =
    let both = and_parts (same_text x y) (pointwise same_text xs ys) same in
    ap (λ (name : List ℕ). name ∷ xs) ((bytes_decides x y).0 both.0)
    ∙ ap (λ (names : List (List ℕ)). y ∷ names) (same_names xs ys both.1)

spelled_alike : (names : List (List ℕ)) (file : BypassPath) → has_components names file.path.value ≡ true
    → spelling_of file ≡ spelled names
unfolding spelling
spelled_alike names file has = ap spelled (same_names (components file.path.value) names has)

among_all : (bypass : Option ValidBypass) (path : List ℕ)
    → first_of allows (map path_view (files_of bypass)) path ≡ path_of_used (option_map bypass_view bypass) path
unfolding path_of
among_all None path = refl
among_all (Some bypass) path = refl

none_among : (files : List BypassPath) (path : List ℕ) → (length files == 0) ≡ true
    → None ≡ first_of allows (map path_view files) path
none_among [] path empty = refl
none_among (file ∷ files) path empty = absurd (omega (arith, eqb-true (length (file ∷ files)) 0 empty))

-- a bypass without allowed files allows no path
pub none_allowed : (bypass : Option ValidBypass) (files : List BypassPath) (path : List ℕ) → files ≡ files_of bypass
    → (length files == 0) ≡ true → None ≡ path_of_used (option_map bypass_view bypass) path
none_allowed bypass files path those empty =
    none_among files path empty
    ∙ (ap (λ (fs : List BypassPath). first_of allows (map path_view fs) path) those ∙ among_all bypass path)

-- the indices found are those of the files whose spelling equals that of the path
pub path_found : (bypass : Option ValidBypass) (path : List ℕ) (names : List (List ℕ)) (asked : List ℕ)
    (numbers : List ℕ) (files : List BypassPath) (found : Option (Bor BypassPath))
    → names ≡ components path → asked ≡ spelled names → files ≡ files_of bypass → IsStrictlyIncreasing numbers
    → ((i : ℕ) → Contains numbers i ↔ (slice_get (map spelling_of (files_of bypass)) i ≡ Some asked))
    → option_copied found ≡ option_and_then (slice_get files) (find (has_components_at files names) numbers)
    → option_map (λ (file : Bor BypassPath). path_view file.now) found
    ≡ path_of_used (option_map bypass_view bypass) path
unfolding same_path
path_found bypass path names asked numbers files found are same those up exact is =
    found_viewed (λ (a : AllowedPath). allows a path) path_view (files_of bypass) found
    (is
    ∙ (ap (λ (fs : List BypassPath). option_and_then (slice_get fs) (find (has_components_at fs names) numbers)) those
    ∙ (first-numbered (λ (file : BypassPath). has_components names file.path.value)
    (files_of bypass) spelling_of asked numbers
    up exact (λ file has. spelled_alike names file has ∙ sym same)
    ∙ ap (λ (ns : List (List ℕ)). find (λ (file : BypassPath). has_components ns file.path.value) (files_of bypass))
    are)))
    ∙ among_all bypass path
