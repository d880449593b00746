-- The keys and hits of one crate where it alone is judged.
use Rattle.std.proofs.Common.{◌≡◌, ◌∙◌, ◌++◌, ◌∷◌, [], ℕ, Bool, true, false, List, Option, None, Some, ap}
use Rattle.std.proofs.Common.{is_some, map, option_map, refl, sym}
use Rattle.std.specs.Prelude.{◌&&◌, ◌||◌, cond, find, option_and_then, if◌then◌else◌}
use Rattle.std.specs.List.{flat_map, list_any}
use Rattle.std.specs.Option.{option_map_or, option_or}
use Rattle.deny_base.specs.declared.code.Code.TheVariants as code
use Rattle.deny_base.specs.declared.entry.EntryKind.TheVariants as kind
use Rattle.deny_base.specs.declared.entry.Hit.{Hit}
use Rattle.deny_base.specs.declared.entry.Witness.TheVariants.{File}
use Rattle.deny_base.specs.declared.key.Key.{Key}
use Rattle.deny_base.specs.declared.span.Spanned.{Spanned}
use Rattle.deny_base_lists.proofs.Agreement.{flat_map_on}
use Rattle.deny_base_lists.proofs.Filters.{find-any}
use Rattle.deny_spec.specs.Building.{AllowedPath, Building, Bypass}
use Rattle.deny_spec.specs.Graph.{Crate, Graph, kid_of}
use Rattle.deny_spec.specs.Hits.{hit_of}
use Rattle.deny_spec.specs.Keys.{crate_key, no_span}
use Rattle.deny_spec.specs.Policy.{SpannedText}
use Rattle.deny_spec.specs.declared.package.Package.{Package}
use Rattle.deny_spec.specs.declared.package.PackageFile.{PackageFile}
use Rattle.deny_spec_report.specs.BuildScripts.{is_checked, is_script_denied, is_script_right, is_walked}
use Rattle.deny_spec_report.specs.BuildScripts.{required_enabled, required_unknown, used, uses, wanted_sum}
use Rattle.deny_spec_report.specs.Members.{is_member}
use Rattle.deny_spec_report.specs.PackageFiles.{class_of, hits_glob, hits_path, path_span}
use Rattle.deny_spec_report.specs.Packages.{Scanning, bypass_hit, checks, class_keys, denied_script_keys}
use Rattle.deny_spec_report.specs.Packages.{features_enabled_keys, file_hit, file_hit_at, file_keys, folder_key}
use Rattle.deny_spec_report.specs.Packages.{glob_hit, is_used, meets_file, package_keys, package_of, path_hit}
use Rattle.deny_spec_report.specs.Packages.{path_key, right_script_keys, script_keys, script_shown, sum_keys}
use Rattle.deny_spec_report.specs.Packages.{unmatched_bypass_keys, unmatched_glob_keys, unmatched_keys}
use Rattle.deny_spec_report.specs.Packages.{unmatched_path_keys, walked_keys}
use Rattle.deny_build.specs.Joined.{AreJoined, alone, first_hit}
use Rattle.deny_build.proofs.JudgedLemmas.{package_alone}

-- ---- keys

-- the keys of a crate, by what was seen of its package
keys_by : Building → Graph → (Crate → Bool) → Crate → Package → List Key
keys_by b g reached c p = (if is_checked b g reached c then option_map_or sums (wanted_sum b c) [] else [])
    ++ ((if is_script_denied b g reached p c then crate_key code.BuildScriptNotAllowed c.place no_span ∷ [] else [])
    ++ (if is_walked b g reached p c then map (folder_key c.place) p.unlisted
    ++ (flat_map of_file p.files ++ option_map_or unmatched (used b c) []) else []))
  where
    sums : Spanned (List ℕ) → List Key
    sums sum = if is_script_right b p c
        then (path_key code.ChecksumMatch c.place sum.span (script_shown p)
        ∷ map (λ w. crate_key code.UnknownFeature c.place w.span) (required_unknown b c))
        ++ features_enabled_keys c.place (used b c) (required_enabled b c)
        else path_key code.ChecksumMismatch c.place sum.span (script_shown p) ∷ []

    of_file : PackageFile → List Key
    of_file file = class_keys c.place file.seen.shown (class_of b (used b c) file)

    unmatched : Bypass → List Key
    unmatched y = unmatched_path_keys p c.place y ++ unmatched_glob_keys p c.place y

keys_are : (l : Scanning) (c : Crate)
    → package_keys l c ≡ keys_by l.building l.graph l.reached c (package_of l c)
unfolding keys_by package_keys script_keys sum_keys right_script_keys denied_script_keys walked_keys file_keys
    unmatched_keys
keys_are l c = refl

keys_within : (b : Building) (g : Graph) (reached : Crate → Bool) (c : Crate) (p : Package)
    → keys_by b (record g { crates = c ∷ [] }) reached c p ≡ keys_by b g reached c p
unfolding keys_by is_script_denied is_walked is_checked is_member
keys_within b g reached c p = refl

pub keys_alone : (l : Scanning) (c : Crate) → package_keys (alone l c) c ≡ package_keys l c
keys_alone l c = keys_are (alone l c) c
    ∙ (ap (keys_by l.building (record (l.graph) { crates = c ∷ [] }) l.reached c) (package_alone c (package_of l c))
    ∙ (keys_within l.building l.graph l.reached c (package_of l c) ∙ sym (keys_are l c)))

-- ---- the hits of bypasses

module _ (l : Scanning) (y : Bypass) where
  first_of_all : (hit : Crate → Hit) (test : Crate → Bool) (cs : List Crate)
      → option_map hit (find test cs) ≡ first_hit (λ c. option_map hit (find test (c ∷ []))) cs
  first_of_all hit test [] = refl
  first_of_all hit test (c ∷ cs) = by (test c) (first_of_all hit test cs)
    where
      rest : Option Hit
      rest = first_hit (λ d. option_map hit (find test (d ∷ []))) cs

      by : (b : Bool) → option_map hit (find test cs) ≡ rest → option_map hit (cond b (Some c) (find test cs))
          ≡ option_or (option_map hit (cond b (Some c) None)) rest
      by true later = refl
      by false later = later

  pub bypass_first : bypass_hit l y ≡ first_hit (λ c. bypass_hit (alone l c) y) l.graph.crates
  unfolding bypass_hit is_checked is_member
  bypass_first = first_of_all _ (λ c. checks l c && uses l.building y c) l.graph.crates

  pub used_by_one : is_used l y ≡ list_any (λ c. is_used (alone l c) y) l.graph.crates
  unfolding is_used is_checked is_member
  used_by_one = by l.graph.crates
    where
      test : Crate → Bool
      test c = checks l c && uses l.building y c

      by : (cs : List Crate) → list_any test cs ≡ list_any (λ c. list_any test (c ∷ [])) cs
      by [] = refl
      by (c ∷ cs) = one (test c) (by cs)
        where
          one : (b : Bool) → list_any test cs ≡ list_any (λ d. list_any test (d ∷ [])) cs
              → (b || list_any test cs) ≡ ((b || false) || list_any (λ d. list_any test (d ∷ [])) cs)
          one true rest = refl
          one false rest = rest

  -- ---- the hits of paths and globs

  module _ (test : PackageFile → Bool) (hit : List ℕ → Crate → Hit) where
    -- the hit by a crate that is judged alone, by what was seen of its package
    hit_by_one : Graph → Crate → Package → Option Hit
    hit_by_one g c p = cond ((is_walked l.building g l.reached p c && uses l.building y c) && list_any test p.files)
        (option_map (λ file. hit file.path c) (find test p.files)) None

    one_within : (c : Crate) (p : Package)
        → hit_by_one (record (l.graph) { crates = c ∷ [] }) c p ≡ hit_by_one l.graph c p
    unfolding hit_by_one is_walked is_checked is_member
    one_within c p = refl

    given : (b : Bool) (c : Crate) (m : Scanning) → option_and_then (file_hit_at m test hit) (cond b (Some c) None)
        ≡ cond b (file_hit_at m test hit c) None
    given true c m = refl
    given false c m = refl

    one_is : (m : Scanning) (c : Crate) → option_and_then (file_hit_at m test hit)
        (find (meets_file m y test) (c ∷ []))
        ≡ cond ((is_walked m.building m.graph m.reached (package_of m c) c && uses m.building y c)
        && list_any test (package_of m c).files)
        (option_map (λ file. hit file.path c) (find test (package_of m c).files)) None
    unfolding meets_file file_hit_at
    one_is m c = given (meets_file m y test c) c m

    file_alone : (c : Crate) → file_hit (alone l c) y test hit ≡ hit_by_one l.graph c (package_of l c)
    unfolding file_hit hit_by_one
    file_alone c = one_is (alone l c) c
        ∙ (ap (hit_by_one (record (l.graph) { crates = c ∷ [] }) c) (package_alone c (package_of l c))
        ∙ one_within c (package_of l c))

    hits_all : (cs : List Crate) → option_and_then (file_hit_at l test hit) (find (meets_file l y test) cs)
        ≡ first_hit (λ c. file_hit (alone l c) y test hit) cs
    unfolding meets_file file_hit_at hit_by_one
    hits_all [] = refl
    hits_all (c ∷ cs) = by (walks_and_uses) refl (hits_all cs)
        ∙ ap (λ o. option_or o (first_hit (λ d. file_hit (alone l d) y test hit) cs)) (sym (file_alone c))
      where
        p : Package
        p = package_of l c

        walks_and_uses : Bool
        walks_and_uses = is_walked l.building l.graph l.reached p c && uses l.building y c

        rest : Option Hit
        rest = first_hit (λ d. file_hit (alone l d) y test hit) cs

        found : (o : Option PackageFile) → is_some o ≡ true
            → option_map (λ (file : PackageFile). hit file.path c) o
            ≡ option_or (option_map (λ (file : PackageFile). hit file.path c) o) rest
        found None is = cc
        found (Some file) is = refl

        by_any : (any : Bool) → any ≡ list_any test p.files
            → option_and_then (file_hit_at l test hit) (find (meets_file l y test) cs) ≡ rest
            → option_and_then (file_hit_at l test hit) (cond any (Some c) (find (meets_file l y test) cs))
            ≡ option_or (cond any (option_map (λ file. hit file.path c) (find test p.files)) None) rest
        by_any true is later = found (find test p.files) (sym (find-any test p.files) ∙ sym is)
        by_any false is later = later

        by : (b : Bool) → b ≡ walks_and_uses
            → option_and_then (file_hit_at l test hit) (find (meets_file l y test) cs) ≡ rest
            → option_and_then (file_hit_at l test hit) (cond (b && list_any test p.files) (Some c)
            (find (meets_file l y test) cs))
            ≡ option_or (cond (b && list_any test p.files)
            (option_map (λ file. hit file.path c) (find test p.files)) None) rest
        by true is later = by_any (list_any test p.files) refl later
        by false is later = later

    file_first : file_hit l y test hit ≡ first_hit (λ c. file_hit (alone l c) y test hit) l.graph.crates
    unfolding file_hit
    file_first = hits_all l.graph.crates

path_first : (l : Scanning) (y : Bypass) (a : AllowedPath)
    → path_hit l y a ≡ first_hit (λ c. path_hit (alone l c) y a) l.graph.crates
unfolding path_hit
path_first l y a = file_first l y (hits_path y a)
    (λ path c. hit_of kind.BypassPath (path_span a) (File (kid_of c) path))

glob_first : (l : Scanning) (y : Bypass) (w : SpannedText)
    → glob_hit l y w ≡ first_hit (λ c. glob_hit (alone l c) y w) l.graph.crates
unfolding glob_hit
glob_first l y w = file_first l y (hits_glob y w) (λ path c. hit_of kind.BypassGlob w.span (File (kid_of c) path))

pub joined_all : (l : Scanning) → AreJoined l
joined_all l = record {
  keys = ap (λ keys. keys ++ unmatched_bypass_keys l)
      (flat_map_on (package_keys l) (λ c. package_keys (alone l c) c) l.graph.crates
      (λ c _. sym (keys_alone l c)));
  used = used_by_one l;
  bypasses = bypass_first l;
  paths = path_first l;
  globs = glob_first l;
}
