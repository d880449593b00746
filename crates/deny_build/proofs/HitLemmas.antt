-- The hits of bypasses, by the files of the crates that use them.
use Rattle.std.proofs.Common.{◌≡◌, ◌∙◌, ◌++◌, ◌∷◌, [], ℕ, Bool, true, false, List, Option, Some, None, option_map, refl}
use Rattle.std.proofs.Common.{sym, ap}
use Rattle.std.specs.Prelude.{◌&&◌, cond, filter_map, find, not, option_and_then}
use Rattle.std.specs.List.{cons_option, flat_map, list_any}
use Rattle.deny_base.specs.declared.entry.EntryKind.TheVariants as kind
use Rattle.deny_base.specs.declared.entry.Hit.{Hit}
use Rattle.deny_base.specs.declared.entry.Witness.TheVariants.{File}
use Rattle.deny_base.specs.declared.span.Kid.{Kid}
use Rattle.deny_spec.specs.Building.{AllowedPath, Bypass}
use Rattle.deny_spec.specs.declared.package.PackageFile.{PackageFile}
use Rattle.deny_spec_report.specs.BuildScripts.{is_script_ok, is_walked, passes_by_script, uses}
use Rattle.deny_spec_report.specs.PackageFiles.{hits_glob, hits_path, path_span}
use Rattle.deny_spec_report.specs.Packages.{Scanning, bypass_hit, bypass_hits_of, checks, file_hit, file_hit_at}
use Rattle.deny_spec_report.specs.Packages.{glob_hit}
use Rattle.deny_spec_report.specs.Packages.{if_hit, meets_file, package_of, path_hit, walks}
use Rattle.deny_base_lists.proofs.Agreement.{find_on, found_on, list_any_on}
use Rattle.deny_base_lists.proofs.Filters.{find-flat_map, find-map}
use Rattle.deny_spec.specs.Graph.{Crate, kid_of}
use Rattle.deny_spec.specs.Hits.{hit_of}
use Rattle.deny_spec.specs.Policy.{SpannedText}
use Rattle.deny_build.specs.private.Hits.{glob_hit_in, path_hit_in}
use Rattle.deny_build.specs.private.FileMatch.{MatchedFile, all_matched, matches_glob, matches_path, matched_by}
use Rattle.deny_build.specs.private.Users.{is_user, matched_of_user, matched_of_users}
use Rattle.deny_build.proofs.MatchLemmas.{matches_glob_as, matches_path_as}
use Rattle.deny_build.proofs.SetLemmas.{any-map}

filter_map-flat : {X : Type 0} (f : X → Option Hit) (xs : List X)
    → flat_map (λ x. if_hit (f x)) xs ≡ filter_map f xs
filter_map-flat f [] = refl
filter_map-flat f (x ∷ xs) = ap (λ hits. if_hit (f x) ++ hits) (filter_map-flat f xs) ∙ by_hit (f x) (filter_map f xs)
  where
    by_hit : (o : Option Hit) (hits : List Hit) → if_hit o ++ hits ≡ cons_option o hits
    by_hit None hits = refl
    by_hit (Some hit) hits = refl

-- a walked crate is a checked one
walked_user : (checked rest user : Bool) → ((checked && rest) && (checked && user)) ≡ ((checked && rest) && user)
walked_user true rest user = refl
walked_user false rest user = refl

walks_and_uses : (l : Scanning) (y : Bypass) (c : Crate)
    → (walks l c && is_user y (l, c)) ≡ (walks l c && uses l.building y c)
unfolding is_walked
walks_and_uses l y c = walked_user (checks l c)
    (is_script_ok l.building c && not (passes_by_script l.building (package_of l c) c)) (uses l.building y c)

mapped_then : {X Y Z : Type 0} (f : Y → Z) (g : X → Option Y) (o : Option X)
    → option_map f (option_and_then g o) ≡ option_and_then (λ x. option_map f (g x)) o
mapped_then f g None = refl
mapped_then f g (Some x) = refl

module _ (l : Scanning) (y : Bypass) (test : PackageFile → Bool) (p : MatchedFile → Bool) (hit : List ℕ → Kid → Hit)
    (agree : (kid : Kid) (file : PackageFile) → p (matched_by (Some y) kid file) ≡ test file) where
  any_at : (c : Crate) → list_any p (matched_of_user y (l, c)) ≡ meets_file l y test c
  unfolding matched_of_user meets_file
  any_at c = by_test (walks l c && is_user y (l, c)) (sym (walks_and_uses l y c))
    where
      by_test : (b : Bool) → (walks l c && uses l.building y c) ≡ b
          → list_any p (cond b (all_matched (Some y) (kid_of c) (package_of l c).files) [])
          ≡ ((walks l c && uses l.building y c) && list_any test (package_of l c).files)
      by_test true is = any-map p (matched_by (Some y) (kid_of c)) (package_of l c).files
          ∙ (list_any_on (λ file. p (matched_by (Some y) (kid_of c) file)) test (package_of l c).files
          (λ file _. agree (kid_of c) file)
          ∙ ap (λ b. b && list_any test (package_of l c).files) (sym is))
      by_test false is = ap (λ b. b && list_any test (package_of l c).files) (sym is)

  hit_at_crate : (c : Crate) → list_any p (matched_of_user y (l, c)) ≡ true
      → option_map (λ (m : MatchedFile). hit m.file.path m.kid) (find p (matched_of_user y (l, c)))
      ≡ file_hit_at l test (λ path d. hit path (kid_of d)) c
  unfolding matched_of_user file_hit_at matched_by
  hit_at_crate c some = by_test (walks l c && is_user y (l, c)) some
    where
      by_test : (b : Bool) → list_any p (cond b (all_matched (Some y) (kid_of c) (package_of l c).files) []) ≡ true
          → option_map (λ (m : MatchedFile). hit m.file.path m.kid)
          (find p (cond b (all_matched (Some y) (kid_of c) (package_of l c).files) []))
          ≡ option_map (λ (file : PackageFile). hit file.path (kid_of c)) (find test (package_of l c).files)
      by_test true some = ap (option_map (λ (m : MatchedFile). hit m.file.path m.kid))
          (find-map p (matched_by (Some y) (kid_of c)) (package_of l c).files)
          ∙ (made (find (λ file. p (matched_by (Some y) (kid_of c) file)) (package_of l c).files)
          ∙ ap (option_map (λ (file : PackageFile). hit file.path (kid_of c)))
          (find_on (λ file. p (matched_by (Some y) (kid_of c) file)) test (package_of l c).files
          (λ file _. agree (kid_of c) file)))
        where
          made : (o : Option PackageFile)
              → option_map (λ (m : MatchedFile). hit m.file.path m.kid) (option_map (matched_by (Some y) (kid_of c)) o)
              ≡ option_map (λ (file : PackageFile). hit file.path (kid_of c)) o
          made None = refl
          made (Some file) = refl
      by_test false some = absurd (cc)

  file_hit_as : option_map (λ (m : MatchedFile). hit m.file.path m.kid) (find p (matched_of_users l y))
      ≡ file_hit l y test (λ path d. hit path (kid_of d))
  unfolding matched_of_users file_hit
  file_hit_as =
      ap (option_map (λ (m : MatchedFile). hit m.file.path m.kid))
      (find-flat_map p (λ c. matched_of_user y (l, c)) l.graph.crates)
      ∙ (mapped_then (λ (m : MatchedFile). hit m.file.path m.kid) (λ c. find p (matched_of_user y (l, c)))
      (find (λ c. list_any p (matched_of_user y (l, c))) l.graph.crates)
      ∙ (found_on (λ c. option_map (λ (m : MatchedFile). hit m.file.path m.kid) (find p (matched_of_user y (l, c))))
      (file_hit_at l test (λ path d. hit path (kid_of d))) (λ c. list_any p (matched_of_user y (l, c))) l.graph.crates
      (λ c _ some. hit_at_crate c some)
      ∙ ap (option_and_then (file_hit_at l test (λ path d. hit path (kid_of d))))
      (find_on (λ c. list_any p (matched_of_user y (l, c))) (meets_file l y test) l.graph.crates (λ c _. any_at c))))

path_hit_as : (l : Scanning) (y : Bypass) (a : AllowedPath) → path_hit_in (matched_of_users l y) a ≡ path_hit l y a
unfolding path_hit_in path_hit
path_hit_as l y a = file_hit_as l y (hits_path y a) (matches_path (path_span a))
    (λ path kid. hit_of kind.BypassPath (path_span a) (File kid path)) (λ kid file. matches_path_as y kid a file)

glob_hit_as : (l : Scanning) (y : Bypass) (w : SpannedText) → glob_hit_in (matched_of_users l y) w ≡ glob_hit l y w
unfolding glob_hit_in glob_hit
glob_hit_as l y w = file_hit_as l y (hits_glob y w) (matches_glob w.value)
    (λ path kid. hit_of kind.BypassGlob w.span (File kid path)) (λ kid file. matches_glob_as y kid w file)

path_hits_as : (l : Scanning) (y : Bypass) (paths : List AllowedPath)
    → flat_map (λ a. if_hit (path_hit_in (matched_of_users l y) a)) paths ≡ filter_map (path_hit l y) paths
path_hits_as l y [] = refl
path_hits_as l y (a ∷ paths) =
    ap (λ hit. if_hit hit ++ flat_map (λ b. if_hit (path_hit_in (matched_of_users l y) b)) paths) (path_hit_as l y a)
    ∙ (ap (λ hits. if_hit (path_hit l y a) ++ hits)
    (path_hits_as l y paths ∙ sym (filter_map-flat (path_hit l y) paths))
    ∙ filter_map-flat (path_hit l y) (a ∷ paths))

glob_hits_as : (l : Scanning) (y : Bypass) (globs : List SpannedText)
    → flat_map (λ w. if_hit (glob_hit_in (matched_of_users l y) w)) globs ≡ filter_map (glob_hit l y) globs
glob_hits_as l y [] = refl
glob_hits_as l y (w ∷ globs) =
    ap (λ hit. if_hit hit ++ flat_map (λ v. if_hit (glob_hit_in (matched_of_users l y) v)) globs) (glob_hit_as l y w)
    ∙ (ap (λ hits. if_hit (glob_hit l y w) ++ hits)
    (glob_hits_as l y globs ∙ sym (filter_map-flat (glob_hit l y) globs))
    ∙ filter_map-flat (glob_hit l y) (w ∷ globs))

-- the hits of a bypass are its own, and those of its paths and globs by the files that they match
pub hits_are : (l : Scanning) (y : Bypass) (matched : List MatchedFile) → matched ≡ matched_of_users l y
    → if_hit (bypass_hit l y) ++ (flat_map (λ a. if_hit (path_hit_in matched a)) y.allow
    ++ flat_map (λ w. if_hit (glob_hit_in matched w)) y.globs) ≡ bypass_hits_of l y
unfolding bypass_hits_of
hits_are l y matched is =
    ap (λ (m : List MatchedFile). if_hit (bypass_hit l y) ++ (flat_map (λ a. if_hit (path_hit_in m a)) y.allow
    ++ flat_map (λ w. if_hit (glob_hit_in m w)) y.globs)) is
    ∙ (ap (λ hits. if_hit (bypass_hit l y)
    ++ (hits ++ flat_map (λ w. if_hit (glob_hit_in (matched_of_users l y) w)) y.globs))
    (path_hits_as l y y.allow)
    ∙ ap (λ hits. if_hit (bypass_hit l y) ++ (filter_map (path_hit l y) y.allow ++ hits)) (glob_hits_as l y y.globs))
