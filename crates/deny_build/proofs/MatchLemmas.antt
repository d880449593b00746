-- The first of the files that a path or a glob of a bypass matches.
use Rattle.std.proofs.Common.{◌≡◌, ◌∙◌, ◌++◌, ◌∷◌, [], ℕ, Bor, zero, suc, ◌+◌, ◌<◌, Bool, true, false, List, Option}
use Rattle.std.proofs.Common.{Some, None, get_or, is_some, length, map, option_map, refl, subst, sym, take, ap, arith}
use Rattle.std.specs.Prelude.{◌&&◌, cond, find, slice_get}
use Rattle.std.specs.List.{list_any}
use Rattle.std.specs.Option.{option_map_or, option_or}
use Rattle.std.proofs.lemmas.List.{length-map, length-take-le, map-append, take_more}
use Rattle.std.proofs.lemmas.List.Folds.{find-append}
use Rattle.deny_base_lists.proofs.Options.{option_or-none}
use Rattle.deny_base_lists.proofs.Indices.{slice_get-append_some, slice_get-push}
use Rattle.deny_base.specs.declared.span.Kid.{Kid}
use Rattle.deny_base.specs.declared.span.Span.{Span}
use Rattle.deny_cfg_build.specs.BuildingView.{path_view}
use Rattle.deny_spec.specs.Building.{AllowedPath, Bypass}
use Rattle.deny_spec.specs.declared.package.PackageFile.{PackageFile}
use Rattle.deny_spec_report.specs.PackageFiles.{hits_glob, hits_path, is_decided_by, leaves_to_globs, path_of}
use Rattle.deny_spec_report.specs.PackageFiles.{path_span}
use Rattle.deny_spec.specs.Policy.{SpannedText}
use Rattle.deny_spec.specs.Text.{same_text}
use Rattle.deny_spec.specs.Wrappers.{same_span}
use Rattle.deny_cfg_tables.specs.declared.bans.cfg.bypass.BypassPath.{BypassPath}
use Rattle.deny_build.specs.declared.matched.FileMatch.{FileMatch}
use Rattle.deny_build.specs.private.FileMatch.{IsFirstAt, MatchedFile, matches_glob, matches_path, matched_by}
use Rattle.deny_build.specs.private.FileMatch.{matched_view}

-- the index of one more file is put where there is none
first_more : (test : MatchedFile → Bool) (xs : List MatchedFile) (x : MatchedFile) (got : Option ℕ)
    → IsFirstAt test xs got
    → IsFirstAt test (xs ++ x ∷ []) (option_or got (cond (test x) (Some (length xs)) None))
first_more test xs x None none = by_test (test x) refl
  where
    by_test : (b : Bool) → test x ≡ b → IsFirstAt test (xs ++ x ∷ []) (cond b (Some (length xs)) None)
    by_test true passes = (
      x,
      slice_get-push xs x,
      find-append test xs (x ∷ [])
          ∙ (ap (λ o. option_or o (cond (test x) (Some x) None)) none ∙ ap (λ b. cond b (Some x) None) passes),
    )
    by_test false fails = find-append test xs (x ∷ [])
        ∙ (ap (λ o. option_or o (cond (test x) (Some x) None)) none ∙ ap (λ b. cond b (Some x) None) fails)
first_more test xs x (Some n) first = (
  first.0,
  slice_get-append_some xs (x ∷ []) n first.0 first.1,
  find-append test xs (x ∷ [])
      ∙ ap (λ o. option_or o (cond (test x) (Some x) None)) first.2,
)

-- the file at the index is the first that passes
found_by : (test : MatchedFile → Bool) (xs : List MatchedFile) (n : ℕ) → IsFirstAt test xs (Some n)
    → slice_get xs n ≡ find test xs
found_by test xs n first = first.1 ∙ sym first.2

pub none_found : (test : MatchedFile → Bool) (xs : List MatchedFile) (got : Option ℕ) → IsFirstAt test xs got
    → is_some got ≡ is_some (find test xs)
none_found test xs None none = ap is_some (sym none)
none_found test xs (Some n) first = ap is_some (sym first.2)

-- a loop over files goes on with the next one
pub firsts_more : (all : List FileMatch) (n : ℕ) (m : FileMatch) (test : MatchedFile → Bool) (got new : Option ℕ)
    → n < length all
    → m ≡ get_or all n m → IsFirstAt test (map matched_view (take n all)) got
    → new ≡ option_or got (cond (test (matched_view m)) (Some n) None)
    → IsFirstAt test (map matched_view (take (n + 1) all)) new
firsts_more all n m test got new inside is before added =
    let taken : length (map matched_view (take n all)) ≡ n = length-map (take n all) matched_view
    ∙ length-take-le n all (omega arith) in
    let more : map matched_view (take (n + 1) all) ≡ map matched_view (take n all) ++ matched_view m ∷ [] =
    ap (map matched_view) (take_more all n m inside ∙ ap (λ (y : FileMatch). take n all ++ y ∷ []) (sym is))
    ∙ map-append matched_view (take n all) (m ∷ []) in
    subst (λ (ms : List MatchedFile). IsFirstAt test ms new) (sym more)
    (subst (IsFirstAt test (map matched_view (take n all) ++ matched_view m ∷ []))
    (ap (λ (k : ℕ). option_or got (cond (test (matched_view m)) (Some k) None)) taken ∙ sym added)
    (first_more test (map matched_view (take n all)) (matched_view m) got before))

pub glob_matched : (m : MatchedFile) (glob : List ℕ) (globs : List (List ℕ)) → globs ≡ m.file.globs
    → leaves_to_globs m.path ≡ true → list_any (same_text glob) globs ≡ matches_glob glob m
unfolding matches_glob is_decided_by
glob_matched m glob globs are leaves =
    ap (list_any (same_text glob)) are ∙ ap (λ b. b && list_any (same_text glob) m.file.globs) (sym leaves)

-- the allowed path that matches a file has this span
pub path_matched : (span : Span) (m : FileMatch) (path : Bor BypassPath) → m.path ≡ Some path
    → same_span path.now.path.span span ≡ matches_path span (matched_view m)
unfolding matches_path
path_matched span m path is =
    ap (λ (o : Option (Bor BypassPath)). option_map_or (λ (a : AllowedPath). same_span (path_span a) span)
    (option_map (λ (a : Bor BypassPath). path_view a.now) o) false) (sym is)

pub no_path_matched : (span : Span) (m : FileMatch) (got : Option ℕ) (number : ℕ) → m.path ≡ None
    → got ≡ option_or got (cond (matches_path span (matched_view m)) (Some number) None)
unfolding matches_path
no_path_matched span m got number is = option_or-none got
    ∙ ap (λ (o : Option (Bor BypassPath)). option_or got
    (cond (option_map_or (λ (a : AllowedPath). same_span (path_span a) span)
    (option_map (λ (a : Bor BypassPath). path_view a.now) o) false) (Some number) None)) (sym is)

-- ---- the files of a package

pub matches_path_as : (y : Bypass) (kid : Kid) (a : AllowedPath) (file : PackageFile)
    → matches_path (path_span a) (matched_by (Some y) kid file) ≡ hits_path y a file
unfolding matches_path matched_by hits_path path_of
matches_path_as y kid a file = refl

pub matches_glob_as : (y : Bypass) (kid : Kid) (w : SpannedText) (file : PackageFile)
    → matches_glob w.value (matched_by (Some y) kid file) ≡ hits_glob y w file
unfolding matches_glob matched_by hits_glob
matches_glob_as y kid w file = refl

-- ---- the file at an index

pub found_at : (test : MatchedFile → Bool) (all : List FileMatch) (n : ℕ) (o : Option FileMatch) → o ≡ slice_get all n
    → IsFirstAt test (map matched_view all) (Some n) → option_map matched_view o ≡ find test (map matched_view all)
found_at test all n o is first = ap (option_map matched_view) is
    ∙ (sym (slice_get-map all n) ∙ found_by test (map matched_view all) n first)
  where
    slice_get-map : (xs : List FileMatch) (k : ℕ) → slice_get (map matched_view xs) k
        ≡ option_map matched_view (slice_get xs k)
    slice_get-map [] k = refl
    slice_get-map (x ∷ xs) zero = refl
    slice_get-map (x ∷ xs) (suc k) = slice_get-map xs k
