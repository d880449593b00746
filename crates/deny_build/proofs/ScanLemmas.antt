-- The crates of a graph as the build check scans them.
use Rattle.std.proofs.Common.{◌≡◌, ◌∙◌, ◌++◌, ◌∷◌, [], ℕ, ◌<◌, Bool, true, false, Bor, List, Option, Some, None, get_or}
use Rattle.std.proofs.Common.{length, map, option_map, refl, sym, ap}
use Rattle.std.specs.Prelude.{◌&&◌, cond, filter, find, nat_lt, slice_get}
use Rattle.std.specs.List.{flat_map}
use Rattle.std.specs.Option.{option_map_or}
use Rattle.std.proofs.lemmas.List.{length-map}
use Rattle.std.proofs.lemmas.List.Folds.{flat_map-map}
use Rattle.std.proofs.lemmas.Option.{slice_get-get_or}
use Rattle.std.proofs.lemmas.Simd.{map-map}
use Rattle.deny_base.specs.declared.span.Span.{Span}
use Rattle.deny_cfg_build.specs.BuildingView.{bypass_view}
use Rattle.deny_cfg_build.specs.declared.valid.ValidBypass.{ValidBypass}
use Rattle.deny_spec.specs.Building.{Bypass}
use Rattle.deny_spec_report.specs.BuildScripts.{bypass_span, used, uses}
use Rattle.deny_spec_report.specs.Packages.{Scanning, checks, is_used, package_of, walks}
use Rattle.deny_base_lists.proofs.Agreement.{filter_on}
use Rattle.deny_base_lists.proofs.Filters.{filter-map, first-filter, some-filter}
use Rattle.deny_base_lists.proofs.Members.{from_map_at, map_at}
use Rattle.deny_spec.specs.Graph.{Crate, kid_of}
use Rattle.deny_spec.specs.Wrappers.{same_span}
use Rattle.deny_build.specs.declared.scanned_krate.ScannedKrate.{ScannedKrate}
use Rattle.deny_build.specs.declared.users.Users.{Users}
use Rattle.deny_build.specs.private.ScannedKrates.{AreScannedKrates, krate_of, scanned_view, scanning_at}
use Rattle.deny_build.specs.private.FileMatch.{MatchedFile, all_matched}
use Rattle.deny_build.specs.private.Users.{is_user, matched_of_user, matched_of_users, matched_walked}
use Rattle.deny_build.specs.private.UsersOf.{AreUsers, uses_span, users_at}

-- the first bypass that matches a crate has the span of this one
abbrev is_first_of : Bypass → Option Bypass → Bool
is_first_of y first = option_map_or (λ (f : Bypass). same_span (bypass_span f) (bypass_span y)) first false

user_by : (l : Scanning) (c : Crate) (y : Bypass) (first : Option Bypass) (checked : Bool) → checked ≡ checks l c
    → first ≡ used l.building c → (checked && is_first_of y first) ≡ is_user y (l, c)
unfolding used uses
user_by l c y first checked is same =
    ap (λ b. b && is_first_of y first) is ∙ ap (λ f. checks l c && is_first_of y f) same

-- ---- the crates that use a bypass

span_of_used : (checked : Bool) (first : Option (Bor ValidBypass)) (span : Span)
    → option_map_or (λ own. same_span own span)
    (cond checked (option_map (λ (y : Bor ValidBypass). y.now.spec.name.span) first) None) false
    ≡ (checked && option_map_or (λ (f : Bypass). same_span (bypass_span f) span)
    (option_map (λ (y : Bor ValidBypass). bypass_view y.now) first) false)
span_of_used true None span = refl
span_of_used true (Some y) span = refl
span_of_used false first span = refl

uses_as : (at : ScannedKrate) (y : Bypass) → uses_span (bypass_span y) at ≡ is_user y (scanned_view at)
uses_as at y = span_of_used at.checked at.bypass (bypass_span y)
    ∙ user_by (scanning_at at) (krate_of at) y
    (option_map (λ (b : Bor ValidBypass). bypass_view b.now) at.bypass) at.checked
    at.checks at.uses

pub users_are : (l : Scanning) (all : List ScannedKrate) (users : Users) → AreScannedKrates l all
    → ((span : Span) → users_at users.groups span ≡ filter (uses_span span) all) → AreUsers l users
users_are l all users are grouped y =
    ap (map scanned_view) (grouped (bypass_span y))
    ∙ (ap (map scanned_view) (filter_on (uses_span (bypass_span y)) (λ at. is_user y (scanned_view at)) all
    (λ at _. uses_as at y))
    ∙ (sym (filter-map (is_user y) scanned_view all)
    ∙ (ap (filter (is_user y)) are ∙ filter-map (is_user y) (λ c. (l, c)) l.graph.crates)))

flat_filter : {X Y : Type 0} (p : X → Bool) (f g : X → List Y) (xs : List X) → ((x : X) → g x ≡ cond (p x) (f x) [])
    → flat_map f (filter p xs) ≡ flat_map g xs
flat_filter p f g [] is = refl
flat_filter {X} {Y} p f g (x ∷ xs) is = by_test (p x) refl (flat_filter p f g xs is)
  where
    by_test : (b : Bool) → p x ≡ b → flat_map f (filter p xs) ≡ flat_map g xs
        → flat_map f (cond b (x ∷ filter p xs) (filter p xs)) ≡ g x ++ flat_map g xs
    by_test true passes rest = ap (λ ys. f x ++ ys) rest
        ∙ ap (λ ys. ys ++ flat_map g xs) (sym (is x ∙ ap (λ b. cond b (f x) []) passes))
    by_test false fails rest = rest
        ∙ ap (λ ys. ys ++ flat_map g xs) (sym (is x ∙ ap (λ b. cond b (f x) []) fails))

both_tests : (walked user : Bool) (files : List MatchedFile)
    → cond (walked && user) files [] ≡ cond user (cond walked files []) []
both_tests true user files = refl
both_tests false true files = refl
both_tests false false files = refl

walked_users : (l : Scanning) (y : Bypass) (c : Crate)
    → matched_of_user y (l, c) ≡ cond (is_user y (l, c)) (matched_walked y (l, c)) []
unfolding matched_of_user matched_walked
walked_users l y c = both_tests (walks l c) (is_user y (l, c)) (all_matched (Some y) (kid_of c) (package_of l c).files)

first_paired : (l : Scanning) (cs : List Crate)
    → option_map (λ (at : Scanning × Crate). at.1) (slice_get (map (λ c. (l, c)) cs) 0) ≡ slice_get cs 0
first_paired l [] = refl
first_paired l (c ∷ cs) = refl

first_behind : (own : List ScannedKrate) → option_map krate_of (slice_get own 0)
    ≡ option_map (λ (at : Scanning × Crate). at.1) (slice_get (map scanned_view own) 0)
first_behind [] = refl
first_behind (at ∷ own) = refl

module _ (l : Scanning) (users : Users) (are : AreUsers l users) (y : Bypass) where
  pub is_used_as : nat_lt 0 (length (users_at users.groups (bypass_span y))) ≡ is_used l y
  unfolding is_used
  is_used_as = ap (nat_lt 0) (sym (length-map (users_at users.groups (bypass_span y)) scanned_view)
      ∙ (ap length (are y) ∙ length-map (filter (λ c. is_user y (l, c)) l.graph.crates) (λ c. (l, c))))
      ∙ some-filter (λ c. is_user y (l, c)) l.graph.crates

  pub first_user_as : (o : Option ScannedKrate) → o ≡ slice_get (users_at users.groups (bypass_span y)) 0
      → option_map krate_of o ≡ find (λ c. is_user y (l, c)) l.graph.crates
  first_user_as o is = ap (option_map krate_of) is
      ∙ (first_behind (users_at users.groups (bypass_span y))
      ∙ (ap (λ (ps : List (Scanning × Crate)). option_map (λ (at : Scanning × Crate). at.1) (slice_get ps 0)) (are y)
      ∙ (first_paired l (filter (λ c. is_user y (l, c)) l.graph.crates)
      ∙ first-filter (λ c. is_user y (l, c)) l.graph.crates)))

  pub matched_users : (group : Option (List (Bor ScannedKrate)))
      → option_map_or (λ own. map (λ (u : Bor ScannedKrate). u.now) own) group []
      ≡ users_at users.groups (bypass_span y)
      → option_map_or (λ own. flat_map (matched_walked y) (map
      (λ (u : Bor ScannedKrate). scanned_view u.now) own)) group []
      ≡ matched_of_users l y
  unfolding matched_of_users
  matched_users group same = by_group group
      ∙ (ap (λ (own : List ScannedKrate). flat_map (matched_walked y) (map scanned_view own)) same
      ∙ (ap (flat_map (matched_walked y)) (are y)
      ∙ (flat_map-map (matched_walked y) (λ c. (l, c)) (filter (λ c. is_user y (l, c)) l.graph.crates)
      ∙ flat_filter (λ c. is_user y (l, c)) (λ c. matched_walked y (l, c)) (λ c. matched_of_user y
      (l, c)) l.graph.crates
      (walked_users l y))))
    where
      by_group : (o : Option (List (Bor ScannedKrate)))
          → option_map_or (λ own. flat_map (matched_walked y) (map
          (λ (u : Bor ScannedKrate). scanned_view u.now) own)) o []
          ≡ flat_map (matched_walked y) (map scanned_view (option_map_or (λ own. map
          (λ (u : Bor ScannedKrate). u.now) own) o []))
      by_group None = refl
      by_group (Some own) = ap (flat_map (matched_walked y)) (sym (map-map scanned_view
          (λ (u : Bor ScannedKrate). u.now) own))

-- ---- all crates

module _ (l : Scanning) (all : List ScannedKrate) (are : AreScannedKrates l all) where
  pub flat_of_each : {T : Type 0} (f : Scanning × Crate → List T)
      → flat_map f (map scanned_view all) ≡ flat_map (λ c. f (l, c)) l.graph.crates
  flat_of_each f = ap (flat_map f) are ∙ flat_map-map f (λ c. (l, c)) l.graph.crates

  -- each crate is scanned for one and the same context
  pub scanned_as : (i : ℕ) (at : ScannedKrate) → i < length all → at ≡ get_or all i at → scanning_at at ≡ l
  scanned_as i at inside is =
      let here : slice_get all i ≡ Some at = slice_get-get_or all i at inside ∙ ap Some (sym is) in
      let of = from_map_at (λ (c : Crate). (l, c)) l.graph.crates i (scanned_view at)
      (ap (λ (ps : List (Scanning × Crate)). slice_get ps i) (sym are) ∙ map_at scanned_view all i at here) in
      sym (ap (λ (p : Scanning × Crate). p.0) of.2)
