-- The number of the bypass that a crate uses.
use Rattle.std.proofs.Common.{◌≡◌, ◌∙◌, ◌∷◌, ◌<◌, [], zero, suc, ℕ, Bool, true, false, List, None, Some, ap}
use Rattle.std.proofs.Common.{arith, is_some, length, map, refl, sym}
use Rattle.std.specs.Prelude.{◌&&◌, cond, find, nat_lt, option_and_then, position, slice_get, if◌then◌else◌}
use Rattle.std.specs.List.{position_or_len}
use Rattle.std.proofs.lemmas.Bool.{ltb-false, ltb-true}
use Rattle.std.proofs.lemmas.List.{length-map}
use Rattle.std.proofs.lemmas.List.Folds.{find_at}
use Rattle.std.proofs.lemmas.Option.{slice_get_past}
use Rattle.semver.specs.Identifiers.{parts_of}
use Rattle.deny_cfg_build.specs.BuildingView.{building_view, bypass_view}
use Rattle.deny_cfg_build.specs.declared.valid.ValidBuildConfig.{ValidBuildConfig}
use Rattle.deny_cfg_entries.specs.SpecView.{spec_view}
use Rattle.deny_krates.specs.Crates.{crate_view}
use Rattle.deny_krates.specs.krate.Krate.{Krate}
use Rattle.deny_spec.specs.Building.{Building, Bypass}
use Rattle.deny_spec.specs.Graph.{Crate, Graph}
use Rattle.deny_spec.specs.Match.{matches, spec_matches}
use Rattle.deny_spec_report.specs.BuildScripts.{bypasses, is_checked, used}
use Rattle.deny_build.specs.OneCrate.{number_used}

past_of_map : {X Y : Type 0} (p : Y → Bool) (f : X → Y) (xs : List X)
    → position_or_len (λ x. p (f x)) xs ≡ position_or_len p (map f xs)
past_of_map p f [] = refl
past_of_map p f (x ∷ xs) = rw (past_of_map p f xs) refl

-- what is found at the position of the first that passes
at_position : {X : Type 0} (p : X → Bool) (xs : List X) → option_and_then (slice_get xs) (position p xs) ≡ find p xs
at_position p xs = by (nat_lt (position_or_len p xs) (length xs)) refl ∙ sym (find_at p xs)
  where
    by : (b : Bool) → nat_lt (position_or_len p xs) (length xs) ≡ b
        → option_and_then (slice_get xs) (cond b (Some (position_or_len p xs)) None)
        ≡ slice_get xs (position_or_len p xs)
    by true is = refl
    by false is = sym (slice_get_past xs (position_or_len p xs) (ltb-false (position_or_len p xs) (length xs) is))

within : {X : Type 0} (xs : List X) (k : ℕ) → k < length xs → is_some (slice_get xs k) ≡ true
within [] k below = absurd (omega (arith, below))
within (x ∷ xs) zero below = refl
within (x ∷ xs) (suc k) below = within xs k (omega (arith, below))

-- there is a position exactly where one is found
some_position : {X : Type 0} (p : X → Bool) (xs : List X) → is_some (position p xs) ≡ is_some (find p xs)
some_position p xs = by (nat_lt (position_or_len p xs) (length xs)) refl ∙ ap is_some (sym (find_at p xs))
  where
    by : (b : Bool) → nat_lt (position_or_len p xs) (length xs) ≡ b
        → is_some (cond b (Some (position_or_len p xs)) None) ≡ is_some (slice_get xs (position_or_len p xs))
    by true is = sym (within xs (position_or_len p xs) (ltb-true (position_or_len p xs) (length xs) is))
    by false is = ap is_some
        (sym (slice_get_past xs (position_or_len p xs) (ltb-false (position_or_len p xs) (length xs) is)))

pub number_viewed : (config : ValidBuildConfig) (place : ℕ) (k : Krate)
    → position (λ entry. spec_matches (spec_view entry.spec) k.name (parts_of k.version)) config.bypass
    ≡ position (λ y. bypasses y (crate_view place k)) (building_view config).bypass
unfolding matches
number_viewed config place k =
    let test : Bypass → Bool = λ y. spec_matches y.spec k.name (parts_of k.version) in
    (λ i. cond (nat_lt (past_of_map test bypass_view config.bypass i)
    (sym (length-map config.bypass bypass_view) i)) (Some (past_of_map test bypass_view config.bypass i)) None)

pub used_at : (b : Building) (g : Graph) (reached : Crate → Bool) (c : Crate)
    → option_and_then (slice_get b.bypass) (number_used b g reached c)
    ≡ (if is_checked b g reached c then used b c else None)
unfolding used
used_at b g reached c = by (is_checked b g reached c)
  where
    by : (checked : Bool)
        → option_and_then (slice_get b.bypass) (cond checked (position (λ y. bypasses y c) b.bypass) None)
        ≡ cond checked (find (λ y. bypasses y c) b.bypass) None
    by true = at_position (λ y. bypasses y c) b.bypass
    by false = refl

pub some_number : (b : Building) (g : Graph) (reached : Crate → Bool) (c : Crate)
    → is_some (number_used b g reached c) ≡ (is_checked b g reached c && is_some (used b c))
unfolding used
some_number b g reached c = by (is_checked b g reached c)
  where
    by : (checked : Bool) → is_some (cond checked (position (λ y. bypasses y c) b.bypass) None)
        ≡ (checked && is_some (find (λ y. bypasses y c) b.bypass))
    by true = some_position (λ y. bypasses y c) b.bypass
    by false = refl
