-- What the code finds in entries and targets, in the views of contracts.
use Rattle.std.proofs.Common.{◌≡◌, ◌∙◌, ℕ, length, Bool, List, [], ◌∷◌, Option, None, Some, true, false, Bor, map}
use Rattle.std.proofs.Common.{option_map, refl, sym, ap, not, cond, arith}
use Rattle.std.proofs.lemmas.Bool.Decides.{nat_tests}
use Rattle.std.specs.Prelude.{◌&&◌, ◌||◌, ◌==◌, Contains, IfSome, filter, find, is_some, nat_lt, option_and_then}
use Rattle.std.specs.FinMap as finite
use Rattle.std.specs.Cmp.Lexicographic.{pointwise}
use Rattle.std.specs.List.{list_any}
use Rattle.std.specs.Option.{option_copied, option_map_or}
use Rattle.semver.specs.Identifiers.{parts_of}
use Rattle.deny_base.specs.declared.span.Spanned.{Spanned}
use Rattle.deny_cfg_build.specs.BuildingView.{building_view, bypass_view, checksum_view}
use Rattle.deny_cfg_build.specs.declared.valid.ValidBuildConfig.{ValidBuildConfig}
use Rattle.deny_cfg_build.specs.declared.valid.ValidBypass.{ValidBypass}
use Rattle.deny_spec.specs.Building.{Building, Bypass}
use Rattle.deny_spec.specs.declared.package.Package.{Package}
use Rattle.deny_spec_report.specs.BuildScripts.{has_sum, is_script, is_script_ok, is_script_right, may_have_script}
use Rattle.deny_spec_report.specs.BuildScripts.{passes_by_script, required_enabled, required_of, required_unknown}
use Rattle.deny_spec_report.specs.BuildScripts.{script_found, script_of, used, wanted_sum}
use Rattle.deny_spec_report.specs.Features.{has_feature, is_enabled}
use Rattle.deny_cfg_entries.specs.SpecView.{spec_view}
use Rattle.deny_cfg_entries.specs.declared.package_spec.PackageSpec.{PackageSpec}
use Rattle.deny_krates.specs.Crates.{crate_view, target_view}
use Rattle.deny_krates.specs.declared.Target.{Target}
use Rattle.deny_krates.specs.krate.Krate.{Krate}
use Rattle.deny_base_lists.proofs.Filters.{find-map, some-filter, any-map}
use Rattle.deny_base_lists.proofs.Options.{is_some-option_map, option_map-now}
use Rattle.deny_base_lists.proofs.Finding.{found_member}
use Rattle.deny_spec.specs.Graph.{Crate}
use Rattle.deny_spec.specs.Match.{matches, spec_matches}
use Rattle.deny_spec.specs.Policy.{Spec, SpannedText}
use Rattle.deny_spec.specs.Text.{same_text}
use Rattle.deny_cfg_tables.specs.declared.bans.cfg.checksum.Checksum.{Checksum}

pub found_viewed : {X Y : Type 0} (p : Y → Bool) (v : X → Y) (xs : List X) (r : Option (Bor X))
    → option_copied r ≡ find (λ x. p (v x)) xs → option_map (λ (x : Bor X). v x.now) r ≡ find p (map v xs)
found_viewed p v xs r is = option_map-now v r ∙ (ap (option_map v) is ∙ sym (find-map p v xs))

pub pointwise_viewed : {X Y : Type 0} (same : X → X → Bool) (also : Y → Y → Bool) (v : X → Y)
    → ((a b : X) → same a b ≡ also (v a) (v b)) → (xs ys : List X)
    → pointwise same xs ys ≡ pointwise also (map v xs) (map v ys)
pointwise_viewed same also v agree [] [] = refl
pointwise_viewed same also v agree [] (y ∷ ys) = refl
pointwise_viewed same also v agree (x ∷ xs) [] = refl
pointwise_viewed same also v agree (x ∷ xs) (y ∷ ys) =
    ap (λ b. b && pointwise same xs ys) (agree x y)
    ∙ ap (λ b. also (v x) (v y) && b) (pointwise_viewed same also v agree xs ys)

-- ---- scripts

pub script_viewed : (place : ℕ) (k : Krate) (r : Option (Bor Target))
    → option_copied r ≡ find (λ t. is_script (target_view t)) k.targets
    → option_map (λ (t : Bor Target). target_view t.now) r ≡ script_of (crate_view place k)
unfolding script_of
script_viewed place k r is = found_viewed is_script target_view k.targets r is

pub any_matches : (place : ℕ) (k : Krate) (config : ValidBuildConfig) (specs : List PackageSpec)
    → config.allow_build_scripts ≡ Some specs
    → list_any (λ spec. spec_matches (spec_view spec) k.name (parts_of k.version)) specs
    ≡ may_have_script (building_view config) (crate_view place k)
unfolding may_have_script matches
any_matches place k config specs is =
    any-map (λ (spec : Spec). spec_matches spec k.name (parts_of k.version)) spec_view specs
    ∙ ap (λ o. option_map_or
    (λ (ss : List Spec). list_any (λ (spec : Spec). spec_matches spec k.name (parts_of k.version)) ss)
    (option_map (map spec_view) o) true) (sym is)

pub all_may : (place : ℕ) (k : Krate) (config : ValidBuildConfig) → config.allow_build_scripts ≡ None
    → true ≡ may_have_script (building_view config) (crate_view place k)
unfolding may_have_script
all_may place k config is =
    ap (λ o. option_map_or (λ (ss : List Spec). list_any (λ spec. matches spec (crate_view place k)) ss)
    (option_map (map spec_view) o) true) (sym is)

-- a crate has a build script exactly where one is found
pub has_script : (place : ℕ) (k : Krate) (r : Option (Bor Target))
    → option_map (λ (t : Bor Target). target_view t.now) r ≡ script_of (crate_view place k)
    → is_some (script_of (crate_view place k)) ≡ is_some r
has_script place k r is = ap is_some (sym is) ∙ is_some-option_map (λ (t : Bor Target). target_view t.now) r

pub no_script_ok : (b : Building) (c : Crate) → is_some (script_of c) ≡ false → true ≡ is_script_ok b c
unfolding is_script_ok
no_script_ok b c none = ap (λ s. not s || may_have_script b c) (sym none)

pub script_ok_by_list : (b : Building) (c : Crate) → is_some (script_of c) ≡ true
    → may_have_script b c ≡ is_script_ok b c
unfolding is_script_ok
script_ok_by_list b c some = ap (λ s. not s || may_have_script b c) (sym some)

-- ---- the bypass of a crate

pub bypass_found : (place : ℕ) (k : Krate) (config : ValidBuildConfig) (r : Option (Bor ValidBypass))
    → option_copied r ≡ find (λ y. spec_matches (spec_view y.spec) k.name (parts_of k.version)) config.bypass
    → option_map (λ (y : Bor ValidBypass). bypass_view y.now) r ≡ used (building_view config) (crate_view place k)
unfolding used matches
bypass_found place k config r is =
    found_viewed (λ (y : Bypass). spec_matches y.spec k.name (parts_of k.version)) bypass_view config.bypass r is

-- ---- the checksum of a script

pub no_sum_without_script : (b : Building) (c : Crate) → is_some (script_of c) ≡ false → None ≡ wanted_sum b c
unfolding wanted_sum
no_sum_without_script b c none =
    ap (λ s. cond s (option_and_then (λ (y : Bypass). y.script) (used b c)) None) (sym none)

pub sum_of_used : (b : Building) (c : Crate) → is_some (script_of c) ≡ true
    → option_and_then (λ (y : Bypass). y.script) (used b c) ≡ wanted_sum b c
unfolding wanted_sum
sum_of_used b c some = ap (λ s. cond s (option_and_then (λ (y : Bypass). y.script) (used b c)) None) (sym some)

pub right_by : (place : ℕ) (k : Krate) (b : Building) (contents : Package) (r : Option (Bor (Spanned Checksum)))
    → option_map (λ (sum : Bor (Spanned Checksum)). checksum_view sum.now) r ≡ wanted_sum b (crate_view place k)
    → option_map_or (λ (sum : Bor (Spanned Checksum)). has_sum sum.now.value.0 (script_found contents)) r false
    ≡ is_script_right b contents (crate_view place k)
unfolding is_script_right
right_by place k b contents r is =
    viewed r ∙ ap (λ o. option_map_or (λ (sum : Spanned (List ℕ)). has_sum sum.value (script_found contents)) o false)
    is
  where
    viewed : (o : Option (Bor (Spanned Checksum)))
        → option_map_or (λ (sum : Bor (Spanned Checksum)). has_sum sum.now.value.0 (script_found contents)) o false
        ≡ option_map_or (λ (sum : Spanned (List ℕ)). has_sum sum.value (script_found contents))
        (option_map (λ (sum : Bor (Spanned Checksum)). checksum_view sum.now) o) false
    viewed None = refl
    viewed (Some sum) = refl

-- ---- required features

pub some_enabled : (b : Building) (c : Crate) (required : List SpannedText) → required ≡ required_of (used b c)
    → list_any (λ w. list_any (same_text w.value) c.enabled) required ≡ nat_lt 0 (length (required_enabled b c))
unfolding required_enabled is_enabled
some_enabled b c required are =
    ap (list_any (λ (w : SpannedText). list_any (same_text w.value) c.enabled)) are
    ∙ sym (some-filter (λ (w : SpannedText). list_any (same_text w.value) c.enabled) (required_of (used b c)))

pub enabled_are : (b : Building) (c : Crate) (required : List SpannedText) → required ≡ required_of (used b c)
    → filter (λ w. list_any (same_text w.value) c.enabled) required ≡ required_enabled b c
unfolding required_enabled is_enabled
enabled_are b c required are = ap (filter (λ (w : SpannedText). list_any (same_text w.value) c.enabled)) are

pub unknown_are : (b : Building) (c : Crate) (required : List SpannedText) → required ≡ required_of (used b c)
    → filter (λ w. not (is_some (finite.get c.features w.value))) required ≡ required_unknown b c
unfolding required_unknown has_feature
unknown_are b c required are = ap (filter (λ (w : SpannedText). not (is_some (finite.get c.features w.value)))) are

-- ---- packages that pass by their build script

none_counted : (n : ℕ) → not (nat_lt 0 n) ≡ (n == 0)
none_counted n = grind (arith, nat_tests)

pub passes_right : (b : Building) (contents : Package) (c : Crate) → true ≡ is_script_right b contents c
    → not (nat_lt 0 (length (required_enabled b c))) ≡ passes_by_script b contents c
unfolding passes_by_script
passes_right b contents c right = none_counted (length (required_enabled b c))
    ∙ ap (λ r. r && (length (required_enabled b c) == 0)) right

pub fails_wrong : (b : Building) (contents : Package) (c : Crate) → false ≡ is_script_right b contents c
    → false ≡ passes_by_script b contents c
unfolding passes_by_script
fails_wrong b contents c wrong = ap (λ r. r && (length (required_enabled b c) == 0)) wrong

-- an entry that is found is one of the list
pub found_listed : {X : Type 0} (test : X → Bool) (xs : List X) (r : Option (Bor X)) → option_copied r ≡ find test xs
    → IfSome r (λ x. Contains xs x.now)
found_listed test xs None is = tt
found_listed test xs (Some x) is = found_member test xs x.now (sym is)
