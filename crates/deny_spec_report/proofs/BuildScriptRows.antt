-- Worked cases of build scripts: which crates may have one, which are checked, and what a bypass allows by a checksum.
use Rattle.std.proofs.Common.{◌≡◌, ℕ, Bool, true, false, List, [], ◌∷◌, None, Some, ap, codes, refl}
use Rattle.std.specs.Cmp.Lexicographic.{slice_cmp, nat_list_cmp_total}
use Rattle.std.specs.FinMap as finite
use Rattle.std.specs.Ordering.{nat_cmp}
use Rattle.std.specs.Prelude.{is_some, not, if◌then◌else◌}
use Rattle.deny_base.specs.declared.level.LintLevel.{LintLevel}
use Rattle.deny_base.specs.declared.level.LintLevel.TheVariants.{Allow, Deny, Warn}
use Rattle.deny_spec.specs.Building.{Building, Bypass}
use Rattle.deny_spec.specs.Unseen.{unseen_package}
use Rattle.deny_spec.specs.declared.package.Failure.TheVariants.{Unreadable}
use Rattle.deny_spec.specs.declared.package.Found.TheVariants.{Failed, Kind, Sum, Unasked}
use Rattle.deny_spec.specs.Graph.{Crate}
use Rattle.deny_spec.specs.Policy as policy
use Rattle.deny_spec_report.specs.BuildScripts.{asks_script, is_checked, is_script_denied, is_script_ok}
use Rattle.deny_spec_report.specs.BuildScripts.{is_script_right}
use Rattle.deny_spec_report.specs.BuildScripts.{is_walked, passes_by_script, required_enabled, required_unknown}
use Rattle.deny_spec_report.specs.BuildScripts.{script_of}
use Rattle.deny_spec_report.specs.BuildScripts.{used, uses, wanted_sum}
use Rattle.deny_spec_report.specs.Features.{has_feature}
use Rattle.deny_spec_report.proofs.Cases.{app, crate, exactly, spec_at, spanned_at}
use Rattle.deny_spec_report.proofs.BuildCases.{beside, builds_on_cases, bypass_of, everywhere, featured, listing, macro}
use Rattle.deny_spec_report.proofs.BuildCases.{checking, nowhere, one_sum, other_sum, scripted, with_script, with_sum}
use Rattle.deny_spec_report.proofs.BuildCases.{with_targets}

-- `p` with a build script, and `p` as a procedural macro
unfoldable p : Crate
p = scripted 1 (codes "p") 1

unfoldable q : Crate
q = macro 1 (codes "p") 1

-- ---- scripts

no_target : script_of (crate 1 (codes "p") 1) ≡ None
unfolding builds_on_cases
no_target = refl

macro_is_no_script : script_of q ≡ None
unfolding builds_on_cases q
macro_is_no_script = refl

-- kinds are compared as a whole
other_kind : script_of (with_targets (codes "custom-builds" ∷ codes "custom" ∷ []) app) ≡ None
unfolding builds_on_cases
other_kind = refl

-- a crate with one target of two kinds
second_kind : script_of (record app {
  targets = record { kind = codes "lib" ∷ codes "custom-build" ∷ []; src_path = codes "a" } ∷ [];
}) ≡ Some (record { kind = codes "lib" ∷ codes "custom-build" ∷ []; src_path = codes "a" })
unfolding builds_on_cases
second_kind = refl

first_script : script_of (record app {
  targets = record { kind = codes "lib" ∷ []; src_path = codes "a" }
      ∷ record { kind = codes "custom-build" ∷ []; src_path = codes "b" }
      ∷ record { kind = codes "custom-build" ∷ []; src_path = codes "c" } ∷ [];
}) ≡ Some (record { kind = codes "custom-build" ∷ []; src_path = codes "b" })
unfolding builds_on_cases
first_script = refl

-- without a list every crate may have a script; a crate without a script needs no entry of a list
script_ok : (is_script_ok checking p ≡ true)
    × (is_script_ok (listing [] checking) q ≡ true)
    × (is_script_ok (listing (spec_at (codes "a") 5 ∷ spec_at (codes "p") 6 ∷ []) checking) p ≡ true)
    × (is_script_ok (listing (exactly 1 (spec_at (codes "p") 6) ∷ []) checking) p ≡ true)
unfolding builds_on_cases p q
script_ok = (refl, refl, refl, refl)

script_not_ok : (is_script_ok (listing [] checking) p ≡ false)
    × (is_script_ok (listing (spec_at (codes "a") 5 ∷ []) checking) p ≡ false)
    × (is_script_ok (listing (exactly 2 (spec_at (codes "p") 6) ∷ []) checking) p ≡ false)
unfolding builds_on_cases p
script_not_ok = (refl, refl, refl)

-- ---- which crates are checked

unfoldable at_level : LintLevel → Building
at_level level = record checking { executables = level }

abbrev looks_at : Building → Crate → Bool
looks_at b c = is_checked b (beside (c ∷ [])) nowhere c

by_level : (looks_at (at_level Deny) q ≡ true) × (looks_at (at_level Warn) q ≡ true)
    × (looks_at (at_level Allow) q ≡ false)
    × (looks_at (at_level Deny) p ≡ true)
    × (looks_at (at_level Allow) p ≡ false)
unfolding builds_on_cases p q at_level
by_level = (refl, refl, refl, refl, refl)

-- a crate whose script is not allowed is checked even where the level of executables is `allow`
by_script : (looks_at (listing [] (at_level Allow)) p ≡ true)
    × (looks_at (listing (spec_at (codes "p") 6 ∷ []) (at_level Allow)) p ≡ false)
    × (looks_at (listing [] (at_level Allow)) q ≡ false)
unfolding builds_on_cases p q at_level
by_script = (refl, refl, refl)

-- a member, unless they count too
of_members : (is_checked checking (beside []) nowhere (with_targets (codes "proc-macro" ∷ []) app) ≡ false)
    × (is_checked (record checking { with_workspace = true }) (beside []) nowhere
    (with_targets (codes "proc-macro" ∷ []) app) ≡ true)
    × (is_checked (record checking { with_workspace = true }) (beside []) nowhere app ≡ false)
unfolding builds_on_cases
of_members = (refl, refl, refl)

-- a crate that does not execute at build time, unless it leads there and such crates count
of_dependencies : (looks_at checking (crate 1 (codes "p") 1) ≡ false)
    × (is_checked checking (beside []) everywhere (crate 1 (codes "p") 1) ≡ false)
    × (looks_at (record checking { with_dependencies = true }) (crate 1 (codes "p") 1) ≡ false)
    × (is_checked (record checking { with_dependencies = true }) (beside []) everywhere (crate 1 (codes "p") 1) ≡ true)
    × (looks_at (record checking { with_dependencies = true }) q ≡ true)
unfolding builds_on_cases q
of_dependencies = (refl, refl, refl, refl, refl)

-- a member that leads there is none of them
of_leading_members : is_checked (record checking { with_dependencies = true }) (beside []) everywhere app ≡ false
unfolding builds_on_cases
of_leading_members = refl

-- ---- the bypass of a crate

unfoldable two_bypasses : Building
two_bypasses = record checking {
  bypass = bypass_of (codes "a") 10 ∷ bypass_of (codes "p") 20 ∷ with_sum 35 (bypass_of (codes "p") 30) ∷ [];
}

first_used : used two_bypasses p ≡ Some (bypass_of (codes "p") 20)
unfolding builds_on_cases p two_bypasses
first_used = refl

first_uses : (uses two_bypasses (bypass_of (codes "p") 20) p ≡ true)
    × (uses two_bypasses (with_sum 35 (bypass_of (codes "p") 30)) p ≡ false)
    × (uses two_bypasses (bypass_of (codes "a") 10) p ≡ false)
unfolding builds_on_cases p two_bypasses
first_uses = (refl, refl, refl)

none_used : (used two_bypasses app ≡ None) × (used checking p ≡ None)
unfolding builds_on_cases p two_bypasses
none_used = (refl, refl)

-- ---- checksums of scripts

unfoldable summed : Bypass → Building
summed y = record checking { bypass = with_sum 25 y ∷ [] }

-- the first bypass writes one, or does not, whatever those behind it write
wanted : (wanted_sum (summed (bypass_of (codes "p") 20)) p ≡ Some (spanned_at one_sum 25))
    × (wanted_sum (summed (bypass_of (codes "p") 20)) q ≡ None)
    × (wanted_sum two_bypasses p ≡ None)
    × (wanted_sum checking p ≡ None)
unfolding builds_on_cases p q two_bypasses summed
wanted = (refl, refl, refl, refl)

abbrev asks : Building → Crate → Bool
asks b c = asks_script b (beside (c ∷ [])) nowhere c

-- the script of a checked crate is read where a checksum is wanted, or where the script is not allowed
asked : (asks (summed (bypass_of (codes "p") 20)) p ≡ true)
    × (asks (listing [] checking) p ≡ true)
    × (asks (listing [] (at_level Allow)) p ≡ true)
    × (asks checking p ≡ false)
    × (asks (record (summed (bypass_of (codes "p") 20)) { executables = Allow }) p ≡ false)
    × (asks (listing [] checking) q ≡ false)
unfolding builds_on_cases p q summed at_level
asked = (refl, refl, refl, refl, refl, refl)

unfoldable by_sum : Building
by_sum = summed (bypass_of (codes "p") 20)

right : (is_script_right by_sum (with_script (Sum one_sum)) p ≡ true)
    × (is_script_right by_sum (with_script (Sum other_sum)) p ≡ false)
    × (is_script_right by_sum (with_script (Failed Unreadable)) p ≡ false)
    × (is_script_right by_sum (with_script Unasked) p ≡ false)
    × (is_script_right by_sum (with_script (Kind None)) p ≡ false)
    × (is_script_right by_sum unseen_package p ≡ false)
    × (is_script_right checking (with_script (Sum one_sum)) p ≡ false)
unfolding builds_on_cases p summed by_sum
right = (refl, refl, refl, refl, refl, refl, refl)

-- ---- required features

unfoldable table : List (List ℕ × List (List ℕ))
table = (codes "a", []) ∷ (codes "b", []) ∷ []

-- `p` with `a` and `b`, of which `a` is enabled
unfoldable p_with_a : Crate
p_with_a = featured table (codes "a" ∷ []) p

unfoldable requiring : List policy.SpannedText → Building
requiring required = summed (record (bypass_of (codes "p") 20) { required = required })

enabled : (required_enabled (requiring (spanned_at (codes "b") 40 ∷ spanned_at (codes "a") 41 ∷ [])) p_with_a
    ≡ spanned_at (codes "a") 41 ∷ [])
    × (required_enabled (requiring (spanned_at (codes "b") 40 ∷ spanned_at (codes "c") 42 ∷ [])) p_with_a ≡ [])
    × (required_enabled checking p_with_a ≡ [])
unfolding builds_on_cases p summed requiring table p_with_a
enabled = (refl, refl, refl)

get_in : (feature : List ℕ) → finite.get {R = slice_cmp nat_cmp} (finite.from_entries table) feature
    ≡ finite.find (slice_cmp nat_cmp) feature table
get_in feature = finite.get-from_entries nat_list_cmp_total table feature

has_b : has_feature p_with_a (codes "b") ≡ true
unfolding builds_on_cases p table p_with_a has_feature
has_b = ap is_some (get_in (codes "b"))

has_no_c : has_feature p_with_a (codes "c") ≡ false
unfolding builds_on_cases p table p_with_a has_feature
has_no_c = ap is_some (get_in (codes "c"))

-- a required feature that the crate does not have, and one that it has, enabled or not
unknown : required_unknown (requiring (spanned_at (codes "c") 42 ∷ [])) p_with_a ≡ spanned_at (codes "c") 42 ∷ []
unfolding builds_on_cases p summed requiring table p_with_a
unknown = ap (λ (has : Bool). if not has then spanned_at (codes "c") 42 ∷ [] else []) has_no_c

known : required_unknown (requiring (spanned_at (codes "b") 40 ∷ [])) p_with_a ≡ []
unfolding builds_on_cases p summed requiring table p_with_a
known = ap (λ (has : Bool). if not has then spanned_at (codes "b") 40 ∷ [] else []) has_b

-- ---- what is denied and what is scanned

passes : (passes_by_script by_sum (with_script (Sum one_sum)) p ≡ true)
    × (passes_by_script (requiring (spanned_at (codes "b") 40 ∷ [])) (with_script (Sum one_sum)) p_with_a ≡ true)
    × (passes_by_script (requiring (spanned_at (codes "a") 41 ∷ [])) (with_script (Sum one_sum)) p_with_a ≡ false)
    × (passes_by_script by_sum (with_script (Sum other_sum)) p ≡ false)
    × (passes_by_script checking (with_script (Sum one_sum)) p ≡ false)
unfolding builds_on_cases p summed requiring table p_with_a by_sum
passes = (refl, refl, refl, refl, refl)

-- a script that is not allowed is reported, unless the package passes by its checksum
denied : (is_script_denied (listing [] checking) (beside []) nowhere unseen_package p ≡ true)
    × (is_script_denied (listing [] by_sum) (beside []) nowhere (with_script (Sum one_sum)) p ≡ false)
    × (is_script_denied (listing [] by_sum) (beside []) nowhere (with_script (Sum other_sum)) p ≡ true)
    × (is_script_denied (listing [] by_sum) (beside []) nowhere (with_script (Failed Unreadable)) p ≡ true)
    × (is_script_denied (listing [] (requiring (spanned_at (codes "a") 41 ∷ []))) (beside []) nowhere
    (with_script (Sum one_sum)) p_with_a ≡ true)
    × (is_script_denied by_sum (beside []) nowhere (with_script (Sum other_sum)) p ≡ false)
    × (is_script_denied (listing [] checking) (beside []) nowhere unseen_package q ≡ false)
unfolding builds_on_cases p q summed requiring table p_with_a by_sum
denied = (refl, refl, refl, refl, refl, refl, refl)

-- the files of a crate are scanned where its script is allowed, unless the package passes by its checksum
walked : (is_walked checking (beside []) nowhere unseen_package p ≡ true)
    × (is_walked checking (beside []) nowhere unseen_package q ≡ true)
    × (is_walked (listing [] checking) (beside []) nowhere unseen_package p ≡ false)
    × (is_walked by_sum (beside []) nowhere (with_script (Sum one_sum)) p ≡ false)
    × (is_walked by_sum (beside []) nowhere (with_script (Sum other_sum)) p ≡ true)
    × (is_walked by_sum (beside []) nowhere (with_script (Failed Unreadable)) p ≡ true)
    × (is_walked (requiring (spanned_at (codes "a") 41 ∷ [])) (beside []) nowhere (with_script (Sum one_sum)) p_with_a
    ≡ true)
    × (is_walked (at_level Allow) (beside []) nowhere unseen_package q ≡ false)
    × (is_walked (listing [] by_sum) (beside []) nowhere (with_script (Sum one_sum)) p ≡ false)
unfolding builds_on_cases p q summed requiring table p_with_a by_sum at_level
walked = (refl, refl, refl, refl, refl, refl, refl, refl, refl)
