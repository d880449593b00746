-- Build scripts: the crates whose scripts and files are checked, and what the bypass of a crate allows by a checksum.
use Rattle.std.specs.Prelude.{ℕ, ◌&&◌, ◌||◌, ◌==◌, Bool, true, false, not, is_none, is_some, List, [], Option, None}
use Rattle.std.specs.Prelude.{Some, filter, find, length, codes, option_and_then, if◌then◌else◌}
use Rattle.std.specs.List.{list_any}
use Rattle.std.specs.Option.{option_map_or}
use Rattle.std.specs.Str.{bytes_eq}
use Rattle.deny_base.specs.declared.level.LintLevel.{LintLevel}
use Rattle.deny_base.specs.declared.level.LintLevel.TheVariants as level
use Rattle.deny_base.specs.declared.span.Span.{Span}
use Rattle.deny_base.specs.declared.span.Spanned.{Spanned}
use Rattle.deny_spec.specs.Building.{Building, Bypass}
use Rattle.deny_spec.specs.declared.package.Found.{Found}
use Rattle.deny_spec.specs.declared.package.Found.TheVariants.{Failed, Kind, Sum, Unasked}
use Rattle.deny_spec.specs.declared.package.Package.{Package}
use Rattle.deny_spec.specs.Graph.{Crate, Graph, Target}
use Rattle.deny_spec.specs.Match.{matches}
use Rattle.deny_spec.specs.Policy as policy
use Rattle.deny_spec.specs.Text.{same_text}
use Rattle.deny_krates_reach.specs.Reached.{executes_at_build_time}
use Rattle.deny_spec_report.specs.Features.{has_feature, is_enabled}
use Rattle.deny_spec_report.specs.FirstMatch.{first_of, is_first}
use Rattle.deny_spec_report.specs.Members.{is_member}

-- ---- scripts

unfoldable pub is_script : Target → Bool
is_script target = list_any (λ kind. bytes_eq kind (codes "custom-build")) target.kind

-- the build script of a crate is its first one
unfoldable pub script_of : Crate → Option Target
script_of c = find is_script c.targets

-- a crate may have a build script where there is no list of those that may, or an entry of the list matches it
unfoldable pub may_have_script : Building → Crate → Bool
may_have_script b c = option_map_or (λ specs. list_any (λ spec. matches spec c) specs) b.scripts true

unfoldable pub is_script_ok : Building → Crate → Bool
is_script_ok b c = is_none (script_of c) || may_have_script b c

-- ---- which crates are checked

abbrev pub is_active : LintLevel → Bool
is_active level.Allow = false
is_active level.Warn = true
is_active level.Deny = true

-- The build check looks at a crate under three conditions: it has a build script that it may not have, or executables
-- are looked for at an active level; it is no member of the workspace, or members are checked too; and it executes at
-- build time, or a crate that does needs it (by the test of what is reached) and such dependencies are checked too.
unfoldable pub is_checked : Building → Graph → (Crate → Bool) → Crate → Bool
is_checked b g reached c = (not (is_script_ok b c) || is_active b.executables)
    && ((not (is_member g c) || b.with_workspace)
    && (executes_at_build_time c || (b.with_dependencies && reached c)))

-- ---- the bypass of a crate

abbrev pub bypass_span : Bypass → Span
bypass_span y = y.spec.span

abbrev pub bypasses : Bypass → Crate → Bool
bypasses y c = matches y.spec c

-- the first bypass that matches the crate
unfoldable pub used : Building → Crate → Option Bypass
used b c = first_of bypasses b.bypass c

-- the bypass of a crate has the span of this one
unfoldable pub uses : Building → Bypass → Crate → Bool
uses b y c = is_first bypass_span bypasses b.bypass y c

-- ---- the checksum of a script

-- the checksum that the script of a crate is to have, where its bypass gives one
unfoldable pub wanted_sum : Building → Crate → Option (Spanned (List ℕ))
wanted_sum b c = if is_some (script_of c) then option_and_then (λ y. y.script) (used b c) else None

-- a script is read where a checksum is wanted of it, or where it may not be there and is reported with its checksum
unfoldable pub asks_script : Building → Graph → (Crate → Bool) → Crate → Bool
asks_script b g reached c =
    is_checked b g reached c && (is_some (wanted_sum b c) || not (is_script_ok b c))

abbrev pub script_found : Package → Found
script_found contents = option_map_or (λ seen. seen.found) contents.script Unasked

abbrev pub has_sum : List ℕ → Found → Bool
has_sum sum Unasked = false
has_sum sum (Sum found) = same_text found sum
has_sum sum (Kind kind) = false
has_sum sum (Failed failure) = false

-- the script of a crate has the checksum that is wanted of it
unfoldable pub is_script_right : Building → Package → Crate → Bool
is_script_right b contents c = option_map_or (λ sum. has_sum sum.value (script_found contents)) (wanted_sum b c) false

-- the features that a bypass requires; below, those that are enabled, and those that the crate does not have
abbrev pub required_of : Option Bypass → List policy.SpannedText
required_of None = []
required_of (Some y) = y.required

unfoldable pub required_enabled : Building → Crate → List policy.SpannedText
required_enabled b c = filter (λ w. is_enabled c w.value) (required_of (used b c))

unfoldable pub required_unknown : Building → Crate → List policy.SpannedText
required_unknown b c = filter (λ w. not (has_feature c w.value)) (required_of (used b c))

-- the whole package passes where its script is right and no required feature is enabled
unfoldable pub passes_by_script : Building → Package → Crate → Bool
passes_by_script b contents c = is_script_right b contents c && (length (required_enabled b c) == 0)

-- ---- what is denied and what is scanned

-- the script of a crate is denied
unfoldable pub is_script_denied : Building → Graph → (Crate → Bool) → Package → Crate → Bool
is_script_denied b g reached contents c =
    is_checked b g reached c && (not (is_script_ok b c) && not (passes_by_script b contents c))

-- the files of a crate are scanned
unfoldable pub is_walked : Building → Graph → (Crate → Bool) → Package → Crate → Bool
is_walked b g reached contents c =
    is_checked b g reached c && (is_script_ok b c && not (passes_by_script b contents c))
