-- Which rules of a policy are active, and which findings are errors only where their rule is active.
use Rattle.std.proofs.Common.{◌≡◌, ◌⊎◌, ◌∙◌, ◌==◌, ℕ, Bool, true, false, not, length, List, [], ◌∷◌, Contains, Option}
use Rattle.std.proofs.Common.{None, Some, refl, sym}
use Rattle.std.specs.Option.{option_map_or}
use Rattle.std.specs.Prelude.{◌||◌, is_some, option_and_then, if◌then◌else◌}
use Rattle.std.proofs.lemmas.Bool.{false≢true}
use Rattle.deny_base_lists.proofs.Members.{no_member}
use Rattle.deny_base.specs.Code.{rule_of}
use Rattle.deny_base.specs.Level.{severity_of}
use Rattle.deny_base.specs.Rule.{Rule, OnCrates, OnWildcards, OnFeatures, OnDefaultFeatures, OnWorkspaceDependencies}
use Rattle.deny_base.specs.Rule.{OnStdReplacements, OnBuildScripts, OnPackageFiles, OnLicenses}
use Rattle.deny_base.specs.declared.code.DiagnosticCode.{DiagnosticCode}
use Rattle.deny_base.specs.declared.code.DiagnosticCode.TheVariants.{License}
use Rattle.deny_base.specs.declared.key.Key.{Key}
use Rattle.deny_base.specs.declared.level.LintLevel.{LintLevel}
use Rattle.deny_base.specs.declared.level.LintLevel.TheVariants as level
use Rattle.deny_base.specs.declared.level.Severity.TheVariants as severity
use Rattle.deny_base.specs.declared.license_code.LicenseCode.{LicenseCode}
use Rattle.deny_base.specs.declared.license_code.LicenseCode.TheVariants as license
use Rattle.deny_base.specs.declared.span.Spanned.{Spanned}
use Rattle.deny_spec.specs.Graph.{Crate, Graph}
use Rattle.deny_spec.specs.Licensing.{Licensing}
use Rattle.deny_spec.specs.Policy.{Policy, Replacing}
use Rattle.deny_spec.specs.DiagParts.{crate_at}
use Rattle.deny_spec.specs.Building.{Building}
use Rattle.deny_spec.specs.Expired.{PastWaiver}
use Rattle.deny_spec_report.specs.BuildScripts.{is_active}
use Rattle.deny_spec_report.specs.Circumstances.{Circumstances}
use Rattle.deny_spec_report.specs.EachCode.{LicenseHolds, message_licensed}
use Rattle.deny_spec_report.specs.Expired.{expired_diag_of}
use Rattle.deny_spec_report.specs.Features.{default_level, default_severity}
use Rattle.deny_spec_report.specs.Licences.{accepted_diag, exception_not_encountered_diag, skipped_private_diag}
use Rattle.deny_spec_report.specs.Members.{is_member}
use Rattle.deny_spec_report.specs.PackageDiags.{bypassed_by_glob_diag, features_enabled_diag}
use Rattle.deny_spec_report.specs.StdReplacements.{unmatched_ignore_diag}
use Rattle.deny_spec_report.specs.MessageParts.{not_built}
use Rattle.deny_spec_report.specs.declared.message.Message.{Message}
use Rattle.deny_gate.specs.Headline.{is_crate_rule}
use Rattle.deny_gate.specs.Report.{is_error}
use Rattle.deny_gate.proofs.Covered.{some_test}
use Rattle.deny_gate.proofs.FindingKeys.{none_licensed}

abbrev pub has_features : Policy → Bool
has_features p = not (length p.features == 0)

-- the level at which findings are errors
abbrev pub denies_wildcards : LintLevel → Bool
denies_wildcards level.Allow = false
denies_wildcards level.Warn = false
denies_wildcards level.Deny = true

-- a policy lists crates that may have a script
abbrev pub lists_scripts : Building → Bool
lists_scripts b = is_some b.scripts

abbrev pub checks_files : Building → Bool
checks_files b = is_active b.executables

-- the policy has an active rule that can report errors; the rule on crates is apart, since it is active by its entries
abbrev pub checks_rule : Rule → Policy → Option Licensing → Option Building → Bool
checks_rule OnCrates p licensing building = false
checks_rule OnWildcards p licensing building = denies_wildcards p.wildcards
checks_rule OnFeatures p licensing building = has_features p
checks_rule OnDefaultFeatures p licensing building = is_some p.workspace_default || is_some p.external_default
checks_rule OnWorkspaceDependencies p licensing building = is_some p.sharing
checks_rule OnStdReplacements p licensing building = is_some p.replacing
checks_rule OnBuildScripts p licensing building = option_map_or lists_scripts building false
checks_rule OnPackageFiles p licensing building = option_map_or checks_files building false
checks_rule OnLicenses p licensing building = is_some licensing

-- the rule of a code is active in the policy
abbrev pub is_on : DiagnosticCode → Policy → Option Licensing → Option Building → Bool
is_on d p licensing building = option_map_or (λ rule. checks_rule rule p licensing building) (rule_of d) false

abbrev pub IsGrave : Policy → Option Licensing → Option Building → DiagnosticCode → Type 0
IsGrave p licensing building d = (is_crate_rule (Some d) ≡ true) ⊎ (is_on d p licensing building ≡ true)

-- a key of an optional section holds only where the section is there
pub active_by : {X : Type 0} (o : Option X) (keys : X → List Key) (k : Key) → Contains (option_map_or keys o []) k
    → is_some o ≡ true
active_by None keys k is = absurd (no_member k is)
active_by (Some x) keys k is = refl

-- ---- rules on replaced crates

pub ignore_is_mild : (o : Option Replacing) (file : ℕ) (k : Key)
    → is_error (option_map_or (λ r. unmatched_ignore_diag r file k) o not_built).severity ≡ false
unfolding unmatched_ignore_diag
ignore_is_mild None file k = refl
ignore_is_mild (Some r) file k = refl

-- ---- the policy's own warnings

pub no_expired_error : (file : ℕ) (o : Option PastWaiver)
    → is_error (option_map_or (expired_diag_of file) o not_built).severity ≡ true → ⊥
no_expired_error file None error = false≢true error
no_expired_error file (Some w) error = false≢true error

-- ---- rules on features

pub some_are : {X : Type 0} (xs : List X) (x : X) → Contains xs x → not (length xs == 0) ≡ true
some_are [] x is = absurd (no_member x is)
some_are (y ∷ ys) x is = some_test (y ∷ ys) (λ none. cc none)

-- a severity other than that of no level comes from a level
level_there : (o : Option (Spanned LintLevel))
    → is_error (option_map_or (λ at. severity_of at.value) o severity.Warning) ≡ true → is_some o ≡ true
level_there None error = absurd (false≢true error)
level_there (Some at) error = refl

one_of : {X : Type 0} (b : Bool) (x y : Option X) → is_some (if b then x else y) ≡ true
    → (is_some x || is_some y) ≡ true
one_of true (Some x) y is = refl
one_of true None y is = absurd (false≢true is)
one_of false (Some x) y is = refl
one_of false None y is = is

level_active : (p : Policy) (g : Graph) (o : Option Crate) → is_some (option_and_then (default_level p g) o) ≡ true
    → (is_some p.workspace_default || is_some p.external_default) ≡ true
unfolding default_level
level_active p g None is = absurd (false≢true is)
level_active p g (Some c) is = one_of (is_member g c) p.workspace_default p.external_default is

pub default_active : (p : Policy) (g : Graph) (k : Key) → is_error (default_severity p g k) ≡ true
    → (is_some p.workspace_default || is_some p.external_default) ≡ true
unfolding default_severity
default_active p g k error = level_active p g (crate_at g k.place)
    (level_there (option_and_then (default_level p g) (crate_at g k.place)) error)

-- ---- rules on manifests

pub wildcard_error : (l : LintLevel) → is_error (severity_of l) ≡ true → denies_wildcards l ≡ true
wildcard_error level.Allow error = absurd (false≢true error)
wildcard_error level.Warn error = absurd (false≢true error)
wildcard_error level.Deny error = refl

-- ---- rules on builds

pub mild_glob : (b : Building) (c : Circumstances) (k : Key) → is_error (bypassed_by_glob_diag b c k).severity ≡ false
unfolding bypassed_by_glob_diag
mild_glob b c k = refl

pub mild_features : (b : Building) (c : Circumstances) (k : Key)
    → is_error (features_enabled_diag b c k).severity ≡ false
unfolding features_enabled_diag
mild_features b c k = refl

pub no_build_error : (message : Building → Message) (o : Option Building)
    → ((b : Building) → is_error (message b).severity ≡ false)
    → is_error (option_map_or message o not_built).severity ≡ true → ⊥
no_build_error message None mild error = false≢true error
no_build_error message (Some b) mild error = false≢true (sym (mild b) ∙ error)

-- ---- rules on licences

-- a key of a rule on licences holds only where the policy has a section on them
licensed_there : (d : LicenseCode) (licensing : Option Licensing) (g : Graph) (k : Key)
    → LicenseHolds d licensing g k → is_some licensing ≡ true
licensed_there d None g k is = absurd (none_licensed d None g k refl is)
licensed_there d (Some l) g k is = refl

pub grave_licensed : (d : LicenseCode) (p : Policy) (licensing : Option Licensing) (building : Option Building)
    (g : Graph) (file : ℕ) (k : Key) → LicenseHolds d licensing g k
    → is_error (message_licensed d licensing g file k).severity ≡ true → is_on (License d) p licensing building ≡ true
unfolding message_licensed accepted_diag skipped_private_diag exception_not_encountered_diag
grave_licensed license.Accepted p licensing building g file k is error = absurd (false≢true error)
grave_licensed license.Rejected p licensing building g file k is error =
    licensed_there license.Rejected licensing g k is
grave_licensed license.Unlicensed p licensing building g file k is error =
    licensed_there license.Unlicensed licensing g k is
grave_licensed license.ParseError p licensing building g file k is error =
    licensed_there license.ParseError licensing g k is
grave_licensed license.SkippedPrivateWorkspaceCrate p licensing building g file k is error = absurd (false≢true error)
grave_licensed license.LicenseNotEncountered p licensing building g file k is error =
    licensed_there license.LicenseNotEncountered licensing g k is
grave_licensed license.LicenseExceptionNotEncountered p licensing building g file k is error = absurd (false≢true error)
