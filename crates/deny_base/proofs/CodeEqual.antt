-- Only equal codes tie, and no two codes have the same word.
use Rattle.std.proofs.Common.{◌≡◌, ◌+◌, ◌==◌, ◌++◌, ℕ, Bool, List, [], ◌∷◌, map, slice_index_or, refl, sym, ap, subst}
use Rattle.std.proofs.Common.{◌∙◌, suc, zero}
use Rattle.std.specs.List.{list_all, position_or_len}
use Rattle.std.specs.Prelude.{IsTrue}
use Rattle.std.specs.Str.{bytes_eq}
use Rattle.std.specs.Cmp.{IsTotalOrder, nat_cmp_total, on_total}
use Rattle.std.proofs.lemmas.Bool.{and_parts, eqb-true}
use Rattle.std.specs.FinMap.{IsAntisymmetric, nat_cmp-IsAntisymmetric}
use Rattle.deny_base.specs.Code.{first_license, code_name, code_number, code_cmp, diagnostic_code_name}
use Rattle.deny_base.specs.Code.{diagnostic_code_number, diagnostic_code_cmp}
use Rattle.deny_base.specs.LicenseCode.{license_code_name, license_code_number, license_code_cmp}
use Rattle.deny_base.specs.declared.code.Code.{Code}
use Rattle.deny_base.specs.declared.code.Code.TheVariants as bans
use Rattle.deny_base.specs.declared.code.DiagnosticCode.{DiagnosticCode}
use Rattle.deny_base.specs.declared.code.DiagnosticCode.TheVariants.{Deprecated, Bans, License, Expired}
use Rattle.deny_base.specs.declared.license_code.LicenseCode.{LicenseCode}
use Rattle.deny_base.specs.declared.license_code.LicenseCode.TheVariants as license

-- the codes of bans, in the order of declaration
abbrev pub bans_codes : List Code
bans_codes =
    bans.Banned
    ∷ bans.Allowed
    ∷ bans.NotAllowed
    ∷ bans.Duplicate
    ∷ bans.Skipped
    ∷ bans.Wildcard
    ∷ bans.UnmatchedSkip
    ∷ bans.UnnecessarySkip
    ∷ bans.AllowedByWrapper
    ∷ bans.UnmatchedWrapper
    ∷ bans.SkippedByRoot
    ∷ bans.UnmatchedSkipRoot
    ∷ bans.BuildScriptNotAllowed
    ∷ bans.ExactFeaturesMismatch
    ∷ bans.FeatureNotExplicitlyAllowed
    ∷ bans.FeatureBanned
    ∷ bans.UnknownFeature
    ∷ bans.DefaultFeatureEnabled
    ∷ bans.PathBypassed
    ∷ bans.PathBypassedByGlob
    ∷ bans.ChecksumMatch
    ∷ bans.ChecksumMismatch
    ∷ bans.DeniedByExtension
    ∷ bans.DetectedExecutable
    ∷ bans.DetectedExecutableScript
    ∷ bans.UnableToCheckPath
    ∷ bans.FeaturesEnabled
    ∷ bans.UnmatchedBypass
    ∷ bans.UnmatchedPathBypass
    ∷ bans.UnmatchedGlob
    ∷ bans.UnusedWrapper
    ∷ bans.WorkspaceDuplicate
    ∷ bans.UnresolvedWorkspaceDependency
    ∷ bans.UnusedWorkspaceDependency
    ∷ bans.ReplacedInStd
    ∷ bans.UnmatchedReplacementIgnore
    ∷ []

-- the codes of licences, in the order of declaration
abbrev pub license_codes : List LicenseCode
license_codes =
    license.Accepted
    ∷ license.Rejected
    ∷ license.Unlicensed
    ∷ license.ParseError
    ∷ license.SkippedPrivateWorkspaceCrate
    ∷ license.LicenseNotEncountered
    ∷ license.LicenseExceptionNotEncountered
    ∷ []

-- every code, in the order of declaration
abbrev pub all_codes : List DiagnosticCode
all_codes = Deprecated ∷ (map Bans bans_codes ++ (map License license_codes ++ Expired ∷ []))

code_at : ℕ → DiagnosticCode
code_at n = slice_index_or all_codes n Deprecated

code_at-number : (code : DiagnosticCode) → code_at (diagnostic_code_number code) ≡ code
unfolding code_at diagnostic_code_number code_number license_code_number
code_at-number Deprecated = refl
code_at-number (Bans bans.Banned) = refl
code_at-number (Bans bans.Allowed) = refl
code_at-number (Bans bans.NotAllowed) = refl
code_at-number (Bans bans.Duplicate) = refl
code_at-number (Bans bans.Skipped) = refl
code_at-number (Bans bans.Wildcard) = refl
code_at-number (Bans bans.UnmatchedSkip) = refl
code_at-number (Bans bans.UnnecessarySkip) = refl
code_at-number (Bans bans.AllowedByWrapper) = refl
code_at-number (Bans bans.UnmatchedWrapper) = refl
code_at-number (Bans bans.SkippedByRoot) = refl
code_at-number (Bans bans.UnmatchedSkipRoot) = refl
code_at-number (Bans bans.BuildScriptNotAllowed) = refl
code_at-number (Bans bans.ExactFeaturesMismatch) = refl
code_at-number (Bans bans.FeatureNotExplicitlyAllowed) = refl
code_at-number (Bans bans.FeatureBanned) = refl
code_at-number (Bans bans.UnknownFeature) = refl
code_at-number (Bans bans.DefaultFeatureEnabled) = refl
code_at-number (Bans bans.PathBypassed) = refl
code_at-number (Bans bans.PathBypassedByGlob) = refl
code_at-number (Bans bans.ChecksumMatch) = refl
code_at-number (Bans bans.ChecksumMismatch) = refl
code_at-number (Bans bans.DeniedByExtension) = refl
code_at-number (Bans bans.DetectedExecutable) = refl
code_at-number (Bans bans.DetectedExecutableScript) = refl
code_at-number (Bans bans.UnableToCheckPath) = refl
code_at-number (Bans bans.FeaturesEnabled) = refl
code_at-number (Bans bans.UnmatchedBypass) = refl
code_at-number (Bans bans.UnmatchedPathBypass) = refl
code_at-number (Bans bans.UnmatchedGlob) = refl
code_at-number (Bans bans.UnusedWrapper) = refl
code_at-number (Bans bans.WorkspaceDuplicate) = refl
code_at-number (Bans bans.UnresolvedWorkspaceDependency) = refl
code_at-number (Bans bans.UnusedWorkspaceDependency) = refl
code_at-number (Bans bans.ReplacedInStd) = refl
code_at-number (Bans bans.UnmatchedReplacementIgnore) = refl
code_at-number (License license.Accepted) = refl
code_at-number (License license.Rejected) = refl
code_at-number (License license.Unlicensed) = refl
code_at-number (License license.ParseError) = refl
code_at-number (License license.SkippedPrivateWorkspaceCrate) = refl
code_at-number (License license.LicenseNotEncountered) = refl
code_at-number (License license.LicenseExceptionNotEncountered) = refl
code_at-number Expired = refl

-- a test that all codes of the list pass is passed by every code
pub each_code : (test : DiagnosticCode → Bool) → IsTrue (list_all test all_codes) → (code : DiagnosticCode)
    → IsTrue (test code)
unfolding code_at
each_code test all code = subst (λ (d : DiagnosticCode). IsTrue (test d)) (code_at-number code)
    (at_index all_codes (diagnostic_code_number code) all (and_parts (test Deprecated) _ all).0)
  where
    at_index : (codes : List DiagnosticCode) (n : ℕ) → IsTrue (list_all test codes) → IsTrue (test Deprecated)
        → IsTrue (test (slice_index_or codes n Deprecated))
    at_index [] n all other = other
    at_index (d ∷ ds) zero all other = (and_parts (test d) (list_all test ds) all).0
    at_index (d ∷ ds) (suc n) all other = at_index ds n ((and_parts (test d) (list_all test ds) all).1) other

same_number : (a b : DiagnosticCode) → diagnostic_code_number a ≡ diagnostic_code_number b → a ≡ b
same_number a b e = sym (code_at-number a) ∙ (ap code_at e ∙ code_at-number b)

pub diagnostic_code_cmp-total : IsTotalOrder diagnostic_code_cmp
diagnostic_code_cmp-total = on_total diagnostic_code_number nat_cmp_total

pub diagnostic_code_cmp-exact : IsAntisymmetric diagnostic_code_cmp
diagnostic_code_cmp-exact a b e = same_number a b
    (nat_cmp-IsAntisymmetric (diagnostic_code_number a) (diagnostic_code_number b) e)

pub code_cmp-exact : IsAntisymmetric code_cmp
unfolding diagnostic_code_number
code_cmp-exact a b e =
    let same : Bans a ≡ Bans b = same_number (Bans a) (Bans b)
    (ap (λ n. 1 + n) (nat_cmp-IsAntisymmetric (code_number a) (code_number b) e)) in
    cc

pub license_code_cmp-exact : IsAntisymmetric license_code_cmp
unfolding diagnostic_code_number
license_code_cmp-exact a b e =
    let same : License a ≡ License b = same_number (License a) (License b)
    (ap (λ n. first_license + n) (nat_cmp-IsAntisymmetric (license_code_number a) (license_code_number b) e)) in
    cc

-- the index of a word among those of all codes
index_of : List ℕ → ℕ
index_of word = position_or_len (λ other. bytes_eq other word) (map diagnostic_code_name all_codes)

-- a word stands at the number of its code
is_at_number : DiagnosticCode → Bool
is_at_number code = index_of (diagnostic_code_name code) == diagnostic_code_number code

all_at_numbers : (code : DiagnosticCode) → IsTrue (is_at_number code)
unfolding is_at_number index_of code_name license_code_name diagnostic_code_number code_number license_code_number
all_at_numbers code = each_code is_at_number refl code

index_of-name : (code : DiagnosticCode) → index_of (diagnostic_code_name code) ≡ diagnostic_code_number code
unfolding is_at_number
index_of-name code = eqb-true _ _ (all_at_numbers code)

pub same_word : (a b : DiagnosticCode) → diagnostic_code_name a ≡ diagnostic_code_name b → a ≡ b
same_word a b e = same_number a b (sym (index_of-name a) ∙ (ap index_of e ∙ index_of-name b))
