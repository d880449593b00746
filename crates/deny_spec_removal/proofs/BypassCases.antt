-- A procedural macro with two files and two bypasses that match it, for worked cases.
use Rattle.std.proofs.Common.{List, [], ◌∷◌, codes, ℕ}
use Rattle.std.specs.Prelude.{⊤}
use Rattle.deny_base.specs.declared.entry.EntryId.{EntryId}
use Rattle.deny_base.specs.declared.entry.EntryKind.TheVariants as kind
use Rattle.deny_base.specs.declared.entry.Hit.{Hit}
use Rattle.deny_base.specs.declared.entry.Witness.TheVariants.{File, Krate}
use Rattle.deny_base.specs.declared.key.Key.{Key}
use Rattle.deny_spec.specs.Building.{Building}
use Rattle.deny_spec.specs.declared.package.Found.TheVariants.{Unasked}
use Rattle.deny_spec.specs.declared.package.Package.{Package}
use Rattle.deny_spec.specs.Hits.{hit_of}
use Rattle.deny_spec_report.specs.Packages.{build_keys, bypass_hits}
use Rattle.deny_spec_report.proofs.BuildCases.{builds_on_cases, bypass_of, file_of, macro, checking, over, path_at}
use Rattle.deny_spec_report.proofs.BuildCases.{with_files}
use Rattle.deny_spec_report.proofs.Cases.{span, spanned_at}

-- the first of two paths with the same components counts, and the first of two bypasses
unfoldable pub two_bypasses : Building
two_bypasses = record checking {
  bypass = record (bypass_of (codes "p") 20) {
    globs = spanned_at (codes "*.sh") 50 ∷ spanned_at (codes "*.py") 60 ∷ [];
    allow = path_at (codes "run") 30 ∷ path_at (codes "./run") 40 ∷ [];
  } ∷ record (bypass_of (codes "p") 70) { allow = path_at (codes "a.sh") 80 ∷ [] } ∷ [];
}

unfoldable pub two_files : Package
two_files = with_files
    (file_of (codes "a.sh") (codes "*.sh" ∷ []) Unasked ∷ file_of (codes "run") [] Unasked ∷ [])

-- ---- the keys and the hits of a policy

abbrev pub keys_by : Building → List Key
keys_by b = build_keys (over b (macro 1 (codes "p") 1 ∷ []) (two_files ∷ []))

abbrev pub hits_by : Building → List Hit
hits_by b = bypass_hits (over b (macro 1 (codes "p") 1 ∷ []) (two_files ∷ []))

abbrev pub bypass : ℕ → EntryId
bypass start = record { kind = kind.Bypass; range = span start }

abbrev pub path : ℕ → EntryId
path start = record { kind = kind.BypassPath; range = span start }

abbrev pub glob : ℕ → EntryId
glob start = record { kind = kind.BypassGlob; range = span start }

abbrev pub bypass_hit_at : ℕ → Hit
bypass_hit_at start = hit_of kind.Bypass (span start) (Krate (record { 0 = codes "p" }))

abbrev pub path_hit_at : ℕ → List ℕ → Hit
path_hit_at start file = hit_of kind.BypassPath (span start) (File (record { 0 = codes "p" }) file)

abbrev pub glob_hit_at : ℕ → List ℕ → Hit
glob_hit_at start file = hit_of kind.BypassGlob (span start) (File (record { 0 = codes "p" }) file)

-- ---- what a row unfolds to compute keys and hits

unfoldable pub bypasses_on_cases : ⊤
unfolding builds_on_cases two_bypasses two_files
bypasses_on_cases = tt
