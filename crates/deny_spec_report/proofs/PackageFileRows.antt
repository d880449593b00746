-- Worked cases of the files of a package: which rule decides on each, how, and which entries it hits.
use Rattle.std.proofs.Common.{◌≡◌, ℕ, Bool, true, false, List, [], ◌∷◌, None, Some, codes, refl}
use Rattle.std.specs.List.{list_any}
use Rattle.deny_spec.specs.Building.{Building, Bypass}
use Rattle.deny_spec.specs.declared.package.ExecutableKind.TheVariants.{Interpreted, Native}
use Rattle.deny_spec.specs.declared.package.Failure.TheVariants.{Long, Unreadable}
use Rattle.deny_spec.specs.declared.package.Found.{Found}
use Rattle.deny_spec.specs.declared.package.Found.TheVariants.{Failed, Kind, Sum, Unasked}
use Rattle.deny_spec.specs.declared.package.NativeKind.TheVariants.{Archive, Elf}
use Rattle.deny_spec.specs.Text.{same_text}
use Rattle.deny_spec_report.specs.PackageFiles.{ByExtension, ByGlob, ByHeader, ByPath, BySum, ChecksumMatch}
use Rattle.deny_spec_report.specs.PackageFiles.{ChecksumMismatch}
use Rattle.deny_spec_report.specs.PackageFiles.{Class, DeniedByExtension, DetectedExecutable, DetectedExecutableScript}
use Rattle.deny_spec_report.specs.PackageFiles.{Harmless, PathBypassed, PathBypassedByGlob, Step, UnableToCheckPath}
use Rattle.deny_spec_report.specs.PackageFiles.{class_of}
use Rattle.deny_spec_report.specs.PackageFiles.{hits_glob, hits_path, path_of, step_of}
use Rattle.deny_spec_report.proofs.Cases.{span, spanned_at}
use Rattle.deny_spec_report.proofs.BuildCases.{builds_on_cases, bypass_of, file_of, checking, one_sum, other_sum}
use Rattle.deny_spec_report.proofs.BuildCases.{path_at}
use Rattle.deny_spec_report.proofs.BuildCases.{path_with_sum, script_glob}

-- ---- allowed paths

-- of paths with the same components the first counts; no path leads out of the package by `..`
unfoldable with_paths : Bypass
with_paths = record (bypass_of (codes "p") 10) {
  allow = path_at (codes "a/../b") 20
      ∷ path_with_sum (codes "./a//b") 30
      ∷ path_at (codes "a/b") 40
      ∷ path_at (codes "a") 50 ∷ [];
}

first_path : (path_of with_paths (codes "a/b") ≡ Some (path_with_sum (codes "./a//b") 30))
    × (path_of with_paths (codes "a") ≡ Some (path_at (codes "a") 50))
    × (path_of with_paths (codes "b") ≡ None)
    × (path_of with_paths (codes "a/b/c") ≡ None)
    × (path_of with_paths (codes "ab") ≡ None)
    × (path_of with_paths (codes "A") ≡ None)
unfolding builds_on_cases with_paths
first_path = (refl, refl, refl, refl, refl, refl)

-- a `.` alone is no component; a name that begins with one is
dots : (path_of (record with_paths { allow = path_at (codes "a/.") 20 ∷ [] }) (codes "a")
    ≡ Some (path_at (codes "a/.") 20))
    × (path_of (record with_paths { allow = path_at (codes ".a") 20 ∷ [] }) (codes "a") ≡ None)
    × (path_of (record with_paths { allow = path_at (codes "..") 20 ∷ [] }) (codes "") ≡ None)
    × (path_of (record with_paths { allow = path_at (codes ".") 20 ∷ [] }) (codes "") ≡ Some (path_at (codes ".") 20))
unfolding builds_on_cases with_paths
dots = (refl, refl, refl, refl)

-- ---- which rule decides

-- globs are given by their texts here: `f` and `g` are those of the bypass, and `s` is one of scripts
unfoldable policed : Building
policed = record checking {
  extensions = script_glob (codes "s") 70 false ∷ script_glob (codes "t") 71 true ∷ [];
}

unfoldable bypass : Bypass
bypass = record (bypass_of (codes "p") 10) {
  globs = spanned_at (codes "f") 60 ∷ spanned_at (codes "g") 61 ∷ [];
  allow = path_at (codes "plain") 20 ∷ path_with_sum (codes "summed") 30 ∷ path_at (codes "summed") 40 ∷ [];
}

abbrev fits : List (List ℕ) → List ℕ → Bool
fits globs glob = list_any (same_text glob) globs

-- steps for the files of a crate with the bypass
abbrev steps : List ℕ → List (List ℕ) → Step
steps path globs = step_of policed (Some bypass) path (fits globs)

-- a path without a checksum decides before globs, and globs before a path with a checksum
with_bypass : (steps (codes "plain") (codes "g" ∷ codes "s" ∷ []) ≡ ByPath (span 20))
    × (steps (codes "./plain") [] ≡ ByPath (span 20))
    × (steps (codes "summed") (codes "g" ∷ codes "s" ∷ []) ≡ ByGlob)
    × (steps (codes "summed") (codes "s" ∷ []) ≡ BySum (spanned_at one_sum 35))
    × (steps (codes "summed") [] ≡ BySum (spanned_at one_sum 35))
    × (steps (codes "x") (codes "s" ∷ codes "g" ∷ []) ≡ ByGlob)
    × (steps (codes "x") (codes "f" ∷ []) ≡ ByGlob)
    × (steps (codes "x") (codes "s" ∷ []) ≡ ByExtension)
    × (steps (codes "x") (codes "t" ∷ []) ≡ ByExtension)
    × (steps (codes "x") (codes "h" ∷ []) ≡ ByHeader)
    × (steps (codes "x") [] ≡ ByHeader)
unfolding builds_on_cases policed bypass
with_bypass = (refl, refl, refl, refl, refl, refl, refl, refl, refl, refl, refl)

-- steps for the files of a crate without a bypass: it has neither allowed paths nor globs of its own
without_bypass : (step_of policed None (codes "plain") (fits (codes "g" ∷ [])) ≡ ByHeader)
    × (step_of policed None (codes "summed") (fits (codes "g" ∷ codes "s" ∷ [])) ≡ ByExtension)
    × (step_of checking None (codes "x") (fits (codes "s" ∷ [])) ≡ ByHeader)
unfolding builds_on_cases policed
without_bypass = (refl, refl, refl)

-- ---- how

abbrev classed : List ℕ → List (List ℕ) → Found → Class
classed path globs found = class_of policed (Some bypass) (file_of path globs found)

let_pass : (classed (codes "plain") [] (Kind (Some (Native Elf))) ≡ PathBypassed (span 20))
    × (classed (codes "x") (codes "g" ∷ []) (Kind (Some (Native Elf))) ≡ PathBypassedByGlob)
    × (classed (codes "summed") (codes "g" ∷ []) (Sum other_sum) ≡ PathBypassedByGlob)
unfolding builds_on_cases policed bypass
let_pass = (refl, refl, refl)

by_checksum : (classed (codes "summed") [] (Sum one_sum) ≡ ChecksumMatch (span 35))
    × (classed (codes "summed") [] (Sum other_sum) ≡ ChecksumMismatch (span 35))
    × (classed (codes "summed") [] (Failed Unreadable) ≡ ChecksumMismatch (span 35))
    × (classed (codes "summed") [] (Failed Long) ≡ ChecksumMismatch (span 35))
    × (classed (codes "summed") [] Unasked ≡ ChecksumMismatch (span 35))
unfolding builds_on_cases policed bypass
by_checksum = (refl, refl, refl, refl, refl)

-- the class of a file that something else decides on does not depend on its first bytes
by_extension : (classed (codes "x") (codes "s" ∷ []) (Kind None) ≡ DeniedByExtension)
    × (classed (codes "x") (codes "t" ∷ []) Unasked ≡ DeniedByExtension)
    × (class_of policed None (file_of (codes "summed") (codes "s" ∷ []) (Sum one_sum)) ≡ DeniedByExtension)
unfolding builds_on_cases policed bypass
by_extension = (refl, refl, refl)

by_header : (classed (codes "x") [] (Kind None) ≡ Harmless)
    × (classed (codes "x") [] (Kind (Some (Native Elf))) ≡ DetectedExecutable)
    × (classed (codes "x") [] (Kind (Some (Native Archive))) ≡ DetectedExecutable)
    × (classed (codes "x") [] (Kind (Some (Interpreted (codes "sh")))) ≡ DetectedExecutableScript)
    × (classed (codes "x") [] (Kind (Some (Interpreted []))) ≡ DetectedExecutableScript)
    × (classed (codes "x") [] (Failed Unreadable) ≡ UnableToCheckPath)
unfolding builds_on_cases policed bypass
by_header = (refl, refl, refl, refl, refl, refl)

-- ---- which entries it hits

-- a file hits the first equal path, whichever rule decides
paths_hit : (hits_path bypass (path_at (codes "plain") 20) (file_of (codes "plain") [] Unasked) ≡ true)
    × (hits_path bypass (path_with_sum (codes "summed") 30) (file_of (codes "summed") [] (Sum other_sum)) ≡ true)
    × (hits_path bypass (path_with_sum (codes "summed") 30) (file_of (codes "summed") (codes "g" ∷ []) Unasked) ≡ true)
unfolding builds_on_cases bypass
paths_hit = (refl, refl, refl)

no_path_hit : (hits_path bypass (path_at (codes "summed") 40) (file_of (codes "summed") [] (Sum one_sum)) ≡ false)
    × (hits_path bypass (path_at (codes "plain") 20) (file_of (codes "a/plain") [] Unasked) ≡ false)
    × (hits_path bypass (path_at (codes "plain") 20) (file_of (codes "summed") [] (Sum one_sum)) ≡ false)
unfolding builds_on_cases bypass
no_path_hit = (refl, refl, refl)

-- a file hits each glob that matches it, where no path without a checksum decides first
globs_hit : (hits_glob bypass (spanned_at (codes "g") 61) (file_of (codes "x") (codes "g" ∷ []) Unasked) ≡ true)
    × (hits_glob bypass (spanned_at (codes "f") 60) (file_of (codes "x") (codes "g" ∷ codes "f" ∷ []) Unasked) ≡ true)
    × (hits_glob bypass (spanned_at (codes "g") 61) (file_of (codes "summed") (codes "g" ∷ []) Unasked) ≡ true)
unfolding builds_on_cases bypass
globs_hit = (refl, refl, refl)

no_glob_hit : (hits_glob bypass (spanned_at (codes "f") 60) (file_of (codes "x") (codes "g" ∷ []) Unasked) ≡ false)
    × (hits_glob bypass (spanned_at (codes "g") 61) (file_of (codes "x") [] (Kind None)) ≡ false)
    × (hits_glob bypass (spanned_at (codes "g") 61) (file_of (codes "plain") (codes "g" ∷ []) Unasked) ≡ false)
unfolding builds_on_cases bypass
no_glob_hit = (refl, refl, refl)
