-- Rows of declarations, one for each crate, as they are filled.
use Rattle.std.specs.Prelude.{◌≡◌, ◌||◌, ◌++◌, ℕ, Bool, List, filter, is_none, length, map}
use Rattle.deny_spec_report.specs.Sharing.{Use, is_use_of}
use Rattle.deny_spans_manifest.specs.Manifest.{dep_view}
use Rattle.deny_spans_manifest.specs.declared.declarations.ManifestDep.{ManifestDep}
use Rattle.deny_spec.specs.Policy.{Sharing}
use Rattle.deny_spec.specs.View.{Declared}
use Rattle.deny_rules_manifests.specs.Uses.{row_at, use_view}
use Rattle.deny_rules_manifests.specs.declared.uses.Use.{Use as UseValue}

-- each of these declarations is in the row of the crate that it resolves to, in their order
pub record AreRowsOf (crates : ℕ) (uses : List Use) (rows : List (List UseValue)) : Type 0 where
  pub long : length rows ≡ crates
  pub at : (place : ℕ) → map use_view (row_at rows place) ≡ filter (is_use_of place) uses

-- the rows of all declarations but those that are left
pub record AreRowsBut (crates : ℕ) (rest all : List Use) (rows : List (List UseValue)) : Type 0 where
  pub done : List Use
  pub split : done ++ rest ≡ all
  pub are : AreRowsOf crates done rows

-- a declaration of a manifest counts: by a path only where the policy says so
abbrev pub counts_by : Sharing → Declared → Bool
counts_by s d = s.with_paths || is_none d.declaration.path

-- a declaration that was read, and the file that it is in
abbrev pub use_of : ℕ → ManifestDep → Use
use_of file d = record { file = file; declared = dep_view d }

abbrev pub is_counted : Sharing → ManifestDep → Bool
is_counted s d = counts_by s (dep_view d)

-- the declarations of a manifest that count
unfoldable pub counted_in : ℕ → Sharing → List ManifestDep → List Use
counted_in file s deps = map (use_of file) (filter (is_counted s) deps)
