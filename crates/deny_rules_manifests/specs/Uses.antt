-- The declarations that count for what a workspace shares, in a row for each crate.
use Rattle.std.specs.Prelude.{◌≡◌, ℕ, List, [], Some, map, slice_index_or}
use Rattle.deny_spec_report.specs.Sharing.{Use, uses_of}
use Rattle.deny_spans_manifest.specs.Manifest.{dep_view}
use Rattle.deny_spec.specs.Graph.{Graph}
use Rattle.deny_spec.specs.Policy.{Policy, Sharing}
use Rattle.deny_spec.specs.View.{View}
use Rattle.deny_rules_manifests.specs.declared.uses.Use.{Use as UseValue}
use Rattle.deny_rules_manifests.specs.declared.uses.Uses.{Uses}

-- a declaration as plain data
abbrev pub use_view : UseValue → Use
use_view u = record { file = u.file; declared = dep_view u.dep.now }

abbrev pub rows_in : Uses → List (List UseValue)
rows_in uses = uses.rows

-- the declarations that resolve to the crate at a place
abbrev pub row_at : List (List UseValue) → ℕ → List UseValue
row_at rows place = slice_index_or rows place []

-- at each place exactly the declarations of the crate there, in order, where the policy checks what a workspace
-- shares
pub record AreUses (p : Policy) (g : Graph) (view : View) (uses : Uses) : Type 0 where
  pub at : (s : Sharing) → p.sharing ≡ Some s → (place : ℕ) → map use_view (row_at (rows_in uses) place)
      ≡ uses_of s g view place
