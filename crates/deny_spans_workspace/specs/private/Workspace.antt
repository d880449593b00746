-- Spans by the places of crates, as entries are put there one by one.
use Rattle.std.specs.Prelude.{◌≡◌, ℕ, List, Option, Some}
use Rattle.std.specs.Prelude.{slice_get, slice_set}
use Rattle.deny_krates.specs.Crates.{crate_view}
use Rattle.deny_spec.specs.Graph.{Graph}
use Rattle.deny_spec.specs.View.{WorkspaceEntry}
use Rattle.deny_spans_workspace.specs.declared.workspace.WorkspaceSpan.{WorkspaceSpan}
use Rattle.deny_spans_workspace.specs.Workspace.{span_view}

-- an entry replaced what was at the place of its crate, and all other places stay
pub record IsPut (g : Graph) (place : ℕ) (entry : WorkspaceEntry) (old new : List (Option WorkspaceSpan)) : Type 0 where
  pub span : WorkspaceSpan
  pub is : new ≡ slice_set old place (Some span)
  pub says : span_view place span ≡ entry
  pub of : slice_get g.crates place ≡ Some (crate_view place span.krate.now)
