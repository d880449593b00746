-- The messages about the manifest of the crate at a place.
use Rattle.std.proofs.Common.{◌≡◌, ℕ, List, [], Option, Some, None, sym, ap, ◌∙◌}
use Rattle.std.specs.Prelude.{option_and_then}
use Rattle.std.specs.Option.{option_map_or}
use Rattle.deny_base.specs.declared.key.Key.{Key}
use Rattle.deny_base.specs.declared.label.Label.{Label}
use Rattle.deny_spec.specs.Graph.{Crate, Graph}
use Rattle.deny_spec.specs.Policy.{Policy}
use Rattle.deny_spec.specs.DiagParts.{crate_at}
use Rattle.deny_spec.specs.View.{Manifest, View, manifest_of}
use Rattle.deny_spec_report.specs.Wildcards.{unresolved_labels, unresolved_labels_in}
use Rattle.deny_spec_report.specs.Wildcards.{wildcard_labels, wildcard_labels_in, wildcard_labels_of}

module _ (p : Policy) (g : Graph) (view : View) (key : Key) where
  pub no_crates_wildcards : crate_at g key.place ≡ None → wildcard_labels p g view key ≡ []
  unfolding wildcard_labels
  no_crates_wildcards at = ap (λ o. option_map_or (wildcard_labels_of p g view) o []) at

  crates_wildcards : (c : Crate) → crate_at g key.place ≡ Some c
      → wildcard_labels p g view key ≡ option_map_or (wildcard_labels_in p g view c) (manifest_of view c) []
  unfolding wildcard_labels wildcard_labels_of
  crates_wildcards c at = ap (λ o. option_map_or (wildcard_labels_of p g view) o []) at

  pub no_manifests_wildcards : (c : Crate) → crate_at g key.place ≡ Some c → manifest_of view c ≡ None
      → wildcard_labels p g view key ≡ []
  no_manifests_wildcards c at none =
      crates_wildcards c at ∙ ap (λ o. option_map_or (wildcard_labels_in p g view c) o []) none

  pub manifests_wildcards : (c : Crate) (m : Manifest) → crate_at g key.place ≡ Some c → manifest_of view c ≡ Some m
      → wildcard_labels p g view key ≡ wildcard_labels_in p g view c m
  manifests_wildcards c m at is =
      crates_wildcards c at ∙ ap (λ o. option_map_or (wildcard_labels_in p g view c) o []) is

module _ (g : Graph) (view : View) (key : Key) where
  pub no_crates_unresolved : crate_at g key.place ≡ None → unresolved_labels g view key ≡ []
  unfolding unresolved_labels
  no_crates_unresolved at =
      ap (λ (o : Option Crate).
      option_map_or (unresolved_labels_in key.entry) (option_and_then (manifest_of view) o) []) at

  crates_unresolved : (c : Crate) → crate_at g key.place ≡ Some c
      → unresolved_labels g view key ≡ option_map_or (unresolved_labels_in key.entry) (manifest_of view c) []
  unfolding unresolved_labels
  crates_unresolved c at =
      ap (λ (o : Option Crate).
      option_map_or (unresolved_labels_in key.entry) (option_and_then (manifest_of view) o) []) at

  pub no_manifests_unresolved : (c : Crate) → crate_at g key.place ≡ Some c → manifest_of view c ≡ None
      → unresolved_labels g view key ≡ []
  no_manifests_unresolved c at none =
      crates_unresolved c at ∙ ap (λ o. option_map_or (unresolved_labels_in key.entry) o []) none

  pub manifests_unresolved : (c : Crate) (m : Manifest) → crate_at g key.place ≡ Some c → manifest_of view c ≡ Some m
      → unresolved_labels g view key ≡ unresolved_labels_in key.entry m
  manifests_unresolved c m at is =
      crates_unresolved c at ∙ ap (λ o. option_map_or (unresolved_labels_in key.entry) o []) is

-- the labels of an entry, in the file of the workspace
module _ {X : Type 0} (labels_of : ℕ → X → List Label) (found : Option X) (entry : X) (there : Some entry ≡ found) where
  pub in_file : (file : ℕ) (workspace : Option ℕ) → workspace ≡ Some file
      → labels_of file entry ≡ option_map_or (λ e. option_map_or (λ number. labels_of number e) workspace []) found []
  in_file file workspace is =
      ap (λ o. option_map_or (λ number. labels_of number entry) o []) (sym is)
      ∙ ap (λ o. option_map_or (λ e. option_map_or (λ number. labels_of number e) workspace []) o []) there

  pub in_no_file : (workspace : Option ℕ) → workspace ≡ None
      → [] ≡ option_map_or (λ e. option_map_or (λ number. labels_of number e) workspace []) found []
  in_no_file workspace is =
      ap (λ o. option_map_or (λ number. labels_of number entry) o []) (sym is)
      ∙ ap (λ o. option_map_or (λ e. option_map_or (λ number. labels_of number e) workspace []) o []) there
