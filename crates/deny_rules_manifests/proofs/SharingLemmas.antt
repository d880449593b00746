-- The keys of dependencies that a workspace shares, by places and by crates.
use Rattle.std.proofs.Common.{◌≡◌, true, false, List, [], ◌∷◌, Some, cond, length, map, refl, sym, ap, ◌∙◌, arith}
use Rattle.std.specs.Prelude.{◌||◌, ◌≤◌, nat_le}
use Rattle.std.specs.List.{flat_map, list_any, range_with_len}
use Rattle.std.specs.Option.{option_map_or}
use Rattle.std.proofs.lemmas.Bool.{le-leb}
use Rattle.std.proofs.lemmas.List.{length-map}
use Rattle.deny_base.specs.declared.code.Code.TheVariants as code
use Rattle.deny_base.specs.declared.key.Section.TheVariants as section
use Rattle.deny_spec_report.specs.Sharing.{Use, is_duplicated, is_unshared, unused_entry_key, unused_entry_keys}
use Rattle.deny_spec_report.specs.Sharing.{unused_entry_keys_by, workspace_duplicate_keys, workspace_duplicate_keys_by}
use Rattle.deny_spec_report.specs.Sharing.{workspace_duplicate_keys_of}
use Rattle.deny_spec_report.specs.Wildcards.{is_active}
use Rattle.deny_rules_match.specs.Placed.{ArePlaced}
use Rattle.deny_spec.specs.Graph.{Graph}
use Rattle.deny_spec.specs.Keys.{key_of, no_span}
use Rattle.deny_spec.specs.Policy.{Policy, Sharing}
use Rattle.deny_spec.specs.View.{View}
use Rattle.deny_rules_manifests.specs.Uses.{AreUses, rows_in, use_view}
use Rattle.deny_rules_manifests.specs.declared.uses.Use.{Use as UseValue}
use Rattle.deny_rules_manifests.specs.declared.uses.Uses.{Uses}
use Rattle.deny_rules_manifests.specs.private.Sharing.{duplicated_keys_at, checks_duplicates}
use Rattle.deny_krates.proofs.PlaceLemmas.{flat_map-place_of}

-- ---- declarations

pub any_viewed : (uses : List UseValue) → list_any (λ one. is_unshared (use_view one)) uses
    ≡ list_any is_unshared (map use_view uses)
any_viewed [] = refl
any_viewed (one ∷ uses) = ap (λ b. is_unshared (use_view one) || b) (any_viewed uses)

pub two_viewed : (uses : List UseValue) → 2 ≤ length uses → nat_le 2 (length (map use_view uses)) ≡ true
two_viewed uses enough = le-leb 2 (length (map use_view uses)) (omega (arith, length-map uses use_view, enough))

-- ---- keys

module _ (p : Policy) (g : Graph) (view : View) where
  pub none_duplicated : (s : Sharing) → p.sharing ≡ Some s → checks_duplicates s g ≡ false
      → workspace_duplicate_keys p g view ≡ []
  unfolding workspace_duplicate_keys_by
  none_duplicated s is off = ap (λ o. option_map_or (workspace_duplicate_keys_by g view) o []) is
      ∙ ap (λ b. cond b (flat_map (workspace_duplicate_keys_of s g view) g.crates) []) off

  pub duplicated_are : (s : Sharing) (uses : Uses) → ArePlaced g.crates → p.sharing ≡ Some s
      → checks_duplicates s g ≡ true → AreUses p g view uses
      → flat_map (duplicated_keys_at (rows_in uses)) (range_with_len 0 (length g.crates))
      ≡ workspace_duplicate_keys p g view
  unfolding duplicated_keys_at workspace_duplicate_keys_by workspace_duplicate_keys_of
  duplicated_are s uses placed is on are =
      ap (flat_map (duplicated_keys_at (rows_in uses))) (sym placed.places)
      ∙ (flat_map-place_of (duplicated_keys_at (rows_in uses)) (workspace_duplicate_keys_of s g view) g.crates
      (λ c _. ap (λ (us : List Use). cond (is_duplicated us)
      (key_of section.Workspace code.WorkspaceDuplicate c.place no_span 0 ∷ []) []) (are.at s is c.place))
      ∙ (ap (λ b. cond b (flat_map (workspace_duplicate_keys_of s g view) g.crates) []) (sym on)
      ∙ ap (λ o. option_map_or (workspace_duplicate_keys_by g view) o []) (sym is)))

module _ (p : Policy) (view : View) where
  pub none_unused : (s : Sharing) → p.sharing ≡ Some s → is_active s.unused ≡ false → unused_entry_keys p view ≡ []
  unfolding unused_entry_keys_by
  none_unused s is off = ap (λ o. option_map_or (unused_entry_keys_by view) o []) is
      ∙ ap (λ b. cond b (map unused_entry_key view.unused) []) off

  pub unused_are : (s : Sharing) → p.sharing ≡ Some s → is_active s.unused ≡ true
      → map unused_entry_key view.unused ≡ unused_entry_keys p view
  unfolding unused_entry_keys_by
  unused_are s is on = ap (λ b. cond b (map unused_entry_key view.unused) []) (sym on)
      ∙ ap (λ o. option_map_or (unused_entry_keys_by view) o []) (sym is)
