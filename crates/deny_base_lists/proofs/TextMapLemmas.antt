-- A tree with texts as keys, looked up and changed by the bytes of a text, is the finite map of its
-- entries.
use Rattle.std.proofs.Common.{◌≡◌, ℕ, List, [], ◌∷◌, map, cond, false, is_some, Option, Some, None, sym, ap, ◌∙◌, refl}
use Rattle.std.proofs.Common.{String, string_bytes}
use Rattle.std.specs.FinMap as finite
use Rattle.std.specs.BTreeMap as tree
use Rattle.std.specs.BTreeMap.{BTreeMap, is_at}
use Rattle.std.specs.Map.{lookup}
use Rattle.std.specs.Ordering.{nat_cmp, eq_by_cmp, is_eq}
use Rattle.std.specs.declared.cmp.Ordering.{Ordering}
use Rattle.std.specs.declared.cmp.Ordering.TheVariants.{Less, Equal, Greater}
use Rattle.std.specs.Cmp.Lexicographic.{slice_cmp, nat_list_cmp_total}
use Rattle.std.specs.Str.{bytes_eq}
use Rattle.std.specs.String.{string_cmp}
use Rattle.std.proofs.lemmas.Cmp.{eq_by_cmp_equiv}
use Rattle.std.proofs.lemmas.Map.Text.{is_eq-slice_cmp, btree_map_updates_text}
use Rattle.deny_base_lists.specs.TextMap.{TextFinMap, with_bytes, map_of}
use Rattle.deny_base_lists.proofs.Options.{none_from_is_some}

-- only equal texts tie
pub texts_tie : finite.IsAntisymmetric (slice_cmp nat_cmp)
texts_tie = finite.slice_cmp-IsAntisymmetric finite.nat_cmp-IsAntisymmetric

-- the test by which the tree finds a text is symmetric
tested : (key other : List ℕ) → bytes_eq key other ≡ eq_by_cmp (slice_cmp nat_cmp) other key
tested key other = sym (is_eq-slice_cmp key other) ∙ (eq_by_cmp_equiv nat_list_cmp_total).symm key other

module _ {V A : Type 0} where
  find_lookup : (key : List ℕ) (entries : List (String A × V))
      → finite.find (slice_cmp nat_cmp) key (map with_bytes entries) ≡ lookup
      (is_at (λ k. slice_cmp nat_cmp key (string_bytes k))) entries
  find_lookup key [] = refl
  find_lookup key (entry ∷ entries) =
      ap (cond (is_eq (slice_cmp nat_cmp key (string_bytes entry.0))) (Some entry.1)) (find_lookup key entries)

  pub get-map_of : (m : BTreeMap (String A) V) (key : List ℕ)
      → finite.get (map_of m.entries) key ≡ tree.get_by_text m key
  get-map_of m key = finite.get-from_entries nat_list_cmp_total (map with_bytes m.entries) key
      ∙ find_lookup key m.entries

  updated : (old new : BTreeMap (String A) V) (key : List ℕ) (value : Option V)
      → tree.UpdatesBy string_cmp (λ k. slice_cmp nat_cmp key (string_bytes k)) old new value
      → (other : List ℕ) → finite.get (map_of new.entries) other ≡ cond (eq_by_cmp (slice_cmp nat_cmp) other key) value
      (finite.get (map_of old.entries) other)
  updated old new key value updates other =
      get-map_of new other ∙ btree_map_updates_text key old new value updates other
      ∙ (λ i. cond (tested key other i) value (sym (get-map_of old other) i))

  pub insert-map_of : (old new : BTreeMap (String A) V) (key : List ℕ) (value : V)
      → tree.UpdatesBy string_cmp (λ k. slice_cmp nat_cmp key (string_bytes k)) old new (Some value)
      → map_of new.entries ≡ finite.insert (map_of old.entries) key value
  insert-map_of old new key value updates = finite.same_map nat_list_cmp_total texts_tie _ _
      (λ other. updated old new key (Some value) updates other
      ∙ sym (finite.get-insert nat_list_cmp_total (map_of old.entries) key value other))

  pub remove-map_of : (old new : BTreeMap (String A) V) (key : List ℕ)
      → tree.UpdatesBy string_cmp (λ k. slice_cmp nat_cmp key (string_bytes k)) old new None
      → map_of new.entries ≡ finite.remove (map_of old.entries) key
  remove-map_of old new key updates = finite.same_map nat_list_cmp_total texts_tie _ _
      (λ other. updated old new key None updates other
      ∙ sym (finite.get-remove nat_list_cmp_total (map_of old.entries) key other))

module _ {V : Type 0} where
  -- removing a key that was inserted as a new one gives the map as it was before
  pub remove-insert : (m : TextFinMap V) (key : List ℕ) (value : V) → is_some (finite.get m key) ≡ false
      → finite.remove (finite.insert m key value) key ≡ m
  remove-insert m key value free = finite.same_map nat_list_cmp_total texts_tie _ _
      (λ other. finite.get-remove nat_list_cmp_total (finite.insert m key value) key other
      ∙ ap (cond (eq_by_cmp (slice_cmp nat_cmp) other key) None)
      (finite.get-insert nat_list_cmp_total m key value other)
      ∙ undone (slice_cmp nat_cmp other key) other refl)
    where
      undone : (order : Ordering) (other : List ℕ) → slice_cmp nat_cmp other key ≡ order
          → cond (is_eq order) None (cond (is_eq order) (Some value) (finite.get m other)) ≡ finite.get m other
      undone Less other e = refl
      undone Equal other e = sym (none_from_is_some (finite.get m key) free)
          ∙ finite.get_tied nat_list_cmp_total m other key e
      undone Greater other e = refl

-- looking up one text in a table of texts
pub get-from_entries : {V : Type 0} (table : List (List ℕ × V)) (name : List ℕ)
    → finite.get {R = slice_cmp nat_cmp} (finite.from_entries table) name ≡ finite.find (slice_cmp nat_cmp) name table
get-from_entries table name = finite.get-from_entries nat_list_cmp_total table name
