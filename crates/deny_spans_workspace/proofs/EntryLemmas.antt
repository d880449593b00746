-- Lookups of entries by binary search, and the tables of a tree whose keys ascend.
use Rattle.std.proofs.Common.{◌≡◌, ◌+◌, inl, inr, ◌<◌, ◌≤◌, ℕ, List, [], ◌∷◌, Bool, true, false, Option, Some, None}
use Rattle.std.proofs.Common.{length, map, refl, sym, ap, ◌∙◌, subst, arith, get_or}
use Rattle.std.specs.Prelude.{cond, find, if◌then◌else◌, option_and_then, option_map, slice_get}
use Rattle.std.specs.Cmp.Lexicographic.{slice_cmp, nat_list_cmp_total}
use Rattle.std.specs.List.Sorted.{IsStrictlySortedBy, IsSortedBy}
use Rattle.std.specs.Ordering.{is_lt, nat_cmp}
use Rattle.std.specs.declared.cmp.Ordering.TheVariants.{Less, Equal, Greater}
use Rattle.std.proofs.lemmas.Bool.{cases_lt}
use Rattle.std.proofs.lemmas.List.Folds.{find_at}
use Rattle.std.proofs.lemmas.List.Sums.{position_or_len_is}
use Rattle.std.proofs.lemmas.Option.{none-some, slice_get-get_or, slice_get_past, same_Some}
use Rattle.std.proofs.lemmas.Slice.Eq.{bytes_eq-Decides}
use Rattle.deny_base.specs.declared.span.Span.{Span}
use Rattle.deny_krates.proofs.SearchLemmas.{not_above_itself}
use Rattle.deny_base_lists.proofs.Members.{map_at}
use Rattle.deny_base_lists.proofs.Orders.{not_below_itself, not_less, text_cmp-exact}
use Rattle.deny_base_lists.proofs.Sorted.{ascends_at}
use Rattle.deny_spec.specs.Text.{same_text}
use Rattle.deny_toml.specs.Calls.{Layer, below_name, entry_at, has_name, layer_in, table_in, table_of, value_at}
use Rattle.deny_toml.specs.Key.{Key}
use Rattle.deny_toml.specs.TreeOrder.{AreOrderly, IsOrderly, IsOrderlyLayer, NamesAscend}
use Rattle.deny_toml.specs.Value.{entries_in}
use Rattle.deny_toml.specs.value.Table.{Table}
use Rattle.deny_toml.specs.value.Value.{Value}
use Rattle.deny_spans_workspace.specs.Entries.{SharedEntry, may_be_patched, patch_of, patched_entry, replaced_by}
use Rattle.deny_spans_workspace.specs.private.Entries.{Ascends}
use Rattle.deny_spans_workspace.specs.Entries.{table_below}
use Rattle.deny_spans_workspace.specs.ManifestKey.{name_of}
use Rattle.deny_spans_workspace.specs.Origin.{value_at_key}
use Rattle.deny_spans_workspace.specs.DepSpec.{DepSpec}
use Rattle.deny_spans_workspace.specs.declared.manifest_key.ManifestKey.{ManifestKey}

abbrev name_of_entry : Key × Value → List ℕ
name_of_entry e = e.0.name

-- names that differ are not the same text
differ : (a b : List ℕ) → (a ≡ b → ⊥) → same_text a b ≡ false
differ a b apart = by_test (same_text a b) refl
  where
    by_test : (t : Bool) → same_text a b ≡ t → same_text a b ≡ false
    by_test true is = absurd (apart ((bytes_eq-Decides a b).0 is))
    by_test false is = is

name_before : (es : List (Key × Value)) (k at : ℕ) (d : Key × Value)
    → IsStrictlySortedBy (slice_cmp nat_cmp) (map name_of_entry es) → k < at → at < length es
    → slice_cmp nat_cmp (name_of_entry (get_or es k d)) (name_of_entry (get_or es at d)) ≡ Less
name_before es k at d up below inside = ascends_at (slice_cmp nat_cmp) (map name_of_entry es) k at
    (name_of_entry (get_or es k d)) (name_of_entry (get_or es at d)) up below
    (map_at name_of_entry es k (get_or es k d) (slice_get-get_or es k d (omega arith)))
    (map_at name_of_entry es at (get_or es at d) (slice_get-get_or es at d inside))

-- ascending names are sorted for a binary search
pub names_sorted : (es : List (Key × Value)) → IsStrictlySortedBy (slice_cmp nat_cmp) (map name_of_entry es)
    → IsSortedBy (λ x y. is_lt (slice_cmp nat_cmp (name_of_entry x) (name_of_entry y))) es
names_sorted es up k d low inside =
    not_less (name_of_entry (get_or es k d)) (name_of_entry (get_or es (k + 1) d))
    (inl (name_before es k (k + 1) d up (omega arith) inside))

-- an entry that the search finds is the first of the name
pub found_at : (es : List (Key × Value)) (name : List ℕ) (at : ℕ) (d : Key × Value)
    → IsStrictlySortedBy (slice_cmp nat_cmp) (map name_of_entry es) → at < length es
    → slice_cmp nat_cmp (name_of_entry (get_or es at d)) name ≡ Equal → slice_get es at ≡ entry_at name es
found_at es name at d up inside tie =
    let same = text_cmp-exact (name_of_entry (get_or es at d)) name tie in
    sym (find_at (has_name name) es
    ∙ ap (slice_get es) (position_or_len_is (has_name name) es at d (omega arith)
    (λ k below. differ (name_of_entry (get_or es k d)) name
    (λ equal. not_below_itself (slice_cmp nat_cmp) nat_list_cmp_total (name_of_entry (get_or es k d))
    (name_of_entry (get_or es at d)) (equal ∙ sym same) (name_before es k at d up below inside)))
    (λ _. (bytes_eq-Decides (name_of_entry (get_or es at d)) name).1 same)))

-- where the search finds no entry, none has the name
pub found_none : (es : List (Key × Value)) (name : List ℕ) (at : ℕ)
    → ((k : ℕ) (d : Key × Value) → k < at → slice_cmp nat_cmp (name_of_entry (get_or es k d)) name ≡ Less)
    → ((k : ℕ) (d : Key × Value) → at ≤ k → k < length es
    → slice_cmp nat_cmp (name_of_entry (get_or es k d)) name ≡ Greater)
    → None ≡ entry_at name es
found_none [] name at below above = refl
found_none (e ∷ es) name at below above =
    let all = e ∷ es in
    sym (find_at (has_name name) all
    ∙ ap (slice_get all) (position_or_len_is (has_name name) all (length all) e (omega arith)
    (λ k inside. differ (name_of_entry (get_or all k e)) name (λ equal. apart k inside equal))
    (λ past. absurd (omega (arith, past))))
    ∙ slice_get_past all (length all) (omega arith))
  where
    apart : (k : ℕ) → k < length (e ∷ es) → name_of_entry (get_or (e ∷ es) k e) ≡ name → ⊥
    apart k inside equal = elim (cases_lt k at) as (λ _. ⊥) [
      | inl before ↦ not_below_itself (slice_cmp nat_cmp) nat_list_cmp_total (name_of_entry (get_or (e ∷ es) k e)) name
          equal (below k e before)
      | inr after ↦ not_above_itself (slice_cmp nat_cmp) nat_list_cmp_total (name_of_entry (get_or (e ∷ es) k e)) name
          equal (above k e after inside)
    ]

-- ---- tables of an orderly tree

table_layer : (l : Layer) → IsOrderlyLayer l → (t : Table) → table_of l ≡ Some t
    → NamesAscend t × AreOrderly (map (λ e. e.1) (entries_in t))
table_layer _ (IsOrderlyLayer.scalar s) t is = absurd (none-some t is)
table_layer _ (IsOrderlyLayer.array vs all) t is = absurd (none-some t is)
table_layer _ (IsOrderlyLayer.table own ascend all) t is =
    subst (λ (u : Table). NamesAscend u × AreOrderly (map (λ e. e.1) (entries_in u))) (same_Some own t is) (ascend, all)

table_of_orderly : (v : Value) → IsOrderly v → (t : Table) → table_in v ≡ Some t
    → NamesAscend t × AreOrderly (map (λ e. e.1) (entries_in t))
table_of_orderly _ (IsOrderly.value v layer) t is = table_layer (layer_in v) layer t is

names_ascend : (v : Value) → IsOrderly v → (t : Table) → table_in v ≡ Some t → NamesAscend t
names_ascend v orderly t is = (table_of_orderly v orderly t is).0

parts_of_all : (v : Value) (vs : List Value) → AreOrderly (v ∷ vs) → IsOrderly v × AreOrderly vs
parts_of_all v vs (AreOrderly.more _ _ first rest) = (first, rest)

value_orderly : (es : List (Key × Value)) → AreOrderly (map (λ e. e.1) es) → (name : List ℕ) (w : Value)
    → value_at name es ≡ Some w → IsOrderly w
value_orderly [] all name w is = absurd (none-some w is)
value_orderly (e ∷ es) all name w is = by_test (has_name name e) (parts_of_all e.1 (map (λ e. e.1) es) all)
    (value_orderly es (parts_of_all e.1 (map (λ e. e.1) es) all).1 name w) is
  where
    by_test : (b : Bool) → IsOrderly e.1 × AreOrderly (map (λ e. e.1) es)
        → (value_at name es ≡ Some w → IsOrderly w)
        → option_map (λ e. e.1) (cond b (Some e) (find (has_name name) es)) ≡ Some w → IsOrderly w
    by_test true parts rest is = subst IsOrderly (same_Some e.1 w is) parts.0
    by_test false parts rest is = rest is

below_orderly : (name : List ℕ) (v w : Value) → IsOrderly v → below_name name v ≡ Some w → IsOrderly w
below_orderly name v w orderly is = by_table (table_in v) refl is
  where
    by_table : (o : Option Table) → table_in v ≡ o
        → option_and_then (λ t. value_at name (entries_in t)) o ≡ Some w → IsOrderly w
    by_table None table is = absurd (none-some w is)
    by_table (Some t) table is = value_orderly (entries_in t) (table_of_orderly v orderly t table).1 name w is

pub ascends_below : (outer inner : ManifestKey) (tree : Value) → IsOrderly tree → Ascends (table_below outer inner tree)
ascends_below outer inner tree orderly = by_outer (value_at_key outer tree) refl
  where
    by_table : (w : Value) → IsOrderly w → (o : Option Table) → table_in w ≡ o → Ascends o
    by_table w of_w None table = tt
    by_table w of_w (Some t) table = names_ascend w of_w t table

    by_inner : (v : Value) → IsOrderly v → (o : Option Value) → value_at_key inner v ≡ o
        → Ascends (option_and_then table_in o)
    by_inner v of_v None is = tt
    by_inner v of_v (Some w) is = by_table w (below_orderly (name_of inner) v w of_v is) (table_in w) refl

    by_outer : (o : Option Value) → value_at_key outer tree ≡ o
        → Ascends (option_and_then table_in (option_and_then (value_at_key inner) o))
    by_outer None is = tt
    by_outer (Some v) is = by_inner v (below_orderly (name_of outer) tree v orderly is) (value_at_key inner v) refl

pub names_ascend_in : (es : List (Key × Value)) (t : Table) → es ≡ entries_in t → NamesAscend t
    → IsStrictlySortedBy (slice_cmp nat_cmp) (map name_of_entry es)
names_ascend_in es t is ascend =
    subst (λ es. IsStrictlySortedBy (slice_cmp nat_cmp) (map name_of_entry es)) (sym is) ascend

-- ---- an entry, or the patch in its place

pub replaced_so : (patches : List (Key × Value)) (key : Key) (value : Span) (spec : DepSpec) (name asked : List ℕ)
    (patch : Option (Span × DepSpec)) (e : SharedEntry) → name ≡ key.name → asked ≡ key.name
    → patch ≡ (if may_be_patched spec.origin then patch_of patches asked else None)
    → e ≡ replaced_by patch (record { name = name; span = key.span }) value spec
    → e ≡ patched_entry patches key value spec
unfolding patched_entry
replaced_so patches key value spec name asked patch e same sought is made =
    made
    ∙ ap (λ (n : List ℕ). replaced_by patch (record { name = n; span = key.span }) value spec) same
    ∙ ap (λ (p : Option (Span × DepSpec)). replaced_by p key value spec)
    (is ∙ ap (λ (n : List ℕ). if may_be_patched spec.origin then patch_of patches n else None) sought)
