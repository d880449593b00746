-- The index, with one more glob.
use Rattle.std.proofs.Common.{◌≡◌, ◌≢◌, ℕ, ◌<◌, List, [], ◌∷◌, ◌++◌, length, true, false, refl}
use Rattle.std.proofs.Common.{sym, ap, subst, inl, inr, ◌∙◌}
use Rattle.std.specs.Prelude.{◌⊎◌, ◌↔◌, Some, Contains, slice_get, slice_set, insert}
use Rattle.std.specs.Ordering.{nat_cmp}
use Rattle.std.specs.List.Sorted.{IsStrictlySortedBy}
use Rattle.std.proofs.lemmas.Bool.{cases_eq, false≢true}
use Rattle.std.proofs.lemmas.Option.{slice_get_within}
use Rattle.std.proofs.lemmas.List.Elements.{Contains-push, Contains-push_cases, Contains-append_left}
use Rattle.deny_base_lists.proofs.SearchLemmas.{one_name, gap_apart}
use Rattle.deny_base_lists.proofs.Inserting.{get_inserted, inserted_here, inserted_other, ascend_inserted, ascend_none}
use Rattle.deny_base_lists.proofs.Inserting.{ascend_set}
use Rattle.deny_base_lists.proofs.Options.{none_is_no_some, some_inj}
use Rattle.deny_base_lists.proofs.Indices.{slice_get-push_last, slice_get-push_left, slice_get-push_cases}
use Rattle.deny_base_lists.proofs.Indices.{slice_get-set_same}
use Rattle.deny_base_lists.proofs.Indices.{slice_get-set_other, slice_get-set_cases}
use Rattle.deny_base_lists.proofs.Members.{contains_none}
use Rattle.deny_globs.specs.declared.extensions.GlobExtension.{GlobExtension}
use Rattle.deny_globs.specs.Index.{name_of, Ascend, IsNamedAt}
use Rattle.deny_globs.specs.private.Index.{numbered, inserted}
use Rattle.deny_globs.specs.private.Index.{IsGap, IsNumbered, IsExtended}
use Rattle.deny_globs.specs.Index.{IsIndexed}
use Rattle.deny_globs.specs.Patterns.{Pattern, characters_of}
use Rattle.deny_globs.specs.Sets.{is_simple, extension_of, AsksFor}
use Rattle.deny_globs.proofs.Ascending.{sorted_push, sorted_none}

-- ---- a glob that is not simple changes nothing

asks_more : (globs : List Pattern) (glob : Pattern) (i : ℕ) (name : List ℕ) → AsksFor globs i name
    → AsksFor (globs ++ glob ∷ []) i name
asks_more globs glob i name h = record
    { glob = h.glob; at = slice_get-push_left globs glob i h.at; simple = h.simple; named = h.named }

asks_by : (globs : List Pattern) (glob : Pattern) (i : ℕ) (name : List ℕ) → AsksFor (globs ++ glob ∷ []) i name →
    AsksFor globs i name ⊎
    ((i ≡ length globs) × (is_simple (characters_of glob) ≡ true) × (extension_of (characters_of glob) ≡ name))
asks_by globs glob i name h = elim (slice_get-push_cases globs glob i h.at) [
  | inl old ↦ inl (record { glob = h.glob; at = old; simple = h.simple; named = h.named })
  | inr new ↦ inr (
    new.0,
    ap (λ g. is_simple (characters_of g)) (sym new.1) ∙ h.simple,
    ap (λ g. extension_of (characters_of g)) (sym new.1) ∙ h.named,
  )
]

asks_old : (globs : List Pattern) (glob : Pattern) (i : ℕ) (name : List ℕ) → is_simple (characters_of glob) ≡ false
    → AsksFor (globs ++ glob ∷ []) i name → AsksFor globs i name
asks_old globs glob i name isnt h = elim (asks_by globs glob i name h) [
  | inl old ↦ old
  | inr new ↦ absurd (false≢true (sym isnt ∙ new.1))
]

asks_last : (globs : List Pattern) (glob : Pattern) (i : ℕ) (name : List ℕ) → is_simple (characters_of glob) ≡ true
    → i ≡ length globs → extension_of (characters_of glob) ≡ name → AsksFor (globs ++ glob ∷ []) i name
asks_last globs glob i name is last named = record
    { glob = glob; at = slice_get-push_last globs glob i last; simple = is; named = named }

asks_inside : (globs : List Pattern) (i : ℕ) (name : List ℕ) → AsksFor globs i name → i < length globs
asks_inside globs i name h = slice_get_within globs i h.glob h.at

pub indexed_other : (globs : List Pattern) (glob : Pattern) (extensions : List GlobExtension)
    → is_simple (characters_of glob) ≡ false → IsIndexed globs extensions → IsIndexed (globs ++ glob ∷ []) extensions
indexed_other globs glob extensions isnt x = record {
  ascend = x.ascend;
  numbers = λ p e at i. (
    λ c. asks_more globs glob i e.name ((x.numbers p e at i).0 c),
    λ h. (x.numbers p e at i).1 (asks_old globs glob i e.name isnt h),
  );
  once = x.once;
  some = x.some;
  all = λ i name h. x.all i name (asks_old globs glob i name isnt h);
}

-- ---- a simple glob is added to its extension

-- The extension has the numbers of exactly the globs that ask for it.
record IsEntry (globs : List Pattern) (extension : GlobExtension) : Type 0 where
  numbers : (i : ℕ) → Contains extension.globs i ↔ AsksFor globs i extension.name
  once : IsStrictlySortedBy nat_cmp extension.globs
  some : (i : ℕ) × Contains extension.globs i

entry_of : {globs : List Pattern} {extensions : List GlobExtension} (p : ℕ) (e : GlobExtension)
    → IsIndexed globs extensions
    → slice_get extensions p ≡ Some e → IsEntry globs e
entry_of p e x at = record { numbers = x.numbers p e at; once = x.once p e at; some = x.some p e at }

entry_kept : (globs : List Pattern) (glob : Pattern) (e : GlobExtension)
    → (extension_of (characters_of glob) ≡ e.name → ⊥)
    → IsEntry globs e → IsEntry (globs ++ glob ∷ []) e
entry_kept globs glob e other x = record {
  numbers = λ i. (λ c. asks_more globs glob i e.name ((x.numbers i).0 c), λ h. from i (asks_by globs glob i e.name h));
  once = x.once;
  some = x.some;
} where
  from : (i : ℕ) → AsksFor globs i e.name ⊎
      ((i ≡ length globs) × (is_simple (characters_of glob) ≡ true) × (extension_of (characters_of glob) ≡ e.name))
      → Contains e.globs i
  from i (inl h) = (x.numbers i).1 h
  from i (inr h) = absurd (other h.2)

entry_more : (globs : List Pattern) (glob : Pattern) (name ns : List ℕ) → is_simple (characters_of glob) ≡ true
    → extension_of (characters_of glob) ≡ name → IsStrictlySortedBy nat_cmp ns →
    ((i : ℕ) → Contains ns i ↔ AsksFor globs i name)
    → IsEntry (globs ++ glob ∷ []) (record { name = name; globs = ns ++ length globs ∷ [] })
entry_more globs glob name ns is named up x = record {
  numbers = λ i. (λ c. to i (Contains-push_cases ns (length globs) i c), λ h. from i (asks_by globs glob i name h));
  once = sorted_push ns (length globs) up (λ i c. asks_inside globs i name ((x i).0 c));
  some = (length globs, Contains-push ns (length globs));
} where
  to : (i : ℕ) → Contains ns i ⊎ (length globs ≡ i) → AsksFor (globs ++ glob ∷ []) i name
  to i (inl c) = asks_more globs glob i name ((x i).0 c)
  to i (inr e) = asks_last globs glob i name is (sym e) named

  from : (i : ℕ) → AsksFor globs i name ⊎
      ((i ≡ length globs) × (is_simple (characters_of glob) ≡ true) × (extension_of (characters_of glob) ≡ name))
      → Contains (ns ++ length globs ∷ []) i
  from i (inl h) = Contains-append_left ns (length globs ∷ []) i ((x i).1 h)
  from i (inr h) = subst (λ k. Contains (ns ++ length globs ∷ []) k) (sym h.0) (Contains-push ns (length globs))

-- an index, from its extensions
indexed_from : {globs : List Pattern} {extensions : List GlobExtension} → Ascend extensions
    → ((p : ℕ) (e : GlobExtension) → slice_get extensions p ≡ Some e → IsEntry globs e) →
    ((i : ℕ) (name : List ℕ) → AsksFor globs i name → (p : ℕ) × IsNamedAt extensions name p)
    → IsIndexed globs extensions
indexed_from up each all = record {
  ascend = up;
  numbers = λ p e at. (each p e at).numbers;
  once = λ p e at. (each p e at).once;
  some = λ p e at. (each p e at).some;
  all = all;
}

indexed_numbered : (globs : List Pattern) (glob : Pattern) (old new : List GlobExtension) (name : List ℕ) (index : ℕ)
    → is_simple (characters_of glob) ≡ true → extension_of (characters_of glob) ≡ name →
    IsIndexed globs old → IsNamedAt old name index → IsNumbered old index (length globs) new
    → IsIndexed (globs ++ glob ∷ []) new
indexed_numbered globs glob old new name index is named x at n =
    subst (IsIndexed (globs ++ glob ∷ [])) (sym n.whole) (indexed_from up each all) where
      own : GlobExtension
      own = record { name = n.extension.name; globs = n.extension.globs ++ length globs ∷ [] }

      own_named : n.extension.name ≡ name
      own_named = ap name_of (some_inj (sym n.at ∙ at.at)) ∙ at.is_name

      up : Ascend (slice_set old index own)
      up = ascend_set name_of old index n.extension own n.at refl x.ascend

      entry : IsEntry (globs ++ glob ∷ []) own
      entry = entry_more globs glob n.extension.name n.extension.globs is (named ∙ sym own_named)
          (x.once index n.extension n.at) (x.numbers index n.extension n.at)

      each : (p : ℕ) (e : GlobExtension) → slice_get (slice_set old index own) p ≡ Some e
          → IsEntry (globs ++ glob ∷ []) e
      each p e there = elim (slice_get-set_cases old index own p e there) [
        | inl same ↦ subst (IsEntry (globs ++ glob ∷ [])) (sym same.1) entry
        | inr other ↦ entry_kept globs glob e
            (λ h. one_name name_of old index p x.ascend n.at other.1 other.0 (sym h ∙ (named ∙ sym own_named)))
            (entry_of p e x other.1)
      ]

      index_of : (i : ℕ) (wanted : List ℕ)
          → AsksFor globs i wanted ⊎
          ((i ≡ length globs) × (is_simple (characters_of glob) ≡ true) ×
          (extension_of (characters_of glob) ≡ wanted)) → (p : ℕ) × IsNamedAt (slice_set old index own) wanted p
      index_of i wanted (inr h) = (
        index,
        record {
          named = own;
          at = slice_get-set_same old index own n.extension n.at;
          is_name = own_named
              ∙ (sym named ∙ h.2);
        },
      )
      index_of i wanted (inl h) = let f = x.all i wanted h in elim (cases_eq f.0 index) [
        | inl same ↦
            let e : n.extension ≡ f.1.named = some_inj (sym n.at
            ∙ subst (λ k. slice_get old k ≡ Some f.1.named) same f.1.at) in (
              index,
              record {
                named = own;
                at = slice_get-set_same old index own n.extension n.at;
                is_name = ap name_of e
                    ∙ f.1.is_name;
              },
            )
        | inr other ↦ (
          f.0,
          record {
            named = f.1.named;
            at = slice_get-set_other old index own f.0 other
                ∙ f.1.at;
            is_name = f.1.is_name;
          },
        )
      ]

      all : (i : ℕ) (wanted : List ℕ) → AsksFor (globs ++ glob ∷ []) i wanted
          → (p : ℕ) × IsNamedAt (slice_set old index own) wanted p
      all i wanted h = index_of i wanted (asks_by globs glob i wanted h)

pub no_asks : (globs : List Pattern) (old : List GlobExtension) (name : List ℕ) (index : ℕ) → IsIndexed globs old
    → IsGap old name index → (i : ℕ) → AsksFor globs i name → ⊥
no_asks globs old name index x gap i h = let f = x.all i name h in
    gap_apart old name index gap f.0 f.1.named f.1.at f.1.is_name

indexed_inserted : (globs : List Pattern) (glob : Pattern) (old new : List GlobExtension) (name : List ℕ) (index : ℕ)
    → is_simple (characters_of glob) ≡ true → extension_of (characters_of glob) ≡ name →
    IsIndexed globs old → IsGap old name index
    → new ≡ insert old index (record { name = name; globs = length globs ∷ [] })
    → IsIndexed (globs ++ glob ∷ []) new
indexed_inserted globs glob old new name index is named x gap e =
    subst (IsIndexed (globs ++ glob ∷ [])) (sym e)
    (indexed_from (ascend_inserted name_of old index own x.ascend gap) each all) where
      own : GlobExtension
      own = record { name = name; globs = length globs ∷ [] }

      entry : IsEntry (globs ++ glob ∷ []) own
      entry = entry_more globs glob name [] is named sorted_none
          (λ i. (contains_none, λ h. absurd (no_asks globs old name index x gap i h)))

      each : (p : ℕ) (y : GlobExtension) → slice_get (insert old index own) p ≡ Some y → IsEntry (globs ++ glob ∷ []) y
      each p y there = elim (get_inserted old index own p y there) [
        | inl same ↦ subst (IsEntry (globs ++ glob ∷ [])) (sym same) entry
        | inr old_one ↦ entry_kept globs glob y
            (λ h. gap_apart old name index gap old_one.0 y old_one.1 (sym h ∙ named)) (entry_of old_one.0 y x old_one.1)
      ]

      index_of : (i : ℕ) (wanted : List ℕ)
          → AsksFor globs i wanted ⊎
          ((i ≡ length globs) × (is_simple (characters_of glob) ≡ true) × (extension_of (characters_of glob) ≡ wanted))
          →
          (p : ℕ) × IsNamedAt (insert old index own) wanted p
      index_of i wanted (inr h) = (
        index,
        record { named = own; at = inserted_here old index own gap.inside; is_name = sym named ∙ h.2 },
      )
      index_of i wanted (inl h) =
          let f = x.all i wanted h in
          let o = inserted_other old index own f.0 f.1.named f.1.at in
          (o.0, record { named = f.1.named; at = o.1; is_name = f.1.is_name })

      all : (i : ℕ) (wanted : List ℕ) → AsksFor (globs ++ glob ∷ []) i wanted
          → (p : ℕ) × IsNamedAt (insert old index own) wanted p
      all i wanted h = index_of i wanted (asks_by globs glob i wanted h)

pub indexed_simple : (globs : List Pattern) (glob : Pattern) (old new : List GlobExtension)
    → is_simple (characters_of glob) ≡ true → IsIndexed globs old →
    IsExtended old (extension_of (characters_of glob)) (length globs) new → IsIndexed (globs ++ glob ∷ []) new
indexed_simple globs glob old new is x (numbered index at n) = indexed_numbered globs glob old new
    (extension_of (characters_of glob)) index is refl x at n
indexed_simple globs glob old new is x (inserted index gap e) = indexed_inserted globs glob old new
    (extension_of (characters_of glob)) index is refl x gap e

pub indexed_none : {extensions : List GlobExtension} → extensions ≡ [] → IsIndexed [] extensions
indexed_none {extensions} e = subst (IsIndexed []) (sym e)
    (indexed_from (ascend_none name_of) (λ p x at. none_is_no_some at) (λ i name h. none_is_no_some h.at))
