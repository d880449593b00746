-- The bucket of a hash that gains a name.
use Rattle.std.proofs.Common.{◌≡◌, ◌≢◌, ℕ, List, [], ◌∷◌, ◌++◌, length, refl, sym, ap, subst}
use Rattle.std.proofs.Common.{inl, inr, ◌∙◌}
use Rattle.std.specs.Prelude.{◌⊎◌, Some, Contains, slice_get, slice_set, insert}
use Rattle.std.proofs.lemmas.Bool.{cases_eq}
use Rattle.std.proofs.lemmas.Option.{slice_get_within}
use Rattle.std.proofs.lemmas.List.Elements.{Contains-push, Contains-push_cases, Contains-append_left}
use Rattle.deny_base_lists.proofs.SearchLemmas.{one_name, gap_apart}
use Rattle.deny_base_lists.proofs.Inserting.{get_inserted, inserted_here, inserted_other, ascend_inserted, ascend_set}
use Rattle.deny_base_lists.proofs.Options.{some_inj}
use Rattle.deny_base_lists.proofs.Members.{contains_none}
use Rattle.deny_base_lists.proofs.Indices.{slice_get-push_cases, slice_get-push_left, slice_get-push_last}
use Rattle.deny_base_lists.proofs.Indices.{slice_get-set_same}
use Rattle.deny_base_lists.proofs.Indices.{slice_get-set_cases, slice_get-set_other}
use Rattle.deny_cfg_index.specs.declared.bucket.Named.{Named}
use Rattle.deny_cfg_index.specs.Bucket.{name_of, Ascend, IsNamedAt}
use Rattle.deny_cfg_index.specs.private.Bucket.{numbered, inserted}
use Rattle.deny_cfg_index.specs.private.Bucket.{IsGap, IsNumbered, IsExtended}
use Rattle.deny_cfg_index.specs.Hash.{hash_of}
use Rattle.deny_cfg_index.specs.Index.{IsEntry, IsBucket}
use Rattle.deny_cfg_index.specs.Names.{HasNumber, AreNumbers}
use Rattle.deny_cfg_index.proofs.Lists.{ascending_more, ascending_none}

-- ---- the numbers of a name where one more name is added

numbers_kept : (names : List (List ℕ)) (added name numbers : List ℕ) → (added ≡ name → ⊥)
    → AreNumbers names name numbers → AreNumbers (names ++ added ∷ []) name numbers
numbers_kept names added name numbers other are = record {
  ascending = are.ascending;
  exact = λ i. (
    λ c. slice_get-push_left names added i ((are.exact i).0 c),
    λ h. from i (slice_get-push_cases names added i h),
  );
} where
  from : (i : ℕ) → HasNumber names name i ⊎ ((i ≡ length names) × (name ≡ added)) → Contains numbers i
  from i (inl h) = (are.exact i).1 h
  from i (inr h) = absurd (other (sym h.1))

numbers_more : (names : List (List ℕ)) (name numbers : List ℕ) → AreNumbers names name numbers
    → AreNumbers (names ++ name ∷ []) name (numbers ++ length names ∷ [])
numbers_more names name numbers are = record {
  ascending = ascending_more numbers (length names) are.ascending
      (λ i c. slice_get_within names i name ((are.exact i).0 c));
  exact = λ i. (
    λ c. to i (Contains-push_cases numbers (length names) i c),
    λ h. from i (slice_get-push_cases names name i h),
  );
} where
  to : (i : ℕ) → Contains numbers i ⊎ (length names ≡ i) → HasNumber (names ++ name ∷ []) name i
  to i (inl c) = slice_get-push_left names name i ((are.exact i).0 c)
  to i (inr e) = slice_get-push_last names name i (sym e)

  from : (i : ℕ) → HasNumber names name i ⊎ ((i ≡ length names) × (name ≡ name))
      → Contains (numbers ++ length names ∷ []) i
  from i (inl h) = Contains-append_left numbers (length names ∷ []) i ((are.exact i).1 h)
  from i (inr h) = subst (λ k. Contains (numbers ++ length names ∷ []) k) (sym h.0)
      (Contains-push numbers (length names))

entry_kept : (names : List (List ℕ)) (added : List ℕ) (hash : ℕ) (e : Named) → (added ≡ e.name → ⊥)
    → IsEntry names hash e → IsEntry (names ++ added ∷ []) hash e
entry_kept names added hash e other x = record {
  hashed = x.hashed;
  are = numbers_kept names added e.name e.numbers other x.are;
  some = x.some;
}

entry_more : (names : List (List ℕ)) (name numbers : List ℕ) (hash : ℕ) → hash_of name ≡ hash
    → AreNumbers names name numbers
    → IsEntry (names ++ name ∷ []) hash (record { name = name; numbers = numbers ++ length names ∷ [] })
entry_more names name numbers hash hashed are = record {
  hashed = hashed;
  are = numbers_more names name numbers are;
  some = (length names, Contains-push numbers (length names));
}

-- the bucket of another hash does not change
pub bucket_kept : (names : List (List ℕ)) (added : List ℕ) (hash : ℕ) (bucket : List Named) → hash ≢ hash_of added
    → IsBucket names hash bucket → IsBucket (names ++ added ∷ []) hash bucket
bucket_kept names added hash bucket other x = record {
  ascend = x.ascend;
  each = λ p e at. entry_kept names added hash e
      (λ same. other (sym (x.each p e at).hashed ∙ ap hash_of (sym same))) (x.each p e at);
  all = λ i name h hashed. from i name hashed (slice_get-push_cases names added i h);
} where
  from : (i : ℕ) (name : List ℕ) → hash_of name ≡ hash
      → HasNumber names name i ⊎ ((i ≡ length names) × (name ≡ added)) → (p : ℕ) × IsNamedAt bucket name p
  from i name hashed (inl h) = x.all i name h hashed
  from i name hashed (inr h) = absurd (other (sym hashed ∙ ap hash_of h.1))

-- ---- the number is added to a name of the bucket
bucket_numbered : (names : List (List ℕ)) (name : List ℕ) (old new : List Named) (index : ℕ)
    → IsBucket names (hash_of name) old → IsNamedAt old name index → IsNumbered old index (length names) new
    → IsBucket (names ++ name ∷ []) (hash_of name) new
bucket_numbered names name old new index x at n = subst (IsBucket (names ++ name ∷ []) (hash_of name)) (sym n.whole)
    (record { ascend = up; each = each; all = all }) where
      own : Named
      own = record { name = n.named.name; numbers = n.named.numbers ++ length names ∷ [] }

      own_name : n.named.name ≡ name
      own_name = ap name_of (some_inj (sym n.at ∙ at.at)) ∙ at.is_name

      up : Ascend (slice_set old index own)
      up = ascend_set name_of old index n.named own n.at refl x.ascend

      entry : IsEntry (names ++ name ∷ []) (hash_of name) own
      entry = subst (λ ns. IsEntry (names ++ ns ∷ []) (hash_of name) own) own_name
          (entry_more names n.named.name n.named.numbers (hash_of name) (ap hash_of own_name)
          (x.each index n.named n.at).are)

      each : (p : ℕ) (e : Named) → slice_get (slice_set old index own) p ≡ Some e
          → IsEntry (names ++ name ∷ []) (hash_of name) e
      each p e there = elim (slice_get-set_cases old index own p e there) [
        | inl same ↦ subst (IsEntry (names ++ name ∷ []) (hash_of name)) (sym same.1) entry
        | inr other ↦ entry_kept names name (hash_of name) e
            (λ h. one_name name_of old index p x.ascend n.at other.1 other.0 (sym h ∙ sym own_name))
            (x.each p e other.1)
      ]

      index_of : (i : ℕ) (wanted : List ℕ) → hash_of wanted ≡ hash_of name
          → HasNumber names wanted i ⊎ ((i ≡ length names) × (wanted ≡ name))
          → (p : ℕ) × IsNamedAt (slice_set old index own) wanted p
      index_of i wanted hashed (inr h) = (
        index,
        record { named = own; at = slice_get-set_same old index own n.named n.at; is_name = own_name ∙ sym h.1 },
      )
      index_of i wanted hashed (inl h) = let f = x.all i wanted h hashed in elim (cases_eq f.0 index) [
        | inl same ↦
            let e : n.named ≡ f.1.named = some_inj (sym n.at
            ∙ subst (λ k. slice_get old k ≡ Some f.1.named) same f.1.at) in (
              index,
              record {
                named = own;
                at = slice_get-set_same old index own n.named n.at;
                is_name = ap name_of e
                    ∙ f.1.is_name;
              },
            )
        | inr other ↦ (
          f.0,
          record {
            named = f.1.named;
            at = slice_get-set_other old index own f.0 other ∙ f.1.at;
            is_name = f.1.is_name;
          },
        )
      ]

      all : (i : ℕ) (wanted : List ℕ) → HasNumber (names ++ name ∷ []) wanted i → hash_of wanted ≡ hash_of name
          → (p : ℕ) × IsNamedAt (slice_set old index own) wanted p
      all i wanted h hashed = index_of i wanted hashed (slice_get-push_cases names name i h)

-- a name that is not in the bucket has no numbers
pub gap_numbers : (names : List (List ℕ)) (name : List ℕ) (bucket : List Named) (index : ℕ)
    → IsBucket names (hash_of name) bucket → IsGap bucket name index → AreNumbers names name []
gap_numbers names name bucket index x gap =
    record { ascending = ascending_none; exact = λ i. (contains_none, none i) } where
      none : (i : ℕ) → HasNumber names name i → Contains [] i
      none i h = let f = x.all i name h refl in
          absurd (gap_apart bucket name index gap f.0 f.1.named f.1.at f.1.is_name)

-- ---- the number is added with a new name
bucket_inserted : (names : List (List ℕ)) (name : List ℕ) (old new : List Named) (index : ℕ)
    → IsBucket names (hash_of name) old → IsGap old name index
    → new ≡ insert old index (record { name = name; numbers = length names ∷ [] })
    → IsBucket (names ++ name ∷ []) (hash_of name) new
bucket_inserted names name old new index x gap e = subst (IsBucket (names ++ name ∷ []) (hash_of name)) (sym e)
    (record { ascend = ascend_inserted name_of old index own x.ascend gap; each = each; all = all }) where
      own : Named
      own = record { name = name; numbers = length names ∷ [] }

      entry : IsEntry (names ++ name ∷ []) (hash_of name) own
      entry = entry_more names name [] (hash_of name) refl (gap_numbers names name old index x gap)

      each : (p : ℕ) (y : Named) → slice_get (insert old index own) p ≡ Some y
          → IsEntry (names ++ name ∷ []) (hash_of name) y
      each p y there = elim (get_inserted old index own p y there) [
        | inl same ↦ subst (IsEntry (names ++ name ∷ []) (hash_of name)) (sym same) entry
        | inr old_one ↦ entry_kept names name (hash_of name) y
            (λ h. gap_apart old name index gap old_one.0 y old_one.1 (sym h)) (x.each old_one.0 y old_one.1)
      ]

      index_of : (i : ℕ) (wanted : List ℕ) → hash_of wanted ≡ hash_of name
          → HasNumber names wanted i ⊎ ((i ≡ length names) × (wanted ≡ name))
          → (p : ℕ) × IsNamedAt (insert old index own) wanted p
      index_of i wanted hashed (inr h) = (
        index,
        record { named = own; at = inserted_here old index own gap.inside; is_name = sym h.1 },
      )
      index_of i wanted hashed (inl h) =
          let f = x.all i wanted h hashed in
          let o = inserted_other old index own f.0 f.1.named f.1.at in
          (o.0, record { named = f.1.named; at = o.1; is_name = f.1.is_name })

      all : (i : ℕ) (wanted : List ℕ) → HasNumber (names ++ name ∷ []) wanted i → hash_of wanted ≡ hash_of name
          → (p : ℕ) × IsNamedAt (insert old index own) wanted p
      all i wanted h hashed = index_of i wanted hashed (slice_get-push_cases names name i h)

pub bucket_extended : (names : List (List ℕ)) (name : List ℕ) (old new : List Named)
    → IsBucket names (hash_of name) old → IsExtended old name (length names) new
    → IsBucket (names ++ name ∷ []) (hash_of name) new
bucket_extended names name old new x (numbered index at n) = bucket_numbered names name old new index x at n
bucket_extended names name old new x (inserted index gap e) = bucket_inserted names name old new index x gap e
