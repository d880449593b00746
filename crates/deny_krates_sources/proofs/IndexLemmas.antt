-- An index that grows by one id at a time.
use Rattle.std.proofs.Common.{◌≡◌, ◌<◌, ◌≤◌, ◌+◌, ◌++◌, ◌||◌, ℕ, suc, List, [], ◌∷◌, Bool, true, false, Option, Some}
use Rattle.std.proofs.Common.{None, Ok, Err, length, take, drop, map, refl, sym, ap, ◌∙◌, subst, arith, add-one}
use Rattle.std.proofs.Common.{add-zero}
use Rattle.std.specs.Prelude.{slice_index_or, is_some, cond}
use Rattle.std.specs.BTreeMap.{BTreeMap}
use Rattle.std.specs.BTreeMap as tree
use Rattle.std.specs.Cmp.{IsTotalOrder, nat_cmp_total, on_total, then_total}
use Rattle.std.specs.Cmp.Lexicographic.{slice_cmp, nat_list_cmp_total}
use Rattle.std.specs.List.{list_any, position_from}
use Rattle.std.specs.Option.{option_or}
use Rattle.std.specs.Map.{AreApart, IsKeyTest, KeepsOthers, lookup}
use Rattle.std.specs.Ordering.{eq_by_cmp, is_eq, nat_cmp, on, then_cmp}
use Rattle.std.specs.declared.cmp.Ordering.{Ordering}
use Rattle.std.specs.declared.cmp.Ordering.TheVariants.{Less, Equal, Greater}
use Rattle.std.proofs.Math.ListN.{drop_of_length-le}
use Rattle.std.proofs.Math.Seq.{take-suc, drop-cons}
use Rattle.std.proofs.lemmas.List.{map-append, length-map, length-take-le}
use Rattle.std.proofs.lemmas.Cmp.{eq_by_cmp_equiv}
use Rattle.std.proofs.lemmas.Slice.Eq.{bytes_eq-Decides}
use Rattle.deny_spec.specs.Text.{same_text}
use Rattle.deny_krates_sources.specs.Checked.{distinct_after, number_in}
use Rattle.deny_base_lists.proofs.Orders.{text_cmp-exact, then_second}
use Rattle.deny_krates_sources.specs.private.Index.{IsIndex, hash_of, hashed_cmp, number_by}
use Rattle.deny_krates_sources.specs.declared.index.HashedId.{HashedId}
use Rattle.deny_krates_metadata.specs.declared.fault.MetadataFault.TheVariants.{DuplicateId}

-- the ids of the items from an index on: that of the item there, and those of the items after it
pub ids_next : {A : Type 0} (id_of : A → List ℕ) (xs : List A) (i : ℕ) (x : A) → i < length xs
    → x ≡ slice_index_or xs i x
    → map id_of (drop i xs) ≡ id_of x ∷ map id_of (drop (i + 1) xs)
ids_next id_of xs i x inside is = rw (drop-cons xs i x inside, ← is, add-one) refl

pub ids_more : {A : Type 0} (id_of : A → List ℕ) (xs : List A) (i : ℕ) (x : A) → i < length xs
    → x ≡ slice_index_or xs i x
    → map id_of (take (i + 1) xs) ≡ map id_of (take i xs) ++ id_of x ∷ []
ids_more id_of xs i x inside is = rw (add-one, take-suc xs i x inside, ← is) (map-append id_of (take i xs) (x ∷ []))

pub ids_end : {A : Type 0} (id_of : A → List ℕ) (xs : List A) (i : ℕ) → length xs ≤ i → map id_of (drop i xs) ≡ []
ids_end id_of xs i past = rw (drop_of_length-le xs past) refl

pub ids_length : {A : Type 0} (id_of : A → List ℕ) (xs : List A) (i : ℕ) → i ≤ length xs
    → length (map id_of (take i xs)) ≡ i
ids_length id_of xs i room = length-map (take i xs) id_of ∙ length-take-le i xs room

-- an id that is among ids has a number
pub any_numbered : (id : List ℕ) (n : ℕ) (ids : List (List ℕ))
    → is_some (position_from (same_text id) n ids) ≡ list_any (same_text id) ids
any_numbered id n [] = refl
any_numbered id n (x ∷ ids) = by_test (same_text id x) (position_from (same_text id) (n + 1) ids)
    (list_any (same_text id) ids) n (any_numbered id (n + 1) ids)
  where
    by_test : (b : Bool) (o : Option ℕ) (r : Bool) (n : ℕ) → is_some o ≡ r → is_some (cond b (Some n) o) ≡ (b || r)
    by_test true o r n e = refl
    by_test false o r n e = e

position_push : {A : Type 0} (test : A → Bool) (n : ℕ) (xs : List A) (y : A)
    → position_from test n (xs ++ y ∷ []) ≡ option_or (position_from test n xs)
    (cond (test y) (Some (n + length xs)) None)
position_push test n [] y = rw add-zero refl
position_push test n (x ∷ xs) y = by_test (test x) (position_push test (n + 1) xs y)
  where
    by_test : (b : Bool)
        → position_from test (n + 1) (xs ++ y ∷ []) ≡ option_or (position_from test (n + 1) xs)
        (cond (test y) (Some ((n + 1) + length xs)) None)
        → cond b (Some n) (position_from test (n + 1) (xs ++ y ∷ [])) ≡ option_or
        (cond b (Some n) (position_from test (n + 1) xs)) (cond (test y) (Some (n + suc (length xs))) None)
    by_test true e = refl
    by_test false e =
        let same : (n + 1) + length xs ≡ n + suc (length xs) = omega arith in
        e ∙ ap (λ k. option_or (position_from test (n + 1) xs) (cond (test y) (Some k) None)) same

none_of : (o : Option ℕ) → is_some o ≡ false → o ≡ None
none_of None e = refl
none_of (Some n) e = cc

same_is : (a b : List ℕ) → same_text a b ≡ true → a ≡ b
same_is a b = (bytes_eq-Decides a b).0

is_same : (a b : List ℕ) → a ≡ b → same_text a b ≡ true
is_same a b = (bytes_eq-Decides a b).1

turned : (a b : List ℕ) → same_text a b ≡ false → same_text b a ≡ false
turned a b e = elim (same_text b a) as (λ r. same_text b a ≡ r → r ≡ false) [
  | true ↦ λ h. sym (is_same a b (sym (same_is b a h))) ∙ e
  | false ↦ λ h. refl
] refl

-- ---- by hash and by bytes

pair_cmp : ℕ × List ℕ → ℕ × List ℕ → Ordering
pair_cmp = then_cmp (on (λ p. p.0) nat_cmp) (on (λ p. p.1) (slice_cmp nat_cmp))

pair_total : IsTotalOrder pair_cmp
unfolding pair_cmp
pair_total = then_total (on_total (λ (p : ℕ × List ℕ). p.0) nat_cmp_total)
    (on_total (λ (p : ℕ × List ℕ). p.1) nat_list_cmp_total)

abbrev key_cmp : HashedId → HashedId → Ordering
key_cmp x y = hashed_cmp x.hash x.id.now y

-- the query for an id is a test of one key
key_test : (hash : ℕ) (id : List ℕ) → IsKeyTest (eq_by_cmp key_cmp) (λ k. is_eq (hashed_cmp hash id k))
unfolding pair_cmp
key_test hash id x y = (eq_by_cmp_equiv pair_total).congr (hash, id) (x.hash, x.id.now) (y.hash, y.id.now)

-- no key belongs to two ids
one_id : (hash hash' : ℕ) (id other : List ℕ) (k : HashedId) → same_text id other ≡ false
    → is_eq (hashed_cmp hash id k) ≡ true → is_eq (hashed_cmp hash' other k) ≡ false
one_id hash hash' id other k differ is = elim (is_eq (hashed_cmp hash' other k)) as (λ b. is_eq
    (hashed_cmp hash' other k) ≡ b → b ≡ false) [
      | true ↦ λ e. absurd (true-false (sym (is_same id other
          (id_of_key hash id k is ∙ sym (id_of_key hash' other k e))) ∙ differ))
      | false ↦ λ e. refl
    ] refl
  where
    true-false : true ≡ false → ⊥
    true-false e = absurd (cc)

    id_of_key : (h : ℕ) (t : List ℕ) (k : HashedId) → is_eq (hashed_cmp h t k) ≡ true → t ≡ k.id.now
    id_of_key h t k e = text_cmp-exact t k.id.now (then_second (nat_cmp h k.hash) (slice_cmp nat_cmp t k.id.now)
        (tie (hashed_cmp h t k) e))
      where
        tie : (o : Ordering) → is_eq o ≡ true → o ≡ Equal
        tie Less e = cc
        tie Equal e = refl
        tie Greater e = cc

others_stay : {K X : Type 0} (eq : K → K → Bool) (test : K → Bool) (old new : List (K × X))
    → KeepsOthers eq test old new → (other : K → Bool) → IsKeyTest eq other → AreApart test other
    → lookup other new ≡ lookup other old
unfolding KeepsOthers
others_stay eq test old new h = h

-- what any id finds after an insertion at one id
updated_at : (id : List ℕ) (index new : BTreeMap HashedId ℕ) (w : Option ℕ)
    → tree.UpdatesBy key_cmp (hashed_cmp (hash_of id) id) index new w
    → (q : List ℕ) → number_by new q ≡ cond (same_text id q) w (number_by index q)
updated_at id index new w updates q = elim (same_text id q) as (λ b. same_text id q ≡ b → number_by new q
    ≡ cond b w (number_by index q)) [
      | true ↦ λ e. subst (λ (t : List ℕ). number_by new t ≡ w) (same_is id q e) updates.1
      | false ↦ λ e. others_stay (eq_by_cmp key_cmp)
          (λ k. is_eq (hashed_cmp (hash_of id) id k)) index.entries new.entries
          updates.3 (λ k. is_eq (hashed_cmp (hash_of q) q k)) (key_test (hash_of q) q)
          (λ k. one_id (hash_of id) (hash_of q) id q k e)
    ] refl

-- what a key of an id and its hash finds
pub asked_by : {A : Type 0} (f : Option ℕ → A) (index : BTreeMap HashedId ℕ) (hash : ℕ) (text id : List ℕ) (r : A)
    → hash ≡ hash_of id → text ≡ id → r ≡ f (tree.get_by (hashed_cmp hash text) index) → r ≡ f (number_by index id)
asked_by f index hash text id r h t is = is ∙ ap (λ o. f o)
    (ap (λ (n : ℕ). tree.get_by (hashed_cmp n text) index) h
    ∙ ap (λ (s : List ℕ). tree.get_by (hashed_cmp (hash_of id) s) index) t)

pub index_more : (index new : BTreeMap HashedId ℕ) (before : List (List ℕ)) (hash : ℕ) (text id : List ℕ) (number : ℕ)
    → hash ≡ hash_of id → text ≡ id
    → IsIndex index before → list_any (same_text id) before ≡ false → number ≡ length before
    → tree.UpdatesBy key_cmp (hashed_cmp hash text) index new (Some number)
    → IsIndex new (before ++ id ∷ [])
index_more index new before hash text id number h t is fresh last updates = record {
  at = λ q. updated_at id index new (Some number)
      (subst (λ (s : List ℕ). tree.UpdatesBy key_cmp (hashed_cmp (hash_of id) s) index new (Some number)) t
      (subst (λ (n : ℕ). tree.UpdatesBy key_cmp (hashed_cmp n text) index new (Some number)) h updates)) q
      ∙ (ap (λ o. cond (same_text id q) (Some number) o) (is.at q)
      ∙ (at_test q ∙ sym (position_push (same_text q) 0 before id)));
}
  where
    at_test : (q : List ℕ)
        → cond (same_text id q) (Some number) (number_in before q) ≡ option_or (number_in before q)
        (cond (same_text q id) (Some (0 + length before)) None)
    at_test q = elim (same_text id q) as (λ b. same_text id q ≡ b → cond b (Some number) (number_in before q)
        ≡ option_or (number_in before q) (cond (same_text q id) (Some (0 + length before)) None)) [
          | true ↦ λ e.
              let same : id ≡ q = same_is id q e in
              let none : number_in before q ≡ None = subst (λ (r : List ℕ). number_in before r ≡ None) same
              (none_of _ (any_numbered id 0 before ∙ fresh)) in
              let is_number : number ≡ 0 + length before = omega (arith, last) in
              rw (none, is_same q id (sym same), is_number) refl
          | false ↦ λ e. rw (turned id q e) (no_other (number_in before q))
        ] refl
      where
        no_other : (o : Option ℕ) → o ≡ option_or o None
        no_other None = refl
        no_other (Some n) = refl

pub stood_before : (before ids : List (List ℕ)) (id : List ℕ) → list_any (same_text id) before ≡ true
    → distinct_after before (id ∷ ids) ≡ Err (DuplicateId id)
unfolding distinct_after
stood_before before ids id is = rw is refl

pub is_new : (before ids : List (List ℕ)) (id : List ℕ) → list_any (same_text id) before ≡ false
    → distinct_after before (id ∷ ids) ≡ distinct_after (before ++ id ∷ []) ids
unfolding distinct_after
is_new before ids id isnt = rw isnt refl

pub no_more_ids : (before : List (List ℕ)) → distinct_after before [] ≡ Ok tt
unfolding distinct_after
no_more_ids before = refl
