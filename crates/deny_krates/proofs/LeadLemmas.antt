-- How lists of features and declarations lead from one node to another.
use Rattle.std.proofs.Common.{◌≡◌, ◌<◌, ◌≤◌, ◌+◌, ◌++◌, ◌∙◌, ℕ, inl, inr, List, [], ◌∷◌, Bool, true, false, get_or}
use Rattle.std.proofs.Common.{length, drop, refl, sym, ap, arith}
use Rattle.std.specs.Prelude.{◌==◌, ◌&&◌, ◌||◌, cond, slice_get, slice_index_or}
use Rattle.std.specs.Cmp.Lexicographic.{nat_list_cmp_total, slice_cmp}
use Rattle.std.specs.List.{after_first, before_first, list_any, position_or_len}
use Rattle.std.specs.Ordering.{nat_cmp}
use Rattle.std.specs.declared.cmp.Ordering.TheVariants.{Less, Equal, Greater}
use Rattle.std.proofs.lemmas.Bool.{cases_lt, false_from_ne_true}
use Rattle.std.proofs.lemmas.List.{at_drop_more}
use Rattle.std.proofs.lemmas.List.Folds.{list_any-append}
use Rattle.std.proofs.lemmas.Option.{slice_get-get_or}
use Rattle.std.proofs.lemmas.Slice.Eq.{bytes_eq-Decides}
use Rattle.deny_base_lists.proofs.Booleans.{tests_agree, or-false}
use Rattle.deny_base_lists.proofs.Members.{any_from, any_passes, from_there}
use Rattle.deny_base_lists.proofs.Orders.{not_below_itself, text_cmp-exact}
use Rattle.deny_krates.specs.Nodes.{asked, default_feature, is_called, is_slash, leads_over}
use Rattle.deny_krates_graph.proofs.SearchLemmas.{not_above_itself}
use Rattle.deny_spec.specs.Graph.{Dependency}
use Rattle.deny_spec.specs.Text.{same_text}

-- ---- a text in an ascending list

pub text_found : (texts : List (List ℕ)) (text : List ℕ) (at : ℕ) (d : List ℕ) → at < length texts
    → slice_cmp nat_cmp (slice_index_or texts at d) text ≡ Equal → slice_get texts at ≡ slice_get (text ∷ []) 0
text_found texts text at d inside tie =
    slice_get-get_or texts at d inside
    ∙ ap (λ x. slice_get (x ∷ []) 0) (text_cmp-exact (slice_index_or texts at d) text tie)

pub text_missing : (texts : List (List ℕ)) (text : List ℕ) (i : ℕ)
    → ((k : ℕ) (d : List ℕ) → k < i → slice_cmp nat_cmp (slice_index_or texts k d) text ≡ Less)
    → ((k : ℕ) (d : List ℕ) → i ≤ k → k < length texts → slice_cmp nat_cmp (slice_index_or texts k d) text ≡ Greater)
    → list_any (same_text text) texts ≡ false
text_missing texts text i below above = false_from_ne_true (list_any (same_text text) texts) (λ is.
    let one = any_passes (same_text text) texts is in
    let same : text ≡ one.one = (bytes_eq-Decides text one.one).0 one.passes in
    let here : slice_index_or texts one.member.0 one.one ≡ text = one.member.2 ∙ sym same in
    elim (cases_lt one.member.0 i) as (λ _. ⊥) [
      | inl before ↦ not_below_itself (slice_cmp nat_cmp) nat_list_cmp_total
          (slice_index_or texts one.member.0 one.one) text here (below one.member.0 one.one before)
      | inr after ↦ not_above_itself (slice_cmp nat_cmp) nat_list_cmp_total
          (slice_index_or texts one.member.0 one.one) text here (above one.member.0 one.one after one.member.1)
    ])

pub text_there : (texts : List (List ℕ)) (text : List ℕ) (at : ℕ) → slice_get texts at ≡ slice_get (text ∷ []) 0
    → true ≡ list_any (same_text text) texts
text_there texts text at here = sym (any_from (same_text text) texts text (from_there texts at text here)
    ((bytes_eq-Decides text text).1 refl))

-- ---- a loop that tests whether any item passes

pub any_stopped : {X : Type 0} (p : X → Bool) (xs : List X) (x : X) (i : ℕ) → i < length xs → x ≡ get_or xs i x
    → p x ≡ true → list_any p (drop i xs) ≡ list_any p xs → true ≡ list_any p xs
any_stopped p xs x i inside is passes so =
    sym (at_drop_more (list_any p) xs i x inside
    ∙ (ap (λ y. p y || list_any p (drop (i + 1) xs)) (sym is) ∙ ap (λ b. b || list_any p (drop (i + 1) xs)) passes))
    ∙ so

pub any_more : {X : Type 0} (p : X → Bool) (xs : List X) (x : X) (i : ℕ) → i < length xs → x ≡ get_or xs i x
    → p x ≡ false → list_any p (drop i xs) ≡ list_any p xs → list_any p (drop (i + 1) xs) ≡ list_any p xs
any_more p xs x i inside is fails so =
    sym (at_drop_more (list_any p) xs i x inside
    ∙ (ap (λ y. p y || list_any p (drop (i + 1) xs)) (sym is) ∙ ap (λ b. b || list_any p (drop (i + 1) xs)) fails)) ∙ so

-- ---- the features that a declaration asks for

pub any_asked : (test : List ℕ → Bool) (d : Dependency)
    → list_any test (asked d) ≡ (list_any test d.features || (d.uses_default_features && test default_feature))
unfolding asked
any_asked test d = by_default d.uses_default_features
  where
    by_default : (b : Bool) → list_any test (cond b (d.features ++ default_feature ∷ []) d.features)
        ≡ (list_any test d.features || (b && test default_feature))
    by_default true = list_any-append test d.features (default_feature ∷ [])
        ∙ ap (λ b. list_any test d.features || b) (or-false (test default_feature))
    by_default false = sym (or-false (list_any test d.features))

-- ---- an entry with a slash

some_slash : {X : Type 0} (p : X → Bool) (xs : List X) → position_or_len p xs < length xs → list_any p xs ≡ true
some_slash p [] some = absurd (omega (arith, some))
some_slash p (x ∷ xs) some = by_test (p x) refl (some_slash p xs)
  where
    by_test : (b : Bool) → p x ≡ b → (position_or_len p xs < length xs → list_any p xs ≡ true)
        → (b || list_any p xs) ≡ true
    by_test true is rest = refl
    by_test false is rest = let later = rw is at some in rest (omega (arith, later))

no_slash : {X : Type 0} (p : X → Bool) (xs : List X) → position_or_len p xs ≡ length xs → list_any p xs ≡ false
no_slash p [] none = refl
no_slash p (x ∷ xs) none = by_test (p x) refl (no_slash p xs)
  where
    by_test : (b : Bool) → p x ≡ b → (position_or_len p xs ≡ length xs → list_any p xs ≡ false)
        → (b || list_any p xs) ≡ false
    by_test true is rest = let here = rw is at none in absurd (omega (arith, here))
    by_test false is rest = let later = rw is at none in rest (omega (arith, later))

-- ---- a name with a mark at its end

drop_last : (xs ys : List ℕ) (x : ℕ) → xs ++ x ∷ [] ≡ ys ++ x ∷ [] → xs ≡ ys
drop_last [] [] x same = refl
drop_last [] (y ∷ ys) x same = absurd (longer ys (ap (λ (zs : List ℕ). length zs) same))
  where
    longer : (zs : List ℕ) → 1 ≡ length (y ∷ (zs ++ x ∷ [])) → ⊥
    longer [] e = absurd (omega (arith, e))
    longer (z ∷ zs) e = absurd (omega (arith, e))
drop_last (a ∷ xs) [] x same = absurd (longer xs (ap (λ (zs : List ℕ). length zs) same))
  where
    longer : (zs : List ℕ) → length (a ∷ (zs ++ x ∷ [])) ≡ 1 → ⊥
    longer [] e = absurd (omega (arith, e))
    longer (z ∷ zs) e = absurd (omega (arith, e))
drop_last (a ∷ xs) (b ∷ ys) x same =
    let heads : a ≡ b = cc in
    let tails : xs ++ x ∷ [] ≡ ys ++ x ∷ [] = cc in
    let rest = drop_last xs ys x tails in
    cc

pub marked : (text rest name : List ℕ) (mark : ℕ) → text ≡ rest ++ mark ∷ []
    → same_text rest name ≡ same_text text (name ++ mark ∷ [])
marked text rest name mark is = tests_agree (same_text rest name) (same_text text (name ++ mark ∷ []))
    (λ same. (bytes_eq-Decides text (name ++ mark ∷ [])).1
    (is ∙ ap (λ xs. xs ++ mark ∷ []) ((bytes_eq-Decides rest name).0 same)))
    (λ same. (bytes_eq-Decides rest name).1
    (drop_last rest name mark (sym is ∙ (bytes_eq-Decides text (name ++ mark ∷ [])).0 same)))

pub unmarked : (text name : List ℕ) (mark : ℕ) → ((prefix : List ℕ) → text ≡ prefix ++ mark ∷ [] → ⊥)
    → false ≡ same_text text (name ++ mark ∷ [])
unmarked text name mark never = sym (false_from_ne_true (same_text text (name ++ mark ∷ []))
    (λ same. never name ((bytes_eq-Decides text (name ++ mark ∷ [])).0 same)))

pub led_over : (d : Dependency) (feature entry name rest : List ℕ) (same called : Bool)
    → name ≡ before_first (λ b. b == 47) entry → rest ≡ after_first (λ b. b == 47) entry
    → position_or_len (λ b. b == 47) entry < length entry → same ≡ same_text rest feature → called ≡ is_called d name
    → (same && called) ≡ leads_over d feature entry
unfolding leads_over
led_over d feature entry name rest same called before after some is_same calls =
    rw (is_same, calls, before, after, some_slash is_slash entry some) refl

pub not_led_over : (d : Dependency) (feature entry : List ℕ) → position_or_len (λ b. b == 47) entry ≡ length entry
    → false ≡ leads_over d feature entry
unfolding leads_over
not_led_over d feature entry none = rw (no_slash is_slash entry none) refl
