-- The first entry of a name, by its index.
use Rattle.std.proofs.Common.{◌≡◌, ℕ, zero, suc, ◌<◌, ◌≤◌, Option, Bool, true, false, List, [], ◌∷◌, length, get_or}
use Rattle.std.proofs.Common.{position, Some, None, nat_lt, cond, refl, sym, ap, subst, arith, ◌∙◌}
use Rattle.std.specs.List.{find, remove, position_or_len}
use Rattle.std.proofs.lemmas.Bool.Decides.{nat_tests}
use Rattle.std.proofs.lemmas.List.Sums.{fails_before_first}
use Rattle.std.proofs.lemmas.List.Quantifiers.{position-Some}
use Rattle.deny_toml_grammar.specs.declared.parts.Key.{Key}
use Rattle.deny_toml_tree.specs.declared.value.Value.{Value}
use Rattle.deny_toml_tree.specs.Calls.{has_name, entry_at, without}

module _ {X : Type 0} (p : X → Bool) where
  -- the first element that passes is the one at the first index that passes
  find_at_first : (xs : List X) (i : ℕ) (d : X) → i < length xs → p (get_or xs i d) ≡ true
      → ((k : ℕ) → k < i → p (get_or xs k d) ≡ false)
      → find p xs ≡ Some (get_or xs i d)
  find_at_first [] i d below passes fails = absurd (omega arith)
  find_at_first (x ∷ xs) zero d below passes fails = rw passes
  find_at_first (x ∷ xs) (suc i) d below passes fails =
      rw (fails 0 (omega arith)) (find_at_first xs i d (omega arith) passes (λ k h. fails (suc k) (omega arith)))

  find-position : (xs : List X) (i : ℕ) (d : X) → position p xs ≡ Some i → find p xs ≡ Some (get_or xs i d)
  find-position xs i d at = let first = position-Some p xs i d at in find_at_first xs i d first.0 first.1 first.2

  no_position : (xs : List X) (b : Bool) → nat_lt (position_or_len p xs) (length xs) ≡ b
      → cond b (Some (position_or_len p xs)) None ≡ None
      → length xs ≤ position_or_len p xs
  no_position xs true is none = cc none
  no_position xs false is none = grind (arith, nat_tests)

  pub none_passes : (xs : List X) → position p xs ≡ None → (k : ℕ) (d : X) → k < length xs → p (get_or xs k d) ≡ false
  none_passes xs none k d below =
      let past : length xs ≤ position_or_len p xs = no_position xs (nat_lt (position_or_len p xs) (length xs)) refl
      none in
      fails_before_first p xs k d (omega arith)

  none_found : (xs : List X) → ((k : ℕ) (d : X) → k < length xs → p (get_or xs k d) ≡ false) → find p xs ≡ None
  none_found [] fails = refl
  none_found (x ∷ xs) fails = rw (fails 0 x (omega arith)) (none_found xs (λ k d below. fails (suc k) d (omega arith)))

  find-position_none : (xs : List X) → position p xs ≡ None → find p xs ≡ None
  find-position_none xs none = none_found xs (none_passes xs none)

-- the entries without the one at the first index of a name
without_at_first : (name : List ℕ) (es : List (Key × Value)) (i : ℕ) (d : Key × Value) → i < length es
    → has_name name (get_or es i d) ≡ true
    → ((k : ℕ) → k < i → has_name name (get_or es k d) ≡ false) → without name es ≡ remove es i
unfolding without
without_at_first name [] i d below passes fails = absurd (omega arith)
without_at_first name (e ∷ es) zero d below passes fails = rw passes
without_at_first name (e ∷ es) (suc i) d below passes fails =
    rw (fails 0 (omega arith)) (ap (λ rest. e ∷ rest) (without_at_first name es i d (omega arith) passes
    (λ k h. fails (suc k) (omega arith))))

without-position : (name : List ℕ) (es : List (Key × Value)) (i : ℕ) (d : Key × Value)
    → position (has_name name) es ≡ Some i → without name es ≡ remove es i
without-position name es i d at = let first = position-Some (has_name name) es i d at in without_at_first name es i d
    first.0 first.1 first.2

without_none : (name : List ℕ) (es : List (Key × Value)) → ((k : ℕ) (d : Key × Value) → k < length es
    → has_name name (get_or es k d) ≡ false) → without name es ≡ es
unfolding without
without_none name [] fails = refl
without_none name (e ∷ es) fails =
    rw (fails 0 e (omega arith)) (ap (λ rest. e ∷ rest) (without_none name es
    (λ k d below. fails (suc k) d (omega arith))))

without-position_none : (name : List ℕ) (es : List (Key × Value)) → position (has_name name) es ≡ None
    → without name es ≡ es
without-position_none name es none = without_none name es (none_passes (has_name name) es none)

-- the entry at the index that was found in a slice, or none
pub found_entry : (name : List ℕ) (es shown : List (Key × Value)) (r : Option ℕ) (i : ℕ) (e : Key × Value) → shown ≡ es
    → r ≡ position (has_name name) shown → r ≡ Some i → e ≡ get_or shown i e → Some e ≡ entry_at name es
found_entry name es shown r i e same index found is =
    let at : position (has_name name) shown ≡ Some i = sym index ∙ found in
    subst (λ xs. Some e ≡ find (has_name name) xs) same (ap Some is ∙ sym (find-position (has_name name) shown i e at))

pub no_entry : (name : List ℕ) (es shown : List (Key × Value)) (r : Option ℕ) → shown ≡ es
    → r ≡ position (has_name name) shown → r ≡ None → None ≡ entry_at name es
no_entry name es shown r same index none =
    subst (λ xs. None ≡ find (has_name name) xs) same (sym (find-position_none (has_name name) shown
    (sym index ∙ none)))

-- the entry at the index that was found, which is taken out of the list
pub taken_entry : (name : List ℕ) (es shown inside : List (Key × Value)) (r : Option ℕ) (i : ℕ) (e : Key × Value)
    → shown ≡ es → inside ≡ es
    → r ≡ position (has_name name) shown → r ≡ Some i → e ≡ get_or inside i e → Some e ≡ entry_at name es
taken_entry name es shown inside r i e same opened index found is =
    found_entry name es es r i e refl (index ∙ ap (position (has_name name)) same) found
    (is ∙ ap (λ xs. get_or xs i e) opened)

pub left_entries : (name : List ℕ) (es shown inside left : List (Key × Value)) (r : Option ℕ) (i : ℕ) (d : Key × Value)
    → shown ≡ es → inside ≡ es
    → r ≡ position (has_name name) shown → r ≡ Some i → left ≡ remove inside i → left ≡ without name es
left_entries name es shown inside left r i d same opened index found rest =
    let at : position (has_name name) es ≡ Some i = sym (ap (position (has_name name)) same) ∙ sym index ∙ found in
    rest ∙ ap (λ xs. remove xs i) opened ∙ sym (without-position name es i d at)

pub all_left : (name : List ℕ) (es shown : List (Key × Value)) (r : Option ℕ) → shown ≡ es
    → r ≡ position (has_name name) shown → r ≡ None → es ≡ without name es
all_left name es shown r same index none =
    let at : position (has_name name) es ≡ None = sym (ap (position (has_name name)) same) ∙ sym index ∙ none in
    sym (without-position_none name es at)
