-- The folders of a package, each once, together list at most as many entries as the package holds.
use Rattle.std.proofs.Common.{◌≡◌, ◌∙◌, ◌+◌, ◌≤◌, ℕ, true, false, cond, is_some, List, [], ◌∷◌, ◌++◌, length, Option}
use Rattle.std.proofs.Common.{None, Some, refl, sym, ap, subst, arith, inl, inr}
use Rattle.std.specs.Prelude.{◌⊎◌, Contains, filter, sum_by}
use Rattle.std.specs.Cmp.{Equal-is}
use Rattle.std.specs.Cmp.Lexicographic.{slice_cmp}
use Rattle.std.specs.FinMap as finite
use Rattle.std.specs.List.{filter_map}
use Rattle.std.specs.Ordering.{eq_by_cmp, nat_cmp}
use Rattle.std.proofs.lemmas.List.Elements.{Contains-append_cases, Contains-append_left, Contains-append_right}
use Rattle.std.proofs.lemmas.List.Sums.{sum_by-append}
use Rattle.deny_base_lists.proofs.Members.{Contains-by_cases, Contains-filter, Contains-first, Contains-rest}
use Rattle.deny_base_lists.proofs.Members.{any_passes}
use Rattle.deny_base_lists.proofs.Members.{no_member}
use Rattle.deny_base_lists.proofs.Orders.{text_cmp-exact}
use Rattle.deny_base_disk.specs.Children.{children, entry_behind, prefix_of}
use Rattle.deny_base_disk.specs.Disk.{Files, is_folder}
use Rattle.deny_base_disk.specs.declared.disk.Place.{Place}
use Rattle.deny_base_unread.specs.Bound.{entries_in, is_in}
use Rattle.deny_build_walk.specs.Walk.{AreApart}

-- ---- the sum over a part of a list

pub sum_first : (weight : List ℕ → ℕ) (x : List ℕ) (xs : List (List ℕ))
    → sum_by weight (x ∷ xs) ≡ weight x + sum_by weight xs
sum_first weight x xs =
    let both : sum_by weight (x ∷ xs) ≡ (0 + weight x) + sum_by weight xs = sum_by-append weight (x ∷ []) xs in
    omega (arith, both)

record IsSplit (xs : List (List ℕ)) (x : List ℕ) : Type 0 where
  prefix : List (List ℕ)
  rest : List (List ℕ)
  is : xs ≡ prefix ++ x ∷ rest

split_at : (xs : List (List ℕ)) (x : List ℕ) → Contains xs x → IsSplit xs x
split_at [] x is = absurd (no_member x is)
split_at (y ∷ ys) x is = Contains-by_cases y ys x is
    (λ here. record { prefix = []; rest = ys; is = ap (λ (z : List ℕ). z ∷ ys) here })
    (λ later. let at = split_at ys x later in
    record { prefix = y ∷ at.prefix; rest = at.rest; is = ap (λ zs. y ∷ zs) at.is })

-- another member is in the prefix or in the rest
beside : (prefix rest : List (List ℕ)) (x z : List ℕ) → (x ≡ z → ⊥) → Contains (prefix ++ x ∷ rest) z
    → Contains (prefix ++ rest) z
beside prefix rest x z other is = elim (Contains-append_cases prefix (x ∷ rest) z is) [
  | inl before ↦ Contains-append_left prefix rest z before
  | inr from ↦ Contains-by_cases x rest z from (λ same. absurd (other same))
      (λ behind. Contains-append_right prefix rest z behind)
]

-- each member of the first list is in the second, or adds nothing to the sum
abbrev IsPart : (List ℕ → ℕ) → List (List ℕ) → List (List ℕ) → Type 0
IsPart weight xs ys = (x : List ℕ) → Contains xs x → (weight x ≡ 0) ⊎ Contains ys x

sum_of_part : (weight : List ℕ → ℕ) (xs ys : List (List ℕ)) → AreApart xs → IsPart weight xs ys
    → sum_by weight xs ≤ sum_by weight ys
sum_of_part weight [] ys apart part = omega arith
sum_of_part weight (x ∷ xs) ys apart part = elim (part x (Contains-first x xs))
    as (λ _. sum_by weight (x ∷ xs) ≤ sum_by weight ys) [
      | inl nothing ↦
          let others : sum_by weight xs ≤ sum_by weight ys =
          sum_of_part weight xs ys apart.1 (λ z there. part z (Contains-rest x xs z there)) in
          omega (arith, nothing, others, sum_first weight x xs)
      | inr there ↦
          let at = split_at ys x there in
          let left : IsPart weight xs (at.prefix ++ at.rest) =
          λ z within. elim (part z (Contains-rest x xs z within))
          as (λ _. (weight z ≡ 0) ⊎ Contains (at.prefix ++ at.rest) z) [
            | inl nothing ↦ inl nothing
            | inr member ↦ inr (beside at.prefix at.rest x z
                (λ same. apart.0 (subst (λ (y : List ℕ). Contains xs y) (sym same) within))
                (subst (λ (zs : List (List ℕ)). Contains zs z) at.is member))
          ] in
          let others : sum_by weight xs ≤ sum_by weight (at.prefix ++ at.rest) =
          sum_of_part weight xs (at.prefix ++ at.rest) apart.1 left in
          let split : sum_by weight (at.prefix ++ at.rest) ≡ sum_by weight at.prefix + sum_by weight at.rest =
          sum_by-append weight at.prefix at.rest in
          let whole : sum_by weight ys ≡ sum_by weight at.prefix + (weight x + sum_by weight at.rest) =
          ap (sum_by weight) at.is ∙ (sum_by-append weight at.prefix (x ∷ at.rest)
          ∙ ap (λ (n : ℕ). sum_by weight at.prefix + n) (sum_first weight x at.rest)) in
          omega (arith, others, split, whole, sum_first weight x xs)
    ]

-- ---- the folders of a package

some_there : (place : Option Place) → is_folder place ≡ true → is_some place ≡ true
some_there None is = cc is
some_there (Some place) is = refl

key_there : (files : Files) (path : List ℕ) → is_folder (finite.get files path) ≡ true
    → Contains (finite.keys files) path
key_there files path is =
    let found = any_passes (eq_by_cmp (slice_cmp nat_cmp) path) (finite.keys files)
    (sym (finite.contains_key-keys files path) ∙ some_there (finite.get files path) is) in
    subst (λ (key : List ℕ). Contains (finite.keys files) key)
    (sym (text_cmp-exact path found.one ((Equal-is (slice_cmp nat_cmp path found.one)).0 found.passes))) found.member

-- a path below the root has no entries, or is one of the paths of the files
lists_or_none : (files : Files) (root path : List ℕ) → is_in root path ≡ true
    → (length (children files path) ≡ 0) ⊎ Contains (filter (is_in root) (finite.keys files)) path
unfolding children
lists_or_none files root path within = elim (is_folder (finite.get files path))
    as (λ b. is_folder (finite.get files path) ≡ b
    → (length (cond b (filter_map (entry_behind (prefix_of path)) (finite.entries files)) []) ≡ 0)
    ⊎ Contains (filter (is_in root) (finite.keys files)) path) [
      | true ↦ λ is. inr (Contains-filter (is_in root) (finite.keys files) path (key_there files path is) within)
      | false ↦ λ is. inl refl
    ] refl

pub counted_within : (files : Files) (root : List ℕ) (paths : List (List ℕ)) → AreApart paths
    → ((path : List ℕ) → Contains paths path → is_in root path ≡ true)
    → sum_by (λ path. length (children files path)) paths ≤ entries_in files root
unfolding entries_in
counted_within files root paths apart within =
    sum_of_part (λ path. length (children files path)) paths (filter (is_in root) (finite.keys files)) apart
    (λ path there. lists_or_none files root path (within path there))
