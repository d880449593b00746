-- The pending folders after those of a list were added, and which paths are taken from a list.
use Rattle.std.proofs.Common.{◌≡◌, ◌&&◌, ◌+◌, ◌≤◌, ℕ, Bool, true, false, not, cond, List, [], ◌∷◌, fold, length, Option}
use Rattle.std.proofs.Common.{None, Some, refl, sym, ap, subst, arith, inl, inr}
use Rattle.std.specs.Prelude.{◌⊎◌, All, Contains, IsTrue}
use Rattle.std.specs.BTreeMap.Range.{IsLtBy}
use Rattle.std.specs.BTreeSet.{insert_key}
use Rattle.std.specs.Cmp.Lexicographic.{slice_cmp}
use Rattle.std.specs.List.{cons_option, filter_map}
use Rattle.std.specs.Ordering.{match_ordering, nat_cmp}
use Rattle.std.specs.declared.cmp.Ordering.TheVariants.{Equal, Greater, Less}
use Rattle.std.proofs.lemmas.Bool.{and_parts, not-true}
use Rattle.std.proofs.lemmas.List.Elements.{All-contains}
use Rattle.deny_base_lists.proofs.Members.{Contains-by_cases, Contains-cases, Contains-filter_map, Contains-first}
use Rattle.deny_base_lists.proofs.Members.{Contains-rest, from_filter_map, no_member}
use Rattle.deny_base_lists.proofs.Orders.{text_cmp-exact}
use Rattle.deny_base_disk.specs.Children.{AreListed, child, is_child_name}
use Rattle.deny_base_disk.specs.declared.disk.Entry.{Entry}
use Rattle.deny_build_walk.proofs.PathLemmas.{child_above}
use Rattle.deny_build_walk.specs.Walk.{is_left_out}
use Rattle.deny_build_walk.specs.private.Taking.{is_taken, path_taken, same}

-- ---- one path added to the pending ones

abbrev pub put : List (List ℕ) → List ℕ → List (List ℕ)
put = insert_key (slice_cmp nat_cmp)

from_put : (ks : List (List ℕ)) (k x : List ℕ) → Contains (put ks k) x → (k ≡ x) ⊎ Contains ks x
from_put [] k x is = Contains-cases k [] x is
from_put (y ∷ ys) k x is = elim (slice_cmp nat_cmp k y)
    as (λ o. Contains (match_ordering o (k ∷ y ∷ ys) (y ∷ ys) (y ∷ put ys k)) x → (k ≡ x) ⊎ Contains (y ∷ ys) x) [
      | Less ↦ λ here. Contains-cases k (y ∷ ys) x here
      | Equal ↦ λ here. inr here
      | Greater ↦ λ here. Contains-by_cases y (put ys k) x here
          (λ first. inr (subst (λ (z : List ℕ). Contains (y ∷ ys) z) first (Contains-first y ys)))
          (λ later. elim (from_put ys k x later) as (λ _. (k ≡ x) ⊎ Contains (y ∷ ys) x)
          [ inl one ↦ inl one | inr old ↦ inr (Contains-rest y ys x old) ])
    ] is

put_keeps : (ks : List (List ℕ)) (k x : List ℕ) → Contains ks x → Contains (put ks k) x
put_keeps [] k x is = absurd (no_member x is)
put_keeps (y ∷ ys) k x is = elim (slice_cmp nat_cmp k y)
    as (λ o. Contains (match_ordering o (k ∷ y ∷ ys) (y ∷ ys) (y ∷ put ys k)) x) [
      | Less ↦ Contains-rest k (y ∷ ys) x is
      | Equal ↦ is
      | Greater ↦ Contains-by_cases y ys x is
          (λ first. subst (λ (z : List ℕ). Contains (y ∷ put ys k) z) first (Contains-first y (put ys k)))
          (λ later. Contains-rest y (put ys k) x (put_keeps ys k x later))
    ]

put_has : (ks : List (List ℕ)) (k : List ℕ) → Contains (put ks k) k
put_has [] k = Contains-first k []
put_has (y ∷ ys) k = elim (slice_cmp nat_cmp k y)
    as (λ o. slice_cmp nat_cmp k y ≡ o → Contains (match_ordering o (k ∷ y ∷ ys) (y ∷ ys) (y ∷ put ys k)) k) [
      | Less ↦ λ _. Contains-first k (y ∷ ys)
      | Equal ↦ λ is. subst (λ (z : List ℕ). Contains (y ∷ ys) z) (sym (text_cmp-exact k y is)) (Contains-first y ys)
      | Greater ↦ λ _. Contains-rest y (put ys k) k (put_has ys k)
    ] refl

length_put : (ks : List (List ℕ)) (k : List ℕ) → length (put ks k) ≤ length ks + 1
length_put [] k = omega arith
length_put (y ∷ ys) k = elim (slice_cmp nat_cmp k y)
    as (λ o. length (match_ordering o (k ∷ y ∷ ys) (y ∷ ys) (y ∷ put ys k)) ≤ length (y ∷ ys) + 1) [
      | Less ↦ omega arith
      | Equal ↦ omega arith
      | Greater ↦ let later : length (put ys k) ≤ length ys + 1 = length_put ys k in omega (arith, later)
    ]

-- ---- many paths added

pub from_puts : (ks paths : List (List ℕ)) (x : List ℕ) → Contains (fold put ks paths) x
    → Contains ks x ⊎ Contains paths x
from_puts ks [] x is = inl is
from_puts ks (path ∷ paths) x is = elim (from_puts (put ks path) paths x is)
    as (λ _. Contains ks x ⊎ Contains (path ∷ paths) x) [
      | inl there ↦ elim (from_put ks path x there) as (λ _. Contains ks x ⊎ Contains (path ∷ paths) x) [
        | inl one ↦ inr (subst (λ (z : List ℕ). Contains (path ∷ paths) z) one (Contains-first path paths))
        | inr old ↦ inl old
      ]
      | inr later ↦ inr (Contains-rest path paths x later)
    ]

pub puts_keep : (ks paths : List (List ℕ)) (x : List ℕ) → Contains ks x → Contains (fold put ks paths) x
puts_keep ks [] x is = is
puts_keep ks (path ∷ paths) x is = puts_keep (put ks path) paths x (put_keeps ks path x is)

pub puts_have : (ks paths : List (List ℕ)) (x : List ℕ) → Contains paths x → Contains (fold put ks paths) x
puts_have ks [] x is = absurd (no_member x is)
puts_have ks (path ∷ paths) x is = Contains-by_cases path paths x is
    (λ first. puts_keep (put ks path) paths x
    (subst (λ (z : List ℕ). Contains (put ks path) z) first (put_has ks path)))
    (λ later. puts_have (put ks path) paths x later)

length_puts : (ks paths : List (List ℕ)) → length (fold put ks paths) ≤ length ks + length paths
length_puts ks [] = omega arith
length_puts ks (path ∷ paths) =
    let one : length (put ks path) ≤ length ks + 1 = length_put ks path in
    let others : length (fold put (put ks path) paths) ≤ length (put ks path) + length paths =
    length_puts (put ks path) paths in
    omega (arith, one, others)

-- ---- the paths taken from entries

pub length_given : (h : Entry → Option (List ℕ)) (entries : List Entry) → length (filter_map h entries) ≤ length entries
length_given h [] = omega arith
length_given h (entry ∷ entries) =
    let others : length (filter_map h entries) ≤ length entries = length_given h entries in
    elim (h entry) as (λ o. length (cons_option o (filter_map h entries)) ≤ length (entry ∷ entries)) [
      | None ↦ omega (arith, others)
      | Some path ↦ omega (arith, others)
    ]

-- at most as many folders are added as there are entries
pub length_pending : (ks : List (List ℕ)) (h : Entry → Option (List ℕ)) (entries : List Entry)
    → length (fold put ks (filter_map h entries)) ≤ length ks + length entries
length_pending ks h entries =
    let most : length (fold put ks (filter_map h entries)) ≤ length ks + length (filter_map h entries) =
    length_puts ks (filter_map h entries) in
    let few : length (filter_map h entries) ≤ length entries = length_given h entries in
    omega (arith, most, few)

pub record IsTakenOf (by_git : Bool) (root folder : List ℕ) (is_folder : Bool) (entries : List Entry) (path : List ℕ)
    : Type 0 where
  pub name : List ℕ
  pub member : Contains entries record { name = name; folder = is_folder }
  pub kept : is_left_out by_git root folder name ≡ false
  pub is : path ≡ child folder name

same_is : (a b : Bool) → same a b ≡ true → b ≡ a
same_is true true is = refl
same_is true false is = cc is
same_is false true is = cc is
same_is false false is = refl

some_path : (b : Bool) (p q : List ℕ) → cond b (Some p) None ≡ Some q → (b ≡ true) × (q ≡ p)
some_path true p q is = (refl, inside is)
  where
    inside : Some p ≡ Some q → q ≡ p
    inside e = sym (ap (λ (o : Option (List ℕ)). elim o [ None ↦ p | Some x ↦ x ]) e)
some_path false p q is = absurd (cc is)

pub from_taken : (by_git : Bool) (root folder : List ℕ) (is_folder : Bool) (entries : List Entry) (path : List ℕ)
    → Contains (filter_map (path_taken by_git root folder is_folder) entries) path
    → IsTakenOf by_git root folder is_folder entries path
unfolding is_taken
from_taken by_git root folder is_folder entries path there =
    let given = from_filter_map (path_taken by_git root folder is_folder) entries path there in
    let entry : Entry = given.from in
    let passes = some_path (is_taken by_git root folder is_folder entry) (child folder entry.name) path given.gives in
    let parts = and_parts (same is_folder entry.folder) (not (is_left_out by_git root folder entry.name)) passes.0 in
    record {
      name = entry.name;
      member = subst (λ (b : Bool). Contains entries record { name = entry.name; folder = b })
          (same_is is_folder entry.folder parts.0) given.member;
      kept = not-true (is_left_out by_git root folder entry.name) parts.1;
      is = passes.1;
    }

same_itself : (b : Bool) → same b b ≡ true
same_itself true = refl
same_itself false = refl

pub taken_there : (by_git : Bool) (root folder : List ℕ) (is_folder : Bool) (entries : List Entry) (name : List ℕ)
    → Contains entries record { name = name; folder = is_folder } → is_left_out by_git root folder name ≡ false
    → Contains (filter_map (path_taken by_git root folder is_folder) entries) (child folder name)
unfolding is_taken
taken_there by_git root folder is_folder entries name member kept =
    Contains-filter_map (path_taken by_git root folder is_folder) entries record { name = name; folder = is_folder }
    (child folder name) member
    (λ i. cond (same_itself is_folder i && not (kept i)) (Some (child folder name)) None)

-- ---- added folders come after the folder that was listed

abbrev pub IsLeast : List ℕ → List (List ℕ) → Type 0
IsLeast path pending = All (IsLtBy (slice_cmp nat_cmp) path) pending

good_name : (entries : List Entry) (name : List ℕ) (is_folder : Bool) → AreListed entries
    → Contains entries record { name = name; folder = is_folder } → is_child_name name ≡ true
good_name entries name is_folder listed member =
    All-contains (λ entry. IsTrue (is_child_name entry.name)) entries record { name = name; folder = is_folder }
    listed.names member

pub above_taken : (by_git : Bool) (root folder : List ℕ) (pending : List (List ℕ)) (entries : List Entry)
    (path : List ℕ) → AreListed entries → IsLeast folder pending
    → Contains (fold put pending (filter_map (path_taken by_git root folder true) entries)) path
    → slice_cmp nat_cmp folder path ≡ Less
above_taken by_git root folder pending entries path listed least there =
    elim (from_puts pending (filter_map (path_taken by_git root folder true) entries) path there)
    as (λ _. slice_cmp nat_cmp folder path ≡ Less) [
      | inl old ↦ All-contains (IsLtBy (slice_cmp nat_cmp) folder) pending path least old
      | inr new ↦
          let of = from_taken by_git root folder true entries path new in
          subst (λ (p : List ℕ). slice_cmp nat_cmp folder p ≡ Less) (sym of.is)
          (child_above folder of.name (good_name entries of.name true listed of.member))
    ]
