-- The paths below a folder: they come after the folder's in byte order, and lie in it.
use Rattle.std.proofs.Common.{nat_cmp, ◌≡◌, ◌∙◌, ◌||◌, ℕ, true, false, cond, List, [], ◌∷◌, ◌++◌, drop, length, refl}
use Rattle.std.proofs.Common.{sym, ap, subst, append_assoc, inl, inr}
use Rattle.std.specs.Prelude.{codes, nat_eq}
use Rattle.std.specs.Cmp.{nat_cmp_total, tied_itself}
use Rattle.std.specs.Cmp.Lexicographic.{slice_cmp}
use Rattle.std.specs.List.{ends_with, starts_with}
use Rattle.std.specs.Ordering.{ordering_then}
use Rattle.std.specs.Str.{bytes_eq}
use Rattle.std.specs.declared.cmp.Ordering.TheVariants.{Less}
use Rattle.std.proofs.lemmas.Bool.{or_cases}
use Rattle.std.proofs.lemmas.Bool.Decides.{Decides-eqb}
use Rattle.std.proofs.lemmas.Slice.Eq.{bytes_eq-Decides, starts_is}
use Rattle.deny_base_lists.proofs.Booleans.{or-true}
use Rattle.deny_base_disk.specs.Children.{child, prefix_of, is_child_name}
use Rattle.deny_base_unread.specs.Bound.{is_in}
use Rattle.deny_build_walk.specs.Walk.{IsFolderBy}
use Rattle.deny_build_walk.specs.Walk.IsFolderBy.{inside, itself}

-- ---- the path of a child comes after that of its folder

prefix_below : (xs ys : List ℕ) (y : ℕ) → slice_cmp nat_cmp xs (xs ++ y ∷ ys) ≡ Less
prefix_below [] ys y = refl
prefix_below (x ∷ xs) ys y =
    ap (λ o. ordering_then o (slice_cmp nat_cmp xs (xs ++ y ∷ ys))) (tied_itself nat_cmp_total x) ∙ prefix_below xs ys y

pub child_above : (folder name : List ℕ) → is_child_name name ≡ true
    → slice_cmp nat_cmp folder (child folder name) ≡ Less
unfolding prefix_of
child_above folder [] good = absurd (cc good)
child_above folder (n ∷ ns) good = elim (ends_with nat_eq folder (codes "/"))
    as (λ b. slice_cmp nat_cmp folder (cond b folder (folder ++ codes "/") ++ n ∷ ns) ≡ Less) [
      | true ↦ prefix_below folder ns n
      | false ↦ subst (λ path. slice_cmp nat_cmp folder path ≡ Less) (sym (append_assoc folder (codes "/") (n ∷ ns)))
          (prefix_below folder (n ∷ ns) 47)
    ]

-- ---- a folder that is reached from another lies in it

begins_more : (prefix path rest more : List ℕ) → path ≡ prefix ++ rest → starts_with nat_eq (path ++ more) prefix ≡ true
begins_more prefix path rest more is = (starts_is Decides-eqb (path ++ more) prefix _ refl).1 (rest ++ more)
    (ap (λ p. p ++ more) is ∙ append_assoc prefix rest more)

child_begins : (prefix folder name : List ℕ) → starts_with nat_eq folder prefix ≡ true
    → starts_with nat_eq (child folder name) prefix ≡ true
unfolding prefix_of
child_begins prefix folder name begins =
    let rest : List ℕ = drop (length prefix) folder in
    let is : folder ≡ prefix ++ rest = (starts_is Decides-eqb folder prefix _ refl).0 begins in
    elim (ends_with nat_eq folder (codes "/"))
    as (λ b. starts_with nat_eq (cond b folder (folder ++ codes "/") ++ name) prefix ≡ true) [
      | true ↦ begins_more prefix folder rest name is
      | false ↦ begins_more prefix (folder ++ codes "/") (rest ++ codes "/") name
          (ap (λ p. p ++ codes "/") is ∙ append_assoc prefix rest (codes "/"))
    ]

in_behind : (root path : List ℕ) → starts_with nat_eq path (prefix_of root) ≡ true → is_in root path ≡ true
in_behind root path begins = ap (λ b. bytes_eq path root || b) begins ∙ or-true (bytes_eq path root)

pub in_itself : (root : List ℕ) → is_in root root ≡ true
in_itself root = ap (λ b. b || starts_with nat_eq root (prefix_of root)) ((bytes_eq-Decides root root).1 refl)

-- the children of a folder that lies in the root are below it
pub child_below : (root folder name : List ℕ) → is_in root folder ≡ true
    → starts_with nat_eq (child folder name) (prefix_of root) ≡ true
child_below root folder name is =
    elim (or_cases (bytes_eq folder root) (starts_with nat_eq folder (prefix_of root)) is)
    as (λ _. starts_with nat_eq (child folder name) (prefix_of root) ≡ true) [
      | inl same ↦ subst (λ f. starts_with nat_eq (child f name) (prefix_of root) ≡ true)
          (sym ((bytes_eq-Decides folder root).0 same))
          ((starts_is Decides-eqb (child root name) (prefix_of root) _ refl).1 name refl)
      | inr below ↦ child_begins (prefix_of root) folder name below
    ]

pub child_in : (root folder name : List ℕ) → is_in root folder ≡ true → is_in root (child folder name) ≡ true
child_in root folder name is = in_behind root (child folder name) (child_below root folder name is)

pub folder_in : (Has : List ℕ → List ℕ → Type 0) (root path : List ℕ) → IsFolderBy Has root path
    → is_in root path ≡ true
folder_in Has root _ itself = in_itself root
folder_in Has root _ (inside folder name within has) = child_in root folder name (folder_in Has root folder within)

-- a relation that holds more entries gives more folders
pub folder_grows : (Has Holds : List ℕ → List ℕ → Type 0) (root path : List ℕ)
    → ((folder name : List ℕ) → Has folder name → Holds folder name) → IsFolderBy Has root path
    → IsFolderBy Holds root path
folder_grows Has Holds root _ more itself = itself
folder_grows Has Holds root _ more (inside folder name within has) =
    inside folder name (folder_grows Has Holds root folder more within) (more folder name has)
