-- The order of paths by their components.
use Rattle.std.proofs.Common.{◌≡◌, ◌∙◌, ◌+◌, ◌++◌, ◌<◌, [], ◌∷◌, ℕ, Ordering, List, Some, ap, arith, drop, length}
use Rattle.std.proofs.Common.{false, map, nat_cmp, refl, slice_index_or, subst, suc, sym, take, true, zero}
use Rattle.std.specs.Prelude.{◌&&◌, Contains, min, nat_eq}
use Rattle.std.specs.Cmp.{IsTotalOrder, nat_cmp_is, nat_cmp_total, on_total}
use Rattle.std.specs.Cmp.Lexicographic.{lists_total, pointwise}
use Rattle.std.specs.List.{AllByRecursion}
use Rattle.std.specs.List.Sorted.{IsStrictlySortedBy}
use Rattle.std.specs.declared.cmp.Ordering.TheVariants.{Less, Equal, Greater}
use Rattle.std.specs.FinMap.{IsAntisymmetric, nat_cmp-IsAntisymmetric, slice_cmp-IsAntisymmetric}
use Rattle.std.specs.Ordering.{is_eq, ordering_then}
use Rattle.std.proofs.lemmas.Bool.{eqb-true}
use Rattle.std.proofs.lemmas.List.{take-append-drop}
use Rattle.deny_spec.specs.Paths.{path_cmp, rank}
use Rattle.deny_base_lists.proofs.Members.{Contains-from_map, contains_map}
use Rattle.deny_base_lists.proofs.Orders.{slice_cmp-append}
use Rattle.deny_base_lists.specs.Ascending.{Lists}
use Rattle.deny_base_disk.proofs.ChildrenLemmas.{prefix_found}
use Rattle.deny_base_disk.specs.Children.{text_behind}
use Rattle.deny_build_scan.specs.declared.order.FilePath.{FilePath}
use Rattle.deny_build_scan.specs.private.Order.{file_cmp}

pub path_total : IsTotalOrder path_cmp
path_total = lists_total (on_total rank nat_cmp_total)

-- a byte is determined by its rank
rank_once : (x y : ℕ) → rank x ≡ rank y → x ≡ y
rank_once x y same = grind arith

cmp_then : (a b : List ℕ) (index : ℕ) → index < length a → index < length b
    → path_cmp (drop index a) (drop index b)
    ≡ ordering_then (nat_cmp (rank (slice_index_or a index 0)) (rank (slice_index_or b index 0)))
    (path_cmp (drop (suc index) a) (drop (suc index) b))
cmp_then [] b index in_a in_b = absurd (omega arith)
cmp_then (x ∷ xs) [] index in_a in_b = absurd (omega arith)
cmp_then (x ∷ xs) (y ∷ ys) zero in_a in_b = refl
cmp_then (x ∷ xs) (y ∷ ys) (suc index) in_a in_b = cmp_then xs ys index (omega arith) (omega arith)

-- where the bytes at an index are equal, the next ones decide
pub cmp_on : (a b : List ℕ) (index : ℕ) → index < length a → index < length b
    → slice_index_or a index 0 ≡ slice_index_or b index 0
    → path_cmp (drop index a) (drop index b) ≡ path_cmp (drop (index + 1) a) (drop (index + 1) b)
cmp_on a b index in_a in_b same =
    let next : suc index ≡ index + 1 = omega arith in
    cmp_then a b index in_a in_b
    ∙ (ap (λ (o : Ordering). ordering_then o (path_cmp (drop (suc index) a) (drop (suc index) b)))
    (sym (nat_cmp_is (rank (slice_index_or a index 0)) (rank (slice_index_or b index 0)) Equal (ap rank same)))
    ∙ ap (λ (place : ℕ). path_cmp (drop place a) (drop place b)) next)

first_decides : (x y : ℕ) (rest : Ordering) → (x ≡ y → ⊥)
    → ordering_then (nat_cmp (rank x) (rank y)) rest ≡ nat_cmp (rank x) (rank y)
first_decides x y rest other = elim (nat_cmp (rank x) (rank y)) as (λ o. nat_cmp (rank x) (rank y) ≡ o
    → ordering_then o rest ≡ o) [
      | Less ↦ λ _. refl
      | Equal ↦ λ same. absurd (other (rank_once x y (nat_cmp-IsAntisymmetric (rank x) (rank y) same)))
      | Greater ↦ λ _. refl
    ] refl

-- where the bytes at an index differ, they decide
pub cmp_here : (a b : List ℕ) (index : ℕ) → index < length a → index < length b
    → (slice_index_or a index 0 ≡ slice_index_or b index 0 → ⊥)
    → path_cmp (drop index a) (drop index b)
    ≡ nat_cmp (rank (slice_index_or a index 0)) (rank (slice_index_or b index 0))
cmp_here a b index in_a in_b other =
    cmp_then a b index in_a in_b ∙ first_decides (slice_index_or a index 0) (slice_index_or b index 0) _ other

cmp_longer : (m n : ℕ) → nat_cmp m n ≡ nat_cmp (suc m) (suc n)
cmp_longer m n = grind arith

-- at the end of the shorter one, the lengths decide
pub cmp_end : (a b : List ℕ) (index : ℕ) → index ≡ min (length a) (length b)
    → path_cmp (drop index a) (drop index b) ≡ nat_cmp (length a) (length b)
cmp_end [] [] zero is = refl
cmp_end [] [] (suc index) is = absurd (omega (arith, is))
cmp_end [] (y ∷ ys) zero is = nat_cmp_is 0 (suc (length ys)) Less (omega arith)
cmp_end [] (y ∷ ys) (suc index) is = absurd (omega (arith, is))
cmp_end (x ∷ xs) [] zero is = nat_cmp_is (suc (length xs)) 0 Greater (omega arith)
cmp_end (x ∷ xs) [] (suc index) is = absurd (omega (arith, is))
cmp_end (x ∷ xs) (y ∷ ys) zero is = absurd (omega (arith, is))
cmp_end (x ∷ xs) (y ∷ ys) (suc index) is =
    cmp_end xs ys index (omega (arith, is)) ∙ cmp_longer (length xs) (length ys)

-- where the first pieces of two paths are equal, the rests decide
pub behind_same : (piece a b rest other : List ℕ) (at : ℕ) → piece ≡ take at a → rest ≡ drop at a
    → Some other ≡ text_behind piece b → path_cmp a b ≡ path_cmp rest other
behind_same piece a b rest other at is_piece is_rest found =
    let whole : a ≡ piece ++ rest = sym (ap (λ p. p ++ rest) is_piece ∙ ap (λ r. take at a ++ r) is_rest
    ∙ take-append-drop at a) in
    ap (λ p. path_cmp p b) whole ∙ ap (λ q. path_cmp (piece ++ rest) q) (prefix_found piece b other found)
    ∙ slice_cmp-append (on_total rank nat_cmp_total) piece rest other

other_bytes : (x y : ℕ) → nat_eq x y ≡ false → x ≡ y → ⊥
other_bytes x y other is = grind (arith, other, is)

unequal : (o : Ordering) → (o ≡ Equal → ⊥) → false ≡ is_eq o
unequal Less other = refl
unequal Equal other = absurd (other refl)
unequal Greater other = refl

-- paths compare as equal exactly where they are equal
pub same_paths : (a b : List ℕ) → pointwise nat_eq a b ≡ is_eq (path_cmp a b)
same_paths [] [] = refl
same_paths [] (y ∷ ys) = refl
same_paths (x ∷ xs) [] = refl
same_paths (x ∷ xs) (y ∷ ys) = elim (nat_eq x y) as (λ b. nat_eq x y ≡ b
    → (b && pointwise nat_eq xs ys) ≡ is_eq (ordering_then (nat_cmp (rank x) (rank y)) (path_cmp xs ys))) [
      | true ↦ λ same. same_paths xs ys ∙ ap (λ (o : Ordering). is_eq (ordering_then o (path_cmp xs ys)))
          (nat_cmp_is (rank x) (rank y) Equal (ap rank (eqb-true x y same)))
      | false ↦ λ other. unequal (nat_cmp (rank x) (rank y))
          (λ tie. other_bytes x y other (rank_once x y (nat_cmp-IsAntisymmetric (rank x) (rank y) tie)))
          ∙ ap is_eq (sym (first_decides x y (path_cmp xs ys) (other_bytes x y other)))
    ] refl

path_cmp-exact : IsAntisymmetric path_cmp
path_cmp-exact = slice_cmp-IsAntisymmetric (λ x y e. rank_once x y (nat_cmp-IsAntisymmetric (rank x) (rank y) e))

pub file_cmp-exact : IsAntisymmetric file_cmp
file_cmp-exact x y e =
    let same : x.path ≡ y.path = path_cmp-exact x.path y.path e in
    λ i. record { path = same i }

above : (file : FilePath) (files : List FilePath) → AllByRecursion (λ other. file_cmp file other ≡ Less) files
    → AllByRecursion (λ other. path_cmp file.path other ≡ Less) (map (λ (f : FilePath). f.path) files)
above file [] all = tt
above file (other ∷ others) all = (all.0, above file others all.1)

sorted_paths : (files : List FilePath) → IsStrictlySortedBy file_cmp files
    → IsStrictlySortedBy path_cmp (map (λ (f : FilePath). f.path) files)
unfolding IsStrictlySortedBy
sorted_paths [] up = tt
sorted_paths (file ∷ files) up = (above file files up.0, sorted_paths files up.1)

-- a sorted list of files is the sorted list of their paths
pub paths_listed : (old new : List FilePath) (paths : List (List ℕ)) → map (λ (file : FilePath). file.path) old ≡ paths
    → Lists file_cmp (Contains old) new → Lists path_cmp (Contains paths) (map (λ (file : FilePath). file.path) new)
paths_listed old new paths are all = record {
  ascending = sorted_paths new all.ascending;
  whole = λ path there.
      let one = Contains-from_map (λ (file : FilePath). file.path) old path
      (subst (λ (ps : List (List ℕ)). Contains ps path) (sym are) there) in
      subst (λ (p : List ℕ). Contains (map (λ (file : FilePath). file.path) new) p) one.is
      (contains_map (λ (file : FilePath). file.path) new one.from (all.whole one.from one.member));
  sound = λ path there.
      let one = Contains-from_map (λ (file : FilePath). file.path) new path there in
      subst (λ (ps : List (List ℕ)). Contains ps path) are
      (subst (λ (p : List ℕ). Contains (map (λ (file : FilePath). file.path) old) p) one.is
      (contains_map (λ (file : FilePath). file.path) old one.from (all.sound one.from one.member)));
}
