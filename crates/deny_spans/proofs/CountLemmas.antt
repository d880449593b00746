-- Entries that are put in order, each once, keep their causes.
use Rattle.std.proofs.Common.{◌≡◌, ◌≤◌, ◌++◌, ◌∷◌, [], ℕ, List, arith, cond, inl, inr, refl, subst, sym}
use Rattle.std.specs.Cmp.{IsTotalOrder}
use Rattle.std.specs.List.Sorted.{IsStrictlySortedBy}
use Rattle.std.specs.Prelude.{Contains, not}
use Rattle.std.specs.declared.cmp.Ordering.{Ordering}
use Rattle.std.specs.declared.cmp.Ordering.TheVariants.{Less}
use Rattle.std.specs.List.{AllByRecursion, remove, sum_by}
use Rattle.std.proofs.lemmas.List.Sums.{sum_by-append}
use Rattle.std.proofs.lemmas.List.Sorted.{Contains-permutation, IsPermutation-remove, sum_by-IsPermutation}
use Rattle.deny_base_lists.specs.Ascending.{Lists}
use Rattle.deny_base_lists.proofs.Members.{Contains-cases, Contains-first, Contains-rest, at_member}
use Rattle.deny_base_lists.proofs.Orders.{not_below_itself}
use Rattle.deny_base_disk.specs.Count.{RoseBy}
use Rattle.deny_base_disk.specs.Disk.{Disk, IsLater}
use Rattle.deny_base_unread.proofs.AddedLemmas.{added_is}
use Rattle.deny_base_unread.proofs.CauseLemmas.{caused_then}
use Rattle.deny_base.proofs.UnreadEqual.{unread_cmp-total}
use Rattle.deny_base_unread.specs.Added.{added}
use Rattle.deny_base_unread.specs.Bound.{Folders, is_bound}
use Rattle.deny_base_unread.specs.Causes.{AreCaused}
use Rattle.deny_base.specs.Unread.{unread_cmp}
use Rattle.deny_base.specs.declared.unread.Unread.{Unread}

module _ {T : Type 0} {cmp : T → T → Ordering} (total : IsTotalOrder cmp) (weight : T → ℕ) where
  -- what is above x in a list with x stays when x is removed
  stays : (x : T) (xs ys : List T) → AllByRecursion (λ z. cmp x z ≡ Less) xs
      → ((z : T) → Contains (x ∷ xs) z → Contains ys z)
      → (at : Contains ys x) → (z : T) → Contains xs z → Contains (remove ys at.0) z
  stays x xs ys above there at z is =
      let moved = IsPermutation-remove ys at.0 x at.1 (sym at.2) in
      elim (Contains-cases x (remove ys at.0) z
      (Contains-permutation ys (x ∷ remove ys at.0) z moved (there z (Contains-rest x xs z is)))) [
        | inl same ↦ absurd (not_below_itself cmp total x x refl
            (subst (λ w. cmp x w ≡ Less) (sym same) (at_member (λ w. cmp x w ≡ Less) xs z above is)))
        | inr later ↦ later
      ]

  -- a sum over a list that ascends is at most that over one with all its members
  sum-ascending : (xs ys : List T) → IsStrictlySortedBy cmp xs → ((z : T) → Contains xs z → Contains ys z)
      → sum_by weight xs ≤ sum_by weight ys
  unfolding IsStrictlySortedBy
  sum-ascending [] ys up there = omega arith
  sum-ascending (x ∷ xs) ys up there =
      let at = there x (Contains-first x xs) in
      let less = sum-ascending xs (remove ys at.0) up.1 (stays x xs ys up.0 there at) in
      let moved = sum_by-IsPermutation weight ys (x ∷ remove ys at.0) (IsPermutation-remove ys at.0 x at.1
      (sym at.2)) in
      let first = sum_by-append weight (x ∷ []) xs in
      let removed = sum_by-append weight (x ∷ []) (remove ys at.0) in
      omega (arith, less, moved, first, removed)

pub caused_listed : (folder : Folders) (old new : Disk) (us vs : List Unread) → Lists unread_cmp (Contains us) vs
    → AreCaused folder old new us → AreCaused folder old new vs
caused_listed folder old new us vs listed caused =
    let weight : Unread → ℕ = λ (u : Unread). cond (not (is_bound folder old new u)) 1 0 in
    let fewer : sum_by weight vs ≤ sum_by weight us =
    sum-ascending unread_cmp-total weight vs us listed.ascending listed.sound in
    let few : RoseBy (sum_by weight us) old.faults new.faults = caused.few in
    record {
      each = λ u member. caused.each u (listed.sound u member);
      few = omega (arith, fewer, few);
    }

-- the causes of earlier entries, and of those that a call adds
pub caused_more : (folder : Folders) (a b c : Disk) (us vs more : List Unread) → vs ≡ us ++ more → IsLater a b
    → IsLater b c
    → AreCaused folder a b us → AreCaused folder b c (added us vs) → AreCaused folder a c vs
caused_more folder a b c us vs more is before after first second =
    let own : AreCaused folder b c more =
    subst (λ (ws : List Unread). AreCaused folder b c ws) (added_is us more vs is) second in
    subst (λ (ws : List Unread). AreCaused folder a c ws) (sym is)
    (caused_then folder a b c us more before after first own)
