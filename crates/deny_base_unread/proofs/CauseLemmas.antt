-- Causes of entries over a longer time: the entries of several calls have their causes between the start of the first
-- call and the end of the last. This is the sum over files and crates.
use Rattle.std.proofs.Common.{◌≡◌, ◌+◌, ◌≤◌, ℕ, Bool, true, false, not, cond, List}
use Rattle.std.proofs.Common.{[], ◌∷◌, ◌++◌, refl, ap, arith, inl, inr}
use Rattle.std.specs.Prelude.{count_by}
use Rattle.std.proofs.lemmas.List.Elements.{Contains-append_cases}
use Rattle.std.proofs.lemmas.List.Sums.{count_by-le-length, sum_by-append, sum_by-le-sum_by}
use Rattle.deny_base_lists.proofs.Members.{at_member, no_member}
use Rattle.deny_base_disk.specs.Count.{RoseBy}
use Rattle.deny_base_disk.specs.Disk.{Disk, FailedAt, IsLater}
use Rattle.deny_base_unread.proofs.BoundLemmas.{bound_wider}
use Rattle.deny_base_disk.proofs.PieceLemmas.{later_same}
use Rattle.deny_base_unread.proofs.Later.{failed_wider}
use Rattle.deny_base_unread.specs.Bound.{Folders, is_bound}
use Rattle.deny_base_unread.specs.Causes.{AreCaused, IsCaused}
use Rattle.deny_base.specs.Purpose.{call_for}
use Rattle.deny_base.specs.declared.unread.Unread.{Unread}

-- the number of entries that no bound explains
unexplained : Folders → Disk → Disk → List Unread → ℕ
unexplained folder old new us = count_by (λ u. not (is_bound folder old new u)) us

-- the count of an entry: 1 where no bound explains it
abbrev weight : Bool → ℕ
weight bound = cond (not bound) 1 0

fewer_left : (p q : Bool) → (p ≡ true → q ≡ true) → weight q ≤ weight p
fewer_left true true implied = omega arith
fewer_left true false implied = absurd (cc (implied refl))
fewer_left false true implied = omega arith
fewer_left false false implied = omega arith

-- in a longer time bounds explain no fewer
unexplained_wider : (folder : Folders) (a b c d : Disk) (us : List Unread) → IsLater a b → IsLater c d
    → unexplained folder a d us ≤ unexplained folder b c us
unfolding unexplained
unexplained_wider folder a b c d us before after =
    sum_by-le-sum_by (λ u. weight (is_bound folder a d u)) (λ u. weight (is_bound folder b c u)) us
    (λ u. fewer_left (is_bound folder b c u) (is_bound folder a d u) (bound_wider folder a b c d u before after))

rose_fewer : (m n before after : ℕ) → m ≤ n → RoseBy n before after → RoseBy m before after
rose_fewer m n before after fewer rose = omega (arith, fewer, rose)

cause_wider : (folder : Folders) (a b c d : Disk) (u : Unread) → IsLater a b → IsLater c d
    → IsCaused folder b c u → IsCaused folder a d u
cause_wider folder a b c d u before after (inl bound) = inl (bound_wider folder a b c d u before after bound)
cause_wider folder a b c d u before after (inr failed) =
    inr (failed_wider a b c d (call_for u.purpose) u.path before after failed)

-- causes in a part of the time are causes in all of it
pub caused_wider : (folder : Folders) (a b c d : Disk) (us : List Unread) → IsLater a b → IsLater c d
    → AreCaused folder b c us → AreCaused folder a d us
unfolding unexplained
caused_wider folder a b c d us before after caused = record {
  each = λ u within. cause_wider folder a b c d u before after (caused.each u within);
  few = (let few : RoseBy (unexplained folder b c us) b.faults c.faults = caused.few in
      let less : unexplained folder a d us ≤ unexplained folder b c us =
      unexplained_wider folder a b c d us before after in
      omega (arith, few, less, before.faults, after.faults));
}

pub caused_none : (folder : Folders) (old new : Disk) → IsLater old new → AreCaused folder old new []
caused_none folder old new later = record {
  each = λ u within. absurd (no_member u within);
  few = omega (arith, later.faults);
}

-- entries of two calls, one after the other
pub caused_then : (folder : Folders) (a b c : Disk) (us vs : List Unread) → IsLater a b → IsLater b c
    → AreCaused folder a b us → AreCaused folder b c vs → AreCaused folder a c (us ++ vs)
unfolding unexplained
caused_then folder a b c us vs before after first second =
    let these : AreCaused folder a c us = caused_wider folder a a b c us (later_same a) after first in
    let those : AreCaused folder a c vs = caused_wider folder a b c c vs before (later_same c) second in
    record {
      each = λ u within. elim (Contains-append_cases us vs u within) [
        | inl here ↦ these.each u here
        | inr there ↦ those.each u there
      ];
      few = (let m : unexplained folder a c us ≤ unexplained folder a b us =
          unexplained_wider folder a a b c us (later_same a) after in
          let n : unexplained folder a c vs ≤ unexplained folder b c vs =
          unexplained_wider folder a b c c vs before (later_same c) in
          let one : RoseBy (unexplained folder a b us) a.faults b.faults = first.few in
          let two : RoseBy (unexplained folder b c vs) b.faults c.faults = second.few in
          let sum : unexplained folder a c (us ++ vs) ≡ unexplained folder a c us + unexplained folder a c vs =
          sum_by-append (λ u. weight (is_bound folder a c u)) us vs in
          omega (arith, m, n, one, two, sum));
    }

-- one entry, by a call that failed
pub caused_by_call : (folder : Folders) (old new : Disk) (u : Unread)
    → FailedAt old new (call_for u.purpose) u.path → AreCaused folder old new (u ∷ [])
caused_by_call folder old new u failed = record {
  each = λ v within. at_member (IsCaused folder old new) (u ∷ []) v (inr failed, tt) within;
  few = rose_fewer (count_by (λ v. not (is_bound folder old new v)) (u ∷ [])) 1 old.faults new.faults
      (count_by-le-length (λ v. not (is_bound folder old new v)) (u ∷ [])) failed.faults;
}

-- one entry, by a bound
pub caused_by_bound : (folder : Folders) (old new : Disk) (u : Unread) → IsLater old new
    → is_bound folder old new u ≡ true → AreCaused folder old new (u ∷ [])
caused_by_bound folder old new u later bound = record {
  each = λ v within. at_member (IsCaused folder old new) (u ∷ []) v (inl bound, tt) within;
  few = (let none : weight (is_bound folder old new u) ≡ 0 = ap weight bound in
      omega (arith, none, later.faults));
}

-- one entry more, by a bound that the whole time alone reaches
pub caused_bounded : (folder : Folders) (start old new : Disk) (us : List Unread) (u : Unread)
    → IsLater old new → AreCaused folder start old us → is_bound folder start new u ≡ true
    → AreCaused folder start new (us ++ u ∷ [])
unfolding unexplained
caused_bounded folder start old new us u later caused bound =
    let these : AreCaused folder start new us =
    caused_wider folder start start old new us (later_same start) later caused in
    record {
      each = λ v within. elim (Contains-append_cases us (u ∷ []) v within) [
        | inl here ↦ these.each v here
        | inr there ↦ at_member (IsCaused folder start new) (u ∷ []) v (inl bound, tt) there
      ];
      few = (let few : RoseBy (unexplained folder start new us) start.faults new.faults = these.few in
          let none : weight (is_bound folder start new u) ≡ 0 = ap weight bound in
          let sum : unexplained folder start new (us ++ u ∷ [])
          ≡ unexplained folder start new us + unexplained folder start new (u ∷ []) =
          sum_by-append (λ u. weight (is_bound folder start new u)) us (u ∷ []) in
          omega (arith, few, none, sum));
    }
