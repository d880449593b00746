-- Lines are in the order of their crates.
use Rattle.std.proofs.Common.{◌≡◌, ◌+◌, ◌∙◌, ◌<◌, ◌++◌, List, [], ◌∷◌, Contains, drop, length, take, sym, ap, subst}
use Rattle.std.proofs.Common.{arith, append_assoc, length-append, inl, inr}
use Rattle.std.specs.List.{AllByRecursion}
use Rattle.std.specs.List.Sorted.{IsStrictlySortedBy}
use Rattle.std.specs.Ordering.{is_lt}
use Rattle.std.specs.declared.cmp.Ordering.TheVariants.{Less}
use Rattle.std.proofs.lemmas.Bool.{false≢true}
use Rattle.std.proofs.lemmas.List.Elements.{Contains-append_cases}
use Rattle.std.proofs.lemmas.List.Sorted.{Contains-permutation}
use Rattle.deny_base_lists.proofs.Members.{Contains-by_cases, at_member, there}
use Rattle.deny_base_lists.proofs.Orders.{not_above, not_below_itself}
use Rattle.deny_krates_lock.proofs.OrderLemmas.{lock_cmp-total, moved-in_lock_order}
use Rattle.deny_krates_lock.proofs.TextLemmas.{line_start-is, lock_lines-append, lock_lines-cons}
use Rattle.deny_krates_lock.proofs.WritingLemmas.{AreOwn, around, order_ascends, parted}
use Rattle.deny_krates_lock.specs.Line.{line_span, lock_line}
use Rattle.deny_krates_lock.specs.Order.{in_lock_order, lock_cmp}
use Rattle.deny_krates_lock.specs.Text.{LinesAscend, ended_line, line_start, lock_lines}
use Rattle.deny_spec.specs.Graph.{Crate}

-- the crates behind a crate are above it
above_seam : (before : List Crate) (d : Crate) (behind : List Crate)
    → IsStrictlySortedBy lock_cmp (before ++ d ∷ behind) → AllByRecursion (λ e. lock_cmp d e ≡ Less) behind
unfolding IsStrictlySortedBy
above_seam [] d behind up = up.0
above_seam (b ∷ before) d behind up = above_seam before d behind up.1

-- a crate that is below another is in front of it
holds_before : (before : List Crate) (c d : Crate) (behind : List Crate)
    → IsStrictlySortedBy lock_cmp (before ++ d ∷ behind) → Contains (before ++ d ∷ behind) c → lock_cmp c d ≡ Less
    → Contains before c
holds_before before c d behind up is below = elim (Contains-append_cases before (d ∷ behind) c is) [
  | inl here ↦ here
  | inr later ↦ Contains-by_cases d behind c later
      (λ same. absurd (not_below_itself lock_cmp lock_cmp-total c d (sym same) below))
      (λ after. let above : lock_cmp d c ≡ Less =
      at_member (λ e. lock_cmp d e ≡ Less) behind c (above_seam before d behind up) after in
      absurd (false≢true (sym (not_above lock_cmp lock_cmp-total c d below) ∙ ap is_lt above)))
]

-- the length of the line of a crate and of those between it and another
lines_long : (before between : List Crate) (c : Crate)
    → length (lock_lines before) + length (lock_line c) < length (lock_lines (before ++ c ∷ between))
lines_long before between c =
    let all : length (lock_lines (before ++ c ∷ between))
    ≡ length (lock_lines before) + (length (ended_line c) + length (lock_lines between)) =
    ap length (lock_lines-append before (c ∷ between))
    ∙ (length-append (lock_lines before) (lock_lines (c ∷ between))
    ∙ ap (λ n. length (lock_lines before) + n) (ap length (lock_lines-cons c between)
    ∙ length-append (ended_line c) (lock_lines between))) in
    omega (arith, all, length-append (lock_line c) (10 ∷ []))

pub lines-ascend : (crates : List Crate) → AreOwn crates → LinesAscend crates
unfolding line_span
lines-ascend crates own = λ c d one other below.
    let order : List Crate = in_lock_order crates in
    let up : IsStrictlySortedBy lock_cmp order = order_ascends crates own in
    let at = there order d (Contains-permutation crates order d (moved-in_lock_order crates) other) in
    let prefix : List Crate = take at.0 order in
    let behind : List Crate = drop (at.0 + 1) order in
    let split : order ≡ prefix ++ d ∷ behind = around crates own at.0 d at.1 in
    let first = there prefix c (holds_before prefix c d behind
    (subst (λ (cs : List Crate). IsStrictlySortedBy lock_cmp cs) split up)
    (subst (λ (cs : List Crate). Contains cs c) split
    (Contains-permutation crates order c (moved-in_lock_order crates) one)) below) in
    let before : List Crate = take first.0 prefix in
    let between : List Crate = drop (first.0 + 1) prefix in
    let parts : prefix ≡ before ++ c ∷ between = parted prefix first.0 c first.1 in
    let start_c : line_start crates c ≡ length (lock_lines before) =
    line_start-is crates before (between ++ d ∷ behind) c up
    (split ∙ (ap (λ cs. cs ++ d ∷ behind) parts ∙ append_assoc before (c ∷ between) (d ∷ behind))) in
    let start_d : line_start crates d ≡ length (lock_lines (before ++ c ∷ between)) =
    line_start-is crates prefix behind d up split ∙ ap (λ cs. length (lock_lines cs)) parts in
    omega (arith, start_c, start_d, lines_long before between c)
