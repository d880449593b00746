-- The lock text, line by line: how long it is, and where a crate's line begins.
use Rattle.std.proofs.Common.{◌≡◌, ◌+◌, ◌∙◌, ◌≤◌, ◌++◌, ℕ, List, [], ◌∷◌, cond, length, refl, sym, ap, subst, arith}
use Rattle.std.proofs.Common.{length-append}
use Rattle.std.specs.List.{AllByRecursion, sum_by}
use Rattle.std.specs.List.Sorted.{IsStrictlySortedBy}
use Rattle.std.specs.Ordering.{is_lt}
use Rattle.std.specs.declared.cmp.Ordering.TheVariants.{Less}
use Rattle.std.proofs.Math.Path.{fun_ext}
use Rattle.std.proofs.lemmas.Bool.{false_from_ne_true}
use Rattle.std.proofs.lemmas.Grind.{flat_map-append}
use Rattle.std.proofs.lemmas.List.Concat.{length-flat_map}
use Rattle.std.proofs.lemmas.List.Sorted.{sum_by-IsPermutation}
use Rattle.std.proofs.lemmas.List.Sums.{sum_by-cons}
use Rattle.deny_base_lists.proofs.Orders.{not_above, not_below_itself, less_from_is_lt}
use Rattle.deny_krates.specs.Bounds.{lock_length, lock_line_length}
use Rattle.deny_krates_lock.proofs.LineLemmas.{length-lock_line}
use Rattle.deny_krates_lock.proofs.OrderLemmas.{lock_cmp-total, moved-in_lock_order}
use Rattle.deny_krates_lock.specs.Line.{lock_line}
use Rattle.deny_krates_lock.specs.Order.{in_lock_order, lock_cmp}
use Rattle.deny_krates_lock.specs.Text.{ended_line, line_start, lock_lines, lock_text}
use Rattle.deny_spec.specs.Graph.{Crate}

-- ---- lengths

length-ended_line : (c : Crate) → length (ended_line c) ≡ lock_line_length c
length-ended_line c = length-append (lock_line c) (10 ∷ []) ∙ length-lock_line c

length-lock_lines : (cs : List Crate) → length (lock_lines cs) ≡ sum_by lock_line_length cs
unfolding lock_lines
length-lock_lines cs =
    length-flat_map ended_line cs ∙ ap (λ (size : Crate → ℕ). sum_by size cs) (fun_ext length-ended_line)

sum-lock_length : (cs : List Crate) → sum_by lock_line_length cs ≡ lock_length cs
sum-lock_length [] = refl
sum-lock_length (c ∷ cs) =
    sum_by-cons lock_line_length c cs ∙ ap (λ n. lock_line_length c + n) (sum-lock_length cs)

pub length-lock_text : (cs : List Crate) → length (lock_text cs) ≡ lock_length cs
unfolding lock_text
length-lock_text cs =
    length-lock_lines (in_lock_order cs)
    ∙ (sum_by-IsPermutation lock_line_length cs (in_lock_order cs) (moved-in_lock_order cs) ∙ sum-lock_length cs)

-- ---- lines in front and behind

pub lock_lines-append : (before behind : List Crate)
    → lock_lines (before ++ behind) ≡ lock_lines before ++ lock_lines behind
unfolding lock_lines
lock_lines-append before behind = flat_map-append ended_line before behind

pub lock_lines-cons : (c : Crate) (behind : List Crate) → lock_lines (c ∷ behind) ≡ ended_line c ++ lock_lines behind
unfolding lock_lines
lock_lines-cons c behind = refl

-- there is room for a line among the lines of all
pub room_for : (cs before behind : List Crate) (c : Crate) → in_lock_order cs ≡ before ++ c ∷ behind
    → length (lock_lines before) + lock_line_length c ≤ lock_length cs
unfolding lock_text
room_for cs before behind c order =
    let whole : length (lock_lines (in_lock_order cs)) ≡ lock_length cs = length-lock_text cs in
    let parts : length (lock_lines (in_lock_order cs))
    ≡ length (lock_lines before) + (length (ended_line c) + length (lock_lines behind)) =
    ap (λ ds. length (lock_lines ds)) order
    ∙ (ap length (lock_lines-append before (c ∷ behind))
    ∙ (length-append (lock_lines before) (lock_lines (c ∷ behind))
    ∙ ap (λ n. length (lock_lines before) + n) (ap length (lock_lines-cons c behind)
    ∙ length-append (ended_line c) (lock_lines behind)))) in
    omega (arith, whole, parts, length-ended_line c)

-- ---- where a line begins

-- the bytes that a crate's line takes in front of another's
abbrev in_front : Crate → Crate → ℕ
in_front c d = cond (is_lt (lock_cmp d c)) (lock_line_length d) 0

counts : (c d : Crate) → lock_cmp d c ≡ Less → in_front c d ≡ lock_line_length d
counts c d below = ap (λ o. cond (is_lt o) (lock_line_length d) 0) below

counts_nothing : (c d : Crate) → lock_cmp c d ≡ Less → in_front c d ≡ 0
counts_nothing c d below =
    ap (λ b. cond b (lock_line_length d) 0) (not_above lock_cmp lock_cmp-total c d below)

not_itself : (c : Crate) → in_front c c ≡ 0
not_itself c = ap (λ b. cond b (lock_line_length c) 0) (false_from_ne_true (is_lt (lock_cmp c c))
    (λ e. not_below_itself lock_cmp lock_cmp-total c c refl (less_from_is_lt (lock_cmp c c) e)))

none_behind : (c : Crate) (behind : List Crate) → AllByRecursion (λ d. lock_cmp c d ≡ Less) behind
    → sum_by (in_front c) behind ≡ 0
none_behind c [] above = refl
none_behind c (d ∷ behind) above =
    sum_by-cons (in_front c) d behind
    ∙ (λ i. counts_nothing c d above.0 i + none_behind c behind above.1 i)

at_seam : (P : Crate → Type 0) (before : List Crate) (c : Crate) (behind : List Crate)
    → AllByRecursion P (before ++ c ∷ behind) → P c
at_seam P [] c behind all = all.0
at_seam P (b ∷ before) c behind all = at_seam P before c behind all.1

all_before : (c : Crate) (before behind : List Crate) → IsStrictlySortedBy lock_cmp (before ++ c ∷ behind)
    → sum_by (in_front c) (before ++ c ∷ behind) ≡ sum_by lock_line_length before
unfolding IsStrictlySortedBy
all_before c [] behind up =
    sum_by-cons (in_front c) c behind ∙ (λ i. not_itself c i + none_behind c behind up.0 i)
all_before c (b ∷ before) behind up =
    sum_by-cons (in_front c) b (before ++ c ∷ behind)
    ∙ ((λ i. counts c b (at_seam (λ d. lock_cmp b d ≡ Less) before c behind up.0) i + all_before c before behind up.1 i)
    ∙ sym (sum_by-cons lock_line_length b before))

-- a crate's line begins behind the lines of the crates in front of it
pub line_start-is : (cs before behind : List Crate) (c : Crate) → IsStrictlySortedBy lock_cmp (in_lock_order cs)
    → in_lock_order cs ≡ before ++ c ∷ behind → line_start cs c ≡ length (lock_lines before)
unfolding line_start
line_start-is cs before behind c up order =
    sym (sum_by-IsPermutation (in_front c) cs (in_lock_order cs) (moved-in_lock_order cs))
    ∙ (ap (λ ds. sum_by (in_front c) ds) order
    ∙ (all_before c before behind (subst (λ (ds : List Crate). IsStrictlySortedBy lock_cmp ds) order up)
    ∙ sym (length-lock_lines before)))
