use Rattle.std.proofs.Common.{ℕ, ◌≡◌, length, true, false, get_or}
use Rattle.deny_globs.proofs.MarkedLemmas.{IsListedFrom}
use Rattle.deny_globs.proofs.marked.clear_marks.Given as goal

abbrev pub invariant-loop-state : goal.invariant-loop-state
invariant-loop-state l = record {
  listed : (i : ℕ) → get_or l.marks.items i false ≡ true → IsListedFrom l.state-index l.order i;
  room : length l.marks.items ≡ length l.fn.marks.items;
}
