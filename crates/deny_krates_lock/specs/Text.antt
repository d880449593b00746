-- The lock text of crates, and the spans of each crate in it.
use Rattle.std.specs.Prelude.{◌≡◌, ◌<◌, ◌≤◌, Contains, ℕ, ◌-◌, ◌++◌, List, [], ◌∷◌, drop, take, sum_by, if◌then◌else◌}
use Rattle.std.specs.List.{flat_map}
use Rattle.std.specs.Ordering.{is_lt}
use Rattle.std.specs.Str.{IsCharBoundary}
use Rattle.std.specs.declared.cmp.Ordering.TheVariants.{Less}
use Rattle.deny_base.specs.declared.span.Span.{Span}
use Rattle.deny_krates.specs.Bounds.{lock_line_length}
use Rattle.deny_krates_lock.specs.Line.{line_span, lock_line, source_shown}
use Rattle.deny_krates_lock.specs.Order.{in_lock_order, lock_cmp}
use Rattle.deny_krates_lock.specs.declared.line.LockSpan.{LockSpan}
use Rattle.deny_spec.specs.Graph.{Crate}

-- a newline ends each line
abbrev pub ended_line : Crate → List ℕ
ended_line c = lock_line c ++ 10 ∷ []

-- the lines of crates in this order
unfoldable pub lock_lines : List Crate → List ℕ
lock_lines cs = flat_map ended_line cs

unfoldable pub lock_text : List Crate → List ℕ
lock_text cs = lock_lines (in_lock_order cs)

-- the byte offset of a crate's line, which is behind the lines of the crates below it
unfoldable pub line_start : List Crate → Crate → ℕ
line_start cs c = sum_by (λ d. if is_lt (lock_cmp d c) then lock_line_length d else 0) cs

-- the spans of a crate in the lock text of these crates
abbrev pub lock_span_at : List Crate → Crate → LockSpan
lock_span_at cs c = line_span (line_start cs c) c

-- the text has this part at the span, whose ends are character boundaries
pub record IsPartAt (text : List ℕ) (span : Span) (part : List ℕ) : Type 0 where
  pub upward : span.start ≤ span.end
  pub starts : IsCharBoundary text span.start
  pub ends : IsCharBoundary text span.end
  pub is : take (span.end - span.start) (drop span.start text) ≡ part

-- the text has a crate's line and its source at these spans
pub record IsLineOf (text : List ℕ) (c : Crate) (span : LockSpan) : Type 0 where
  pub line : IsPartAt text span.total (lock_line c)
  pub source : IsPartAt text span.source (source_shown c)

-- of two crates the line of the lower ends before that of the other begins
abbrev pub LinesAscend : List Crate → Type 0
LinesAscend cs = (c d : Crate) → Contains cs c → Contains cs d → lock_cmp c d ≡ Less
    → (lock_span_at cs c).total.end < (lock_span_at cs d).total.start
