-- The names of a table that was read, by their number.
use Rattle.std.specs.Prelude.{◌≡◌, ℕ, ◌+◌, ◌<◌, ◌≤◌, List, length}
use Rattle.std.specs.Cmp.Lexicographic.{slice_cmp}
use Rattle.std.specs.Ordering.{nat_cmp}
use Rattle.std.specs.declared.cmp.Ordering.TheVariants.{Less}
use Rattle.deny_std_table.specs.declared.spans.TextSpan.{TextSpan}
use Rattle.deny_std_table.specs.Spans.{contents}
use Rattle.deny_std_table.specs.Region.{bounds, text_span}
use Rattle.deny_std_table.specs.Head.{start_of, HasOffsets}

-- the span of an entry's name
abbrev pub name_span : ℕ → List ℕ → ℕ → TextSpan
name_span width bytes i = text_span (bounds width bytes 0) (start_of bytes i)

-- the bytes of an entry's name
unfoldable pub name_at : ℕ → List ℕ → ℕ → List ℕ
name_at width bytes i = contents bytes (name_span width bytes i)

-- All names lie in the bytes, and ascend.
pub record HasNames (width : ℕ) (bytes : List ℕ) (count : ℕ) : Type 0 where
  pub offsets : HasOffsets bytes count
  pub inside : (i : ℕ) → i < count → (name_span width bytes i).at + (name_span width bytes i).size ≤ length bytes
  pub rising : (i : ℕ) → i + 1 < count → slice_cmp nat_cmp (name_at width bytes i) (name_at width bytes (i + 1)) ≡ Less
