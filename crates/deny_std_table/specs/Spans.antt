-- Spans of a table, and their bytes.
use Rattle.std.specs.Prelude.{ℕ, List, take, drop}
use Rattle.deny_std_table.specs.declared.spans.TextSpan.{TextSpan}

-- the bytes of a span
abbrev pub contents : List ℕ → TextSpan → List ℕ
contents bytes span = take span.size (drop span.at bytes)
