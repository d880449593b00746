-- Spans that lie in the bytes of a table.
use Rattle.std.specs.Prelude.{◌≡◌, ℕ, ◌+◌, ◌≤◌, List, Some, length, IsUtf8}
use Rattle.deny_std_table.specs.declared.spans.TextSpan.{TextSpan}
use Rattle.deny_std_table.specs.declared.spans.ApiSpans.{ApiSpans}
use Rattle.deny_std_table.specs.declared.spans.ReplacementSpans.{ReplacementSpans}
use Rattle.deny_std_table.specs.declared.spans.ItemSpans.{ItemSpans}
use Rattle.deny_std_table.specs.declared.spans.ItemSpans.TheVariants.{Stable, Unstable, Unavailable}
use Rattle.deny_std_table.specs.Spans.{contents}

-- The span lies in the bytes, and its bytes are UTF-8.
pub record IsTextIn (bytes : List ℕ) (span : TextSpan) : Type 0 where
  pub inside : span.at + span.size ≤ length bytes
  pub utf8 : IsUtf8 (contents bytes span)

-- The texts of an API lie in the bytes.
pub record IsApiIn (bytes : List ℕ) (spans : ApiSpans) : Type 0 where
  pub name : IsTextIn bytes spans.name
  pub url : IsTextIn bytes spans.url

-- The texts of a replacement lie in the bytes.
pub record IsReplacementIn (bytes : List ℕ) (spans : ReplacementSpans) : Type 0 where
  pub krate : IsApiIn bytes spans.krate
  pub std : IsApiIn bytes spans.std
  pub note : (t : TextSpan) → spans.note ≡ Some t → IsTextIn bytes t

-- the texts of an item lie in the bytes
abbrev pub IsItemIn : List ℕ → ItemSpans → Type 0
IsItemIn bytes (Stable replacement minor) = IsReplacementIn bytes replacement
IsItemIn bytes (Unstable replacement) = IsReplacementIn bytes replacement
IsItemIn bytes (Unavailable api) = IsApiIn bytes api
