-- Labels as JSON: their line and column, their message, and the text that they mark.
use Rattle.std.specs.Prelude.{ℕ, ◌+◌, ◌-◌, ◌==◌, ◌&&◌, nat_le, List, [], ◌∷◌, Option, Some, None, codes, drop, reverse}
use Rattle.std.specs.Prelude.{slice_get, take, if◌then◌else◌}
use Rattle.serde_json.specs.Data.{Data, string, number, unsigned, object, member, no_members}
use Rattle.deny_base.specs.Files.{is_boundary, location_in}
use Rattle.deny_base.specs.declared.files.File.{File}
use Rattle.deny_base.specs.declared.files.Location.{Location}
use Rattle.deny_base.specs.declared.label.Label.{Label}
use Rattle.deny_base.specs.declared.span.Span.{Span}

-- lines and columns are counted from 1. Every label of a report is in its file; one that is not gets 0, and the empty
-- text
abbrev pub shown_line : Option Location → ℕ
shown_line None = 0
shown_line (Some at) = at.line + 1

abbrev pub column_of : Option Location → ℕ
column_of None = 0
column_of (Some at) = at.column + 1

-- the text of a span, where its ends are character boundaries
unfoldable pub span_in : List ℕ → Span → List ℕ
span_in text span =
    if nat_le span.start span.end && (is_boundary text span.start && is_boundary text span.end) then take
    (span.end - span.start) (drop span.start text) else []

-- a text without the quotes at its start, at its end, and at both
abbrev pub without_start : List ℕ → List ℕ
without_start [] = []
without_start (byte ∷ bytes) = if byte == 34 then without_start bytes else byte ∷ bytes

abbrev pub without_end : List ℕ → List ℕ
without_end text = reverse (without_start (reverse text))

unfoldable pub trimmed : List ℕ → List ℕ
trimmed text = without_end (without_start text)

abbrev pub marked_in : Option File → Span → List ℕ
marked_in None span = []
marked_in (Some file) span = trimmed (span_in file.source span)

-- the text that a label marks, without the quotes at its ends
unfoldable pub marked : List File → Label → List ℕ
marked files label = marked_in (slice_get files label.file_id) label.span

unfoldable pub label_value : List File → Label → Data
label_value files label = object
    (member (codes "column") (number (unsigned (column_of (location_in files label.file_id label.span.start))))
    (member (codes "line") (number (unsigned (shown_line (location_in files label.file_id label.span.start))))
    (member (codes "message") (string label.message)
    (member (codes "span") (string (marked files label)) no_members))))
