-- The line of a crate in a lock text: its name, its version and its source, with a blank between them.
use Rattle.std.specs.Prelude.{ℕ, ◌+◌, ◌++◌, List, codes, length, unwrap_or}
use Rattle.semver.specs.Identifiers.{parts_text}
use Rattle.deny_krates_lock.specs.declared.line.LockSpan.{LockSpan}
use Rattle.deny_spec.specs.Crates.{folder}
use Rattle.deny_spec.specs.Graph.{Crate}

-- the source as it is written, or the folder of a crate without one
abbrev pub source_shown : Crate → List ℕ
source_shown c = unwrap_or c.source_text (folder c)

abbrev pub before_source : Crate → List ℕ
before_source c = c.name ++ (codes " " ++ (parts_text c.version ++ codes " "))

abbrev pub lock_line : Crate → List ℕ
lock_line c = before_source c ++ source_shown c

-- the spans of a crate whose line begins at this byte offset
unfoldable pub line_span : ℕ → Crate → LockSpan
line_span start c = record {
  total = record { start = start; end = start + length (lock_line c) };
  source = record { start = start + length (before_source c); end = start + length (lock_line c) };
}
