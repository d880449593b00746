-- The message of a duplicate.
use Rattle.std.specs.Prelude.{ℕ, ◌++◌, ◌∷◌, false, List, [], Option, None, Some, map, length, option_and_then, codes}
use Rattle.std.specs.Prelude.{slice_get}
use Rattle.std.specs.Fmt.{decimal}
use Rattle.std.specs.List.{last_or}
use Rattle.std.specs.Option.{option_map_or}
use Rattle.deny_base.specs.Level.{severity_of}
use Rattle.deny_base.specs.declared.key.Key.{Key}
use Rattle.deny_base.specs.declared.label.Label.{Label}
use Rattle.deny_base.specs.declared.span.Span.{Span}
use Rattle.deny_krates_lock.specs.Text.{lock_span_at}
use Rattle.deny_spec.specs.Graph.{Crate, Graph}
use Rattle.deny_spec.specs.Policy.{Policy}
use Rattle.deny_spec.specs.DiagParts.{crate_at, crate_name_at, crates_at, node_of, primary}
use Rattle.deny_spec.specs.Duplicates.{duplicate_level}
use Rattle.deny_spec_report.specs.declared.message.Message.{Message}

-- the lines of the lock text from that of one crate to that of another, without the last newline
unfoldable pub lock_lines : Graph → Crate → Crate → Span
lock_lines g first other = record {
  start = (lock_span_at g.crates first).total.start;
  end = (lock_span_at g.crates other).total.end;
}

-- a label at the lock lines from one crate to another, where both crates are there
unfoldable pub lock_label : Graph → ℕ → Option Crate → Option Crate → List Label
lock_label g lock (Some first) (Some other) = primary lock (lock_lines g first other) (codes "lock entries") ∷ []
lock_label g lock (Some first) None = []
lock_label g lock None other = []

-- the label of a duplicate, from its first crate to its last: the lock text has the crates in the key's order
unfoldable pub lock_labels : Graph → ℕ → List ℕ → List Label
lock_labels g lock places = lock_label g lock (option_and_then (crate_at g) (slice_get places 0)) (option_and_then
    (crate_at g) (last_or None places))

-- the nodes are the crates of the duplicate; it has no labels where the lock text is no file
unfoldable pub duplicate_diag : Policy → Graph → Option ℕ → Key → Message
duplicate_diag p g lock key = record {
  severity = severity_of (duplicate_level p (crates_at g key.places));
  message = codes "found " ++ (decimal (length key.places)
      ++ (codes " duplicate entries for crate '" ++ (crate_name_at g key.place ++ codes "'")));
  labels = option_map_or (λ file. lock_labels g file key.places) lock [];
  notes = [];
  nodes = map node_of (crates_at g key.places);
  with_features = false;
  krate = None;
}
