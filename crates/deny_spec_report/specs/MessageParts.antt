-- The parts of messages: the labels of an entry by its span, and messages without notes.
use Rattle.std.specs.Prelude.{ℕ, false, List, [], Option, None}
use Rattle.std.specs.Option.{option_map_or}
use Rattle.deny_base.specs.declared.label.Label.{Label}
use Rattle.deny_base.specs.declared.level.Severity.{Severity}
use Rattle.deny_base.specs.declared.level.Severity.TheVariants as severity
use Rattle.deny_base.specs.declared.span.Kid.{Kid}
use Rattle.deny_base.specs.declared.span.Span.{Span}
use Rattle.deny_spec.specs.Policy.{Policy}
use Rattle.deny_spec.specs.DiagParts.{allow_at, allow_labels, ban_at, ban_labels, entry_labels, root_at}
use Rattle.deny_spec.specs.DiagParts.{root_labels, skip_at}
use Rattle.deny_spec_report.specs.declared.message.Message.{Message}

-- ---- labels of the entry with a span, in the policy's file

abbrev pub ban_labels_at : ℕ → List ℕ → Policy → Span → List Label
ban_labels_at file message p span = option_map_or (ban_labels file message) (ban_at p span) []

abbrev pub allow_labels_at : ℕ → List ℕ → Policy → Span → List Label
allow_labels_at file message p span = option_map_or (allow_labels file message) (allow_at p span) []

abbrev pub skip_labels_at : ℕ → List ℕ → Policy → Span → List Label
skip_labels_at file message p span = option_map_or (entry_labels file message) (skip_at p span) []

abbrev pub root_labels_at : ℕ → List ℕ → Policy → Span → List Label
root_labels_at file message p span = option_map_or (root_labels file message) (root_at p span) []

-- ---- messages

-- a message without notes, and with no crates shown but the finding's own
abbrev pub plainly : Severity → List ℕ → List Label → Option Kid → Message
plainly severity message labels krate = record {
  severity = severity;
  message = message;
  labels = labels;
  notes = [];
  nodes = [];
  with_features = false;
  krate = krate;
}

-- the message of a code of which no key holds
abbrev pub not_built : Message
not_built = plainly severity.Warning [] [] None
