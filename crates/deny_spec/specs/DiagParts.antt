-- The parts of diagnostics: crates and entries as they are shown, and labels of entries.
use Rattle.std.specs.Prelude.{ℕ, ◌++◌, List, [], ◌∷◌, slice_get, Option, Some, None, filter_map, find, codes}
use Rattle.std.specs.Prelude.{option_map}
use Rattle.std.specs.Option.{option_map_or}
use Rattle.deny_base.specs.declared.finding.GraphNode.{GraphNode}
use Rattle.deny_base.specs.declared.label.Label.{Label}
use Rattle.deny_base.specs.declared.label.LabelStyle.TheVariants.{Primary, Secondary}
use Rattle.deny_base.specs.declared.key.Key.{Key}
use Rattle.deny_base.specs.declared.span.Kid.{Kid}
use Rattle.deny_base.specs.declared.span.Span.{Span}
use Rattle.deny_spec.specs.Graph.{Crate, Graph, crate_text, kid_of}
use Rattle.deny_spec.specs.Policy.{AllowEntry, Ban, Entry, Policy, Root, Spec, SpannedText}
use Rattle.deny_spec.specs.Wrappers.{same_span}

abbrev pub crate_at : Graph → ℕ → Option Crate
crate_at g place = slice_get g.crates place

abbrev pub crate_text_at : Graph → ℕ → List ℕ
crate_text_at g place = option_map_or crate_text (crate_at g place) []

abbrev pub crate_name_at : Graph → ℕ → List ℕ
crate_name_at g place = option_map_or (λ c. c.name) (crate_at g place) []

abbrev pub kid_at : Graph → ℕ → Option Kid
kid_at g place = option_map kid_of (crate_at g place)

-- the crates at these places
unfoldable pub crates_at : Graph → List ℕ → List Crate
crates_at g places = filter_map (crate_at g) places

-- how an entry is shown: its name, and its requirement as it is written
abbrev pub requirement_text : Option (List ℕ) → List ℕ
requirement_text None = []
requirement_text (Some written) = codes " = " ++ written

unfoldable pub spec_text : Spec → List ℕ
spec_text spec = spec.name ++ requirement_text spec.written

-- the entry of the policy with a span
abbrev pub ban_at : Policy → Span → Option Ban
ban_at p span = find (λ ban. same_span ban.spec.span span) p.deny

abbrev pub allow_at : Policy → Span → Option AllowEntry
allow_at p span = find (λ e. same_span e.spec.span span) p.allow

abbrev pub skip_at : Policy → Span → Option Entry
skip_at p span = find (λ e. same_span e.spec.span span) p.skip

abbrev pub root_at : Policy → Span → Option Root
root_at p span = find (λ t. same_span t.spec.span span) p.skip_tree

-- labels of a file
abbrev pub primary : ℕ → Span → List ℕ → Label
primary file span message = record { style = Primary; file_id = file; span = span; message = message }

abbrev pub secondary : ℕ → Span → List ℕ → Label
secondary file span message = record { style = Secondary; file_id = file; span = span; message = message }

-- a label at a text of an entry, where the entry has one
abbrev pub label_at : ℕ → List ℕ → Option SpannedText → List Label
label_at file message None = []
label_at file message (Some words) = secondary file words.span message ∷ []

-- the labels of an entry: at its name, at its reason, and at what to use in place of the crate
unfoldable pub spec_labels : ℕ → List ℕ → Spec → Option SpannedText → Option SpannedText → List Label
spec_labels file message spec reason use_instead =
    primary file spec.span
    message ∷ (label_at file (codes "reason") reason ++ label_at file (codes "use instead") use_instead)

abbrev pub ban_labels : ℕ → List ℕ → Ban → List Label
ban_labels file message ban = spec_labels file message ban.spec ban.reason ban.use_instead

abbrev pub allow_labels : ℕ → List ℕ → AllowEntry → List Label
allow_labels file message e = spec_labels file message e.spec e.reason None

abbrev pub entry_labels : ℕ → List ℕ → Entry → List Label
entry_labels file message e = spec_labels file message e.spec e.reason None

abbrev pub root_labels : ℕ → List ℕ → Root → List Label
root_labels file message t = spec_labels file message t.spec t.reason None

-- the labels of a ban's name, and of its wrapper with a crate's name
abbrev pub wrapper_labels : ℕ → Ban → Option SpannedText → List Label
wrapper_labels file ban None = []
wrapper_labels file ban (Some wrapper) = primary file ban.spec.span (codes "banned here") ∷ primary file wrapper.span
    (codes "allowed wrapper") ∷ []

abbrev pub skip_text_at : Policy → Span → List ℕ
skip_text_at p span = option_map_or (λ e. spec_text e.spec) (skip_at p span) []

-- a sentence about the crate of a key
abbrev pub of_crate : List ℕ → Graph → Key → List ℕ → List ℕ
of_crate before g key after = before ++ (crate_text_at g key.place ++ after)

-- a crate as it is shown with a finding
abbrev pub node_of : Crate → GraphNode
node_of c = record { kid = kid_of c; feature = None }
