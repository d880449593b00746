-- Findings and their trees are plain values.
use Rattle.std.proofs.Common.{◌≡◌, ℕ, zero, suc, ◌+◌, ◌-◌, ◌*◌, ◌<◌, ◌≤◌, ◌^◌, inl, inr, Bool, true, false, List, []}
use Rattle.std.proofs.Common.{◌∷◌, length, Option, None, Some, refl, subst, sym, arith, take, get_or, length-take}
use Rattle.std.proofs.Common.{length-drop}
use Rattle.std.specs.Prelude.{All, IfSome, codes, map, slice_get, ⊤, if◌then◌else◌}
use Rattle.std.specs.Str.{chars, chars_after, continuation_len, lead_bits}
use Rattle.std.proofs.lemmas.Option.{slice_get_cases}
use Rattle.std.proofs.lemmas.List.Elements.{All-head, All-tail, All-weaker}
use Rattle.std.proofs.lemmas.List.Sums.{count_by-le-length}
use Rattle.serde_json.specs.Data.{Data, Members, member, no_members, string}
use Rattle.serde_json.specs.View.{items_of}
use Rattle.deny_base.specs.Files.{characters_before, is_boundary, is_newline, location_at, location_in}
use Rattle.deny_base.specs.Files.{location_in_file}
use Rattle.deny_base.specs.declared.code.DiagnosticCode.{DiagnosticCode}
use Rattle.deny_base.specs.declared.edge.DepKind.{DepKind}
use Rattle.deny_base.specs.declared.edge.DepKind.TheVariants.{Normal, Dev, Build}
use Rattle.deny_base.specs.declared.files.File.{File}
use Rattle.deny_base.specs.declared.files.Location.{Location}
use Rattle.deny_base.specs.declared.finding.Diagnostic.{Diagnostic}
use Rattle.deny_base.specs.declared.label.Label.{Label}
use Rattle.deny_krates_trees.specs.declared.node.GraphNode.{GraphNode, GraphNode-F, ind-GraphNode, map-GraphNode}
use Rattle.deny_krates_trees.specs.declared.node.GraphNode.{roll-GraphNode}
use Rattle.deny_krates_trees.specs.declared.node.NodeInner.{NodeInner}
use Rattle.deny_krates_trees.specs.declared.node.NodeInner.TheVariants.{Krate, Feature}
use Rattle.deny_gate_json.specs.Diagnostics.{code_member, diagnostic_value, fields_after_code, fields_after_labels}
use Rattle.deny_gate_json.specs.Diagnostics.{fields_of, labels_member, notes_member, severity_word, reports}
use Rattle.deny_gate_json.specs.Findings.{finding_fields, finding_value, graphs_member}
use Rattle.deny_gate_json.specs.Graphs.{graph_value, krate_value, node_value, parents_member, repeat_member}
use Rattle.deny_gate_json.specs.Labels.{column_of, label_value, shown_line}
use Rattle.deny_gate_json.specs.Reading.{AreCounted, AreShort, IsBeforeNext, IsCounted, IsPlain, ItemsArePlain}
use Rattle.deny_gate_json.specs.Reading.{MembersArePlain}
use Rattle.deny_gate_json.proofs.GraphLemmas.{value_of_node}

-- ---- lines and columns

chars_after-length : (n c : ℕ) (bytes : List ℕ) → length (chars_after n c bytes) ≤ length bytes + 1
chars_after-length zero c [] = omega arith
chars_after-length zero c (b ∷ bytes) = omega (arith, chars_after-length (continuation_len b) (lead_bits b) bytes)
chars_after-length (suc n) c [] = omega arith
chars_after-length (suc n) c (b ∷ bytes) = omega (arith, chars_after-length n (c * 64 + (b - 128)) bytes)

chars-length : (text : List ℕ) → length (chars text) ≤ length text
unfolding chars
chars-length [] = omega arith
chars-length (b ∷ bytes) = omega (arith, chars_after-length (continuation_len b) (lead_bits b) bytes)

abbrev IsNear : Location → Type 0
IsNear at = (at.line < 2 ^ 63) × (at.column < 2 ^ 63)

location_near : (text : List ℕ) (offset : ℕ) → length text < 2 ^ 63 → IsNear (location_at text offset)
unfolding location_at
location_near text offset short = (
  omega (
    arith,
    count_by-le-length is_newline (characters_before text offset),
    chars-length (take offset text),
    length-take offset text,
  ),
  omega (
    arith,
    chars-length (take offset text),
    length-take offset text,
    length-drop {A = ℕ},
  ),
)

abbrev IfNear : Option Location → Type 0
IfNear None = ⊤
IfNear (Some at) = IsNear at

if_boundary : (b : Bool) (at : Location) → IsNear at → IfNear (if b then Some at else None)
if_boundary true at near = near
if_boundary false at near = tt

abbrev IsShort : File → Type 0
IsShort file = length file.source < 2 ^ 63

near_in : (file : Option File) (offset : ℕ) → IfSome file IsShort
    → IfNear (location_in_file file offset)
near_in None offset short = tt
near_in (Some file) offset short = if_boundary (is_boundary file.source offset) (location_at file.source offset)
    (location_near file.source offset short)

short_at : (files : List File) (id : ℕ) → AreShort files → IfSome (slice_get files id) IsShort
short_at files id short = elim (slice_get_cases files id).1 as (λ _. IfSome (slice_get files id) IsShort) [
  | inl found ↦ subst (λ (file : Option File). IfSome file IsShort) (sym found.2)
      (subst IsShort found.3 (short id found.0 found.1))
  | inr past ↦ subst (λ (file : Option File). IfSome file IsShort) (sym past.1) tt
]

line_fits : (at : Option Location) → IfNear at → shown_line at < 2 ^ 64
line_fits None near = omega arith
line_fits (Some at) near = omega (arith, near.0)

column_fits : (at : Option Location) → IfNear at → column_of at < 2 ^ 64
column_fits None near = omega arith
column_fits (Some at) near = omega (arith, near.1)

-- ---- diagnostics

-- the line and column of a label at a location are numbers of 64 bits
pub label_counted : (files : List File) (label : Label) (at : Option Location)
    → at ≡ location_in files label.file_id label.span.start → column_of at < 2 ^ 64 → shown_line at < 2 ^ 64
    → IsCounted files label
unfolding label_value IsCounted
label_counted files label at is column line =
    let here = λ (o : Option Location). (column_of o < 2 ^ 64) × (shown_line o < 2 ^ 64) in
    let fits = subst here is (column, line) in
    (refl, fits.0, (refl, fits.1, (refl, tt, (tt, tt, tt))))

label_short : (files : List File) → AreShort files → (label : Label) → IsCounted files label
label_short files short label =
    let at = location_in files label.file_id label.span.start in
    let near : IfNear at = near_in (slice_get files label.file_id) label.span.start (short_at files label.file_id short)
    in label_counted files label at refl (column_fits at near) (line_fits at near)

pub each_reported : {X : Type 0} (f : X → Data) (xs : List X) → All (λ x. IsPlain (f x)) xs
    → ItemsArePlain (items_of (map f xs))
each_reported f [] are = tt
each_reported f (x ∷ xs) are = (
  All-head (λ x. IsPlain (f x)) x xs are,
  each_reported f xs (All-tail (λ x. IsPlain (f x)) x xs are),
)

each_plain : {X : Type 0} (f : X → Data) → ((x : X) → IsPlain (f x)) → (xs : List X)
    → ItemsArePlain (items_of (map f xs))
each_plain f each [] = tt
each_plain f each (x ∷ xs) = (each x, each_plain f each xs)

reports_plain : (fields : Members) → MembersArePlain fields → IsPlain (reports (codes "diagnostic") fields)
reports_plain fields are = (refl, are, (tt, tt, tt))

abbrev severity_member : List ℕ → Members
severity_member word = member (codes "severity") (string word) no_members

notes_plain : (notes : List (List ℕ)) (word : List ℕ) → MembersArePlain (notes_member notes (severity_member word))
notes_plain [] word = (tt, tt, tt)
notes_plain (note ∷ notes) word = (refl, each_plain string (λ s. tt) (note ∷ notes), (tt, tt, tt))

after_message : (notes : List (List ℕ)) (word : List ℕ)
    → IsBeforeNext (codes "message") (notes_member notes (severity_member word))
after_message [] word = refl
after_message (note ∷ notes) word = refl

message_plain : (d : Diagnostic) → MembersArePlain (fields_after_labels d)
message_plain d = (after_message d.notes (severity_word d.severity), tt, notes_plain d.notes (severity_word d.severity))

pub labels_counted : (files : List File) → AreShort files → (labels : List Label) → AreCounted files labels
labels_counted files short labels k label within = label_short files short (get_or labels k label)

label_plain : (files : List File) (label : Label) → IsCounted files label → IsPlain (label_value files label)
unfolding IsCounted
label_plain files label counted = counted

labels_plain : (files : List File) (labels : List Label) (d : Diagnostic) → AreCounted files labels
    → MembersArePlain (labels_member files labels (fields_after_labels d))
labels_plain files [] d counted = message_plain d
labels_plain files (label ∷ labels) d counted =
    let plain = All-weaker (IsCounted files) (λ l. IsPlain (label_value files l)) (label_plain files) (label ∷ labels)
    counted in
    (refl, each_reported (label_value files) (label ∷ labels) plain, message_plain d)

after_code : (files : List File) (labels : List Label) (d : Diagnostic)
    → IsBeforeNext (codes "code") (labels_member files labels (fields_after_labels d))
after_code files [] d = refl
after_code files (label ∷ labels) d = refl

after_graphs : (files : List File) (labels : List Label) (d : Diagnostic)
    → IsBeforeNext (codes "graphs") (labels_member files labels (fields_after_labels d))
after_graphs files [] d = refl
after_graphs files (label ∷ labels) d = refl

code_plain : (code : Option DiagnosticCode) (others : Members) → IsBeforeNext (codes "code") others
    → MembersArePlain others → MembersArePlain (code_member code others)
code_plain None others next are = are
code_plain (Some code) others next are = (next, tt, are)

counted_diagnostic_plain : (files : List File) (d : Diagnostic) → AreCounted files d.labels
    → IsPlain (diagnostic_value files d)
unfolding diagnostic_value
counted_diagnostic_plain files d counted = reports_plain (fields_of files d)
    (code_plain d.code (fields_after_code files d) (after_code files d.labels d)
    (labels_plain files d.labels d counted))

pub diagnostic_plain : (files : List File) (d : Diagnostic) → AreShort files → IsPlain (diagnostic_value files d)
diagnostic_plain files d short = counted_diagnostic_plain files d (labels_counted files short d.labels)

-- ---- trees

krate_plain : (name version : List ℕ) (kind : Option DepKind) → IsPlain (krate_value name version kind)
krate_plain name version None = (refl, tt, (tt, tt, tt))
krate_plain name version (Some Normal) = (refl, tt, (tt, tt, tt))
krate_plain name version (Some Dev) = (refl, tt, (refl, tt, (tt, tt, tt)))
krate_plain name version (Some Build) = (refl, tt, (refl, tt, (tt, tt, tt)))

repeat_plain : (repeat : Bool) → MembersArePlain (repeat_member repeat)
repeat_plain false = tt
repeat_plain true = (tt, tt, tt)

after_parents : (repeat : Bool) → IsBeforeNext (codes "parents") (repeat_member repeat)
after_parents false = tt
after_parents true = refl

parents_plain : (parents : List Data) (repeat : Bool) → ItemsArePlain (items_of parents)
    → MembersArePlain (parents_member parents (repeat_member repeat))
parents_plain [] repeat are = repeat_plain repeat
parents_plain (parent ∷ parents) repeat are = (after_parents repeat, are, repeat_plain repeat)

after_krate : (parents : List Data) (repeat : Bool)
    → IsBeforeNext (codes "Krate") (parents_member parents (repeat_member repeat))
after_krate [] false = tt
after_krate [] true = refl
after_krate (parent ∷ parents) repeat = refl

after_feature : (parents : List Data) (repeat : Bool)
    → IsBeforeNext (codes "Feature") (parents_member parents (repeat_member repeat))
after_feature [] false = tt
after_feature [] true = refl
after_feature (parent ∷ parents) repeat = refl

node_plain : (inner : NodeInner) (parents : List Data) (repeat : Bool) → ItemsArePlain (items_of parents)
    → IsPlain (node_value inner parents repeat)
node_plain (Krate name version kind) parents repeat are =
    (after_krate parents repeat, krate_plain name version kind, parents_plain parents repeat are)
node_plain (Feature crate_name name) parents repeat are =
    (after_feature parents repeat, (refl, tt, (tt, tt, tt)), parents_plain parents repeat are)

abbrev GraphIsPlain : GraphNode → Type 0
GraphIsPlain graph = IsPlain (graph_value graph)

-- a node, all of whose parents have plain values
abbrev Proved : Type 0
Proved = GraphNode-F ((graph : GraphNode) × GraphIsPlain graph)

held_plain : (parents : List ((graph : GraphNode) × GraphIsPlain graph))
    → ItemsArePlain (items_of (map graph_value (map (λ e. e.0) parents)))
held_plain [] = tt
held_plain (parent ∷ parents) = (parent.1, held_plain parents)

made_plain : (node : Proved)
    → GraphIsPlain (roll-GraphNode (map-GraphNode ((graph : GraphNode) × GraphIsPlain graph) GraphNode (λ e. e.0) node))
made_plain node =
    let parents : List GraphNode = map (λ e. e.0) node.parents in
    subst IsPlain (sym (value_of_node node.inner node.repeat parents))
    (node_plain node.inner (map graph_value parents) node.repeat (held_plain node.parents))

graph_plain : (graph : GraphNode) → GraphIsPlain graph
graph_plain = ind-GraphNode GraphIsPlain (λ x y is.
    subst (λ z. GraphIsPlain (roll-GraphNode z)) is (made_plain y))

pub finding_reported : (files : List File) (d : Diagnostic) (graphs : List GraphNode) → AreCounted files d.labels
    → IsPlain (finding_value files d graphs)
unfolding finding_value
finding_reported files d graphs counted = reports_plain (finding_fields files d graphs)
    (code_plain d.code (graphs_member graphs (fields_after_code files d)) refl
    (after_graphs files d.labels d, each_plain graph_value graph_plain graphs, labels_plain files d.labels d counted))

pub finding_plain : (files : List File) (d : Diagnostic) (graphs : List GraphNode) → AreShort files
    → IsPlain (finding_value files d graphs)
finding_plain files d graphs short = finding_reported files d graphs (labels_counted files short d.labels)
