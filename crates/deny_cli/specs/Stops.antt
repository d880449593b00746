-- The line of a stop, which says why a run stopped.
use Rattle.std.specs.Prelude.{ℕ, List, [], ◌∷◌, codes, map}
use Rattle.serde_json.specs.Data.{Data, array, string, number, unsigned, object, Members, member, no_members}
use Rattle.serde_json.specs.View.{items_of}
use Rattle.deny_base.specs.declared.check.Which.{Which}
use Rattle.deny_base.specs.declared.check.Which.TheVariants.{Policy, Metadata, Replacements}
use Rattle.deny_base.specs.declared.files.File.{File}
use Rattle.deny_base.specs.declared.finding.Diagnostic.{Diagnostic}
use Rattle.deny_cfg.specs.PolicyText.{policy_file}
use Rattle.deny_krates.specs.fault.MetadataFault.{MetadataFault}
use Rattle.deny_krates.specs.fault.MetadataFault.TheVariants.{Json, Float, NoResolve, Shape, DuplicateId, DanglingId}
use Rattle.deny_krates.specs.fault.MetadataFault.TheVariants.{Version, Requirement, Source, ManifestPath}
use Rattle.deny_krates.specs.fault.MetadataFault.TheVariants.{Memory as OutOfMemory}
use Rattle.deny_toml.specs.error.ConfigFault.{ConfigFault}
use Rattle.deny_toml.specs.error.FaultKind.{FaultKind}
use Rattle.deny_toml.specs.error.FaultKind.TheVariants as kind
use Rattle.deny_gate.specs.declared.report.GateError.TheVariants as gate
use Rattle.deny_gate_json.specs.Diagnostics.{diagnostic_value, reports}
use Rattle.deny_gate_json.specs.Lines.{line}
use Rattle.deny_cli.specs.declared.outcome.Outcome.{Outcome}
use Rattle.deny_cli.specs.declared.outcome.Outcome.TheVariants.{Done, Usage, Read, Long, Gate, Write, Memory}

abbrev pub file_word : Which → List ℕ
file_word Policy = codes "policy"
file_word Metadata = codes "metadata"
file_word Replacements = codes "replacements"

-- the fields of a stop
abbrev pub stop_word : List ℕ → Members
stop_word word = member (codes "stop") (string word) no_members

abbrev pub stop_at_file : List ℕ → Which → Members
stop_at_file word which = member (codes "file") (string (file_word which)) (stop_word word)

-- ---- faults and clashes of the policy

abbrev pub kind_word : FaultKind → List ℕ
kind_word kind.NotUtf8 = codes "not-utf8"
kind_word kind.Grammar = codes "grammar"
kind_word kind.Clash = codes "clash"
kind_word kind.Unknown = codes "unknown"
kind_word kind.Missing = codes "missing"
kind_word kind.WrongKind = codes "wrong-kind"
kind_word kind.Unreadable = codes "unreadable"
kind_word kind.NoToday = codes "no-today"

unfoldable pub fault_value : ConfigFault → Data
fault_value fault = object
    (member (codes "end") (number (unsigned fault.span.end))
    (member (codes "key") (string fault.key)
    (member (codes "kind") (string (kind_word fault.kind))
    (member (codes "start") (number (unsigned fault.span.start)) no_members))))

abbrev pub config_fields : List ConfigFault → Members
config_fields faults = member (codes "faults") (array (items_of (map fault_value faults))) (stop_word (codes "config"))

abbrev pub invalid_fields : List File → List Diagnostic → Members
invalid_fields files clashes = member (codes "diagnostics") (array (items_of (map (diagnostic_value files) clashes)))
    (stop_word (codes "invalid"))

-- ---- faults of the metadata

-- the word of a fault of the metadata; out of memory has another line
abbrev pub fault_word : MetadataFault → List ℕ
fault_word Json = codes "json"
fault_word Float = codes "float"
fault_word NoResolve = codes "no-resolve"
fault_word (Shape path) = codes "shape"
fault_word (DuplicateId id) = codes "duplicate-id"
fault_word (DanglingId id) = codes "dangling-id"
fault_word (Version id) = codes "version"
fault_word (Requirement id) = codes "requirement"
fault_word (Source id) = codes "source"
fault_word (ManifestPath id) = codes "manifest-path"
fault_word OutOfMemory = codes "memory"

abbrev pub fault_detail : MetadataFault → List ℕ
fault_detail Json = []
fault_detail Float = []
fault_detail NoResolve = []
fault_detail (Shape path) = path
fault_detail (DuplicateId id) = id
fault_detail (DanglingId id) = id
fault_detail (Version id) = id
fault_detail (Requirement id) = id
fault_detail (Source id) = id
fault_detail (ManifestPath id) = id
fault_detail OutOfMemory = []

abbrev pub fault_fields : MetadataFault → Members
fault_fields fault =
    member (codes "detail") (string (fault_detail fault))
    (member (codes "fault") (string (fault_word fault)) (stop_word (codes "metadata")))

-- ---- a table of replacements

-- the fields of a missing table: the offset of its first break, or 0 where there is no table
abbrev pub replacement_fields : ℕ → Members
replacement_fields at = member (codes "offset") (number (unsigned at)) (stop_word (codes "replacement"))

-- ---- all stops

-- the fields of each stop; the labels of clashes lie in the policy's text, which no other stop uses
abbrev pub stop_fields : List ℕ → Outcome → Members
stop_fields policy (Done report) = no_members
stop_fields policy (Usage at) = member (codes "at") (number (unsigned at)) (stop_word (codes "usage"))
stop_fields policy (Read which) = stop_at_file (codes "read") which
stop_fields policy (Long which) = stop_at_file (codes "long") which
stop_fields policy (Gate (gate.Config faults)) = config_fields faults
stop_fields policy (Gate (gate.Invalid clashes)) = invalid_fields (policy_file policy ∷ []) clashes
stop_fields policy (Gate (gate.Metadata fault)) = fault_fields fault
stop_fields policy (Gate (gate.Replacement at)) = replacement_fields at
stop_fields policy (Gate gate.Memory) = stop_word (codes "memory")
stop_fields policy (Write report) = stop_word (codes "write")
stop_fields policy Memory = stop_word (codes "memory")

abbrev pub stop_value : List ℕ → Outcome → Data
stop_value policy outcome = reports (codes "stop") (stop_fields policy outcome)

-- the line of a stop
unfoldable pub stop_line : List ℕ → Outcome → List ℕ
stop_line policy outcome = line (stop_value policy outcome)

-- the line of a run that is out of memory
unfoldable pub memory_line : List ℕ
memory_line = line (reports (codes "stop") (stop_word (codes "memory")))
