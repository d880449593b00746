-- The causes of each outcome of a run. `old` is the disk as the run begins, `new` as it ends.
use Rattle.std.specs.Prelude.{◌≡◌, ◌≢◌, ℕ, ◌<◌, ◌≤◌, ◌^◌, List, [], codes, length, Option, Some, None, IfSome}
use Rattle.std.specs.Prelude.{option_map, ⊤}
use Rattle.std.specs.FinMap as finite
use Rattle.deny_base_disk.specs.Count.{Rose, RoseBy}
use Rattle.deny_base_disk.specs.Disk.{Disk, Files, FailedAt, bytes_at}
use Rattle.deny_base_disk.specs.MemoryDisk.{with_file}
use Rattle.deny_base_disk.specs.Read.{IsWhole}
use Rattle.deny_base.specs.declared.check.Which.{Which}
use Rattle.deny_base.specs.declared.check.Which.TheVariants.{Policy, Metadata, Replacements}
use Rattle.deny_base.specs.declared.finding.Diagnostic.{Diagnostic}
use Rattle.deny_base_disk.specs.declared.disk.Call.TheVariants as call
use Rattle.deny_cfg.specs.PolicyText.{ReportsClashes}
use Rattle.deny_spec_report.specs.Saying.{HasTable}
use Rattle.deny_gate.specs.Dead.{CanDoWithoutDead}
use Rattle.deny_gate.specs.Gating.{AreShort, AsksForTable, HasGraph, HasPolicy, IsCause, IsCausedReport, IsReportOf}
use Rattle.deny_gate.specs.Gating.{InputTexts}
use Rattle.deny_gate.specs.Headline.{IsHeadlineOf}
use Rattle.deny_gate.specs.Labels.{AreLabelledClashes, IsLabelledCause}
use Rattle.deny_gate.specs.Report.{policy_id}
use Rattle.deny_gate.specs.declared.report.GateError.{GateError}
use Rattle.deny_gate.specs.declared.report.GateError.TheVariants as gate
use Rattle.deny_gate.specs.declared.report.Report.{Report}
use Rattle.deny_cli_generator.specs.MetadataText.{metadata_text}
use Rattle.deny_cli_generator.specs.PolicyText.{policy_text}
use Rattle.deny_cli.specs.Arguments.{CheckArguments, Command, check, day_of, generate, path_of, Asks, IsAccepted}
use Rattle.deny_cli.specs.Arguments.{IsUsageAt}
use Rattle.deny_cli.specs.declared.outcome.Outcome.{Outcome}
use Rattle.deny_cli.specs.declared.outcome.Outcome.TheVariants.{Done, Usage, Read, Long, Gate, Write, Memory}

-- ---- inputs

-- a text is too long to be read to its end
abbrev pub IsLong : List ℕ → Type 0
IsLong text = 2 ^ 28 ≤ length text

abbrev pub IsShort : List ℕ → Type 0
IsShort text = length text < 2 ^ 28

-- the inputs of a check by the files of a disk, with the home, the registries and the day that it names
abbrev pub inputs_at : Files → CheckArguments → InputTexts
inputs_at files asked = record {
  policy = bytes_at files asked.policy;
  metadata = bytes_at files asked.metadata;
  replacements = option_map (bytes_at files) asked.replacements;
  home = asked.home;
  registries = asked.registries;
  today = asked.today;
}

-- the inputs that are generated for so many crates
abbrev pub made_inputs : ℕ → InputTexts
made_inputs crates = record {
  policy = policy_text crates;
  metadata = metadata_text crates;
  replacements = None;
  home = None;
  registries = [];
  today = None;
}

-- the files of the generated disk: the manifest of `app`, the one member
unfoldable pub made_files : Files
made_files = with_file finite.empty (codes "/w/Cargo.toml") (codes "[package]\nname = \"app\"\n")

-- the files that the manifests and packages of a command are read from, where they are known: for a check those of the
-- disk, and for generated crates the generated ones
abbrev pub known_files : Option Files → Command → Option Files
known_files told (check asked) = told
known_files told (generate crates) = Some made_files

-- the inputs of a command, where they are known: those of a check where the disk tells its files, and generated ones
-- always
abbrev pub known_inputs : Option Files → Command → Option InputTexts
known_inputs told (check asked) = option_map (λ files. inputs_at files asked) told
known_inputs told (generate crates) = Some (made_inputs crates)

-- an optional text is there and long
abbrev pub IsLongThere : Option (List ℕ) → Type 0
IsLongThere None = ⊥
IsLongThere (Some text) = IsLong text

-- an input is the first that is long
abbrev pub IsFirstLong : InputTexts → Which → Type 0
IsFirstLong texts Policy = IsLong texts.policy
IsFirstLong texts Metadata = IsShort texts.policy × IsLong texts.metadata
IsFirstLong texts Replacements = IsShort texts.policy × IsShort texts.metadata × IsLongThere texts.replacements

-- ---- the inputs of a command

-- the inputs before this one are short
abbrev pub AreShortBefore : InputTexts → Which → Type 0
AreShortBefore texts Policy = ⊤
AreShortBefore texts Metadata = IsShort texts.policy
AreShortBefore texts Replacements = IsShort texts.policy × IsShort texts.metadata

-- An input of a command is read once each input before it was read to its end, and so is short, where the inputs are
-- known. It has this path; a generated input has none.
pub record IsAskedFor (old : Disk) (command : Command) (which : Which) (path : List ℕ) : Type 0 where
  pub is_its_path : path_of command which ≡ Some path
  pub before : IfSome (known_inputs old.files command) (λ texts. AreShortBefore texts which)

-- the text at a path was read to its end; where the disk tells its files, it is the text there
pub record IsReadAt (old : Disk) (path text : List ℕ) : Type 0 where
  pub whole : IsWhole old path text
  pub short : IsShort text

-- an input is read where its path is named; an input without a path is none
abbrev pub IsReadIfNamed : Disk → Option (List ℕ) → Option (List ℕ) → Type 0
IsReadIfNamed old None text = text ≡ None
IsReadIfNamed old (Some path) None = ⊥
IsReadIfNamed old (Some path) (Some text) = IsReadAt old path text

-- the inputs of a check were read to their ends; where the disk tells its files, they are the texts there
pub record AreRead (old : Disk) (asked : CheckArguments) (texts : InputTexts) : Type 0 where
  pub policy : IsReadAt old asked.policy texts.policy
  pub metadata : IsReadAt old asked.metadata texts.metadata
  pub replacements : IsReadIfNamed old asked.replacements texts.replacements
  -- the home, the registries and the day are those that the check names
  pub home : texts.home ≡ asked.home
  pub registries : texts.registries ≡ asked.registries
  pub today : texts.today ≡ asked.today

-- the inputs of a command: those of a check were read, and others are generated
abbrev pub AreInputsOf : Disk → Command → InputTexts → Type 0
AreInputsOf old (check asked) texts = AreRead old asked texts
AreInputsOf old (generate crates) texts = texts ≡ made_inputs crates

-- the policy among the inputs of a command
abbrev pub IsPolicyAt : Disk → Command → List ℕ → Type 0
IsPolicyAt old (check asked) policy = IsReadAt old asked.policy policy
IsPolicyAt old (generate crates) policy = policy ≡ policy_text crates

-- the report is that of a command's inputs, by the manifests and packages of its graph
pub record IsReportOfCommand (old : Disk) (command : Command) (report : Report) : Type 0 where
  pub texts : InputTexts
  pub read : AreInputsOf old command texts
  pub is_theirs : IsReportOf (known_files old.files command) texts report

-- what a check could not read has causes between two disks, and so have the failures that its report lists
pub record IsCausedBy (old new : Disk) (asked : CheckArguments) (report : Report) : Type 0 where
  pub texts : InputTexts
  pub read : AreRead old asked texts
  pub is_theirs : IsCausedReport old new texts report

-- The causes why a command left manifests and packages unread. A generated disk never fails and holds nothing large,
-- so nothing is left unread there.
abbrev pub IsCausedForCommand : Disk → Disk → Command → Report → Type 0
IsCausedForCommand old new (check asked) report = IsCausedBy old new asked report
IsCausedForCommand old new (generate crates) report = report.unread ≡ []

-- the gate gives an error for the inputs of a command, which has its cause; the labels of clashes lie in the policy
pub record IsStopAt (old : Disk) (command : Command) (policy : List ℕ) (error : GateError) : Type 0 where
  pub texts : InputTexts
  pub of_policy : texts.policy ≡ policy
  pub read : AreInputsOf old command texts
  pub is_theirs : IsCause texts error
  pub labelled : IsLabelledCause policy error

-- an input was to be read, and reading it failed
pub record IsFaultAt (old new : Disk) (command : Command) (which : Which) : Type 0 where
  pub path : List ℕ
  pub asked_for : IsAskedFor old command which path
  pub failed : FailedAt old new call.Read path

-- the bytes of a long input were given; where the command's inputs are known, it is the first that is long
pub record IsLongAt (old new : Disk) (command : Command) (which : Which) : Type 0 where
  pub path : List ℕ
  pub asked_for : IsAskedFor old command which path
  pub given : RoseBy (2 ^ 28) old.given new.given
  pub first : IfSome (known_inputs old.files command) (λ texts. IsFirstLong texts which)

-- ---- the inputs of arguments

pub record IsReportOfArguments (old : Disk) (arguments : List (List ℕ)) (report : Report) : Type 0 where
  pub command : Command
  pub asks : Asks arguments command
  pub is_theirs : IsReportOfCommand old command report

-- what the report lists as unread has causes
pub record IsCausedForArguments (old new : Disk) (arguments : List (List ℕ)) (report : Report) : Type 0 where
  pub command : Command
  pub asks : Asks arguments command
  pub is_theirs : IsCausedForCommand old new command report

pub record IsStopOn (old : Disk) (arguments : List (List ℕ)) (error : GateError) : Type 0 where
  pub command : Command
  pub asks : Asks arguments command
  pub policy : List ℕ
  pub is_theirs : IsStopAt old command policy error

pub record IsReadFault (old new : Disk) (arguments : List (List ℕ)) (which : Which) : Type 0 where
  pub command : Command
  pub asks : Asks arguments command
  pub is_theirs : IsFaultAt old new command which

pub record IsLongOn (old new : Disk) (arguments : List (List ℕ)) (which : Which) : Type 0 where
  pub command : Command
  pub asks : Asks arguments command
  pub is_theirs : IsLongAt old new command which

-- the arguments ask for a command whose inputs are known
pub record AreKnownInputs (old : Disk) (arguments : List (List ℕ)) : Type 0 where
  pub command : Command
  pub asks : Asks arguments command
  pub texts : InputTexts
  pub known : known_inputs old.files command ≡ Some texts

-- the inputs are known and short, the policy has no faults and no clashes, the metadata has a graph, and there is the
-- table that the policy asks for
pub record IsValidRun (old : Disk) (arguments : List (List ℕ)) : Type 0 where
  pub named : AreKnownInputs old arguments
  pub short : AreShort named.texts
  pub policy : HasPolicy named.texts.today named.texts.policy
  pub metadata : HasGraph named.texts.metadata
  pub table : AsksForTable named.texts.today named.texts.policy → HasTable named.texts.replacements

-- inputs stop a run by this outcome: one is long, or all are short and the gate refuses them
abbrev pub AreRefused : InputTexts → Outcome → Type 0
AreRefused texts (Done report) = ⊥
AreRefused texts (Usage at) = ⊥
AreRefused texts (Read which) = ⊥
AreRefused texts (Long which) = IsFirstLong texts which
AreRefused texts (Gate error) = (error ≢ gate.Memory) × AreShort texts × IsCause texts error
AreRefused texts (Write report) = ⊥
AreRefused texts Memory = ⊥

-- the inputs of the arguments stop a run by this outcome
pub record IsRefusedRun (old : Disk) (arguments : List (List ℕ)) (stop : Outcome) : Type 0 where
  pub named : AreKnownInputs old arguments
  pub refused : AreRefused named.texts stop

-- no reading of an input that is asked for failed
abbrev pub IsReadable : Disk → Disk → List (List ℕ) → Type 0
IsReadable old new arguments = (command : Command) → Asks arguments command → (which : Which) → (path : List ℕ)
    → IsAskedFor old command which path
    → ¬ Rose (old.faults_at call.Read path) (new.faults_at call.Read path)

-- The cause of each outcome. Out of memory alone needs none, once the arguments are accepted. That `Write` comes only
-- where the output failed is part of what a run leaves there.
abbrev pub ComesBy : Disk → Disk → List (List ℕ) → Outcome → Type 0
ComesBy old new arguments (Done report) = IsReportOfArguments old arguments report
ComesBy old new arguments (Usage at) = IsUsageAt arguments at
ComesBy old new arguments (Read which) = IsReadFault old new arguments which
ComesBy old new arguments (Long which) = IsLongOn old new arguments which
ComesBy old new arguments (Gate error) = IsStopOn old arguments error
ComesBy old new arguments (Write report) = IsReportOfArguments old arguments report
ComesBy old new arguments Memory = IsAccepted arguments

-- the headline, of the report on the inputs of the arguments
pub record IsHeadlineOn (old : Disk) (arguments : List (List ℕ)) (report : Report) : Type 0 where
  pub command : Command
  pub asks : Asks arguments command
  pub texts : InputTexts
  pub read : AreInputsOf old command texts
  pub headline : IsHeadlineOf texts report

-- the dead entries of a report can go from the policy of the arguments
pub record CanDoWithoutDeadOn (old : Disk) (arguments : List (List ℕ)) (report : Report) : Type 0 where
  pub command : Command
  pub asks : Asks arguments command
  pub texts : InputTexts
  pub read : AreInputsOf old command texts
  pub can : CanDoWithoutDead (known_files old.files command) texts report

-- this is the text of the policy of the arguments, these are the clashes of its entries, and the labels lie in it
pub record ClashesIn (old : Disk) (arguments : List (List ℕ)) (clashes : List Diagnostic) (policy : List ℕ) : Type
    0 where
  pub command : Command
  pub asks : Asks arguments command
  pub read : IsPolicyAt old command policy
  pub reports : ReportsClashes (day_of command) policy policy_id clashes
  pub labelled : AreLabelledClashes policy clashes

-- where entries of the policy clash, this is its text
abbrev pub IsTextOfClashes : Disk → List (List ℕ) → Outcome → List ℕ → Type 0
IsTextOfClashes old arguments (Done report) policy = ⊤
IsTextOfClashes old arguments (Usage at) policy = ⊤
IsTextOfClashes old arguments (Read which) policy = ⊤
IsTextOfClashes old arguments (Long which) policy = ⊤
IsTextOfClashes old arguments (Gate (gate.Config faults)) policy = ⊤
IsTextOfClashes old arguments (Gate (gate.Invalid clashes)) policy = ClashesIn old arguments clashes policy
IsTextOfClashes old arguments (Gate (gate.Metadata fault)) policy = ⊤
IsTextOfClashes old arguments (Gate (gate.Replacement at)) policy = ⊤
IsTextOfClashes old arguments (Gate gate.Memory) policy = ⊤
IsTextOfClashes old arguments (Write report) policy = ⊤
IsTextOfClashes old arguments Memory policy = ⊤
