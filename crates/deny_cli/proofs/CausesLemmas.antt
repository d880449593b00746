-- Consequences of the causes of a run's outcomes.
use Rattle.std.proofs.Common.{◌∙◌, ◌≡◌, ◌≢◌, ◌<◌, ◌≤◌, ◌==◌, ◌+◌, ◌^◌, ℕ, IsTrue, Bool, true, false, List, length}
use Rattle.std.proofs.Common.{Option, None, Some, ap, refl, sym, subst, rules, arith, if◌then◌else◌}
use Rattle.std.specs.List.{list_any}
use Rattle.std.proofs.lemmas.Option.{none-some}
use Rattle.std.specs.Prelude.{IfSome, not, option_map}
use Rattle.deny_base_disk.specs.Count.{Rose}
use Rattle.deny_base_disk.specs.Out.{Appends}
use Rattle.deny_base_disk.specs.Read.{IsWhole}
use Rattle.deny_base_disk.specs.Disk.{Disk, Files, bytes_at}
use Rattle.deny_base.specs.declared.check.Check.TheVariants.{Bans, Licenses}
use Rattle.deny_base.specs.declared.check.Which.{Which}
use Rattle.deny_base.specs.declared.check.Which.TheVariants.{Policy, Metadata, Replacements}
use Rattle.deny_cfg.specs.PolicyText.{IsPolicyOf}
use Rattle.deny_cfg.specs.PolicyView.{policy_view}
use Rattle.deny_cfg.specs.declared.policy.Policy as cfg
use Rattle.deny_cfg_entries.specs.declared.day.Day.{Day}
use Rattle.deny_spec.specs.Policy as model
use Rattle.deny_spec_report.specs.Saying.{HasTable}
use Rattle.deny_spec_report.specs.StdReplacements.{asks_for_table}
use Rattle.deny_cli_generator.proofs.LengthLemmas.{short_metadata, short_policy}
use Rattle.deny_gate.specs.Gating.{AreOneCause, AreShort, AsksForTable, HasGraph, HasPolicy, IsReportOf, IsCause}
use Rattle.deny_gate.specs.Gating.{InputTexts}
use Rattle.deny_gate.specs.declared.report.GateError.{GateError}
use Rattle.deny_gate.specs.declared.report.GateError.TheVariants as gate
use Rattle.deny_gate.specs.Dead.{CanDoWithoutDead}
use Rattle.deny_gate.specs.Headline.{IsHeadlineOf, is_failure}
use Rattle.deny_gate.specs.Report.{fails_as, has_error, policy_id, verdict_by}
use Rattle.deny_gate.specs.declared.report.Report.{Report}
use Rattle.deny_cli.specs.Causes.{known_files, known_inputs, made_inputs, inputs_at, IsShort, IsFirstLong, IsLongThere}
use Rattle.deny_cli.specs.Causes.{IsReadIfNamed, IsPolicyAt, AreInputsOf, AreKnownInputs, IsReportOfArguments, IsStopOn}
use Rattle.deny_cli.specs.Causes.{IsLongOn}
use Rattle.deny_cli.specs.Causes.{IsReadFault, IsRefusedRun, IsValidRun, IsHeadlineOn, CanDoWithoutDeadOn, IsReadable}
use Rattle.deny_cli.specs.Causes.{IsTextOfClashes, ComesBy}
use Rattle.deny_cli.specs.Outcome.{AreOneStop, IfDone, IfReported, IsUsage, IsDoneOrMemory, IsStopOrMemory, bits_of}
use Rattle.deny_cli.specs.Outcome.{failing_bits, status_of}
use Rattle.deny_cli.specs.Outputs.{FailsWriting, LeavesOut}
use Rattle.deny_cli.specs.private.Outputs.{WritesReport}
use Rattle.deny_cli.specs.private.Stops.{IsTextOf}
use Rattle.deny_cli.specs.Summary.{answer_lines, lines_for}
use Rattle.deny_cli.specs.Arguments.{Command, check, generate, Asks, IsAccepted, most_crates}
use Rattle.deny_cli.specs.private.Arguments.{AsksForFew}
use Rattle.deny_cli.proofs.ArgumentsLemmas.{asks_for_few, one_command}
use Rattle.deny_cli.specs.declared.outcome.Outcome.{Outcome}
use Rattle.deny_cli.specs.declared.outcome.Outcome.TheVariants.{Done, Usage, Read, Long, Gate, Write, Memory}

-- an outcome is no report that was not written
abbrev pub IsNotWritten : Outcome → Type 0
IsNotWritten (Write report) = ⊥
IsNotWritten outcome = Unit {0}

-- ---- inputs

-- a short text is not long
not_long_there : (text : Option (List ℕ)) → IfSome text (λ bytes. length bytes < 2 ^ 28) → IsLongThere text → ⊥
not_long_there None short is = is
not_long_there (Some text) short is = omega (arith, short, is)

-- none of short inputs is long
not_long : (texts : InputTexts) (which : Which) → AreShort texts → IsFirstLong texts which → ⊥
not_long texts Policy short is = omega (arith, short.policy, is)
not_long texts Metadata short is = omega (arith, short.metadata, is.1)
not_long texts Replacements short is = not_long_there texts.replacements short.replacements is.2

-- at most one input is the first that is long
one_long : (texts : InputTexts) (found which : Which) → IsFirstLong texts found → IsFirstLong texts which
    → found ≡ which
one_long texts Policy Policy h k = refl
one_long texts Policy Metadata h k = absurd (omega (arith, h, k.0))
one_long texts Policy Replacements h k = absurd (omega (arith, h, k.0))
one_long texts Metadata Policy h k = absurd (omega (arith, h.0, k))
one_long texts Metadata Metadata h k = refl
one_long texts Metadata Replacements h k = absurd (omega (arith, h.1, k.1))
one_long texts Replacements Policy h k = absurd (omega (arith, h.0, k))
one_long texts Replacements Metadata h k = absurd (omega (arith, h.1, k.1))
one_long texts Replacements Replacements h k = refl

-- the laws on the gate's answers, and that policies of one text are equal
pub record AnswerLaws : Type 0 where
  pub cause : (texts : InputTexts) → (a b : GateError) → a ≢ gate.Memory → b ≢ gate.Memory → IsCause texts a
      → IsCause texts b → AreOneCause a b
  pub valid : (texts : InputTexts) → (error : GateError) → error ≢ gate.Memory → HasPolicy texts.today texts.policy
      → HasGraph texts.metadata → (AsksForTable texts.today texts.policy → HasTable texts.replacements)
      → IsCause texts error → ⊥
  pub policies : (today : Option Day) → (text : List ℕ) → (file : ℕ) → (a b : cfg.Policy)
      → IsPolicyOf today text file a → IsPolicyOf today text file b → policy_view a.bans ≡ policy_view b.bans

-- inputs that have a report have a policy, a graph, and the table that the policy asks for
has_policy : (told : Option Files) (texts : InputTexts) (report : Report) → IsReportOf told texts report
    → HasPolicy texts.today texts.policy
has_policy told texts report of = record { said = of.by.said; is_said = of.by.is_said }

has_graph : (told : Option Files) (texts : InputTexts) (report : Report) → IsReportOf told texts report
    → HasGraph texts.metadata
has_graph told texts report of = record { read = of.by.is_graph.read; is_read = of.by.is_graph.is_read }

has_table : AnswerLaws → (told : Option Files) (texts : InputTexts) (report : Report) → IsReportOf told texts report
    → AsksForTable texts.today texts.policy → HasTable texts.replacements
has_table laws told texts report of asked =
    let one = laws.policies texts.today texts.policy policy_id asked.said of.by.said asked.is_said of.by.is_said in
    of.by.table (subst (λ (p : model.Policy). IsTrue (asks_for_table p)) one asked.asks)

-- inputs that have a report have no cause of an error
no_cause : AnswerLaws → (told : Option Files) (texts : InputTexts) (report : Report) (error : GateError)
    → IsReportOf told texts report → error ≢ gate.Memory → IsCause texts error → ⊥
no_cause laws told texts report error of other = laws.valid texts error other (has_policy told texts report of)
    (has_graph told texts report of) (has_table laws told texts report of)

-- generated inputs are short
pub made_short : (crates : ℕ) → crates ≤ most_crates → AreShort (made_inputs crates)
made_short crates few = record {
  policy = short_policy crates few;
  metadata = short_metadata crates few;
  replacements = tt;
}

-- ---- the inputs of a run

-- where the disk tells its files, a text that was read is the one there
read_there : (old : Disk) (files : Files) (path text : List ℕ) → old.files ≡ Some files → IsWhole old path text
    → text ≡ bytes_at files path
read_there old files path text told whole =
    subst (λ (f : Option Files). IfSome f (λ files. text ≡ bytes_at files path)) told whole

named_there : (old : Disk) (files : Files) (path text : Option (List ℕ)) → old.files ≡ Some files
    → IsReadIfNamed old path text → text ≡ option_map (bytes_at files) path
named_there old files None text told read = read
named_there old files (Some path) None told read = absurd read
named_there old files (Some path) (Some text) told read = ap Some (read_there old files path text told read.whole)

-- inputs that are known are made of files that the disk tells
files_of : (make : Files → InputTexts) (told : Option Files) (texts : InputTexts) → option_map make told ≡ Some texts
    → (files : Files) × (told ≡ Some files) × (make files ≡ texts)
files_of make None texts is = absurd (none-some texts is)
files_of make (Some files) texts is = (files, refl, cc is)

-- where the inputs of a command are known, the inputs that were read are those
one_text : (old : Disk) (command : Command) (texts known : InputTexts) → AreInputsOf old command texts
    → known_inputs old.files command ≡ Some known → texts ≡ known
one_text old (check asked) texts known read is =
    let there = files_of (λ files. inputs_at files asked) old.files known is in
    let policy = read_there old there.0 asked.policy texts.policy there.1 read.policy.whole in
    let metadata = read_there old there.0 asked.metadata texts.metadata there.1 read.metadata.whole in
    let replacements = named_there old there.0 asked.replacements texts.replacements there.1 read.replacements in
    (λ i. record {
      policy = policy i;
      metadata = metadata i;
      replacements = replacements i;
      home = read.home i;
      registries = read.registries i;
      today = read.today i;
    }) ∙ there.2
one_text old (generate crates) texts known made is = made ∙ cc is

same_texts : (old : Disk) (arguments : List (List ℕ)) (named : AreKnownInputs old arguments) (command : Command)
    (texts : InputTexts)
    → Asks arguments command → AreInputsOf old command texts → texts ≡ named.texts
same_texts old arguments named command texts asks read =
    one_text old named.command texts named.texts
    (subst (λ (c : Command). AreInputsOf old c texts) (one_command arguments command named.command asks named.asks)
    read)
    named.known

-- a text that was read to its end is short
short_read : (old : Disk) (path text : Option (List ℕ)) → IsReadIfNamed old path text → IfSome text IsShort
short_read old None text read = subst (λ (t : Option (List ℕ)). IfSome t IsShort) (sym read) tt
short_read old (Some path) None read = absurd read
short_read old (Some path) (Some text) read = read.short

-- the inputs of a command are short
short_texts : (old : Disk) (command : Command) (texts : InputTexts) → AsksForFew command → AreInputsOf old command texts
    → AreShort texts
short_texts old (check asked) texts few read = record {
  policy = read.policy.short;
  metadata = read.metadata.short;
  replacements = short_read old asked.replacements texts.replacements read.replacements;
}
short_texts old (generate crates) texts few made = subst (λ (t : InputTexts). AreShort t) (sym made)
    (made_short crates few)

are_short : (old : Disk) (arguments : List (List ℕ)) (command : Command) (texts : InputTexts) → Asks arguments command
    → AreInputsOf old command texts → AreShort texts
are_short old arguments command texts asks read = short_texts old command texts (asks_for_few arguments command asks)
    read

short_policy_at : (old : Disk) (command : Command) (policy : List ℕ) → AsksForFew command
    → IsPolicyAt old command policy → IsShort policy
short_policy_at old (check asked) policy few read = read.short
short_policy_at old (generate crates) policy few made = subst (λ (t : List ℕ). IsShort t) (sym made)
    (short_policy crates few)

module _ (laws : AnswerLaws) (old new : Disk) (arguments : List (List ℕ)) where
  -- inputs that have a report stop no run
  not_both : (stop : Outcome) (report : Report) → IsRefusedRun old arguments stop
      → IsReportOfArguments old arguments report → ⊥
  not_both (Long which) report is on =
      let at = on.is_theirs in
      let same = same_texts old arguments is.named on.command at.texts on.asks at.read in
      not_long at.texts which (are_short old arguments on.command at.texts on.asks at.read)
      (subst (λ (t : InputTexts). IsFirstLong t which) (sym same) is.refused)
  not_both (Gate error) report is on =
      let at = on.is_theirs in
      let same = same_texts old arguments is.named on.command at.texts on.asks at.read in
      no_cause laws (known_files old.files on.command) at.texts report error at.is_theirs is.refused.0
      (subst (λ (t : InputTexts). IsCause t error) (sym same) is.refused.2)
  not_both (Done other) report is on = is.refused
  not_both (Usage at) report is on = is.refused
  not_both (Read which) report is on = is.refused
  not_both (Write other) report is on = is.refused
  not_both Memory report is on = is.refused

  -- a stop by the gate on known inputs is the stop of the run
  same_gate : (stop : Outcome) (error : GateError) → IsRefusedRun old arguments stop → IsStopOn old arguments error
      → error ≢ gate.Memory → AreOneStop stop (Gate error)
  same_gate (Long which) error is on other =
      let at = on.is_theirs in
      let same = same_texts old arguments is.named on.command at.texts on.asks at.read in
      absurd (not_long at.texts which (are_short old arguments on.command at.texts on.asks at.read)
      (subst (λ (t : InputTexts). IsFirstLong t which) (sym same) is.refused))
  same_gate (Gate wanted) error is on other =
      let at = on.is_theirs in
      let same = same_texts old arguments is.named on.command at.texts on.asks at.read in
      laws.cause at.texts wanted error is.refused.0 other
      (subst (λ (t : InputTexts). IsCause t wanted) (sym same) is.refused.2) at.is_theirs
  same_gate (Done other) error is on differs = absurd is.refused
  same_gate (Usage at) error is on differs = absurd is.refused
  same_gate (Read which) error is on differs = absurd is.refused
  same_gate (Write other) error is on differs = absurd is.refused
  same_gate Memory error is on differs = absurd is.refused

  -- where the inputs of a run are known, an input that was long is the first
  long_there : (named : AreKnownInputs old arguments) (which : Which) → IsLongOn old new arguments which
      → IsFirstLong named.texts which
  long_there named which on =
      let first = subst (λ (c : Command). IfSome (known_inputs old.files c) (λ texts. IsFirstLong texts which))
      (one_command arguments on.command named.command on.asks named.asks) on.is_theirs.first in
      subst (λ (known : Option InputTexts). IfSome known (λ texts. IsFirstLong texts which)) named.known first

  -- a stop by a long input is the stop of the run
  same_long : (stop : Outcome) (found : Which) → (is : IsRefusedRun old arguments stop)
      → IsFirstLong is.named.texts found → AreOneStop stop (Long found)
  same_long (Long which) found is first = ap Long (one_long is.named.texts found which first is.refused)
  same_long (Gate wanted) found is first = absurd (not_long is.named.texts found is.refused.1 first)
  same_long (Done other) found is first = absurd is.refused
  same_long (Usage at) found is first = absurd is.refused
  same_long (Read which) found is first = absurd is.refused
  same_long (Write other) found is first = absurd is.refused
  same_long Memory found is first = absurd is.refused

  -- a reading that was asked for and failed contradicts that inputs are readable
  not_readable : (which : Which) → IsReadable old new arguments → IsReadFault old new arguments which → ⊥
  not_readable which readable on = readable on.command on.asks which on.is_theirs.path on.is_theirs.asked_for
      on.is_theirs.failed.faults_at

  stop_or_memory : (stop : Outcome) (error : GateError) → (error ≢ gate.Memory → AreOneStop stop (Gate error))
      → IsStopOrMemory stop (Gate error)
  stop_or_memory stop (gate.Config faults) is = is (λ e. absurd (cc e))
  stop_or_memory stop (gate.Invalid clashes) is = is (λ e. absurd (cc e))
  stop_or_memory stop (gate.Metadata f) is = is (λ e. absurd (cc e))
  stop_or_memory stop (gate.Replacement at) is = is (λ e. absurd (cc e))
  stop_or_memory stop gate.Memory is = search rules

  pub is_refused : (stop outcome : Outcome) → IsRefusedRun old arguments stop → IsReadable old new arguments
      → ComesBy old new arguments outcome → IsStopOrMemory stop outcome
  is_refused stop (Done report) is readable comes = absurd (not_both stop report is comes)
  is_refused stop (Usage at) is readable comes = absurd (comes.refused (is.named.command, is.named.asks))
  is_refused stop (Read which) is readable comes = absurd (not_readable which readable comes)
  is_refused stop (Long which) is readable comes = same_long stop which is (long_there is.named which comes)
  is_refused stop (Gate error) is readable comes = stop_or_memory stop error (same_gate stop error is comes)
  is_refused stop (Write report) is readable comes = absurd (not_both stop report is comes)
  is_refused stop Memory is readable comes = tt

  -- valid inputs are refused by nothing but out of memory
  not_valid : (error : GateError) → IsValidRun old arguments → IsStopOn old arguments error → error ≢ gate.Memory → ⊥
  not_valid error is on other =
      let at = on.is_theirs in
      let same = same_texts old arguments is.named on.command at.texts on.asks at.read in
      laws.valid is.named.texts error other is.policy is.metadata is.table
      (subst (λ (t : InputTexts). IsCause t error) same at.is_theirs)

  done_or_memory : (error : GateError) → (error ≢ gate.Memory → ⊥) → IsDoneOrMemory (Gate error)
  done_or_memory (gate.Config faults) no_other = absurd (no_other (λ e. absurd (cc e)))
  done_or_memory (gate.Invalid clashes) no_other = absurd (no_other (λ e. absurd (cc e)))
  done_or_memory (gate.Metadata f) no_other = absurd (no_other (λ e. absurd (cc e)))
  done_or_memory (gate.Replacement at) no_other = absurd (no_other (λ e. absurd (cc e)))
  done_or_memory gate.Memory no_other = tt

  pub completes : (outcome : Outcome) → IsValidRun old arguments → IsReadable old new arguments → IsNotWritten outcome
      → ComesBy old new arguments outcome → IsDoneOrMemory outcome
  completes (Done report) is readable written comes = tt
  completes (Usage at) is readable written comes = absurd (comes.refused (is.named.command, is.named.asks))
  completes (Read which) is readable written comes = absurd (not_readable which readable comes)
  completes (Long which) is readable written comes = absurd
      (not_long is.named.texts which is.short (long_there is.named which comes))
  completes (Gate error) is readable written comes = done_or_memory error (not_valid error is comes)
  completes (Write report) is readable written comes = absurd written
  completes Memory is readable written comes = tt

-- ---- what is left in the outputs, and the text of the policy

-- a report was not written only where the output failed
pub not_written : {W : Type 0} (written : W → Option (List ℕ)) (faults : W → ℕ) (old new : W) (asked : Option Command)
    (outcome : Outcome) → LeavesOut written faults old new asked outcome → (¬ Rose (faults old) (faults new))
    → IsNotWritten outcome
not_written written faults old new asked (Write report) left quiet = absurd (quiet left.0)
not_written written faults old new asked (Done report) left quiet = tt
not_written written faults old new asked (Usage at) left quiet = tt
not_written written faults old new asked (Read which) left quiet = tt
not_written written faults old new asked (Long which) left quiet = tt
not_written written faults old new asked (Gate error) left quiet = tt
not_written written faults old new asked Memory left quiet = tt

-- what was written of a report is what the arguments ask for
pub leaves : {W : Type 0} (written : W → Option (List ℕ)) (faults : W → ℕ) (old new : W) (asked : Option Command)
    (command : Command) (report : Report) (outcome : Outcome) → asked ≡ Some command
    → WritesReport written faults old new command report outcome → LeavesOut written faults old new asked outcome
leaves written faults old new asked command report (Done made) is wrote =
    let same = ap (answer_lines command) (sym wrote.0) ∙ ap (λ (c : Option Command). lines_for c made) (sym is) in
    subst (λ (text : List ℕ). Appends (written old) (written new) text) same wrote.1
leaves written faults old new asked command report (Write made) is wrote =
    let same = ap (answer_lines command) (sym wrote.0) ∙ ap (λ (c : Option Command). lines_for c made) (sym is) in
    subst (λ (text : List ℕ). FailsWriting written faults old new text) same wrote.1
leaves written faults old new asked command report (Usage at) is wrote = absurd wrote
leaves written faults old new asked command report (Read which) is wrote = absurd wrote
leaves written faults old new asked command report (Long which) is wrote = absurd wrote
leaves written faults old new asked command report (Gate error) is wrote = absurd wrote
leaves written faults old new asked command report Memory is wrote = wrote

pub is_text : (old : Disk) (arguments : List (List ℕ)) (policy text : List ℕ) (outcome : Outcome) → text ≡ policy
    → IsTextOfClashes old arguments outcome policy → IsTextOf outcome text
is_text old arguments policy text (Gate (gate.Invalid clashes)) same is = subst
    (λ (t : List ℕ). IsTextOf (Gate (gate.Invalid clashes)) t) (sym same) (
      is.reports.says.utf8,
      short_policy_at old is.command policy (asks_for_few arguments is.command is.asks) is.read,
    )
is_text old arguments policy text (Gate (gate.Config faults)) same is = tt
is_text old arguments policy text (Gate (gate.Metadata f)) same is = tt
is_text old arguments policy text (Gate (gate.Replacement at)) same is = tt
is_text old arguments policy text (Gate gate.Memory) same is = tt
is_text old arguments policy text (Done report) same is = tt
is_text old arguments policy text (Usage at) same is = tt
is_text old arguments policy text (Read which) same is = tt
is_text old arguments policy text (Long which) same is = tt
is_text old arguments policy text (Write report) same is = tt
is_text old arguments policy text Memory same is = tt

-- arguments that are not accepted end a run with `Usage`
pub refused_arguments : (old new : Disk) (arguments : List (List ℕ)) (outcome : Outcome)
    → ComesBy old new arguments outcome
    → (¬ IsAccepted arguments) → IsUsage outcome
refused_arguments old new arguments (Done report) comes refused = absurd (refused (comes.command, comes.asks))
refused_arguments old new arguments (Usage at) comes refused = tt
refused_arguments old new arguments (Read which) comes refused = absurd (refused (comes.command, comes.asks))
refused_arguments old new arguments (Long which) comes refused = absurd (refused (comes.command, comes.asks))
refused_arguments old new arguments (Gate error) comes refused = absurd (refused (comes.command, comes.asks))
refused_arguments old new arguments (Write report) comes refused = absurd (refused (comes.command, comes.asks))
refused_arguments old new arguments Memory comes refused = absurd (refused comes)

-- ---- the headline

of_report : ((told : Option Files) → (texts : InputTexts) → (report : Report) → IsReportOf told texts report
    → IsHeadlineOf texts report)
    → (old : Disk) (arguments : List (List ℕ)) (report : Report) → IsReportOfArguments old arguments report
    → IsHeadlineOn old arguments report
of_report law old arguments report on =
    let at = on.is_theirs in
    record {
      command = on.command;
      asks = on.asks;
      texts = at.texts;
      read = at.read;
      headline = law (known_files old.files on.command) at.texts report at.is_theirs;
    }

pub headline_on : ((told : Option Files) → (texts : InputTexts) → (report : Report) → IsReportOf told texts report
    → IsHeadlineOf texts report)
    → (old new : Disk) (arguments : List (List ℕ)) (outcome : Outcome) → ComesBy old new arguments outcome
    → IfReported outcome (IsHeadlineOn old arguments)
headline_on law old new arguments (Done report) comes = of_report law old arguments report comes
headline_on law old new arguments (Write report) comes = of_report law old arguments report comes
headline_on law old new arguments (Usage at) comes = tt
headline_on law old new arguments (Read which) comes = tt
headline_on law old new arguments (Long which) comes = tt
headline_on law old new arguments (Gate error) comes = tt
headline_on law old new arguments Memory comes = tt

dead_of_report : ((told : Option Files) → (texts : InputTexts) → (report : Report) → IsReportOf told texts report
    → CanDoWithoutDead told texts report)
    → (old : Disk) (arguments : List (List ℕ)) (report : Report) → IsReportOfArguments old arguments report
    → CanDoWithoutDeadOn old arguments report
dead_of_report law old arguments report on =
    let at = on.is_theirs in record {
      command = on.command;
      asks = on.asks;
      texts = at.texts;
      read = at.read;
      can = law (known_files old.files on.command) at.texts report at.is_theirs;
    }

pub dead_on : ((told : Option Files) → (texts : InputTexts) → (report : Report) → IsReportOf told texts report
    → CanDoWithoutDead told texts report)
    → (old new : Disk) (arguments : List (List ℕ)) (outcome : Outcome) → ComesBy old new arguments outcome
    → IfReported outcome (CanDoWithoutDeadOn old arguments)
dead_on law old new arguments (Done report) comes = dead_of_report law old arguments report comes
dead_on law old new arguments (Write report) comes = dead_of_report law old arguments report comes
dead_on law old new arguments (Usage at) comes = tt
dead_on law old new arguments (Read which) comes = tt
dead_on law old new arguments (Long which) comes = tt
dead_on law old new arguments (Gate error) comes = tt
dead_on law old new arguments Memory comes = tt

bits_by : (bans licenses : Bool)
    → bits_of (verdict_by bans licenses) ≡ (if bans then 2 else 0) + (if licenses then 4 else 0)
bits_by false false = refl
bits_by true false = refl
bits_by false true = refl
bits_by true true = refl

failure_by : (bans licenses : Bool)
    → not (bits_of (verdict_by bans licenses) == 0) ≡ is_failure (verdict_by bans licenses)
failure_by false false = refl
failure_by true false = refl
failure_by false true = refl
failure_by true true = refl

-- the status of a run that is done is not 0 exactly where a finding is an error
pub fails_by : (old : Disk) (arguments : List (List ℕ)) (outcome : Outcome) (status : ℕ) → status ≡ status_of outcome
    → IfReported outcome (IsHeadlineOn old arguments)
    → IfDone outcome (λ report. not (status == 0) ≡ list_any has_error report.findings)
fails_by old arguments (Done report) status is done =
    let keeps = done.headline.keeps in
    let bans = list_any (fails_as Bans) report.findings in
    let licenses = list_any (fails_as Licenses) report.findings in
    ap (λ (n : ℕ). not (n == 0)) (is ∙ ap bits_of keeps.bits)
    ∙ (failure_by bans licenses ∙ (ap is_failure (sym keeps.bits) ∙ keeps.fails))
fails_by old arguments (Usage at) status is done = tt
fails_by old arguments (Read which) status is done = tt
fails_by old arguments (Long which) status is done = tt
fails_by old arguments (Gate error) status is done = tt
fails_by old arguments (Write report) status is done = tt
fails_by old arguments Memory status is done = tt

-- the status of a run that is done has a bit for each check with an error
pub status_by : (old : Disk) (arguments : List (List ℕ)) (outcome : Outcome) (status : ℕ) → status ≡ status_of outcome
    → IfReported outcome (IsHeadlineOn old arguments)
    → IfDone outcome (λ report. status ≡ failing_bits report.findings)
status_by old arguments (Done report) status is done =
    is ∙ (ap bits_of done.headline.keeps.bits
    ∙ bits_by (list_any (fails_as Bans) report.findings) (list_any (fails_as Licenses) report.findings))
status_by old arguments (Usage at) status is done = tt
status_by old arguments (Read which) status is done = tt
status_by old arguments (Long which) status is done = tt
status_by old arguments (Gate error) status is done = tt
status_by old arguments (Write report) status is done = tt
status_by old arguments Memory status is done = tt
