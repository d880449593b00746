-- The lines of a report are read back as its values.
use Rattle.std.proofs.Common.{◌≡◌, ℕ, ◌<◌, ◌^◌, List, [], ◌∷◌, ◌++◌, Option, None, Some, ap, ap₂, refl, subst, sym, ◌∙◌}
use Rattle.std.proofs.Common.{append-nil, get_or}
use Rattle.std.specs.Prelude.{All, map}
use Rattle.std.specs.List.{flat_map}
use Rattle.std.specs.Option.{option_map_or}
use Rattle.std.proofs.lemmas.List.Concat.{flat_map-append, flat_map-cons}
use Rattle.std.proofs.lemmas.List.Elements.{All-append, All-cons, All-map, All-nil, All-weaker}
use Rattle.serde_json.specs.Data.{Data, null}
use Rattle.deny_base.specs.declared.entry.EntryId.{EntryId}
use Rattle.deny_base.specs.declared.files.File.{File}
use Rattle.deny_base.specs.declared.span.Kid.{Kid}
use Rattle.deny_krates.specs.Ids.{crate_of}
use Rattle.deny_spec.specs.Graph.{Crate, Graph}
use Rattle.deny_krates_trees.specs.Shown.{graphs_shown}
use Rattle.deny_gate_json.specs.Lines.{diag_line, line, line_with_graphs}
use Rattle.deny_gate_json.specs.Reading.{AreJsonLines, AreShort, IsPlain}
use Rattle.deny_gate_json.proofs.NewlineLemmas.{json_lines}
use Rattle.deny_gate_json.proofs.PlainLemmas.{labels_counted}
use Rattle.deny_gate_json.proofs.PlainLemmas.{finding_reported as finding_plain}
use Rattle.deny_base.specs.declared.unread.Unread.{Unread}
use Rattle.deny_gate.specs.declared.report.Finding.{Finding}
use Rattle.deny_gate.specs.declared.report.Report.{Report}
use Rattle.deny_gate.specs.declared.report.Verdict.{Verdict}
use Rattle.deny_cli.specs.Dead.{dead_value}
use Rattle.deny_cli.specs.Lines.{dead_line, finding_line, lines, malformed_line, unread_line, verdict_line}
use Rattle.deny_cli.specs.Lines.{verdict_value}
use Rattle.deny_cli.specs.Outcome.{IfReported, bits_of}
use Rattle.deny_cli.specs.Summary.{lines_for, report_summary, summary_line, summary_value}
use Rattle.deny_cli.specs.Values.{AreNumbers, HasNumbers, answer_values, finding_data, report_values, values_for}
use Rattle.deny_cli.specs.private.Counted.{IsCounted}
use Rattle.deny_cli.specs.Unread.{malformed_value, named_crate, unread_value, wanted_for}
use Rattle.deny_cli.specs.Arguments.{Command, check, generate}
use Rattle.deny_cli.specs.declared.outcome.Outcome.{Outcome}
use Rattle.deny_cli.specs.declared.outcome.Outcome.TheVariants.{Done, Usage, Read, Long, Gate, Write, Memory}

lines_of : {X : Type 0} (f : X → Data) (xs : List X) → flat_map line (map f xs) ≡ flat_map (λ x. line (f x)) xs
lines_of f [] = refl
lines_of f (x ∷ xs) = flat_map-cons line (f x) (map f xs)
    ∙ (ap (λ (text : List ℕ). line (f x) ++ text) (lines_of f xs) ∙ sym (flat_map-cons (λ x. line (f x)) x xs))

one_line : (value : Data) → flat_map line (value ∷ []) ≡ line value
one_line value = flat_map-cons line value [] ∙ append-nil (line value)

-- the lines of the values of some items, before those of others
lines_and : {X : Type 0} (f : X → Data) (xs : List X) (others : List Data) (text : List ℕ)
    → flat_map line others ≡ text → flat_map line (map f xs ++ others) ≡ flat_map (λ x. line (f x)) xs ++ text
lines_and f xs others text is =
    flat_map-append line (map f xs) others ∙ ap₂ (λ (a b : List ℕ). a ++ b) (lines_of f xs) is

lines_by : (report : Report) → lines report ≡ flat_map line (report_values report)
unfolding lines finding_line dead_line unread_line malformed_line verdict_line diag_line line_with_graphs
lines_by report =
    sym (lines_and (finding_data report.files report.krates) report.findings _ _
    (lines_and dead_value report.dead _ _
    (lines_and (unread_value report.krates) report.unread _ _
    (lines_and malformed_value report.malformed _ _ (one_line (verdict_value report.verdict))))))

dead_plain : (e : EntryId) → HasNumbers e → IsPlain (dead_value e)
dead_plain e fits = (refl, (refl, fits.1, (refl, tt, (tt, fits.0, tt))), (tt, tt, tt))

named_plain : (c : Option Crate) → IsPlain (option_map_or named_crate c null)
named_plain None = tt
named_plain (Some c) = tt

wanted_plain : (g : Graph) (krate : Option Kid) → IsPlain (wanted_for g krate)
wanted_plain g None = tt
wanted_plain g (Some kid) = named_plain (crate_of g kid.0)

unread_plain : (g : Graph) (u : Unread) → IsPlain (unread_value g u)
unread_plain g u = (refl, (refl, wanted_plain g u.krate, (refl, tt, (tt, tt, tt))), (tt, tt, tt))

malformed_plain : (path : List ℕ) → IsPlain (malformed_value path)
malformed_plain path = (refl, (tt, tt, tt), (tt, tt, tt))

verdict_plain : (verdict : Verdict) → bits_of verdict < 2 ^ 64 → IsPlain (verdict_value verdict)
verdict_plain verdict fits = (refl, (refl, fits, (tt, tt, tt)), (tt, tt, tt))

pub summary_plain : (made crates dead errors : ℕ) (verdict : Verdict) → made < 2 ^ 64 → crates < 2 ^ 64
    → dead < 2 ^ 64 → errors < 2 ^ 64 → IsPlain (summary_value made crates dead errors verdict)
summary_plain made crates dead errors verdict made_fits crates_fit dead_fit errors_fit = (
  refl,
  (refl, crates_fit, (refl, dead_fit, (refl, errors_fit, (refl, made_fits, (tt, tt, tt))))),
  (tt, tt, tt),
)

all_and : {X : Type 0} (f : X → Data) (xs : List X) (others : List Data) → All (λ x. IsPlain (f x)) xs
    → All IsPlain others → All IsPlain (map f xs ++ others)
all_and f xs others these those = All-append IsPlain (map f xs) others (All-map IsPlain f xs these) those

counted_plain : (files : List File) (g : Graph) (f : Finding) → IsCounted files f → IsPlain (finding_data files g f)
unfolding IsCounted
counted_plain files g f counted = finding_plain files f.diag.diag (graphs_shown g f.kid f.diag) counted

short_counted : (files : List File) (findings : List Finding) → AreShort files → All (IsCounted files) findings
unfolding IsCounted
short_counted files findings short k f within = labels_counted files short (get_or findings k f).diag.diag.labels

pub values_plain : (report : Report) → All (IsCounted report.files) report.findings → All HasNumbers report.dead
    → bits_of report.verdict < 2 ^ 64 → All IsPlain (report_values report)
values_plain report findings dead bits =
    all_and (finding_data report.files report.krates) report.findings _
    (All-weaker (IsCounted report.files) (λ f. IsPlain (finding_data report.files report.krates f))
    (counted_plain report.files report.krates) report.findings findings)
    (all_and dead_value report.dead _ (All-weaker HasNumbers (λ e. IsPlain (dead_value e)) dead_plain report.dead dead)
    (all_and (unread_value report.krates) report.unread _
    (λ k u within. unread_plain report.krates (get_or report.unread k u))
    (all_and malformed_value report.malformed _ (λ k path within. malformed_plain (get_or report.malformed k path))
    (All-cons IsPlain (verdict_value report.verdict) [] (verdict_plain report.verdict bits) (All-nil IsPlain)))))

-- ---- lines

-- the lines that a command writes of a report are those of its values
answer_by : (asked : Option Command) (report : Report) → lines_for asked report ≡ flat_map line
    (values_for asked report)
unfolding summary_line
answer_by None report = refl
answer_by (Some (check asked)) report = lines_by report
answer_by (Some (generate crates)) report = sym (one_line (report_summary crates report))

json_for : (asked : Option Command) (report : Report) → All IsPlain (values_for asked report)
    → AreJsonLines (lines_for asked report) (values_for asked report)
json_for asked report are = subst (λ (text : List ℕ). AreJsonLines text (values_for asked report))
    (sym (answer_by asked report)) (json_lines (values_for asked report) are)

pub json_line : (value : Data) → IsPlain value → AreJsonLines (line value) (value ∷ [])
json_line value is = subst (λ (text : List ℕ). AreJsonLines text (value ∷ [])) (one_line value)
    (json_lines (value ∷ []) (All-cons IsPlain value [] is (All-nil IsPlain)))

pub are_json_lines : (report : Report) → AreNumbers report → AreJsonLines (lines report) (report_values report)
are_json_lines report fits = subst (λ (text : List ℕ). AreJsonLines text (report_values report)) (sym (lines_by report))
    (json_lines (report_values report) (values_plain report (short_counted report.files report.findings fits.files)
    fits.dead
    fits.bits))

-- ---- the values of an outcome

-- the values of a command are those of the arguments
pub values_asked : (asked : Option Command) (command : Command) (outcome : Outcome) → asked ≡ Some command
    → IfReported outcome (λ report. All IsPlain (answer_values command report))
    → IfReported outcome (λ report. All IsPlain (values_for asked report))
values_asked asked command outcome is are =
    subst (λ (a : Option Command). IfReported outcome (λ report. All IsPlain (values_for a report))) (sym is) are

pub values_json : (asked : Option Command) (outcome : Outcome)
    → IfReported outcome (λ report. All IsPlain (values_for asked report))
    → IfReported outcome (λ report. AreJsonLines (lines_for asked report) (values_for asked report))
values_json asked (Done report) are = json_for asked report are
values_json asked (Write report) are = json_for asked report are
values_json asked (Usage at) are = tt
values_json asked (Read which) are = tt
values_json asked (Long which) are = tt
values_json asked (Gate error) are = tt
values_json asked Memory are = tt
