-- The code that a program exits with, by the counts of a report, has the bits of its verdict.
use Rattle.std.proofs.Common.{◌≡◌, ◌∙◌, ◌==◌, ◌+◌, ◌-◌, ◌^◌, ℕ, Bool, true, false, not, List, [], ◌∷◌, Contains, Option}
use Rattle.std.proofs.Common.{None, Some, ap, arith, refl, subst, sym}
use Rattle.std.specs.Prelude.{◌&&◌, ◌||◌, ℤ, pos, filter, if◌then◌else◌, is_some, length, map, min, nat_lt}
use Rattle.std.specs.List.{list_any}
use Rattle.std.proofs.lemmas.Bool.{false≢true, and_right}
use Rattle.std.proofs.lemmas.Bool.Decides.{nat_tests}
use Rattle.deny_base.specs.declared.check.Check.{Check}
use Rattle.deny_base.specs.declared.check.Check.TheVariants as check
use Rattle.deny_base.specs.declared.code.DiagnosticCode.{DiagnosticCode}
use Rattle.deny_base.specs.declared.code.DiagnosticCode.TheVariants.{Deprecated, Bans, License, Expired}
use Rattle.deny_base.specs.declared.key.Key.{Key}
use Rattle.deny_base.specs.declared.level.Severity.{Severity}
use Rattle.deny_base.specs.declared.level.Severity.TheVariants as severity
use Rattle.deny_base_lists.proofs.Agreement.{list_any_on}
use Rattle.deny_base_lists.proofs.Filters.{some-filter}
use Rattle.deny_base_lists.proofs.Members.{Contains-first, Contains-rest}
use Rattle.deny_spec.specs.Licensing.{Licensing}
use Rattle.deny_base_disk.specs.Disk.{Files}
use Rattle.deny_spec_report.specs.Circumstances.{Circumstances}
use Rattle.deny_spec_report.specs.Facts.{Facts}
use Rattle.deny_spec_report.specs.Holding.{Holds, HoldsBy}
use Rattle.deny_spec_report.specs.Diags.{check_of_code}
use Rattle.deny_gate.specs.Gating.{IsReportOf, InputTexts, circumstances_of}
use Rattle.deny_gate.specs.Report.{IsReport, fails_as, finding_for, has_error, is_error, verdict_by, verdict_of}
use Rattle.deny_gate.specs.Stats.{all_stats, bit_of, code_of, counts_as, exit_code, number_of, same_check}
use Rattle.deny_gate.specs.Stats.{same_severity, stats_of}
use Rattle.deny_gate.specs.declared.report.Finding.{Finding}
use Rattle.deny_gate.specs.declared.report.Report.{Report}
use Rattle.deny_gate.specs.declared.stats.AllStats.{AllStats}
use Rattle.deny_gate.proofs.FindingKeys.{none_licensed}

-- ---- a check has errors exactly where its count of errors is not 0

error_is : (s : Severity) → same_severity s severity.Error ≡ is_error s
error_is severity.Bug = refl
error_is severity.Error = refl
error_is severity.Warning = refl
error_is severity.Note = refl
error_is severity.Help = refl

counts_error : (of : Check) (f : Finding) → counts_as of severity.Error f ≡ fails_as of f
unfolding counts_as fails_as has_error
counts_error of f = ap (λ (b : Bool). b && same_check f.check of) (error_is f.diag.diag.severity)

capped_zero : (n : ℕ) → (min n (2 ^ 32 - 1) == 0) ≡ not (nat_lt 0 n)
capped_zero n = grind (arith, nat_tests)

no_error : (of : Check) (fs : List Finding) → (number_of of severity.Error fs == 0) ≡ not (list_any (fails_as of) fs)
unfolding number_of
no_error of fs =
    capped_zero (length (filter (counts_as of severity.Error) fs))
    ∙ ap (λ (b : Bool). not b) (some-filter (counts_as of severity.Error) fs
    ∙ list_any_on (counts_as of severity.Error) (fails_as of) fs (λ f at. counts_error of f))

turned : (bit : ℕ) (b : Bool) → (if not b then 0 else bit) ≡ (if b then bit else 0)
turned bit true = refl
turned bit false = refl

bit_is : (bit : ℕ) (of : Check) (fs : List Finding)
    → bit_of bit (Some (stats_of of fs)) ≡ (if list_any (fails_as of) fs then bit else 0)
bit_is bit of fs = ap (λ (b : Bool). if b then 0 else bit) (no_error of fs) ∙ turned bit (list_any (fails_as of) fs)

-- ---- the licence check, which has none where it is not made

licence_bit : (has : Bool) (fs : List Finding) → (has ≡ false → list_any (fails_as check.Licenses) fs ≡ false)
    → bit_of 4 (if has then Some (stats_of check.Licenses fs) else None)
    ≡ (if list_any (fails_as check.Licenses) fs then 4 else 0)
licence_bit true fs none = bit_is 4 check.Licenses fs
licence_bit false fs none = ap (λ (b : Bool). if b then 4 else 0) (sym (none refl))

of_bans : (d : DiagnosticCode) (c : Circumstances) (facts : Facts) (key : Key) → c.licensing ≡ None
    → HoldsBy d c facts key → same_check (check_of_code d) check.Licenses ≡ false
of_bans Deprecated c facts key none is = refl
of_bans (Bans d) c facts key none is = refl
of_bans (License d) c facts key none is = absurd (none_licensed d c.licensing c.graph key none is)
of_bans Expired c facts key none is = refl

passes_licences : (c : Circumstances) (facts : Facts) (key : Key) → c.licensing ≡ None → Holds c facts key
    → fails_as check.Licenses (finding_for c key) ≡ false
unfolding fails_as finding_for
passes_licences c facts key none is =
    and_right (has_error (finding_for c key)) (same_check (check_of_code key.code) check.Licenses)
    (of_bans key.code c facts key none is)

no_licence_fails : (c : Circumstances) (facts : Facts) (keys : List Key) → c.licensing ≡ None
    → ((key : Key) → Contains keys key → Holds c facts key)
    → list_any (fails_as check.Licenses) (map (finding_for c) keys) ≡ false
no_licence_fails c facts [] none hold = refl
no_licence_fails c facts (key ∷ keys) none hold =
    ap (λ (b : Bool). b || list_any (fails_as check.Licenses) (map (finding_for c) keys))
    (passes_licences c facts key none (hold key (Contains-first key keys)))
    ∙ no_licence_fails c facts keys none (λ k at. hold k (Contains-rest key keys k at))

no_licensing : (licensing : Option Licensing) → is_some licensing ≡ false → licensing ≡ None
no_licensing None none = refl
no_licensing (Some l) none = absurd (false≢true (sym none))

-- ---- the exit code

abbrev code_by : ℕ → Option ℤ
code_by bits = if bits == 0 then None else Some (pos bits)

code_is : (bans licenses : Bool)
    → code_by (0 + (if bans then 2 else 0) + (if licenses then 4 else 0) + 0) ≡ code_of (verdict_by bans licenses)
code_is false false = refl
code_is true false = refl
code_is false true = refl
code_is true true = refl

by_counts : (has : Bool) (fs : List Finding) → (has ≡ false → list_any (fails_as check.Licenses) fs ≡ false)
    → exit_code (all_stats has fs) ≡ code_of (verdict_of fs)
by_counts has fs none =
    ap (λ (n : ℕ). code_by (0 + n + bit_of 4 (if has then Some (stats_of check.Licenses fs) else None) + 0))
    (bit_is 2 check.Bans fs)
    ∙ (ap (λ (n : ℕ). code_by (0 + (if list_any (fails_as check.Bans) fs then 2 else 0) + n + 0))
    (licence_bit has fs none)
    ∙ code_is (list_any (fails_as check.Bans) fs) (list_any (fails_as check.Licenses) fs))

code_in : (c : Circumstances) (report : Report) → IsReport c report → exit_code report.stats ≡ code_of report.verdict
code_in c report is =
    let pass : is_some c.licensing ≡ false → list_any (fails_as check.Licenses) report.findings ≡ false =
    λ none. subst (λ (fs : List Finding). list_any (fails_as check.Licenses) fs ≡ false) (sym is.findings)
    (no_licence_fails c is.listed.facts is.keys (no_licensing c.licensing none) is.listed.listed.sound) in
    ap (λ (s : AllStats). exit_code s) is.stats
    ∙ (by_counts (is_some c.licensing) report.findings pass ∙ ap code_of (sym is.verdict))

pub exit_of : (told : Option Files) (texts : InputTexts) (report : Report) → IsReportOf told texts report
    → exit_code report.stats ≡ code_of report.verdict
exit_of told texts report of =
    let by = of.by in
    code_in (circumstances_of by.said by.graph texts.replacements of.view of.packages) report by.is_report
