-- The headline follows from the definition of a report.
use Rattle.std.proofs.Common.{◌≡◌, ◌⊎◌, ℕ, Bool, true, false, IsTrue, List, [], ◌∷◌, Contains, Option, Some, refl, sym}
use Rattle.std.proofs.Common.{ap, ◌∙◌, subst, inl, inr}
use Rattle.std.specs.Prelude.{◌&&◌, ◌||◌, filter, map}
use Rattle.std.specs.List.{list_any}
use Rattle.std.proofs.lemmas.Bool.{and_from, cases_Bool, cond-true, cond-false}
use Rattle.std.proofs.lemmas.List.Kept.{IsStrictlySortedBy-filter}
use Rattle.deny_base_lists.specs.Ascending.{Lists}
use Rattle.deny_base.specs.KeyOrder.{key_cmp}
use Rattle.deny_base.specs.declared.check.Check.TheVariants as check
use Rattle.deny_base.specs.declared.code.DiagnosticCode.{DiagnosticCode}
use Rattle.deny_base.specs.declared.code.DiagnosticCode.TheVariants.{Deprecated, Bans, License, Expired}
use Rattle.deny_base.specs.declared.key.Key.{Key}
use Rattle.deny_base_lists.proofs.Members.{Contains-filter, filtered, from_contains_map, passes_filter}
use Rattle.deny_spec.specs.Building.{Building}
use Rattle.deny_spec.specs.declared.package.Package.{Package}
use Rattle.deny_cfg.specs.LicensingView.{licensing_of}
use Rattle.deny_cfg.specs.PolicyText.{IsPolicyOf}
use Rattle.deny_cfg.specs.PolicyView.{building_of, policy_view}
use Rattle.deny_cfg.specs.declared.policy.Policy as cfg
use Rattle.deny_cfg_entries.specs.declared.day.Day.{Day}
use Rattle.deny_spec.specs.Licensing.{Licensing}
use Rattle.deny_spec.specs.Policy.{Policy}
use Rattle.deny_spec.specs.View.{View}
use Rattle.deny_base_disk.specs.Disk.{Files}
use Rattle.deny_spec_report.specs.Circumstances.{Circumstances}
use Rattle.deny_spec_report.specs.Facts.{Facts}
use Rattle.deny_spec_report.specs.Holding.{Holds}
use Rattle.deny_spec_report.specs.Diags.{check_of_code, diag_of, key_message}
use Rattle.deny_gate.specs.Gating.{IsReportBy, IsReportOf, InputTexts, circumstances_of}
use Rattle.deny_gate.specs.Headline.{IsHeadlineOf, IsViolation, KeepsHeadline, WritesRule, WritesRuleOf, is_crate_error}
use Rattle.deny_gate.specs.Headline.{is_crate_rule, is_failure}
use Rattle.deny_gate.specs.Report.{IsReport, fails_as, finding_for, has_error, is_error, policy_id, verdict_by}
use Rattle.deny_gate.specs.Report.{verdict_of}
use Rattle.deny_gate.specs.Stats.{same_check}
use Rattle.deny_gate.specs.declared.report.Finding.{Finding}
use Rattle.deny_gate.specs.declared.report.Report.{Report}
use Rattle.deny_gate.proofs.FindingLaws.{key_of_finding}
use Rattle.deny_gate.proofs.EachCode.{grave}
use Rattle.deny_gate.proofs.ActiveRules.{is_on}
use Rattle.deny_gate.proofs.WrittenRules.{rule_written}
use Rattle.deny_gate.proofs.Placed.{ArePlaced, are_placed}
use Rattle.deny_gate.proofs.Violations.{error_is, violation_error, violation_from, violation_holds}

-- ---- the violations

abbrev is_error_key : Circumstances → Key → Bool
is_error_key c key = is_crate_error (finding_for c key)

-- the keys of the crate-rule errors, among those of all findings
kept_keys : (c : Circumstances) (keys : List Key)
    → map (λ (f : Finding). f.diag.key) (filter is_crate_error (map (finding_for c) keys))
    ≡ filter (is_error_key c) keys
kept_keys c [] = refl
kept_keys c (key ∷ keys) =
    let finding = finding_for c key in
    let others = filter is_crate_error (map (finding_for c) keys) in
    let rest : map (λ (f : Finding). f.diag.key) others ≡ filter (is_error_key c) keys = kept_keys c keys in
    elim (cases_Bool (is_crate_error finding))
    as (λ _. map (λ (f : Finding). f.diag.key) (filter is_crate_error (map (finding_for c) (key ∷ keys)))
    ≡ filter (is_error_key c) (key ∷ keys)) [
      | inl e ↦
          ap (map (λ (f : Finding). f.diag.key)) (cond-true (is_crate_error finding) (finding ∷ others) others e)
          ∙ (ap (λ (k : Key). k ∷ map (λ (f : Finding). f.diag.key) others) (key_of_finding c key)
          ∙ (ap (λ (ks : List Key). key ∷ ks) rest
          ∙ sym (cond-true (is_crate_error finding) (key ∷ filter (is_error_key c) keys)
          (filter (is_error_key c) keys) e)))
      | inr e ↦
          ap (map (λ (f : Finding). f.diag.key)) (cond-false (is_crate_error finding) (finding ∷ others) others e)
          ∙ (rest ∙ sym (cond-false (is_crate_error finding) (key ∷ filter (is_error_key c) keys)
          (filter (is_error_key c) keys) e))
    ]

violations_listed : (c : Circumstances) (facts : Facts) (keys : List Key) → ArePlaced c.graph c.graph.crates
    → Lists key_cmp (Holds c facts) keys
    → Lists key_cmp (IsViolation c.policy c.graph facts.chains) (filter (is_error_key c) keys)
violations_listed c facts keys placed listed = record {
  ascending = IsStrictlySortedBy-filter key_cmp (is_error_key c) keys listed.ascending;
  whole = λ key is. Contains-filter (is_error_key c) keys key
      (listed.whole key (violation_holds c facts placed key is)) (violation_error c facts placed key is);
  sound = λ key at. violation_from c facts placed key (listed.sound key (filtered (is_error_key c) keys key at))
      (passes_filter (is_error_key c) keys key at);
}

-- ---- the other errors

severity_is : (c : Circumstances) (key : Key) → has_error (finding_for c key) ≡ is_error (key_message c key).severity
unfolding has_error finding_for diag_of
severity_is c key = refl

code_is : (c : Circumstances) (key : Key) → (finding_for c key).diag.diag.code ≡ Some key.code
unfolding finding_for diag_of
code_is c key = refl

-- an error is one of the crate rules, or of another active rule
abbrev IsGraveFinding : Policy → Option Licensing → Option Building → Finding → Type 0
IsGraveFinding p licensing building f = (is_crate_error f ≡ true)
    ⊎ ((d : DiagnosticCode) × (f.diag.diag.code ≡ Some d) × (is_on d p licensing building ≡ true))

grave_finding : (c : Circumstances) (facts : Facts) (key : Key) → Holds c facts key
    → has_error (finding_for c key) ≡ true → IsGraveFinding c.policy c.licensing c.building (finding_for c key)
grave_finding c facts key holds error =
    let severe = sym (severity_is c key) ∙ error in
    elim (grave key.code c facts key refl holds severe)
    as (λ _. IsGraveFinding c.policy c.licensing c.building (finding_for c key)) [
      | inl rule ↦ inl (error_is c key
          ∙ and_from (is_error (key_message c key).severity) (is_crate_rule (Some key.code)) severe rule)
      | inr active ↦ inr (key.code, code_is c key, active)
    ]

-- ---- the verdict

-- a finding is one of the bans check, or one of the licence check
of_one : (error : Bool) (d : DiagnosticCode)
    → ((error && same_check (check_of_code d) check.Bans) || (error && same_check (check_of_code d) check.Licenses))
    ≡ error
of_one false d = refl
of_one true Deprecated = refl
of_one true (Bans d) = refl
of_one true (License d) = refl
of_one true Expired = refl

fails_as_one : (c : Circumstances) (key : Key)
    → (fails_as check.Bans (finding_for c key) || fails_as check.Licenses (finding_for c key))
    ≡ has_error (finding_for c key)
unfolding fails_as finding_for
fails_as_one c key = of_one (has_error (finding_for c key)) key.code

or_apart : (a b c d : Bool) → ((a || b) || (c || d)) ≡ ((a || c) || (b || d))
or_apart true b c d = refl
or_apart false true true d = refl
or_apart false false true d = refl
or_apart false b false d = refl

any_fails : (c : Circumstances) (keys : List Key)
    → (list_any (fails_as check.Bans) (map (finding_for c) keys)
    || list_any (fails_as check.Licenses) (map (finding_for c) keys))
    ≡ list_any has_error (map (finding_for c) keys)
any_fails c [] = refl
any_fails c (key ∷ keys) =
    let finding = finding_for c key in
    let more = map (finding_for c) keys in
    or_apart (fails_as check.Bans finding) (list_any (fails_as check.Bans) more) (fails_as check.Licenses finding)
    (list_any (fails_as check.Licenses) more)
    ∙ (ap (λ (b : Bool). b || (list_any (fails_as check.Bans) more || list_any (fails_as check.Licenses) more))
    (fails_as_one c key) ∙ ap (λ (b : Bool). has_error finding || b) (any_fails c keys))

failure_is : (bans licenses : Bool) → is_failure (verdict_by bans licenses) ≡ (bans || licenses)
failure_is false false = refl
failure_is true false = refl
failure_is false true = refl
failure_is true true = refl

module _ (c : Circumstances) (facts : Facts) (keys : List Key)
    (hold : (key : Key) → Contains keys key → Holds c facts key) where
  abbrev findings : List Finding
  findings = map (finding_for c) keys

  fails_by_errors : is_failure (verdict_of findings) ≡ list_any has_error findings
  fails_by_errors =
      failure_is (list_any (fails_as check.Bans) findings) (list_any (fails_as check.Licenses) findings)
      ∙ any_fails c keys

  -- a property of the finding of each key that holds is one of each finding
  each_finding : (P : Finding → Type 0) → ((key : Key) → Holds c facts key → P (finding_for c key)) → (f : Finding)
      → Contains findings f → P f
  each_finding P each f is =
      let of = from_contains_map (finding_for c) keys f is in
      subst P of.2 (each of.0 (hold of.0 of.1))

  grave_findings : (f : Finding) → Contains findings f → has_error f ≡ true
      → IsGraveFinding c.policy c.licensing c.building f
  grave_findings = each_finding (λ (f : Finding). has_error f ≡ true → IsGraveFinding c.policy c.licensing c.building f)
      (grave_finding c facts)

-- ---- the headline

keeps : (c : Circumstances) (report : Report) → ArePlaced c.graph c.graph.crates → (is : IsReport c report)
    → KeepsHeadline c.policy c.graph is.listed.facts.chains report
keeps c report placed is =
    let facts = is.listed.facts in
    let listed = violations_listed c facts is.keys placed is.listed.listed in
    record {
      violations =
          subst (λ (fs : List Finding). Lists key_cmp (IsViolation c.policy c.graph facts.chains)
          (map (λ (f : Finding). f.diag.key) (filter is_crate_error fs))) (sym is.findings)
          (subst (λ (ks : List Key). Lists key_cmp (IsViolation c.policy c.graph facts.chains) ks)
          (sym (kept_keys c is.keys)) listed);
      fails = ap is_failure is.verdict ∙ subst
          (λ (fs : List Finding). is_failure (verdict_of fs) ≡ list_any has_error fs) (sym is.findings)
          (fails_by_errors c facts is.keys is.listed.listed.sound);
      bits = is.verdict;
    }

written_code : (text : List ℕ) (d : DiagnosticCode) (o : Option DiagnosticCode) → o ≡ Some d → WritesRule text d
    → WritesRuleOf text o
written_code text d o same written = subst (WritesRuleOf text) (sym same) written

other_written : (today : Option Day) (text : List ℕ) (said : cfg.Policy) (f : Finding)
    → IsPolicyOf today text policy_id said
    → IsGraveFinding (policy_view said.bans) (licensing_of said.licenses) (building_of said.bans) f
    → IsTrue (is_crate_error f) ⊎ WritesRuleOf text f.diag.diag.code
other_written today text said f is (inl rule) = inl rule
other_written today text said f is (inr other) = inr
    (written_code text other.0 f.diag.diag.code other.1 (rule_written today text said is other.0 other.2))

others_of : (told : Option Files) (texts : InputTexts) (view : View) (packages : List Package) (report : Report)
    (by : IsReportBy told texts view packages report) (f : Finding)
    → Contains report.findings f → has_error f ≡ true
    → IsTrue (is_crate_error f) ⊎ WritesRuleOf texts.policy f.diag.diag.code
others_of told texts view packages report by f at error =
    let is = by.is_report in
    let c : Circumstances = circumstances_of by.said by.graph texts.replacements view packages in
    other_written texts.today texts.policy by.said f by.is_said
    (grave_findings c is.listed.facts is.keys is.listed.listed.sound f
    (subst (λ (fs : List Finding). Contains fs f) is.findings at) error)

pub headline_of : (told : Option Files) (texts : InputTexts) (report : Report) → IsReportOf told texts report
    → IsHeadlineOf texts report
headline_of told texts report of =
    let by = of.by in
    let is = by.is_report in
    let c : Circumstances = circumstances_of by.said by.graph texts.replacements of.view of.packages in
    record {
      said = by.said;
      is_said = by.is_said;
      graph = by.graph;
      is_graph = by.is_graph;
      facts = is.listed.facts.chains;
      true_facts = is.listed.true_facts.chains;
      keeps = keeps c report (are_placed texts.metadata by.graph by.is_graph) is;
      others = others_of told texts of.view of.packages report by;
    }
