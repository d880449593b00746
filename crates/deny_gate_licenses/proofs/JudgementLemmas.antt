-- The judgement of a crate has exactly the codes that hold of the crate.
use Rattle.std.proofs.Common.{◌≡◌, ◌&&◌, Bool, true, false, List, Some, None, cond, not, refl, sym, ap}
use Rattle.std.proofs.Common.{◌∙◌, ℕ, subst, Err}
use Rattle.std.specs.Prelude.{is_none}
use Rattle.std.specs.Option.{option_map_or}
use Rattle.std.proofs.lemmas.Bool.{not-true}
use Rattle.std.proofs.lemmas.Option.{none-some, same_Some}
use Rattle.deny_base.specs.declared.license_code.LicenseCode.{LicenseCode}
use Rattle.deny_base.specs.declared.license_code.LicenseCode.TheVariants as license
use Rattle.deny_spdx.specs.Reads.{BadAt, IsReading, Read, Reading, reading_in}
use Rattle.deny_spdx.specs.Truth.{truth}
use Rattle.deny_spdx.specs.declared.error.SpdxError.{SpdxError}
use Rattle.deny_spdx.specs.declared.error.SpdxError.TheVariants as error
use Rattle.deny_spdx.specs.declared.expression.Expression.{Expression}
use Rattle.deny_spdx.specs.declared.requirement.Requirement.{Requirement}
use Rattle.deny_krates.specs.Crates.{crate_view}
use Rattle.deny_krates.specs.krate.Krate.{Krate}
use Rattle.deny_spec.specs.Graph.{Crate}
use Rattle.deny_spec.specs.Licensing.{Licensing}
use Rattle.deny_spec.specs.Match.{matches}
use Rattle.deny_spec_report.specs.Licences.{allows, exception_of, excepts, expression_in, expression_of, holds}
use Rattle.deny_spec_report.specs.Licences.{is_accepted}
use Rattle.deny_spec_report.specs.Licences.{is_granted, is_licensed, is_scanned, is_passed_over, is_rejected}
use Rattle.deny_spec_report.specs.Licences.{is_skipped_private, is_unlicensed, is_unreadable, licence_text}
use Rattle.deny_gate_licenses.specs.declared.judgement.Judgement.{Judgement}
use Rattle.deny_gate_licenses.specs.declared.judgement.Judgement.TheVariants as judgement
use Rattle.deny_gate_licenses.specs.declared.answers.Answers.{Answers}
use Rattle.deny_gate_licenses.specs.declared.granter.Granter.{Granter}
use Rattle.deny_gate_licenses.specs.private.Answers.{AreAnswers, granters_for, notes_for}
use Rattle.deny_gate_licenses.specs.private.Granters.{granter_of}
use Rattle.deny_gate_licenses.specs.private.Judgements.{code_of, judgement_of, of_expression, of_reading, unread_of}

-- the judgement of a crate does not depend on its place
pub anywhere : (l : Licensing) (k : Krate) (place : ℕ)
    → judgement_of l (crate_view 0 k) ≡ judgement_of l (crate_view place k)
unfolding judgement_of is_passed_over is_licensed holds is_granted exception_of excepts allows matches granter_of
anywhere l k place = refl

-- the rule of each code of a crate
abbrev pub rule_of : LicenseCode → (Crate → Bool) → Licensing → Crate → Bool
rule_of license.Accepted = is_accepted
rule_of license.Rejected = is_rejected
rule_of license.Unlicensed = is_unlicensed
rule_of license.ParseError = is_unreadable
rule_of license.SkippedPrivateWorkspaceCrate = is_skipped_private
rule_of license.LicenseNotEncountered = λ counts l c. false
rule_of license.LicenseExceptionNotEncountered = λ counts l c. false

-- the rule of each code, by whether the crate counts, is skipped and has a licence, and by the reading of its text
abbrev rule_by : LicenseCode → (Expression → Bool) → Bool → Bool → Bool → Reading → Bool
rule_by license.Accepted holds counts passed licensed reading =
    (counts && not passed) && option_map_or holds (cond licensed (expression_in reading) None) false
rule_by license.Rejected holds counts passed licensed reading =
    (counts && not passed) && option_map_or (λ e. not (holds e)) (cond licensed (expression_in reading) None) false
rule_by license.Unlicensed holds counts passed licensed reading = (counts && not passed) && not licensed
rule_by license.ParseError holds counts passed licensed reading =
    (counts && not passed) && (licensed && is_none (cond licensed (expression_in reading) None))
rule_by license.SkippedPrivateWorkspaceCrate holds counts passed licensed reading = counts && passed
rule_by license.LicenseNotEncountered holds counts passed licensed reading = false
rule_by license.LicenseExceptionNotEncountered holds counts passed licensed reading = false

module _ (l : Licensing) (c : Crate) where
  abbrev judged : Bool → Bool → Reading → Judgement
  judged passed licensed reading = cond passed judgement.Private
      (cond licensed (of_reading l c reading) judgement.Unlicensed)

  abbrev by_holding : Expression → Bool → Judgement
  by_holding e so = cond so (judgement.Accepted (granters_for l c e.requirements))
      (judgement.Rejected (granters_for l c e.requirements) (notes_for l c e.requirements))

  rule-is : (d : LicenseCode) (counts : Crate → Bool) → rule_of d counts l c
      ≡ rule_by d (holds l c) (counts c) (is_passed_over l c) (is_licensed c) (reading_in (licence_text c))
  unfolding is_accepted is_rejected is_unlicensed is_unreadable is_skipped_private is_scanned expression_of
  rule-is license.Accepted counts = refl
  rule-is license.Rejected counts = refl
  rule-is license.Unlicensed counts = refl
  rule-is license.ParseError counts = refl
  rule-is license.SkippedPrivateWorkspaceCrate counts = refl
  rule-is license.LicenseNotEncountered counts = refl
  rule-is license.LicenseExceptionNotEncountered counts = refl

  sound-at : (e : Expression) (so : Bool) → holds l c e ≡ so
      → rule_by (code_of (by_holding e so)) (holds l c) true false true (Read e) ≡ true
  sound-at e true is = is
  sound-at e false is = ap not is

  sound-by : (passed licensed : Bool) (reading : Reading)
      → rule_by (code_of (judged passed licensed reading)) (holds l c) true passed licensed reading ≡ true
  sound-by true licensed reading = refl
  sound-by false false reading = refl
  sound-by false true (BadAt at) = refl
  sound-by false true (Read e) = sound-at e (holds l c e) refl

  -- the rule of the judgement's code holds of a crate that counts
  pub code-sound : (counts : Crate → Bool) → counts c ≡ true → rule_of (code_of (judgement_of l c)) counts l c ≡ true
  unfolding judgement_of
  code-sound counts is =
      rule-is (code_of (judgement_of l c)) counts
      ∙ (ap (λ b. rule_by (code_of (judgement_of l c)) (holds l c) b (is_passed_over l c) (is_licensed c)
      (reading_in (licence_text c))) is
      ∙ sound-by (is_passed_over l c) (is_licensed c) (reading_in (licence_text c)))

  whole-by : (d : LicenseCode) (counts passed licensed : Bool) (reading : Reading)
      → rule_by d (holds l c) counts passed licensed reading ≡ true
      → (counts ≡ true) × (code_of (judged passed licensed reading) ≡ d)
  whole-by license.Accepted false passed licensed reading is = absurd (cc is)
  whole-by license.Accepted true true licensed reading is = absurd (cc is)
  whole-by license.Accepted true false false reading is = absurd (cc is)
  whole-by license.Accepted true false true (BadAt at) is = absurd (cc is)
  whole-by license.Accepted true false true (Read e) is = (refl, ap (λ so. code_of (by_holding e so)) is)
  whole-by license.Rejected false passed licensed reading is = absurd (cc is)
  whole-by license.Rejected true true licensed reading is = absurd (cc is)
  whole-by license.Rejected true false false reading is = absurd (cc is)
  whole-by license.Rejected true false true (BadAt at) is = absurd (cc is)
  whole-by license.Rejected true false true (Read e) is =
      (refl, ap (λ so. code_of (by_holding e so)) (not-true (holds l c e) is))
  whole-by license.Unlicensed false passed licensed reading is = absurd (cc is)
  whole-by license.Unlicensed true true licensed reading is = absurd (cc is)
  whole-by license.Unlicensed true false true reading is = absurd (cc is)
  whole-by license.Unlicensed true false false reading is = (refl, refl)
  whole-by license.ParseError false passed licensed reading is = absurd (cc is)
  whole-by license.ParseError true true licensed reading is = absurd (cc is)
  whole-by license.ParseError true false false reading is = absurd (cc is)
  whole-by license.ParseError true false true (Read e) is = absurd (cc is)
  whole-by license.ParseError true false true (BadAt at) is = (refl, refl)
  whole-by license.SkippedPrivateWorkspaceCrate false passed licensed reading is = absurd (cc is)
  whole-by license.SkippedPrivateWorkspaceCrate true false licensed reading is = absurd (cc is)
  whole-by license.SkippedPrivateWorkspaceCrate true true licensed reading is = (refl, refl)
  whole-by license.LicenseNotEncountered counts passed licensed reading is = absurd (cc is)
  whole-by license.LicenseExceptionNotEncountered counts passed licensed reading is = absurd (cc is)

  -- no other code's rule holds of it
  pub code-whole : (d : LicenseCode) (counts : Crate → Bool) → rule_of d counts l c ≡ true
      → (counts c ≡ true) × (code_of (judgement_of l c) ≡ d)
  unfolding judgement_of
  code-whole d counts is = whole-by d (counts c) (is_passed_over l c) (is_licensed c) (reading_in (licence_text c))
      (sym (rule-is d counts) ∙ is)

-- an expression is judged by the answers to its requirements
pub judged-is : (l : Licensing) (c : Crate) (e : Expression) (rs : List Requirement) (answers : Answers) (so : Bool)
    → AreAnswers l c rs answers → rs ≡ e.requirements → truth answers.allowed e.tree ≡ so
    → cond so (judgement.Accepted answers.granters) (judgement.Rejected answers.granters answers.notes)
    ≡ of_expression l c e
unfolding holds
judged-is l c e rs answers so are same is =
    let here : AreAnswers l c e.requirements answers = subst (λ (qs : List Requirement). AreAnswers l c qs answers) same
    are in
    let granters = granters_for l c e.requirements in
    ap (λ (gs : List Granter). cond so (judgement.Accepted gs) (judgement.Rejected gs answers.notes)) here.granters
    ∙ (ap (λ (ns : List (List ℕ)). cond so (judgement.Accepted granters) (judgement.Rejected granters ns)) here.notes
    ∙ ap (λ b. cond b (judgement.Accepted granters) (judgement.Rejected granters (notes_for l c e.requirements)))
    (sym is ∙ ap (λ (bs : List Bool). truth bs e.tree) here.allowed))

-- a text that cannot be read is bad at the offset of its error
pub unread-is : (l : Licensing) (c : Crate) (text : List ℕ) (e : SpdxError) (j : Judgement) → unread_of e ≡ Some j
    → IsReading text (Err e) → j ≡ of_reading l c (reading_in text)
unread-is l c text (error.Bad at) j is reads =
    sym (same_Some (judgement.Unreadable at) j is) ∙ sym (ap (of_reading l c) reads)
unread-is l c text error.Memory j is reads = absurd (none-some j is)
