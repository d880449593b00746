-- Inputs have one answer, since a text is one policy or none for one reason, and bytes break at one offset.
use Rattle.std.proofs.Common.{◌≡◌, ◌≢◌, ◌⊎◌, ◌∙◌, ℕ, List, [], ◌∷◌, Option, None, Some, Ok, Err, ap, inl}
use Rattle.std.proofs.Common.{inr, refl, sym}
use Rattle.deny_base.specs.declared.finding.Diagnostic.{Diagnostic}
use Rattle.deny_base.specs.declared.span.Span.{Span}
use Rattle.deny_cfg.specs.PolicyText.{IsPolicyOf, ListsFaults, ReportsClashes}
use Rattle.deny_cfg.specs.declared.policy.Policy.{Policy}
use Rattle.deny_cfg_entries.specs.declared.day.Day.{Day}
use Rattle.deny_krates.specs.fault.MetadataFault.{MetadataFault}
use Rattle.deny_std_table.specs.declared.error.ReplacementError.TheVariants.{Bad}
use Rattle.deny_toml.specs.Faults.{fault_at}
use Rattle.deny_toml.specs.error.ConfigFault.{ConfigFault}
use Rattle.deny_toml.specs.error.FaultKind.TheVariants.{Grammar}
use Rattle.deny_spec_report.specs.Saying.{HasTable, IsBreakIn}
use Rattle.deny_gate.specs.Gating.{AreOneCause, AsksForTable, HasGraph, HasPolicy, IsCause, IsFirstFault, InputTexts}
use Rattle.deny_gate.specs.Report.{policy_id}
use Rattle.deny_gate.specs.declared.report.GateError.{GateError}
use Rattle.deny_gate.specs.declared.report.GateError.TheVariants.{Config, Invalid, Metadata, Replacement}
use Rattle.deny_gate.specs.declared.report.GateError.TheVariants.{Memory}

-- the laws on the text of a policy
pub record TextLaws : Type 0 where
  pub faults : (today : Option Day) → (text : List ℕ) → (xs ys : List ConfigFault) → ListsFaults today text xs
      → ListsFaults today text ys
      → (xs ≡ ys) ⊎ (((place : Span) × (xs ≡ fault_at Grammar [] place ∷ []))
      × ((place : Span) × (ys ≡ fault_at Grammar [] place ∷ [])))
  pub clashes : (here there : Option Day) → (text : List ℕ) → (file : ℕ) → (xs ys : List Diagnostic)
      → ReportsClashes here text file xs → ReportsClashes there text file ys → xs ≡ ys
  pub faults_alone : (today : Option Day) → (text : List ℕ) → (file : ℕ) → (faults : List ConfigFault)
      → (clashes : List Diagnostic) → ListsFaults today text faults → ReportsClashes today text file clashes → ⊥
  pub no_policy_with_faults : (today : Option Day) → (text : List ℕ) → (file : ℕ) → (faults : List ConfigFault)
      → (policy : Policy) → ListsFaults today text faults → IsPolicyOf today text file policy → ⊥
  pub no_policy_with_clashes : (today other : Option Day) → (text : List ℕ) → (here there : ℕ)
      → (clashes : List Diagnostic) → (policy : Policy) → ReportsClashes today text here clashes
      → IsPolicyOf other text there policy → ⊥

-- bytes have one first break, or none were handed in
one_break : (bytes : Option (List ℕ)) (m n : ℕ) → IsBreakIn bytes m → IsBreakIn bytes n → m ≡ n
one_break None m n this that = this ∙ sym that
one_break (Some bytes) m n this that = let both : Err (Bad m) ≡ Err (Bad n) = sym this ∙ that in cc both

no_break : (bytes : Option (List ℕ)) (at : ℕ) → HasTable bytes → IsBreakIn bytes at → ⊥
no_break None at there is = there
no_break (Some bytes) at there is = let both : Ok there.0 ≡ Err (Bad at) = sym there.1 ∙ is in cc both

-- metadata with a graph has no fault
no_fault : (metadata : List ℕ) (f : MetadataFault) → HasGraph metadata → IsFirstFault metadata f → ⊥
no_fault metadata f graph is = let both : Ok graph.read ≡ Err f = sym graph.is_read ∙ is.is in cc both

module _ (laws : TextLaws) (texts : InputTexts) where
  one_config : (xs ys : List ConfigFault) → ListsFaults texts.today texts.policy xs
      → ListsFaults texts.today texts.policy ys
      → AreOneCause (Config xs) (Config ys)
  one_config xs ys these those = elim (laws.faults texts.today texts.policy xs ys these those)
      as (λ _. AreOneCause (Config xs) (Config ys)) [
        | inl same ↦ inl (ap Config same)
        | inr both ↦ inr (
          record { span = both.0.0; is = ap Config both.0.1 },
          record { span = both.1.0; is = ap Config both.1.1 },
        )
      ]

  -- the text of a policy has no faults
  no_faults : (faults : List ConfigFault) (said : Policy) → ListsFaults texts.today texts.policy faults
      → IsPolicyOf texts.today texts.policy policy_id said → ⊥
  no_faults faults said are is = laws.no_policy_with_faults texts.today texts.policy policy_id faults said are is

  no_clashes : (clashes : List Diagnostic) (said : Policy) → ReportsClashes texts.today texts.policy policy_id clashes
      → IsPolicyOf texts.today texts.policy policy_id said → ⊥
  no_clashes clashes said are is =
      laws.no_policy_with_clashes texts.today texts.today texts.policy policy_id policy_id clashes said are is

  pub one_cause : (a b : GateError) → a ≢ Memory → b ≢ Memory → IsCause texts a → IsCause texts b → AreOneCause a b
  one_cause (Config xs) (Config ys) m n h k = one_config xs ys h k
  one_cause (Config xs) (Invalid clashes) m n h k =
      absurd (laws.faults_alone texts.today texts.policy policy_id xs clashes h k)
  one_cause (Config xs) (Metadata f) m n h k = absurd (no_faults xs k.0.said h k.0.is_said)
  one_cause (Config xs) (Replacement at) m n h k = absurd (no_faults xs k.0.said h k.0.is_said)
  one_cause (Invalid clashes) (Config ys) m n h k =
      absurd (laws.faults_alone texts.today texts.policy policy_id ys clashes k h)
  one_cause (Invalid clashes) (Invalid others) m n h k = inl
      (ap Invalid (laws.clashes texts.today texts.today texts.policy policy_id clashes others h k))
  one_cause (Invalid clashes) (Metadata f) m n h k = absurd (no_clashes clashes k.0.said h k.0.is_said)
  one_cause (Invalid clashes) (Replacement at) m n h k = absurd (no_clashes clashes k.0.said h k.0.is_said)
  one_cause (Metadata f) (Config ys) m n h k = absurd (no_faults ys h.0.said k h.0.is_said)
  one_cause (Metadata f) (Invalid others) m n h k = absurd (no_clashes others h.0.said k h.0.is_said)
  one_cause (Metadata f) (Metadata e) m n h k = let same : Err f ≡ Err e = sym h.1.is ∙ k.1.is in inl (cc same)
  one_cause (Metadata f) (Replacement at) m n h k = absurd (no_fault texts.metadata f k.1 h.1)
  one_cause (Replacement at) (Config ys) m n h k = absurd (no_faults ys h.0.said k h.0.is_said)
  one_cause (Replacement at) (Invalid others) m n h k = absurd (no_clashes others h.0.said k h.0.is_said)
  one_cause (Replacement at) (Metadata e) m n h k = absurd (no_fault texts.metadata e h.1 k.1)
  one_cause (Replacement at) (Replacement place) m n h k = inl
      (ap Replacement (one_break texts.replacements at place h.2 k.2))
  one_cause Memory b m n h k = absurd (m refl)
  one_cause a Memory m n h k = absurd (n refl)

  pub no_cause : (error : GateError) → error ≢ Memory → HasPolicy texts.today texts.policy → HasGraph texts.metadata
      → (AsksForTable texts.today texts.policy → HasTable texts.replacements) → IsCause texts error → ⊥
  no_cause (Config faults) m there graph table h = no_faults faults there.said h there.is_said
  no_cause (Invalid clashes) m there graph table h = no_clashes clashes there.said h there.is_said
  no_cause (Metadata f) m there graph table h = no_fault texts.metadata f graph h.1
  no_cause (Replacement at) m there graph table h = no_break texts.replacements at (table h.0) h.2
  no_cause Memory m there graph table h = m refl
