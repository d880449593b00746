-- Entries that are texts: they have no faults, and what is read from them.
use Rattle.std.proofs.Common.{◌≡◌, ◌+◌, ◌∷◌, [], ℕ, List, None, Option, Some, ap, length, map, refl, subst, sym, ◌∙◌}
use Rattle.deny_base.specs.declared.span.Span.{Span}
use Rattle.deny_cfg_entries.specs.Entry.{ReadsEntry, ReadsEntryBy, ReadsSome, faults_of_entry, faults_of_entry_by}
use Rattle.deny_cfg_entries.specs.Waivers.{ReadsWaived, ReadsWaiver, waiver_fields}
use Rattle.deny_cfg_entries.specs.Spec.{ReadsSpecOf, name_span, parts_in, spec_in}
use Rattle.deny_cfg_entries.specs.Table.{Entries, Field}
use Rattle.deny_cfg_entries.specs.Words.{ReadsList, faults_of_list, faults_of_meaning}
use Rattle.deny_cfg_entries.specs.declared.package_spec.PackageSpec.{PackageSpec}
use Rattle.deny_toml.specs.Deserialize.{ReadsArray, ReadsEach, faults_from, faults_of_array}
use Rattle.deny_toml.specs.Faults.{in_order}
use Rattle.deny_toml.specs.error.ConfigFault.{ConfigFault}
use Rattle.deny_toml.specs.value.Value.{Value}
use Rattle.deny_cli_generator_laws.proofs.PolicyConfig.{skipped_from, skipped_spec}
use Rattle.deny_cli_generator_laws.proofs.PolicyElements.{in_quotes}
use Rattle.deny_cli_generator_laws.proofs.PolicySkipped.{spec_text}
use Rattle.deny_cli_generator_laws.proofs.PolicyValues.{array_value, text_value, values_from}
use Rattle.deny_cli_generator_laws.proofs.PolicyValuesLaws.{array-in, text-in}
use Rattle.deny_cli_generator_laws.proofs.PolicySpecsLaws.{spec-in}

-- a text that is a spec is an entry without faults
pub faults-text : (fields : List Field) (at : ℕ) (text : List ℕ) (said : List ℕ × Option (List ℕ))
    → spec_in text ≡ Some said → faults_of_entry fields (text_value at text) ≡ []
faults-text fields at text said is =
    let v = text_value at text in
    ap (λ t. faults_of_entry_by fields t v) (text-in at text) ∙ ap (faults_of_meaning v) is

-- a list has no faults where its elements have none
pub faults-list : (faults_of : Value → List ConfigFault) (span : Span) (values : List Value)
    → faults_from faults_of 0 values ≡ [] → faults_of_list faults_of (array_value span values) ≡ []
unfolding in_order
faults-list faults_of span values none =
    ap (faults_of_array faults_of (array_value span values)) (array-in span values) ∙ ap in_order none

pub faults-specs : (fields : List Field) (index at : ℕ) (numbers : List ℕ)
    → faults_from (faults_of_entry fields) index (values_from at (map spec_text numbers)) ≡ []
faults-specs fields index at [] = refl
faults-specs fields index at (number ∷ numbers) =
    rw (faults-text fields at (spec_text number) _ (spec-in number))
    (faults-specs fields (index + 1) (at + length (in_quotes (spec_text number)) + 2) numbers)

-- what is read from a text that is a spec
pub reads-text : {T : Type 0} (Reads : Entries → Option T → Type 0) (at : ℕ) (text : List ℕ) (spec : PackageSpec)
    → spec_in text ≡ Some (parts_in spec) → spec.name.span ≡ name_span (text_value at text) spec.name.value
    → ReadsEntry Reads (text_value at text) spec None
reads-text {T = T} Reads at text spec is span =
    let v = text_value at text in
    let there = sym (text-in at text) in
    let none : Option T = None in
    subst (λ t. ReadsEntryBy Reads t v spec none) there (subst (λ t. ReadsSpecOf t v spec) there (is, span), refl)

pub reads-list : {T : Type 0} (Reads : Value → T → Type 0) (span : Span) (values : List Value) (items : List T)
    → ReadsEach Reads values items → ReadsList Reads (array_value span values) items
reads-list Reads span values items each = subst (λ vs. ReadsArray Reads vs items) (sym (array-in span values)) each

pub reads-specs : (at : ℕ) (numbers : List ℕ)
    → ReadsEach ReadsWaived (values_from at (map spec_text numbers)) (skipped_from at numbers)
reads-specs at [] = tt
reads-specs at (number ∷ numbers) = (
  reads-text (ReadsSome waiver_fields ReadsWaiver) at (spec_text number)
      (skipped_spec (text_value at (spec_text number)) number) (spec-in number) refl,
  reads-specs (at + length (in_quotes (spec_text number)) + 2) numbers,
)
