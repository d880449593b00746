-- The table `bans` of the policy has no faults, and what is read from it.
use Rattle.std.proofs.Common.{◌≡◌, ◌++◌, ◌∷◌, [], ℕ, List, None, ap, codes, length, map, refl, subst, sym, ◌∙◌}
use Rattle.deny_base.specs.declared.level.LintLevel.TheVariants.{Deny}
use Rattle.deny_base.specs.declared.span.Span.{Span}
use Rattle.deny_cfg_entries.specs.PolicyKey.{name_of}
use Rattle.deny_cfg_entries.specs.Waivers.{ReadsWaived, faults_of_waived, waiver_fields}
use Rattle.deny_cfg_entries.specs.Table.{Entries, ReadsIn, ReadsTable, faults_in_table, faults_of_fields, unknown_keys}
use Rattle.deny_cfg_entries.specs.Words.{ReadsAs, ReadsList, faults_as, faults_of_list, faults_of_text, level_of}
use Rattle.deny_cfg_entries.specs.declared.waiver.Waiver.{Waiver}
use Rattle.deny_cfg_entries.specs.declared.spec_or_extended.PackageSpecOrExtended.{PackageSpecOrExtended}
use Rattle.deny_cfg_tables.specs.Bans.{ReadsBan, ReadsBanEntry, ban_fields, faults_of_ban}
use Rattle.deny_cfg_tables.specs.Config.{ReadsConfig, bans_fields, faults_of_config}
use Rattle.deny_cfg_entries.specs.Entry.{ReadsSome}
use Rattle.deny_toml.specs.Faults.{in_order}
use Rattle.deny_toml.specs.TableHelper.{unknown}
use Rattle.deny_toml.specs.Value.{span_in, span_of}
use Rattle.deny_toml.specs.error.ConfigFault.{ConfigFault}
use Rattle.deny_toml.specs.value.Value.{Value}
use Rattle.deny_toml.proofs.TreeOrderLaws.{entries_are}
use Rattle.std.specs.Prelude.{option_and_then}
use Rattle.deny_cli_generator_laws.proofs.PolicyConfig.{config_of, config_with, denied_entry, denied_spec, skipped_from}
use Rattle.deny_cli_generator_laws.proofs.PolicyElements.{elements_text}
use Rattle.deny_cli_generator_laws.proofs.PolicySkipped.{spec_text}
use Rattle.deny_cli_generator_laws.proofs.PolicyValues.{bans_entries, bans_value, deny_value, level_value, skip_value}
use Rattle.deny_cli_generator_laws.proofs.PolicyValues.{text_value, values_from}
use Rattle.deny_cli_generator_laws.proofs.PolicyEntriesLaws.{faults-list, faults-specs, faults-text, reads-list}
use Rattle.deny_cli_generator_laws.proofs.PolicyEntriesLaws.{reads-specs, reads-text}
use Rattle.deny_cli_generator_laws.proofs.PolicySpecsLaws.{spec-denied}
use Rattle.deny_cli_generator_laws.proofs.PolicyValuesLaws.{table-in, text-in}

-- the faults of the keys of a table that has these entries
abbrev faults_at : Span → Entries → List ConfigFault
faults_at span entries =
    in_order (faults_of_fields bans_fields span entries ++ map unknown (unknown_keys bans_fields entries))

none_at : (span : Span) (level deny skip : Value) → faults_as level_of level ≡ []
    → faults_of_list faults_of_ban deny ≡ [] → faults_of_list faults_of_waived skip ≡ []
    → faults_at span (bans_entries level deny skip) ≡ []
unfolding name_of in_order
none_at span level deny skip one two three = rw (one, two, three) refl

faults_with : (level deny skip : Value) → faults_as level_of level ≡ [] → faults_of_list faults_of_ban deny ≡ []
    → faults_of_list faults_of_waived skip ≡ [] → faults_of_config (bans_value level deny skip) ≡ []
faults_with level deny skip one two three =
    let v = bans_value level deny skip in
    let entries = bans_entries level deny skip in
    ap (faults_in_table (λ es. bans_fields) (span_in v)) (table-in (span_of 1 4) entries)
    ∙ ap (faults_at (span_in v)) (entries_are entries)
    ∙ none_at (span_in v) level deny skip one two three

level_faultless : faults_as level_of level_value ≡ []
unfolding level_of
level_faultless = ap (faults_of_text level_of level_value) (text-in 27 (codes "deny"))

deny_faultless : faults_of_list faults_of_ban deny_value ≡ []
deny_faultless =
    faults-list faults_of_ban (span_of 41 6) (text_value 42 (codes "c1") ∷ [])
    (rw (faults-text ban_fields 42 (codes "c1") (codes "c1", None) spec-denied) refl)

pub bans-faultless : (numbers : List ℕ)
    → faults_of_config (bans_value level_value deny_value (skip_value (map spec_text numbers))) ≡ []
bans-faultless numbers =
    let texts = map spec_text numbers in
    faults_with level_value deny_value (skip_value texts) level_faultless deny_faultless
    (faults-list faults_of_waived (span_of 55 (length (91 ∷ elements_text texts))) (values_from 56 texts)
    (faults-specs waiver_fields 0 56 numbers))

-- what is read at one key, and at the keys behind it
infixr 4 ◌▹◌
abbrev ◌▹◌ : {A B : Type 0} → A → B → A × B
a ▹ b = (a, b)

reads_with : (level deny skip : Value) (skipped : List (PackageSpecOrExtended Waiver))
    → ReadsAs level_of level Deny → ReadsList ReadsBanEntry deny (denied_entry ∷ [])
    → ReadsList ReadsWaived skip skipped
    → ReadsConfig (bans_entries level deny skip) (config_with skipped)
unfolding name_of
reads_with level deny skip skipped one two three = record {
  each = one ▹ refl ▹ refl ▹ two ▹ refl ▹ refl ▹ refl ▹ refl ▹ refl ▹ three ▹ refl ▹ refl ▹ refl ▹ refl ▹ refl ▹ refl
      ▹ refl ▹ tt;
}

reads_level : ReadsAs level_of level_value Deny
unfolding level_of
reads_level = ap (option_and_then level_of) (text-in 27 (codes "deny"))

reads_deny : ReadsList ReadsBanEntry deny_value (denied_entry ∷ [])
reads_deny =
    reads-list ReadsBanEntry (span_of 41 6) (text_value 42 (codes "c1") ∷ []) (denied_entry ∷ [])
    (reads-text (ReadsSome ban_fields ReadsBan) 42 (codes "c1") denied_spec spec-denied refl, tt)

pub reads-bans : (numbers : List ℕ)
    → ReadsTable ReadsConfig (bans_value level_value deny_value (skip_value (map spec_text numbers)))
    (config_of numbers)
reads-bans numbers =
    let texts = map spec_text numbers in
    let entries = bans_entries level_value deny_value (skip_value texts) in
    let reads = reads_with level_value deny_value (skip_value texts) (skipped_from 56 numbers) reads_level reads_deny
    (reads-list ReadsWaived (span_of 55 (length (91 ∷ elements_text texts))) (values_from 56 texts)
    (skipped_from 56 numbers) (reads-specs 56 numbers)) in
    subst (λ t. ReadsIn ReadsConfig t (config_of numbers)) (sym (table-in (span_of 1 4) entries))
    (subst (λ es. ReadsConfig es (config_of numbers)) (sym (entries_are entries)) reads)
