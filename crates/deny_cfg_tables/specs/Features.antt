-- Entries of `features`.
use Rattle.std.specs.Prelude.{List, [], ◌∷◌, false}
use Rattle.deny_base.specs.declared.span.Spanned.{Spanned}
use Rattle.deny_spec.specs.Keys.{no_span}
use Rattle.deny_toml.specs.error.ConfigFault.{ConfigFault}
use Rattle.deny_toml.specs.value.Value.{Value}
use Rattle.deny_cfg_entries.specs.declared.policy_key.PolicyKey.TheVariants as key
use Rattle.deny_cfg_entries.specs.Entry.{ReadsEntryKeys, entry_fields}
use Rattle.deny_cfg_entries.specs.Reasons.{a_reason}
use Rattle.deny_cfg_entries.specs.Table.{Entries, Field, ReadsKeys, ReadsTable, TableKey, faults_of_table, fields_of}
use Rattle.deny_cfg_entries.specs.Table.{holds_or, may_hold}
use Rattle.deny_cfg_entries.specs.Words.{Kind, a_flag, some_texts, spanned}
use Rattle.deny_cfg_tables.specs.declared.bans.cfg.features.CrateFeatures.{CrateFeatures}
use Rattle.deny_cfg_tables.specs.declared.bans.cfg.features.FeatureLists.{FeatureLists}

-- a default value, with the span 0..0
abbrev pub nowhere : {T : Type 0} → T → Spanned T
nowhere value = record { value = value; span = no_span }

-- what an entry of `features` gives beside its spec
abbrev pub feature_keys : List (TableKey FeatureLists)
feature_keys =
    holds_or (nowhere []) key.Allow (spanned some_texts) (λ lists. lists.allow)
    ∷ holds_or [] key.Deny some_texts (λ lists. lists.deny)
    ∷ holds_or (nowhere false) key.Exact (spanned a_flag) (λ lists. lists.exact)
    ∷ may_hold key.Reason a_reason (λ lists. lists.reason)
    ∷ []

abbrev pub feature_fields : List Field
feature_fields = fields_of feature_keys

abbrev pub ReadsFeatures : Entries → FeatureLists → Type 0
ReadsFeatures = ReadsKeys feature_keys

abbrev pub lists_in : CrateFeatures → FeatureLists
lists_in features =
    record { allow = features.allow; deny = features.deny; exact = features.exact; reason = features.reason }

-- what is read from an entry of `features`
abbrev pub ReadsCrateFeatures : Value → CrateFeatures → Type 0
ReadsCrateFeatures v features =
    ReadsTable (λ entries (read : CrateFeatures). ReadsEntryKeys ReadsFeatures entries read.spec (lists_in read)) v
    features

abbrev pub faults_of_features : Value → List ConfigFault
faults_of_features v = faults_of_table (entry_fields feature_fields) v

abbrev pub a_feature_entry : Kind CrateFeatures
a_feature_entry = record { faults_of = faults_of_features; Reads = ReadsCrateFeatures }
