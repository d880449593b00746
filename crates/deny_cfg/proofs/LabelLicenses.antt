-- The spans of licences and of exceptions are marks in the text's tree, and no two of them start at the same offset.
use Rattle.std.proofs.Common.{ℕ, List, [], Option, refl}
use Rattle.std.specs.List.{flat_map}
use Rattle.deny_base.specs.declared.span.Spanned.{Spanned}
use Rattle.deny_spdx.specs.Meaning.{requirement_in}
use Rattle.deny_spdx.specs.declared.requirement.Requirement.{Requirement}
use Rattle.deny_toml.specs.Apart.{AreApart}
use Rattle.deny_toml.specs.Calls.{below_name}
use Rattle.deny_toml.specs.Parser.{IsTreeOf}
use Rattle.deny_toml.specs.Spans.{OccursIn}
use Rattle.deny_toml.specs.value.Value.{Value}
use Rattle.deny_cfg_entries.specs.Depends.{keys-depend}
use Rattle.deny_cfg_entries.specs.Entry.{ReadsEntryKeys}
use Rattle.deny_cfg_entries.specs.Licence.{ReadsLicences}
use Rattle.deny_cfg_entries.specs.PolicyKey.{name_of}
use Rattle.deny_cfg_entries.specs.Table.{Entries, ReadsTable, at_key}
use Rattle.deny_cfg_entries.specs.Waivers.{ReadsExpiry}
use Rattle.deny_cfg_entries.specs.Words.{ReadsAs, ReadsList, ReadsSpanned}
use Rattle.deny_cfg_entries.specs.declared.policy_key.PolicyKey.TheVariants as key
use Rattle.deny_cfg_entries.proofs.KeyLaws.{says_of}
use Rattle.deny_cfg_tables.specs.Apart.{exception_entry-apart}
use Rattle.deny_cfg_tables.specs.Licenses.{ReadsException, ReadsExceptionKeys, ReadsLicenses, exception_fields}
use Rattle.deny_cfg_tables.specs.Licenses.{exception_keys, exception_keys_in}
use Rattle.deny_cfg_tables.specs.declared.licenses.config.Config.{Config}
use Rattle.deny_cfg_tables.specs.declared.licenses.exception.Exception.{Exception}
use Rattle.deny_cfg.specs.LabelSpans.{AreLabels, exception_span, licence_labels, licence_spans, of_some, own_span}
use Rattle.deny_cfg.specs.PolicyText.{ReadsLicensing, licenses_name}
use Rattle.deny_cfg.proofs.LabelConfig.{key_are_labels}
use Rattle.deny_cfg.proofs.LabelLaws.{◌▸◌, Within, WithinKey, WithinKeys, keys_within, list_within, no_more}
use Rattle.deny_cfg.proofs.LabelLaws.{one_key, optional_within, or_within, table_within}
use Rattle.deny_cfg.proofs.LabelReads.{day_within, entry_keys_within, meaning_within}

licences_within : (v : Value) (licences : List (Spanned Requirement)) → ReadsLicences v licences
    → Within v (flat_map own_span licences)
licences_within v licences reads =
    list_within own_span (ReadsSpanned (ReadsAs requirement_in)) (meaning_within requirement_in) v licences
    reads

last_day_within : (e : Exception) (entries : Entries)
    → ReadsExceptionKeys entries (exception_keys_in e) → WithinKeys entries (of_some own_span e.expires)
unfolding name_of
last_day_within e entries reads =
    one_key (name_of key.Expires) entries (of_some own_span e.expires)
    (optional_within own_span (ReadsSpanned ReadsExpiry) day_within (at_key key.Expires entries) e.expires
    (says_of key.Expires reads))

exception_within : (v : Value) (e : Exception) → ReadsException v e → Within v (exception_span e)
exception_within v e reads =
    table_within (exception_span e)
    (λ entries (read : Exception). ReadsEntryKeys ReadsExceptionKeys entries read.spec (exception_keys_in read))
    e
    (entry_keys_within exception_fields exception_entry-apart ReadsExceptionKeys (keys-depend exception_keys)
    (of_some own_span e.expires) e.spec (exception_keys_in e) (last_day_within e)) v reads

licenses_within : (entries : Entries) (config : Config) → ReadsLicenses entries config
    → WithinKeys entries (licence_labels config)
unfolding name_of licence_labels
licenses_within entries config reads =
    keys_within entries (
    or_within (flat_map own_span) [] ReadsLicences refl licences_within (at_key key.Allow entries)
    config.allow (says_of key.Allow reads)
    ▸ or_within (flat_map exception_span) [] (ReadsList ReadsException) refl
    (list_within exception_span ReadsException exception_within) (at_key key.Exceptions entries)
    config.exceptions (says_of key.Exceptions reads)
    ▸ no_more) refl

-- what is read from the table `licenses`, within the root
licensing_within : (o : Option Value) (licensing : Option Config) → ReadsLicensing o licensing
    → WithinKey o (licence_spans licensing)
licensing_within o licensing reads =
    optional_within licence_labels (ReadsTable ReadsLicenses)
    (λ v config. table_within (licence_labels config) ReadsLicenses config
    (λ entries. licenses_within entries config) v) o licensing reads

pub licensing_are_labels : (text : List ℕ) (tree : Value) (licensing : Option Config) → IsTreeOf text tree
    → OccursIn text tree → AreApart tree → ReadsLicensing (below_name licenses_name tree) licensing
    → AreLabels text (licence_spans licensing)
licensing_are_labels text tree licensing is_tree holds apart reads =
    key_are_labels text licenses_name tree (licence_spans licensing) is_tree holds apart
    (licensing_within (below_name licenses_name tree) licensing reads)
