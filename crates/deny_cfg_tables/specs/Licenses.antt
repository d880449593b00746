-- The table `licenses`.
use Rattle.std.specs.Prelude.{List, [], ◌∷◌, false}
use Rattle.deny_base.specs.declared.level.LintLevel.TheVariants as level
use Rattle.deny_toml.specs.error.ConfigFault.{ConfigFault}
use Rattle.deny_toml.specs.value.Value.{Value}
use Rattle.deny_cfg_entries.specs.Entry.{ReadsEntryKeys, entry_fields}
use Rattle.deny_cfg_entries.specs.Licence.{some_licences}
use Rattle.deny_cfg_entries.specs.Table.{Entries, Field, ReadsKeys, ReadsTable, TableKey, a_table, faults_of_table}
use Rattle.deny_cfg_entries.specs.Table.{fields_of, holds_or, may_hold, must_hold, unread}
use Rattle.deny_cfg_entries.specs.Waivers.{an_expiry}
use Rattle.deny_cfg_entries.specs.Words.{Kind, a_flag, a_level, a_list, a_text, spanned}
use Rattle.deny_cfg_entries.specs.declared.policy_key.PolicyKey.TheVariants as key
use Rattle.deny_cfg_tables.specs.declared.licenses.config.Config.{Config}
use Rattle.deny_cfg_tables.specs.declared.licenses.exception.Exception.{Exception}
use Rattle.deny_cfg_tables.specs.declared.licenses.exception.ExceptionKeys.{ExceptionKeys}
use Rattle.deny_cfg_tables.specs.declared.licenses.private.Private.{Private}

-- the keys of an entry of `exceptions` beside those of its spec
abbrev pub exception_keys : List (TableKey ExceptionKeys)
exception_keys =
    must_hold key.Allow some_licences (λ keys. keys.allow)
    ∷ may_hold key.Expires (spanned an_expiry) (λ keys. keys.expires)
    ∷ []

abbrev pub exception_fields : List Field
exception_fields = fields_of exception_keys

abbrev pub ReadsExceptionKeys : Entries → ExceptionKeys → Type 0
ReadsExceptionKeys = ReadsKeys exception_keys

-- the faults of an entry of `exceptions`, which is a table
abbrev pub faults_of_exception : Value → List ConfigFault
faults_of_exception v = faults_of_table (entry_fields exception_fields) v

-- what an entry of `exceptions` gives beside its spec
abbrev pub exception_keys_in : Exception → ExceptionKeys
exception_keys_in exception = record { allow = exception.allow; expires = exception.expires }

abbrev pub ReadsException : Value → Exception → Type 0
ReadsException v exception =
    ReadsTable
    (λ entries (read : Exception). ReadsEntryKeys ReadsExceptionKeys entries read.spec (exception_keys_in read))
    v exception

abbrev pub an_exception : Kind Exception
an_exception = record { faults_of = faults_of_exception; Reads = ReadsException }

-- the table `private`
abbrev pub private_keys : List (TableKey Private)
private_keys =
    holds_or false key.Ignore a_flag (λ private. private.ignore)
    ∷ holds_or [] key.Registries (a_list a_text) (λ private. private.registries)
    ∷ []

abbrev pub private_fields : List Field
private_fields = fields_of private_keys

abbrev pub ReadsPrivate : Entries → Private → Type 0
ReadsPrivate = ReadsKeys private_keys

abbrev pub faults_of_private : Value → List ConfigFault
faults_of_private v = faults_of_table (λ entries. private_fields) v

abbrev pub a_private : Kind Private
a_private = a_table private_keys

abbrev pub none_private : Private
none_private = record { ignore = false; registries = [] }

-- the values of the table `private` in a configuration
abbrev pub private_in : Config → Private
private_in licenses = record { ignore = licenses.private_ignore; registries = licenses.private_registries }

abbrev pub licenses_keys : List (TableKey Config)
licenses_keys =
    unread key.Version
    ∷ unread key.ConfidenceThreshold
    ∷ holds_or [] key.Allow some_licences (λ licenses. licenses.allow)
    ∷ holds_or [] key.Exceptions (a_list an_exception) (λ licenses. licenses.exceptions)
    ∷ holds_or none_private key.Private a_private private_in
    ∷ holds_or false key.IncludeDev a_flag (λ licenses. licenses.include_dev)
    ∷ holds_or level.Warn key.UnusedAllowedLicense a_level (λ licenses. licenses.unused_allowed)
    ∷ []

abbrev pub licenses_fields : List Field
licenses_fields = fields_of licenses_keys

abbrev pub ReadsLicenses : Entries → Config → Type 0
ReadsLicenses = ReadsKeys licenses_keys

abbrev pub faults_of_licenses : Value → List ConfigFault
faults_of_licenses v = faults_of_table (λ entries. licenses_fields) v
