-- What is read twice from a tree about licences is the same in all that the rules see.
use Rattle.std.proofs.Common.{◌≡◌, false, [], Option, None, Some, sym, ap, ◌∙◌}
use Rattle.std.specs.List.{AllZip, each_same}
use Rattle.std.specs.Prelude.{option_map}
use Rattle.deny_base.specs.declared.level.LintLevel.TheVariants as level
use Rattle.deny_spdx.specs.Meaning.{requirement_in}
use Rattle.deny_toml.specs.value.Value.{Value}
use Rattle.deny_base_lists.proofs.Alike.{Same, alike_filter, same_map}
use Rattle.deny_cfg_entries.specs.Entry.{ReadsEntryKeys}
use Rattle.deny_cfg_entries.specs.Licence.{ReadsLicences}
use Rattle.deny_cfg_entries.specs.PolicyKey.{name_of}
use Rattle.deny_cfg_entries.specs.Table.{Entries, ReadsTable, at_key}
use Rattle.deny_cfg_entries.specs.Waivers.{ReadsExpiry}
use Rattle.deny_cfg_entries.specs.Words.{ReadsAs, ReadsBool, ReadsList, ReadsSpanned, ReadsText, level_of}
use Rattle.deny_cfg_entries.specs.declared.day.Day.{Day}
use Rattle.deny_cfg_entries.specs.declared.policy_key.PolicyKey.TheVariants as key
use Rattle.deny_cfg_entries.proofs.ReadsLaws.{ReadsAlike, ReadsOne, SpecsAlike, alike_list, alike_list_or, alike_table}
use Rattle.deny_cfg_entries.proofs.ReadsLaws.{keys_alike, one_as, one_bool, one_optional, one_or, one_required}
use Rattle.deny_cfg_entries.proofs.ReadsLaws.{one_spanned, one_text}
use Rattle.deny_cfg_entries.proofs.KeyLaws.{says_of}
use Rattle.deny_cfg_tables.specs.Licenses.{ReadsException, ReadsExceptionKeys, ReadsLicenses, ReadsPrivate}
use Rattle.deny_cfg_tables.proofs.ConfigLaws.{BothAlike, alike_optional, one_expiry}
use Rattle.deny_cfg_tables.specs.Licenses.{exception_keys_in, none_private, private_in}
use Rattle.deny_cfg_tables.specs.declared.licenses.config.Config.{Config}
use Rattle.deny_cfg_tables.specs.declared.licenses.exception.Exception.{Exception}
use Rattle.deny_cfg.specs.Current.{counts, current_licenses}
use Rattle.deny_cfg.specs.LicensingView.{exception_view, licensing_of, licensing_view}
use Rattle.deny_cfg.specs.PolicyText.{ReadsLicensing}

pub one_list : {T : Type 0} (Reads : Value → T → Type 0) → ReadsOne Reads → ReadsOne (ReadsList Reads)
one_list Reads same v xs ys one two =
    sym (each_same xs ys (alike_list Reads (λ x y. y ≡ x) (λ w x y here there. same w y x there here) v xs ys one two))

one_licences : ReadsOne ReadsLicences
one_licences =
    one_list (ReadsSpanned (ReadsAs requirement_in)) (one_spanned (ReadsAs requirement_in) (one_as requirement_in))

-- two exceptions are alike: their specs are, and they give the same beside them
abbrev pub ExceptionsAlike : Exception → Exception → Type 0
ExceptionsAlike a b = SpecsAlike a.spec b.spec × (exception_keys_in a ≡ exception_keys_in b)

abbrev ReadsExceptionIn : Entries → Exception → Type 0
ReadsExceptionIn entries read = ReadsEntryKeys ReadsExceptionKeys entries read.spec (exception_keys_in read)

one_exception : ReadsOne ReadsExceptionKeys
unfolding name_of
one_exception entries x y one two =
    let allow =
    one_required ReadsLicences one_licences (at_key key.Allow entries) x.allow y.allow (says_of key.Allow one)
    (says_of key.Allow two) in
    let expires =
    one_optional (ReadsSpanned ReadsExpiry) one_expiry (at_key key.Expires entries) x.expires y.expires
    (says_of key.Expires one) (says_of key.Expires two) in
    λ i. record { allow = allow i; expires = expires i }

exception_keys_alike : ReadsAlike ReadsExceptionIn ExceptionsAlike
exception_keys_alike entries a b one two = (
  keys_alike entries a.spec b.spec one.of_spec two.of_spec,
  one_exception entries (exception_keys_in a) (exception_keys_in b) one.besides two.besides,
)

exceptions_alike : ReadsAlike ReadsException ExceptionsAlike
exceptions_alike v a b one two = alike_table ReadsExceptionIn ExceptionsAlike exception_keys_alike v a b one two

same_exception : (a b : Exception) → ExceptionsAlike a b → exception_view a ≡ exception_view b
same_exception a b alike = λ i. record { spec = alike.0 i; allow = (alike.1 i).allow }

-- both count on a day, or neither does
same_counting : (today : Option Day) → Same ExceptionsAlike (λ e. counts today e.expires) (λ e. counts today e.expires)
same_counting today a b alike = λ i. counts today (alike.1 i).expires

one_private : ReadsOne ReadsPrivate
unfolding name_of
one_private entries x y one two =
    let ignore =
    one_or false ReadsBool one_bool (at_key key.Ignore entries) x.ignore y.ignore (says_of key.Ignore one)
    (says_of key.Ignore two) in
    let registries =
    one_or [] (ReadsList ReadsText) (one_list ReadsText one_text) (at_key key.Registries entries) x.registries
    y.registries (says_of key.Registries one) (says_of key.Registries two) in
    λ i. record { ignore = ignore i; registries = registries i }

one_view : (today : Option Day) (entries : Entries) (a b : Config) → ReadsLicenses entries a → ReadsLicenses entries b
    → licensing_view (current_licenses today a) ≡ licensing_view (current_licenses today b)
unfolding name_of
one_view today entries a b one two =
    let allow =
    one_or [] ReadsLicences one_licences (at_key key.Allow entries) a.allow b.allow (says_of key.Allow one)
    (says_of key.Allow two) in
    let exceptions =
    same_map ExceptionsAlike exception_view exception_view same_exception
    (current_licenses today a).exceptions (current_licenses today b).exceptions
    (alike_filter ExceptionsAlike (λ e. counts today e.expires) (same_counting today) a.exceptions b.exceptions
    (alike_list_or ReadsException ExceptionsAlike exceptions_alike (at_key key.Exceptions entries) a.exceptions
    b.exceptions (says_of key.Exceptions one) (says_of key.Exceptions two))) in
    let private =
    one_or none_private (ReadsTable ReadsPrivate) (alike_table ReadsPrivate (λ x y. x ≡ y) one_private)
    (at_key key.Private entries) (private_in a) (private_in b) (says_of key.Private one) (says_of key.Private two) in
    let include_dev =
    one_or false ReadsBool one_bool (at_key key.IncludeDev entries) a.include_dev b.include_dev
    (says_of key.IncludeDev one) (says_of key.IncludeDev two) in
    let unused =
    one_or level.Warn (ReadsAs level_of) (one_as level_of) (at_key key.UnusedAllowedLicense entries) a.unused_allowed
    b.unused_allowed (says_of key.UnusedAllowedLicense one) (says_of key.UnusedAllowedLicense two) in
    λ i. record {
      allow = allow i;
      exceptions = exceptions i;
      ignores_private = (private i).ignore;
      registries = (private i).registries;
      include_dev = include_dev i;
      unused_allowed = unused i;
    }

one_view_of : (today : Option Day) (v : Value) (a b : Config) → ReadsTable ReadsLicenses v a
    → ReadsTable ReadsLicenses v b
    → licensing_view (current_licenses today a) ≡ licensing_view (current_licenses today b)
one_view_of today v a b one two =
    alike_table ReadsLicenses
    (λ x y. licensing_view (current_licenses today x) ≡ licensing_view (current_licenses today y)) (one_view today) v a
    b one two

-- the licences of a day
abbrev pub current_licensing : Option Day → Option Config → Option Config
current_licensing today licensing = option_map (current_licenses today) licensing

pub licensing_alike : (today : Option Day) (o : Option Value) (a b : Option Config) → ReadsLicensing o a
    → ReadsLicensing o b → licensing_of (current_licensing today a) ≡ licensing_of (current_licensing today b)
licensing_alike today None a b one two = ap (λ o. licensing_of (current_licensing today o)) (one ∙ sym two)
licensing_alike today (Some v) None b one two = absurd one
licensing_alike today (Some v) (Some a) None one two = absurd two
licensing_alike today (Some v) (Some a) (Some b) one two = ap Some (one_view_of today v a b one two)

-- the exceptions that have expired
exceptions_of_one : (entries : Entries) (a b : Config) → ReadsLicenses entries a → ReadsLicenses entries b
    → AllZip ExceptionsAlike a.exceptions b.exceptions
unfolding name_of
exceptions_of_one entries a b one two =
    alike_list_or ReadsException ExceptionsAlike exceptions_alike (at_key key.Exceptions entries) a.exceptions
    b.exceptions (says_of key.Exceptions one) (says_of key.Exceptions two)

-- two tables have exceptions that are alike
abbrev pub HaveAlike : Config → Config → Type 0
HaveAlike a b = AllZip ExceptionsAlike a.exceptions b.exceptions

pub exceptions_read : (o : Option Value) (a b : Option Config) → ReadsLicensing o a → ReadsLicensing o b
    → BothAlike HaveAlike a b
exceptions_read o a b one two =
    alike_optional (ReadsTable ReadsLicenses) HaveAlike
    (λ v x y here there. alike_table ReadsLicenses HaveAlike exceptions_of_one v x y here there) o a b one two
