-- The spans of the table `build` lie at the words that the table writes.
use Rattle.std.proofs.Common.{List, [], ◌∷◌, Option, None, Some, refl}
use Rattle.std.specs.List.{flat_map}
use Rattle.deny_base.specs.declared.span.Span.{Span}
use Rattle.deny_base.specs.declared.span.Spanned.{Spanned}
use Rattle.deny_cfg_entries.proofs.KeyLaws.{says_of}
use Rattle.deny_cfg_entries.specs.Entry.{ReadsEntryKeys}
use Rattle.deny_cfg_entries.specs.PolicyKey.{name_of}
use Rattle.deny_cfg_entries.specs.Table.{Entries, ReadsTable, ReadsThere, at_key}
use Rattle.deny_cfg_entries.specs.Waivers.{ReadsExpiry}
use Rattle.deny_cfg_entries.specs.Words.{ReadsList, ReadsSpanned, ReadsText, ReadsTexts}
use Rattle.deny_cfg_entries.specs.declared.policy_key.PolicyKey.TheVariants as key
use Rattle.deny_cfg_tables.specs.Apart.{bypass_entry-apart}
use Rattle.deny_cfg_tables.specs.Build.{ReadsBuild, ReadsBypass, ReadsBypassKeys, ReadsBypassPath, ReadsChecksum}
use Rattle.deny_cfg_tables.specs.Build.{bypass_fields, bypass_keys, keys_in}
use Rattle.deny_cfg_tables.specs.Checksum.{checksum_of}
use Rattle.deny_cfg_entries.specs.Depends.{keys-depend}
use Rattle.deny_cfg_tables.specs.declared.bans.cfg.build.BuildConfig.{BuildConfig}
use Rattle.deny_cfg_tables.specs.declared.bans.cfg.bypass.Bypass.{Bypass}
use Rattle.deny_cfg_tables.specs.declared.bans.cfg.bypass.BypassPath.{BypassPath}
use Rattle.deny_cfg_tables.specs.declared.bans.cfg.checksum.Checksum.{Checksum}
use Rattle.deny_toml.specs.value.Value.{Value}
use Rattle.deny_cfg.proofs.LabelLaws.{◌▸◌, Within, WithinKey, WithinKeys, key_at, keys_within, list_within, no_more}
use Rattle.deny_cfg.proofs.LabelLaws.{optional_within, or_within, table_within}
use Rattle.deny_cfg.proofs.LabelReads.{day_within, entry_keys_within, meaning_within, word_within, words_within}
use Rattle.deny_cfg.specs.LabelSpans.{joined, of_some, own_span, path_spans, word_spans}
use Rattle.deny_cfg.specs.private.LabelSpans.{written_build_spans}
use Rattle.deny_cfg.specs.private.LabelSpans.{written_bypass_spans}

checksum_within : (v : Value) (sum : Spanned Checksum) → ReadsSpanned ReadsChecksum v sum
    → Within v (own_span sum)
checksum_within v sum reads =
    meaning_within checksum_of v (record { value = sum.value.0; span = sum.span }) reads

there_within : {T : Type 0} (f : T → List Span) (Reads : Value → T → Type 0)
    → ((v : Value) (x : T) → Reads v x → Within v (f x))
    → (o : Option Value) (x : T) → ReadsThere Reads o x → WithinKey o (f x)
there_within f Reads each None x reads = absurd reads
there_within f Reads each (Some v) x reads = key_at v (f x) (each v x reads)

path_keys_within : (entries : Entries) (file : BypassPath) → ReadsBypassPath entries file
    → WithinKeys entries (path_spans file)
unfolding name_of
path_keys_within entries file reads =
    keys_within entries (
    there_within own_span (ReadsSpanned ReadsText) word_within (at_key key.Path entries) file.path
    (says_of key.Path reads)
    ▸ optional_within own_span (ReadsSpanned ReadsChecksum) checksum_within
    (at_key key.Checksum entries) file.checksum (says_of key.Checksum reads)
    ▸ no_more) refl

path_within : (v : Value) (file : BypassPath) → ReadsTable ReadsBypassPath v file
    → Within v (path_spans file)
path_within v file reads =
    table_within (path_spans file) ReadsBypassPath file
    (λ entries keys. path_keys_within entries file keys) v reads

abbrev pub besides : Bypass → List Span
besides bypass = joined (
    of_some own_span bypass.build_script
    ∷ word_spans bypass.required_features
    ∷ of_some word_spans bypass.allow_globs
    ∷ flat_map path_spans bypass.allow
    ∷ of_some own_span bypass.expires
    ∷ []
    )

besides_within : (bypass : Bypass) (entries : Entries) → ReadsBypassKeys entries (keys_in bypass)
    → WithinKeys entries (besides bypass)
unfolding name_of
besides_within bypass entries reads =
    keys_within entries (
    optional_within own_span (ReadsSpanned ReadsChecksum) checksum_within
    (at_key key.BuildScript entries) bypass.build_script (says_of key.BuildScript reads)
    ▸ or_within word_spans [] ReadsTexts refl words_within (at_key key.RequiredFeatures entries)
    bypass.required_features (says_of key.RequiredFeatures reads)
    ▸ optional_within word_spans ReadsTexts words_within (at_key key.AllowGlobs entries)
    bypass.allow_globs (says_of key.AllowGlobs reads)
    ▸ or_within (flat_map path_spans) [] (ReadsList (ReadsTable ReadsBypassPath)) refl
    (list_within path_spans (ReadsTable ReadsBypassPath) path_within) (at_key key.Allow entries)
    bypass.allow (says_of key.Allow reads)
    ▸ optional_within own_span (ReadsSpanned ReadsExpiry) day_within (at_key key.Expires entries)
    bypass.expires (says_of key.Expires reads)
    ▸ no_more) refl

bypass_within : (v : Value) (bypass : Bypass) → ReadsBypass v bypass
    → Within v (written_bypass_spans bypass)
bypass_within v bypass reads =
    table_within (written_bypass_spans bypass)
    (λ entries (read : Bypass). ReadsEntryKeys ReadsBypassKeys entries read.spec (keys_in read)) bypass
    (entry_keys_within bypass_fields bypass_entry-apart ReadsBypassKeys (keys-depend bypass_keys) (besides bypass)
    bypass.spec (keys_in bypass) (besides_within bypass)) v reads

build_keys_within : (entries : Entries) (build : BuildConfig) → ReadsBuild entries build
    → WithinKeys entries (written_build_spans build)
unfolding name_of
build_keys_within entries build reads =
    keys_within entries (
    optional_within word_spans ReadsTexts words_within (at_key key.ScriptExtensions entries)
    build.script_extensions (says_of key.ScriptExtensions reads)
    ▸ optional_within (flat_map written_bypass_spans) (ReadsList ReadsBypass)
    (list_within written_bypass_spans ReadsBypass bypass_within) (at_key key.Bypass entries)
    build.bypass (says_of key.Bypass reads)
    ▸ no_more) refl

pub build_within : (v : Value) (build : BuildConfig) → ReadsTable ReadsBuild v build
    → Within v (written_build_spans build)
build_within v build reads =
    table_within (written_build_spans build) ReadsBuild build
    (λ entries keys. build_keys_within entries build keys) v reads
