-- The spans of a configuration are marks in the tree of its text, and no two of them start at the same offset.
use Rattle.std.proofs.Common.{◌≡◌, ◌≢◌, ℕ, List, [], ◌∷◌, Option, Some, None, refl, sym, ◌∙◌, subst, arith}
use Rattle.std.specs.Prelude.{AllPairs, option_and_then}
use Rattle.std.specs.List.{flat_map}
use Rattle.std.proofs.lemmas.List.{get_or-map, length-map}
use Rattle.std.proofs.lemmas.List.Elements.{All-from_recursion}
use Rattle.deny_base.specs.declared.span.Span.{Span}
use Rattle.deny_base_lists.proofs.Each.{all_weaker}
use Rattle.deny_base.specs.declared.span.Spanned.{Spanned}
use Rattle.deny_spec.specs.Policy.{SpannedText}
use Rattle.deny_toml.proofs.ApartLaws.{starts_of_entries}
use Rattle.deny_toml.proofs.ApartParts.{AreDistinct, IsPartOf, apart_part, name_part, part_nothing, part_of_part}
use Rattle.deny_toml.proofs.ApartParts.{starts_of, starts_of_keys}
use Rattle.deny_toml.specs.Apart.{AreApart, starts_in}
use Rattle.deny_toml.specs.Calls.{below_name, table_in, value_at}
use Rattle.deny_toml.specs.Parser.{IsTreeOf}
use Rattle.deny_toml.specs.Spans.{OccursIn}
use Rattle.deny_toml.specs.Value.{entries_in}
use Rattle.deny_toml.specs.value.Table.{Table}
use Rattle.deny_toml.specs.value.Value.{Value}
use Rattle.deny_cfg_entries.specs.Apart.{reason_entry-apart, waiver_entry-apart}
use Rattle.deny_cfg_tables.specs.Apart.{ban_entry-apart, feature_entry-apart, tree_skip_entry-apart}
use Rattle.deny_cfg_entries.specs.Reasons.{ReadsReason, ReadsReasonKey, ReadsReasoned, reason_fields}
use Rattle.deny_cfg_tables.specs.Bans.{ReadsBan, ReadsBanEntry, ReadsTreeSkip, ReadsTreeSkipEntry, ban_fields}
use Rattle.deny_cfg_tables.specs.Bans.{tree_skip_fields}
use Rattle.deny_cfg_tables.specs.Build.{ReadsBuild}
use Rattle.deny_cfg_tables.specs.Config.{ReadsConfig}
use Rattle.deny_cfg_entries.specs.Depends.{reason-depends, waiver-depends}
use Rattle.deny_cfg_tables.specs.Depends.{ban-depends, features-depend, tree_skip-depends}
use Rattle.deny_cfg_entries.specs.Entry.{ReadsEntryKeys, ReadsSome}
use Rattle.deny_cfg_tables.specs.Features.{ReadsCrateFeatures, ReadsFeatures, feature_fields, lists_in, nowhere}
use Rattle.deny_cfg.specs.LabelSpans.{AreLabels, joined}
use Rattle.deny_cfg.specs.Marks.{IsMarkIn, IsPolicySpan}
use Rattle.deny_cfg.specs.private.LabelSpans.{config_labels, crate_ban_spans, crate_feature_spans}
use Rattle.deny_cfg.specs.LabelSpans.{of_some, own_span, reason_span, root_spans, std_spans, with_spec}
use Rattle.deny_cfg.specs.LabelSpans.{waiver_spans, word_spans}
use Rattle.deny_cfg.specs.private.LabelSpans.{written_build_spans}
use Rattle.deny_cfg_entries.proofs.KeyLaws.{says_of}
use Rattle.deny_cfg_entries.specs.PolicyKey.{name_of}
use Rattle.deny_cfg.specs.PolicyText.{ReadsBans, bans_name}
use Rattle.deny_cfg_tables.specs.StdReplacements.{ReadsStd}
use Rattle.deny_cfg_entries.specs.Table.{Entries, Field, ReadsTable, at_key}
use Rattle.deny_cfg_entries.specs.Waivers.{ReadsExpiry, ReadsWaived, ReadsWaiver, waiver_fields}
use Rattle.deny_cfg_entries.specs.Words.{ReadsAs, ReadsBool, ReadsList, ReadsSpanned, ReadsText, ReadsTexts, level_of}
use Rattle.deny_cfg_tables.specs.declared.bans.cfg.ban.CrateBanExtended.{CrateBanExtended}
use Rattle.deny_cfg_tables.specs.declared.bans.cfg.config.Config.{Config}
use Rattle.deny_cfg_tables.specs.declared.bans.cfg.features.CrateFeatures.{CrateFeatures}
use Rattle.deny_cfg_tables.specs.declared.bans.cfg.std_replacements.StdReplacementConfig.{StdReplacementConfig}
use Rattle.deny_cfg_tables.specs.declared.bans.cfg.tree_skip.TreeSkipExtended.{TreeSkipExtended}
use Rattle.deny_cfg_entries.specs.declared.policy_key.PolicyKey.TheVariants as key
use Rattle.deny_cfg_entries.specs.declared.reason.Reason.{Reason}
use Rattle.deny_cfg_entries.specs.declared.spec_or_extended.PackageSpecOrExtended.{PackageSpecOrExtended}
use Rattle.deny_cfg_entries.specs.declared.waiver.Waiver.{Waiver}
use Rattle.deny_cfg.proofs.BuildLabels.{build_within}
use Rattle.deny_cfg.proofs.MarkLaws.{mark_lies}
use Rattle.deny_cfg.proofs.LabelLaws.{◌▸◌, IsMarkAt, Lie, Within, WithinKey, WithinKeys, key_at, keys_within}
use Rattle.deny_cfg.proofs.LabelLaws.{list_within, name_inside, no_keys, no_more, nothing_below, one_key}
use Rattle.deny_cfg.proofs.LabelLaws.{optional_within, or_within, starts, table_within}
use Rattle.deny_cfg.proofs.LabelReads.{day_within, entry_keys_within, entry_within, flag_within, meaning_within, reason_within}
use Rattle.deny_cfg.proofs.LabelReads.{word_within, words_within}

wrappers_within : (v : Value) (wrappers : Spanned (List SpannedText))
    → ReadsSpanned ReadsTexts v wrappers → Within v (word_spans wrappers.value)
wrappers_within v wrappers reads = words_within v wrappers.value reads.1

some_within : {T : Type 0} (f : T → List Span) (fields : List Field) (Reads : Entries → T → Type 0)
    → ((entries : Entries) (x : T) → Reads entries x → WithinKeys entries (f x))
    → (entries : Entries) (said : Option T) → ReadsSome fields Reads entries said
    → WithinKeys entries (of_some f said)
some_within f fields Reads each entries None reads = no_keys entries
some_within f fields Reads each entries (Some x) reads = each entries x reads.1

ban_within : (entries : Entries) (ban : CrateBanExtended) → ReadsBan entries ban
    → WithinKeys entries (crate_ban_spans ban)
unfolding name_of
ban_within entries ban reads =
    keys_within entries (
    optional_within (λ (w : Spanned (List SpannedText)). word_spans w.value) (ReadsSpanned ReadsTexts)
    wrappers_within (at_key key.Wrappers entries) ban.wrappers (says_of key.Wrappers reads)
    ▸ optional_within own_span (ReadsSpanned ReadsBool) flag_within
    (at_key key.DenyMultipleVersions entries) ban.deny_multiple_versions
    (says_of key.DenyMultipleVersions reads)
    ▸ optional_within reason_span ReadsReason reason_within (at_key key.Reason entries) ban.reason
    (says_of key.Reason reads)
    ▸ optional_within own_span (ReadsSpanned ReadsText) word_within (at_key key.UseInstead entries)
    ban.use_instead (says_of key.UseInstead reads)
    ▸ no_more) refl

ban_entry_within : (v : Value) (e : PackageSpecOrExtended CrateBanExtended) → ReadsBanEntry v e
    → Within v (with_spec crate_ban_spans e)
ban_entry_within v e reads =
    entry_within ban_fields ban_entry-apart crate_ban_spans (ReadsSome ban_fields ReadsBan) ban-depends
    (some_within crate_ban_spans ban_fields ReadsBan ban_within) v e.spec e.inner reads

reason_key_within : (entries : Entries) (reason : Option Reason) → ReadsReasonKey entries reason
    → WithinKeys entries (of_some reason_span reason)
reason_key_within entries reason reads =
    one_key (name_of key.Reason) entries (of_some reason_span reason)
    (optional_within reason_span ReadsReason reason_within (at_key key.Reason entries) reason reads)

reasoned_within : (v : Value) (e : PackageSpecOrExtended Reason) → ReadsReasoned v e
    → Within v (with_spec reason_span e)
reasoned_within v e reads =
    entry_within reason_fields reason_entry-apart reason_span ReadsReasonKey reason-depends
    reason_key_within v e.spec e.inner reads

waiver_within : (entries : Entries) (waiver : Waiver) → ReadsWaiver entries waiver
    → WithinKeys entries (waiver_spans waiver)
unfolding name_of
waiver_within entries waiver reads =
    keys_within entries (
    optional_within reason_span ReadsReason reason_within (at_key key.Reason entries) waiver.reason
    (says_of key.Reason reads)
    ▸ optional_within own_span (ReadsSpanned ReadsExpiry) day_within (at_key key.Expires entries)
    waiver.expires (says_of key.Expires reads)
    ▸ no_more) refl

waived_within : (v : Value) (e : PackageSpecOrExtended Waiver) → ReadsWaived v e
    → Within v (with_spec waiver_spans e)
waived_within v e reads =
    entry_within waiver_fields waiver_entry-apart waiver_spans (ReadsSome waiver_fields ReadsWaiver)
    waiver-depends (some_within waiver_spans waiver_fields ReadsWaiver waiver_within) v e.spec e.inner reads

root_within : (entries : Entries) (skip : TreeSkipExtended) → ReadsTreeSkip entries skip
    → WithinKeys entries (root_spans skip)
unfolding name_of
root_within entries skip reads =
    keys_within entries (
    optional_within reason_span ReadsReason reason_within (at_key key.Reason entries) skip.reason
    (says_of key.Reason reads)
    ▸ optional_within own_span (ReadsSpanned ReadsExpiry) day_within (at_key key.Expires entries) skip.expires
    (says_of key.Expires reads)
    ▸ no_more) refl

root_entry_within : (v : Value) (e : PackageSpecOrExtended TreeSkipExtended) → ReadsTreeSkipEntry v e
    → Within v (with_spec root_spans e)
root_entry_within v e reads =
    entry_within tree_skip_fields tree_skip_entry-apart root_spans (ReadsSome tree_skip_fields ReadsTreeSkip)
    tree_skip-depends (some_within root_spans tree_skip_fields ReadsTreeSkip root_within) v e.spec
    e.inner reads

features_within : (f : CrateFeatures) (entries : Entries) → ReadsFeatures entries (lists_in f)
    → WithinKeys entries
    (joined (word_spans f.allow.value ∷ word_spans f.deny ∷ of_some reason_span f.reason ∷ []))
unfolding name_of
features_within f entries reads =
    keys_within entries (
    or_within (λ (w : Spanned (List SpannedText)). word_spans w.value) (nowhere []) (ReadsSpanned ReadsTexts) refl
    wrappers_within (at_key key.Allow entries) f.allow (says_of key.Allow reads)
    ▸ or_within word_spans [] ReadsTexts refl words_within (at_key key.Deny entries) f.deny
    (says_of key.Deny reads)
    ▸ optional_within reason_span ReadsReason reason_within (at_key key.Reason entries) f.reason
    (says_of key.Reason reads)
    ▸ no_more) refl

feature_entry_within : (v : Value) (f : CrateFeatures) → ReadsCrateFeatures v f
    → Within v (crate_feature_spans f)
feature_entry_within v f reads =
    table_within (crate_feature_spans f)
    (λ entries (read : CrateFeatures). ReadsEntryKeys ReadsFeatures entries read.spec (lists_in read)) f
    (entry_keys_within feature_fields feature_entry-apart ReadsFeatures features-depend
    (joined (word_spans f.allow.value ∷ word_spans f.deny ∷ of_some reason_span f.reason ∷ [])) f.spec
    (lists_in f) (features_within f)) v reads

std_within : (v : Value) (std : StdReplacementConfig) → ReadsTable ReadsStd v std
    → Within v (std_spans std)
unfolding name_of
std_within v std reads =
    table_within (std_spans std) ReadsStd std
    (λ entries keys. one_key (name_of key.Ignore) entries (std_spans std)
    (or_within (flat_map (with_spec waiver_spans)) [] (ReadsList ReadsWaived) refl
    (list_within (with_spec waiver_spans) ReadsWaived waived_within) (at_key key.Ignore entries)
    std.ignore (says_of key.Ignore keys)))
    v reads

config_within : (entries : Entries) (config : Config) → ReadsConfig entries config
    → WithinKeys entries (config_labels config)
unfolding name_of config_labels
config_within entries config reads =
    let reasoned = list_within (with_spec reason_span) ReadsReasoned reasoned_within in
    let waived = list_within (with_spec waiver_spans) ReadsWaived waived_within in
    let level = optional_within own_span (ReadsSpanned (ReadsAs level_of)) (meaning_within level_of) in
    keys_within entries (
    or_within (flat_map (with_spec crate_ban_spans)) [] (ReadsList ReadsBanEntry) refl
    (list_within (with_spec crate_ban_spans) ReadsBanEntry ban_entry_within)
    (at_key key.Deny entries) config.deny (says_of key.Deny reads)
    ▸ or_within (flat_map (with_spec reason_span)) [] (ReadsList ReadsReasoned) refl reasoned
    (at_key key.Allow entries) config.allow (says_of key.Allow reads)
    ▸ level (at_key key.ExternalDefaultFeatures entries) config.external_default_features
    (says_of key.ExternalDefaultFeatures reads)
    ▸ level (at_key key.WorkspaceDefaultFeatures entries) config.workspace_default_features
    (says_of key.WorkspaceDefaultFeatures reads)
    ▸ or_within (flat_map crate_feature_spans) [] (ReadsList ReadsCrateFeatures) refl
    (list_within crate_feature_spans ReadsCrateFeatures feature_entry_within)
    (at_key key.Features entries) config.features (says_of key.Features reads)
    ▸ or_within (flat_map (with_spec waiver_spans)) [] (ReadsList ReadsWaived) refl waived
    (at_key key.Skip entries) config.skip (says_of key.Skip reads)
    ▸ or_within (flat_map (with_spec root_spans)) [] (ReadsList ReadsTreeSkipEntry) refl
    (list_within (with_spec root_spans) ReadsTreeSkipEntry root_entry_within)
    (at_key key.SkipTree entries) config.skip_tree (says_of key.SkipTree reads)
    ▸ optional_within std_spans (ReadsTable ReadsStd) std_within (at_key key.StdReplacements entries)
    config.std_replacements (says_of key.StdReplacements reads)
    ▸ optional_within written_build_spans (ReadsTable ReadsBuild) build_within (at_key key.Build entries)
    config.build (says_of key.Build reads)
    ▸ no_more) refl

-- what is read from the table `bans`, within the root
bans_within : (o : Option Value) (config : Config) → ReadsBans o config → WithinKey o (config_labels config)
bans_within None config reads =
    let all = config_within [] config reads in
    record { inside = nothing_below (config_labels config) (IsMarkAt None) all.inside; part = all.part }
bans_within (Some v) config reads =
    key_at v (config_labels config)
    (table_within (config_labels config) ReadsConfig config (λ entries. config_within entries config) v
    reads)

at_part : (name : List ℕ) (entries : Entries) (o : Option Value) → value_at name entries ≡ o
    → IsPartOf (starts_of o) (starts_of_entries entries)
at_part name entries None is = part_nothing (starts_of_entries entries)
at_part name entries (Some v) is = name_part name entries v is

below_part : (name : List ℕ) (v : Value) → IsPartOf (starts_of (below_name name v)) (starts_in v)
below_part name v = by_table (table_in v) refl
  where
    by_table : (o : Option Table) → table_in v ≡ o
        → IsPartOf (starts_of (option_and_then (λ t. value_at name (entries_in t)) o)) (starts_in v)
    by_table None is = part_nothing (starts_in v)
    by_table (Some t) is =
        subst (IsPartOf (starts_of (value_at name (entries_in t)))) (sym (starts_of_keys v t is))
        (at_part name (entries_in t) (value_at name (entries_in t)) refl)

-- ---- labels

apart_spans : (spans : List Span) → AreDistinct (starts spans) → AllPairs (λ one other. one.start ≢ other.start) spans
apart_spans spans distinct = λ i j d below within same.
    distinct i j d.start below (omega (arith, within, length-map spans (λ (span : Span). span.start)))
    (get_or-map (λ (span : Span). span.start) spans i d d.start (omega (arith, below, within))
    ∙ (same ∙ sym (get_or-map (λ (span : Span). span.start) spans j d d.start within)))

pub are_labels : (text : List ℕ) (spans : List Span) (offsets : List ℕ) → Lie (IsPolicySpan text) spans
    → IsPartOf (starts spans) offsets → AreDistinct offsets → AreLabels text spans
are_labels text spans offsets lie part distinct = record {
  located = All-from_recursion (IsPolicySpan text) spans lie;
  apart = apart_spans spans (apart_part (starts spans) offsets distinct part);
}

-- the spans in the value of the root at a key are those of a policy's text
pub key_lies : (text name : List ℕ) (tree : Value) (spans : List Span) → IsTreeOf text tree → OccursIn text tree
    → Lie (IsMarkAt (below_name name tree)) spans → Lie (IsPolicySpan text) spans
key_lies text name tree spans is_tree holds inside =
    all_weaker (IsMarkIn tree) (IsPolicySpan text)
    (λ span mark. record {
      located = mark_lies text tree holds span mark;
      marked = record { tree = tree; is_tree = is_tree; mark = mark };
    }) spans (name_inside name tree spans inside)

-- spans within the value of the root at a key
pub key_are_labels : (text name : List ℕ) (tree : Value) (spans : List Span) → IsTreeOf text tree → OccursIn text tree
    → AreApart tree → WithinKey (below_name name tree) spans → AreLabels text spans
key_are_labels text name tree spans is_tree holds apart within =
    are_labels text spans (starts_in tree) (key_lies text name tree spans is_tree holds within.inside)
    (part_of_part (starts spans) (starts_of (below_name name tree)) (starts_in tree) within.part
    (below_part name tree)) apart

pub config_are_labels : (text : List ℕ) (tree : Value) (config : Config) → IsTreeOf text tree → OccursIn text tree
    → AreApart tree → ReadsBans (below_name bans_name tree) config → AreLabels text (config_labels config)
config_are_labels text tree config is_tree holds apart reads =
    key_are_labels text bans_name tree (config_labels config) is_tree holds apart
    (bans_within (below_name bans_name tree) config reads)
