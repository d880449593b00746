-- The list `allow` and the flag `exact` of an entry of `features`, where a label may mark them, are spans of the policy's
-- text.
use Rattle.std.proofs.Common.{◌≡◌, ◌∙◌, ◌==◌, ℕ, Bool, true, false, List, [], ◌∷◌, Option, None, Some, length, map, not}
use Rattle.std.proofs.Common.{ap, refl, subst, sym}
use Rattle.std.specs.List.{flat_map}
use Rattle.deny_base.specs.declared.span.Span.{Span}
use Rattle.deny_base.specs.declared.span.Spanned.{Spanned}
use Rattle.deny_base_lists.proofs.Each.{all_append}
use Rattle.deny_spec.specs.Policy.{SpannedText}
use Rattle.deny_toml.proofs.ParserLaws.{tree_holds}
use Rattle.deny_toml.specs.Calls.{below_name}
use Rattle.deny_toml.specs.value.Value.{Value}
use Rattle.deny_cfg_entries.specs.Entry.{ReadsEntryKeys}
use Rattle.deny_cfg_entries.specs.PolicyKey.{name_of}
use Rattle.deny_cfg_entries.specs.Table.{Entries, ReadsOr, at_key}
use Rattle.deny_cfg_entries.specs.Words.{ReadsBool, ReadsList, ReadsSpanned, ReadsTexts}
use Rattle.deny_cfg_entries.specs.declared.policy_key.PolicyKey.TheVariants as key
use Rattle.deny_cfg_entries.proofs.KeyLaws.{says_of}
use Rattle.deny_cfg_tables.specs.Config.{ReadsConfig}
use Rattle.deny_cfg_tables.specs.Features.{ReadsCrateFeatures, ReadsFeatures, lists_in, nowhere}
use Rattle.deny_cfg_tables.specs.declared.bans.cfg.config.Config.{Config}
use Rattle.deny_cfg_tables.specs.declared.bans.cfg.features.CrateFeatures.{CrateFeatures}
use Rattle.deny_cfg.specs.Current.{current_bans}
use Rattle.deny_cfg.specs.Marks.{IsMarkIn, IsPolicySpan}
use Rattle.deny_cfg.specs.PolicyText.{IsPolicyOf, ReadsBans, bans_name}
use Rattle.deny_cfg.specs.Valid.{features_of}
use Rattle.deny_cfg.specs.declared.bans.cfg.valid.ValidConfig.{ValidConfig}
use Rattle.deny_cfg.specs.declared.bans.cfg.valid.ValidKrateFeatures.{ValidKrateFeatures}
use Rattle.deny_cfg.proofs.Among.{lie_prefix, lie_rest}
use Rattle.deny_cfg.proofs.LabelConfig.{key_lies}
use Rattle.deny_cfg.proofs.LabelLaws.{IsMarkAt, IsMarkBelow, Lie, key_inside, list_inside, nothing_below, own_mark}
use Rattle.deny_cfg.proofs.LabelLaws.{table_inside}
use Rattle.deny_gate.specs.Report.{policy_id}
use Rattle.deny_gate.specs.private.Labels.{list_and_flag, span_if}
use Rattle.deny_cfg.specs.declared.policy.Policy.{Policy}
use Rattle.deny_cfg_entries.specs.declared.day.Day.{Day}

-- the spans of an entry as it is written, and of one that was read
abbrev written_spans : CrateFeatures → List Span
written_spans f = list_and_flag f.allow f.exact

abbrev pub feature_spans : ValidKrateFeatures → List Span
feature_spans f = list_and_flag f.features.allow f.features.exact

-- what is left out has no mark, by a test that its default does not pass
value_inside : {T : Type 0} (default : T) (test : T → Bool) → test default ≡ false → (Reads : Value → T → Type 0)
    → (o : Option Value) (x : Spanned T) → ReadsOr (nowhere default) (ReadsSpanned Reads) o x
    → Lie (IsMarkAt o) (span_if (test x.value) x.span)
value_inside {T} default test fails Reads None x reads =
    subst (λ (y : Spanned T). Lie (IsMarkAt None) (span_if (test y.value) y.span)) (sym reads)
    (subst (λ (b : Bool). Lie (IsMarkAt None) (span_if b (nowhere default).span)) (sym fails) tt)
value_inside default test fails Reads (Some v) x reads = by_test (test x.value)
  where
    by_test : (b : Bool) → Lie (IsMarkIn v) (span_if b x.span)
    by_test true = own_mark v x.span reads.0
    by_test false = tt

entry_inside : (entries : Entries) (f : CrateFeatures) → ReadsFeatures entries (lists_in f)
    → Lie (IsMarkBelow entries) (written_spans f)
unfolding name_of
entry_inside entries f reads =
    let listed : List SpannedText → Bool = λ allow. not (length allow == 0) in
    let list = span_if (listed f.allow.value) f.allow.span in
    let flag = span_if f.exact.value f.exact.span in
    all_append (IsMarkBelow entries) list flag
    (key_inside (name_of key.Allow) entries list
    (value_inside [] listed refl ReadsTexts (at_key key.Allow entries) f.allow (says_of key.Allow reads)))
    (key_inside (name_of key.Exact) entries flag
    (value_inside false (λ (b : Bool). b) refl ReadsBool (at_key key.Exact entries) f.exact (says_of key.Exact reads)))

crate_inside : (v : Value) (f : CrateFeatures) → ReadsCrateFeatures v f → Lie (IsMarkIn v) (written_spans f)
crate_inside v f reads =
    table_inside (written_spans f)
    (λ entries (read : CrateFeatures). ReadsEntryKeys ReadsFeatures entries read.spec (lists_in read)) f
    (λ entries keys. entry_inside entries f keys.besides) v reads

features_inside : (o : Option Value) (fs : List CrateFeatures) → ReadsOr [] (ReadsList ReadsCrateFeatures) o fs
    → Lie (IsMarkAt o) (flat_map written_spans fs)
features_inside None fs reads =
    subst (λ (xs : List CrateFeatures). Lie (IsMarkAt None) (flat_map written_spans xs)) (sym reads) tt
features_inside (Some v) fs reads = list_inside written_spans ReadsCrateFeatures crate_inside v fs reads

config_inside : (entries : Entries) (config : Config) → ReadsConfig entries config
    → Lie (IsMarkBelow entries) (flat_map written_spans config.features)
unfolding name_of
config_inside entries config reads =
    key_inside (name_of key.Features) entries (flat_map written_spans config.features)
    (features_inside (at_key key.Features entries) config.features (says_of key.Features reads))

bans_inside : (o : Option Value) (config : Config) → ReadsBans o config
    → Lie (IsMarkAt o) (flat_map written_spans config.features)
bans_inside None config reads =
    nothing_below (flat_map written_spans config.features) (IsMarkAt None) (config_inside [] config reads)
bans_inside (Some v) config reads =
    table_inside (flat_map written_spans config.features) ReadsConfig config
    (λ entries. config_inside entries config) v reads

-- the spans of the entries that were taken over are those of the written ones
taken : (P : Span → Type 0) (fs : List CrateFeatures) → Lie P (flat_map written_spans fs)
    → Lie P (flat_map feature_spans (map features_of fs))
taken P [] lie = tt
taken P (f ∷ fs) lie =
    let first = written_spans f in
    let others = flat_map written_spans fs in
    all_append P first (flat_map feature_spans (map features_of fs)) (lie_prefix P first others lie)
    (taken P fs (lie_rest P first others lie))

-- the lists and flags of the features of a policy are spans of its text
pub spans_lie : (today : Option Day) (text : List ℕ) (said : Policy) → IsPolicyOf today text policy_id said
    → Lie (IsPolicySpan text) (flat_map feature_spans said.bans.features)
unfolding current_bans
spans_lie today text said is =
    let says = is.says in
    let of = says.is_tree in
    subst (λ (fs : List ValidKrateFeatures). Lie (IsPolicySpan text) (flat_map feature_spans fs))
    (sym (ap (λ (bans : ValidConfig). bans.features) is.current.bans ∙ is.valid.features))
    (taken (IsPolicySpan text) is.config.features
    (key_lies text bans_name says.tree (flat_map written_spans is.config.features) says.is_tree
    (tree_holds text of.0 _ says.tree says.utf8 of.1 refl of.3)
    (bans_inside (below_name bans_name says.tree) is.config says.reads)))
