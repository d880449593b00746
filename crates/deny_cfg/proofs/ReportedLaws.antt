-- The labels of clashes mark values of the text's tree, names in them, or bytes of extensions.
use Rattle.deny_base_lists.proofs.Each.{all_append, all_filter, all_flat, all_found, all_given, all_mapped, all_weaker}
use Rattle.deny_base_lists.proofs.Each.{all_from_members}
use Rattle.std.proofs.Common.{◌++◌, ℕ, Bool, true, false, cond, List, [], ◌∷◌, length, map, Option, Some, None}
use Rattle.std.proofs.Common.{inl, inr, sym, subst}
use Rattle.std.specs.Prelude.{All, IfSome, IsUtf8, filter, filter_map, find, option_and_then, option_map}
use Rattle.std.specs.List.{AllByRecursion, flat_map}
use Rattle.std.proofs.lemmas.List.Elements.{All-from_recursion, recursion_from_All}
use Rattle.deny_base_lists.proofs.Members.{at_member}
use Rattle.deny_base.specs.declared.finding.Diagnostic.{Diagnostic}
use Rattle.deny_base.specs.declared.span.Span.{Span}
use Rattle.deny_base.specs.declared.span.Spanned.{Spanned}
use Rattle.deny_spec.specs.Keys.{no_span}
use Rattle.deny_spec.specs.Policy.{SpannedText}
use Rattle.deny_spec.specs.Text.{same_text}
use Rattle.deny_toml.specs.Calls.{below_name, text_in}
use Rattle.deny_toml.specs.Parser.{IsTreeOf}
use Rattle.deny_toml.specs.Spans.{OccursIn}
use Rattle.deny_toml.specs.value.Value.{Value}
use Rattle.deny_cfg_build.specs.declared.wrong.BuildFault.{BuildFault}
use Rattle.deny_cfg_build.specs.declared.wrong.BuildFault.TheVariants as fault
use Rattle.deny_cfg_tables.specs.declared.bans.cfg.build.BuildConfig.{BuildConfig}
use Rattle.deny_cfg_tables.specs.Bans.{ReadsBan, ReadsBanEntry, ban_fields}
use Rattle.deny_cfg.specs.Clashes.{AreClashes, IsBuildClash, IsClash, banned_specs, build_clash, clash_labels}
use Rattle.deny_cfg.specs.Clashes.{clash_diag, clash_with, clashes_in, feature_at, feature_clash, feature_clashes}
use Rattle.deny_cfg.specs.Clashes.{is_ban, specs_of, two_spans, wrappers_clash, wrappers_clash_by}
use Rattle.deny_cfg_tables.specs.Config.{ReadsConfig}
use Rattle.deny_cfg_entries.specs.Entry.{ReadsEntryBy, ReadsPair, ReadsSome}
use Rattle.deny_cfg.specs.LabelSpans.{AreLabels}
use Rattle.deny_cfg.specs.Marks.{IsClashSpan, IsMarkIn, IsPolicySpan}
use Rattle.deny_cfg.specs.private.LabelSpans.{config_labels, crate_ban_spans, crate_feature_spans, list_spans}
use Rattle.deny_cfg.specs.LabelSpans.{of_some, own_span, reason_span, root_spans, std_spans, reported_spans}
use Rattle.deny_cfg.specs.LabelSpans.{waiver_spans}
use Rattle.deny_cfg.specs.LabelSpans.{with_spec, word_spans}
use Rattle.deny_cfg.specs.private.LabelSpans.{wrapper_list, written_build_spans}
use Rattle.deny_cfg.specs.PolicyText.{ReadsBans, bans_name}
use Rattle.deny_cfg_entries.proofs.KeyLaws.{says_of}
use Rattle.deny_cfg_entries.specs.PolicyKey.{name_of}
use Rattle.deny_cfg_entries.specs.Spec.{ReadsSpec}
use Rattle.deny_cfg_entries.specs.SpecView.{same_spec}
use Rattle.deny_cfg_entries.specs.Table.{Entries, ReadsIfThere, ReadsOr, at_key}
use Rattle.deny_cfg_entries.specs.Words.{ReadsList, ReadsSpanned, ReadsTexts}
use Rattle.deny_cfg_tables.specs.declared.bans.cfg.ban.CrateBanExtended.{CrateBanExtended}
use Rattle.deny_cfg_tables.specs.declared.bans.cfg.config.Config.{Config}
use Rattle.deny_cfg_tables.specs.declared.bans.cfg.features.CrateFeatures.{CrateFeatures}
use Rattle.deny_cfg.specs.declared.clash.Clash.{Clash}
use Rattle.deny_cfg.specs.declared.clash.ClashKind.{ClashKind}
use Rattle.deny_cfg.specs.declared.clash.ClashKind.TheVariants as clash
use Rattle.deny_cfg_entries.specs.declared.package_spec.PackageSpec.{PackageSpec}
use Rattle.deny_cfg_entries.specs.declared.policy_key.PolicyKey.TheVariants as key
use Rattle.deny_cfg_entries.specs.declared.reason.Reason.{Reason}
use Rattle.deny_cfg_entries.specs.declared.waiver.Waiver.{Waiver}
use Rattle.deny_cfg_entries.specs.declared.spec_or_extended.PackageSpecOrExtended.{PackageSpecOrExtended}
use Rattle.deny_cfg.proofs.LabelConfig.{key_lies}
use Rattle.deny_cfg.proofs.LabelLaws.{IsMarkAt, IsMarkBelow, Lie, key_inside, list_inside, nothing_below, own_mark}
use Rattle.deny_cfg.proofs.LabelLaws.{table_inside}
use Rattle.deny_cfg.proofs.Among.{lie_prefix, lie_rest}
use Rattle.deny_cfg.proofs.BuildReported.{FaultLies, of_clash, wrong_lies}

-- ---- the lists of wrappers

wrappers_inside : (o : Option Value) (wrappers : Option (Spanned (List SpannedText)))
    → ReadsIfThere (ReadsSpanned ReadsTexts) o wrappers → Lie (IsMarkAt o) (of_some own_span wrappers)
wrappers_inside o None reads = tt
wrappers_inside None (Some w) reads = cc
wrappers_inside (Some v) (Some w) reads = own_mark v w.span reads.0

some_inside : (entries : Entries) (inner : Option CrateBanExtended) → ReadsSome ban_fields ReadsBan entries inner
    → Lie (IsMarkBelow entries) (of_some (λ said. of_some own_span said.wrappers) inner)
unfolding name_of
some_inside entries None reads = tt
some_inside entries (Some said) reads =
    key_inside (name_of key.Wrappers) entries (of_some own_span said.wrappers)
    (wrappers_inside (at_key key.Wrappers entries) said.wrappers (says_of key.Wrappers reads.1))

entry_inside : (v : Value) (e : PackageSpecOrExtended CrateBanExtended) → ReadsBanEntry v e
    → Lie (IsMarkIn v) (wrapper_list e)
entry_inside v e reads = by_text (text_in v) reads
  where
    by_text : (o : Option (List ℕ)) → ReadsEntryBy (ReadsSome ban_fields ReadsBan) o v e.spec e.inner
        → Lie (IsMarkIn v) (wrapper_list e)
    by_text None table =
        table_inside (wrapper_list e) (ReadsPair (ReadsSome ban_fields ReadsBan)) (e.spec, e.inner)
        (λ entries pair. some_inside entries e.inner pair.besides) v table
    by_text (Some t) spec =
        subst (λ (i : Option CrateBanExtended). Lie (IsMarkIn v) (of_some (λ said. of_some own_span said.wrappers) i))
        (sym spec.1) tt

deny_inside : (o : Option Value) (es : List (PackageSpecOrExtended CrateBanExtended))
    → ReadsOr [] (ReadsList ReadsBanEntry) o es → Lie (IsMarkAt o) (flat_map wrapper_list es)
deny_inside None es reads =
    subst (λ (xs : List (PackageSpecOrExtended CrateBanExtended)). Lie (IsMarkAt None) (flat_map wrapper_list xs))
    (sym reads) tt
deny_inside (Some v) es reads = list_inside wrapper_list ReadsBanEntry entry_inside v es reads

deny_read : (entries : Entries) (config : Config) → ReadsConfig entries config
    → ReadsOr [] (ReadsList ReadsBanEntry) (at_key key.Deny entries) config.deny
unfolding name_of
deny_read entries config reads = says_of key.Deny reads

-- the list that may stand for the table `build`
scripts_inside : (o : Option Value) (scripts : Option (Spanned (List PackageSpec)))
    → ReadsIfThere (ReadsSpanned (ReadsList ReadsSpec)) o scripts → Lie (IsMarkAt o) (of_some own_span scripts)
scripts_inside o None reads = tt
scripts_inside None (Some scripts) reads = cc
scripts_inside (Some v) (Some scripts) reads = own_mark v scripts.span reads.0

scripts_read : (entries : Entries) (config : Config) → ReadsConfig entries config
    → ReadsIfThere (ReadsSpanned (ReadsList ReadsSpec)) (at_key key.AllowBuildScripts entries)
    config.allow_build_scripts
unfolding name_of
scripts_read entries config reads = says_of key.AllowBuildScripts reads

lists_below : (entries : Entries) (config : Config) → ReadsConfig entries config
    → Lie (IsMarkBelow entries) (list_spans config)
unfolding list_spans name_of
lists_below entries config reads =
    all_append (IsMarkBelow entries) (flat_map wrapper_list config.deny) (of_some own_span config.allow_build_scripts)
    (key_inside (name_of key.Deny) entries (flat_map wrapper_list config.deny)
    (deny_inside (at_key key.Deny entries) config.deny (deny_read entries config reads)))
    (key_inside (name_of key.AllowBuildScripts) entries (of_some own_span config.allow_build_scripts)
    (scripts_inside (at_key key.AllowBuildScripts entries) config.allow_build_scripts
    (scripts_read entries config reads)))

lists_inside : (o : Option Value) (config : Config) → ReadsBans o config → Lie (IsMarkAt o) (list_spans config)
lists_inside None config reads =
    nothing_below (list_spans config) (IsMarkAt None) (lists_below [] config reads)
lists_inside (Some v) config reads =
    table_inside (list_spans config) ReadsConfig config (λ entries. lists_below entries config) v reads

pub lists_lie : (text : List ℕ) (tree : Value) (config : Config) → IsTreeOf text tree → OccursIn text tree
    → ReadsBans (below_name bans_name tree) config → All (IsPolicySpan text) (list_spans config)
lists_lie text tree config is_tree holds reads =
    All-from_recursion (IsPolicySpan text) (list_spans config)
    (key_lies text bans_name tree (list_spans config) is_tree holds
    (lists_inside (below_name bans_name tree) config reads))

-- ---- clashes

-- what holds of the spans of the labels of a clash
abbrev ClashLies : (Span → Type 0) → Clash → Type 0
ClashLies P c = (file : ℕ) → Lie P (map (λ label. label.span) (clash_labels c.kind file c))

mapped_lies : {X Y : Type 0} (P : X → Type 0) (Q : Y → Type 0) (f : X → Y) → ((x : X) → P x → Q (f x)) → (o : Option X)
    → IfSome o P → IfSome (option_map f o) Q
mapped_lies P Q f each None is = tt
mapped_lies P Q f each (Some x) is = each x is

-- the spans of each clash lie in the text
lie_each : {X : Type 0} (P : Span → Type 0) (f : X → List Span) (xs : List X) → Lie P (flat_map f xs)
    → AllByRecursion (λ x. Lie P (f x)) xs
lie_each P f [] lie = tt
lie_each P f (x ∷ xs) lie =
    (lie_prefix P (f x) (flat_map f xs) lie, lie_each P f xs (lie_rest P (f x) (flat_map f xs) lie))

all_both : {X : Type 0} (P Q : X → Type 0) (xs : List X) → AllByRecursion P xs → AllByRecursion Q xs
    → AllByRecursion (λ x. P x × Q x) xs
all_both P Q [] one other = tt
all_both P Q (x ∷ xs) one other = ((one.0, other.0), all_both P Q xs one.1 other.1)

module _ (P : Span → Type 0) where
  flag_lies : (flag : Option (Spanned Bool)) (wrappers : Option (Spanned (List SpannedText)))
      → Lie P (of_some own_span flag) → Lie P (of_some own_span wrappers)
      → IfSome (wrappers_clash_by flag wrappers) (ClashLies P)
  flag_lies None wrappers one other = tt
  flag_lies (Some flag) None one other = tt
  flag_lies (Some flag) (Some wrappers) one other = by_test _
    where
      by_test : (b : Bool)
          → IfSome (cond b
          (Some (record {
            kind = clash.WrappersOfMultiple;
            first = wrappers.span;
            second = flag.span;
            third = no_span;
            number = length wrappers.value;
            ascii = false;
          })) None) (ClashLies P)
      by_test true = λ file. (other.0, (one.0, tt))
      by_test false = tt

  said_lies : (inner : Option CrateBanExtended) → Lie P (of_some crate_ban_spans inner)
      → Lie P (of_some (λ said. of_some own_span said.wrappers) inner)
      → IfSome (wrappers_clash_by (option_and_then (λ said. said.deny_multiple_versions) inner)
      (option_and_then (λ said. said.wrappers) inner)) (ClashLies P)
  said_lies None one other = tt
  said_lies (Some said) one other =
      let words = of_some (λ (w : Spanned (List SpannedText)). word_spans w.value) said.wrappers in
      flag_lies said.deny_multiple_versions said.wrappers
      (lie_prefix P (of_some own_span said.deny_multiple_versions) _ (lie_rest P words _ one)) other

  ban_lies : (e : PackageSpecOrExtended CrateBanExtended)
      → Lie P (with_spec crate_ban_spans e) × Lie P (wrapper_list e) → IfSome (wrappers_clash e) (ClashLies P)
  unfolding wrappers_clash
  ban_lies e both = said_lies e.inner both.0.1 both.1

  abbrev NameLies : PackageSpec → Type 0
  NameLies spec = P spec.name.span

  -- a clash of this kind has labels at both of its first spans, and no others
  abbrev MarksBoth : ClashKind → Type 0
  MarksBoth kind = (first second : Span) → P first → P second → ClashLies P (two_spans kind first second)

  equal_lies : (kind : ClashKind) → MarksBoth kind → (others : List PackageSpec) → AllByRecursion NameLies others
      → (spec : PackageSpec)
      → NameLies spec → IfSome (clash_with kind others spec) (ClashLies P)
  unfolding clash_with
  equal_lies kind marks others all spec here =
      mapped_lies NameLies (ClashLies P)
      (λ other. two_spans kind spec.name.span other.name.span)
      (λ other there. marks spec.name.span other.name.span here there)
      (find (same_spec spec) others) (all_found NameLies (same_spec spec) others all)

  equals_lie : (kind : ClashKind) → MarksBoth kind → (specs others : List PackageSpec) → AllByRecursion NameLies specs
      → AllByRecursion NameLies others → AllByRecursion (ClashLies P) (filter_map (clash_with kind others) specs)
  equals_lie kind marks specs others here all =
      all_given NameLies (ClashLies P) (clash_with kind others) (equal_lies kind marks others all) specs here

  names_lie : {T : Type 0} (spans : T → List Span) (es : List (PackageSpecOrExtended T))
      → Lie P (flat_map (with_spec spans) es) → AllByRecursion (λ (e : PackageSpecOrExtended T). NameLies e.spec) es
  names_lie spans es lie =
      all_weaker (λ e. Lie P (with_spec spans e)) (λ e. NameLies e.spec) (λ e lies. lies.0) es
      (lie_each P (with_spec spans) es lie)

  word_lies : (words : List SpannedText) → Lie P (word_spans words)
      → AllByRecursion (λ (word : SpannedText). P word.span) words
  word_lies [] lie = tt
  word_lies (w ∷ ws) lie = (lie.0, word_lies ws lie.1)

  feature_lies : (f : CrateFeatures) → Lie P (crate_feature_spans f)
      → AllByRecursion (ClashLies P) (feature_clashes f)
  unfolding feature_clashes feature_clash
  feature_lies f lie =
      let allow = word_spans f.allow.value in
      let deny = word_spans f.deny in
      let denied = word_lies f.deny (lie_prefix P deny _ (lie_rest P allow _ lie.1)) in
      all_given (λ (word : SpannedText). P word.span) (ClashLies P) (feature_clash f)
      (λ word here. mapped_lies (λ (other : SpannedText). P other.span) (ClashLies P)
      (λ other. feature_at f.spec.name.span word other.span)
      (λ other there file. (lie.0, (here, (there, tt))))
      (find (λ other. same_text word.value other.value) f.deny)
      (all_found (λ (other : SpannedText). P other.span) (λ other. same_text word.value other.value) f.deny
      denied))
      f.allow.value (word_lies f.allow.value (lie_prefix P allow _ lie.1))

  clashes_lie : (config : Config) → Lie P (config_labels config) → Lie P (flat_map wrapper_list config.deny)
      → AllByRecursion (ClashLies P) (clashes_in config)
  unfolding config_labels clashes_in banned_specs
  clashes_lie config lie lists =
      let deny = flat_map (with_spec crate_ban_spans) config.deny in
      let allow = flat_map (with_spec reason_span) config.allow in
      let external = of_some own_span config.external_default_features in
      let workspace = of_some own_span config.workspace_default_features in
      let features = flat_map crate_feature_spans config.features in
      let skip = flat_map (with_spec waiver_spans) config.skip in
      let after_deny = lie_rest P deny _ lie in
      let after_allow = lie_rest P allow _ after_deny in
      let after_levels = lie_rest P workspace _ (lie_rest P external _ after_allow) in
      let after_features = lie_rest P features _ after_levels in
      let deny_lies = lie_prefix P deny _ lie in
      let bans = all_mapped NameLies (λ (e : PackageSpecOrExtended CrateBanExtended). e.spec)
      (filter is_ban config.deny)
      (all_filter (λ (e : PackageSpecOrExtended CrateBanExtended). NameLies e.spec) is_ban config.deny
      (names_lie crate_ban_spans config.deny deny_lies)) in
      let allowed =
      all_mapped NameLies (λ (e : PackageSpecOrExtended Reason). e.spec) config.allow
      (names_lie reason_span config.allow (lie_prefix P allow _ after_deny)) in
      let skipped =
      all_mapped NameLies (λ (e : PackageSpecOrExtended Waiver). e.spec) config.skip
      (names_lie waiver_spans config.skip (lie_prefix P skip _ after_features)) in
      all_append (ClashLies P) (filter_map wrappers_clash config.deny) _
      (all_given (λ e. Lie P (with_spec crate_ban_spans e) × Lie P (wrapper_list e)) (ClashLies P)
      wrappers_clash ban_lies config.deny
      (all_both (λ e. Lie P (with_spec crate_ban_spans e)) (λ e. Lie P (wrapper_list e)) config.deny
      (lie_each P (with_spec crate_ban_spans) config.deny deny_lies)
      (lie_each P wrapper_list config.deny lists)))
      (all_append (ClashLies P)
      (filter_map (clash_with clash.DenyAndAllow (specs_of config.allow)) (specs_of (filter is_ban config.deny))) _
      (equals_lie clash.DenyAndAllow (λ first second one other file. (one, (other, tt))) _ _ bans allowed)
      (all_append (ClashLies P)
      (filter_map (clash_with clash.DenyAndSkip (specs_of config.skip)) (specs_of (filter is_ban config.deny))) _
      (equals_lie clash.DenyAndSkip (λ first second one other file. (one, (other, tt))) _ _ bans skipped)
      (all_append (ClashLies P)
      (filter_map (clash_with clash.AllowAndSkip (specs_of config.skip)) (specs_of config.allow)) _
      (equals_lie clash.AllowAndSkip (λ first second one other file. (one, (other, tt))) _ _ allowed skipped)
      (all_flat (λ f. Lie P (crate_feature_spans f)) (ClashLies P) feature_clashes feature_lies config.features
      (lie_each P crate_feature_spans config.features (lie_prefix P features _ after_levels))))))

  -- the table `build`, which comes last
  last_lies : (config : Config) → Lie P (config_labels config)
      → Lie P (of_some written_build_spans config.build)
  unfolding config_labels
  last_lies config lie =
      let deny = flat_map (with_spec crate_ban_spans) config.deny in
      let allow = flat_map (with_spec reason_span) config.allow in
      let external = of_some own_span config.external_default_features in
      let workspace = of_some own_span config.workspace_default_features in
      let features = flat_map crate_feature_spans config.features in
      let skip = flat_map (with_spec waiver_spans) config.skip in
      let trees = flat_map (with_spec root_spans) config.skip_tree in
      let std = of_some std_spans config.std_replacements in
      let after_levels =
      lie_rest P workspace _ (lie_rest P external _ (lie_rest P allow _ (lie_rest P deny _ lie))) in
      lie_prefix P (of_some written_build_spans config.build) []
      (lie_rest P std _
      (lie_rest P trees _ (lie_rest P skip _ (lie_rest P features _ after_levels))))

  diags_lie : (file : ℕ) (cs : List Clash) → AllByRecursion (ClashLies P) cs
      → Lie P (reported_spans (map (clash_diag file) cs))
  unfolding clash_diag
  diags_lie file [] all = tt
  diags_lie file (c ∷ cs) all =
      all_append P (map (λ label. label.span) (clash_labels c.kind file c))
      (reported_spans (map (clash_diag file) cs))
      (all.0 file) (diags_lie file cs all.1)

module _ (text : List ℕ) where
  abbrev OfPolicy : Span → Type 0
  OfPolicy span = IsPolicySpan text span

  abbrev OfClash : Span → Type 0
  OfClash span = IsClashSpan text span

  build_lies_by : (found : BuildFault) → FaultLies text found → ClashLies OfClash (build_clash found)
  unfolding FaultLies
  build_lies_by (fault.NonAscii span) lies = λ file. (lies, tt)
  build_lies_by (fault.NoLetter span byte) lies = λ file. (lies.0, (lies.1, tt))
  build_lies_by (fault.Glob span byte) lies = λ file. (lies, tt)
  build_lies_by (fault.Absolute span) lies = λ file. (lies, tt)

  build_lies : IsUtf8 text → (build : Option BuildConfig) → Lie OfPolicy (of_some written_build_spans build)
      → (found : Clash) → IsBuildClash text build found → ClashLies OfClash found
  build_lies utf8 None lie found is = absurd is
  build_lies utf8 (Some build) lie found is =
      subst (ClashLies OfClash) (sym is.is)
      (build_lies_by is.of (wrong_lies text utf8 build lie is.of is.wrong))

  all_of_clash : (spans : List Span) → Lie OfPolicy spans → Lie OfClash spans
  all_of_clash spans = all_weaker OfPolicy OfClash (of_clash text) spans

  clash_lies : IsUtf8 text → (config : Config) → Lie OfPolicy (config_labels config)
      → Lie OfPolicy (flat_map wrapper_list config.deny) → (found : Clash) → IsClash text config found
      → ClashLies OfClash found
  clash_lies utf8 config lie lists found (inl entries) =
      at_member (ClashLies OfClash) (clashes_in config) found
      (clashes_lie OfClash config (all_of_clash (config_labels config) lie)
      (all_of_clash (flat_map wrapper_list config.deny) lists)) entries
  clash_lies utf8 config lie lists found (inr wrong) =
      build_lies utf8 config.build (last_lies OfPolicy config lie) found wrong

-- the labels of the diagnostics of clashes
pub reported_lie : (text : List ℕ) (config : Config) (file : ℕ) (reported : List Diagnostic) → IsUtf8 text
    → AreLabels text (config_labels config) → All (IsPolicySpan text) (list_spans config)
    → AreClashes text config file reported → All (IsClashSpan text) (reported_spans reported)
unfolding list_spans
reported_lie text config file reported utf8 labels lists are =
    let wrappers = flat_map wrapper_list config.deny in
    let both = recursion_from_All (IsPolicySpan text)
    (wrappers ++ of_some own_span config.allow_build_scripts) lists in
    let listed =
    all_from_members (ClashLies (IsClashSpan text)) are.clashes
    (λ c is. clash_lies text utf8 config
    (recursion_from_All (IsPolicySpan text) (config_labels config) labels.located)
    (lie_prefix (IsPolicySpan text) wrappers (of_some own_span config.allow_build_scripts) both) c
    (are.listed.sound c is)) in
    All-from_recursion (IsClashSpan text) (reported_spans reported)
    (subst (λ (ds : List Diagnostic). Lie (IsClashSpan text) (reported_spans ds)) (sym are.is)
    (diags_lie (IsClashSpan text) file are.clashes listed))
