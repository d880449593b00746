-- The spans of a policy are those of its configuration, and so lie in the text where those do.
use Rattle.std.proofs.Common.{◌≡◌, ◌≢◌, ◌++◌, ◌+◌, ℕ, List, [], ◌∷◌, Option, None, Some, Result, Ok, Err, map, ap, refl}
use Rattle.std.proofs.Common.{arith, length, subst, sym, ◌∙◌}
use Rattle.std.specs.Prelude.{All, Contains, IfOk, IfSome, slice_get, option_map, option_and_then}
use Rattle.std.specs.List.{flat_map}
use Rattle.std.proofs.lemmas.List.Elements.{All-from_recursion, recursion_from_All, All-nil, All-cons}
use Rattle.std.proofs.lemmas.Option.{none-some, same_Some}
use Rattle.deny_base_lists.proofs.Each.{all_append}
use Rattle.deny_base_lists.proofs.Members.{Contains-first, Contains-rest, from_contains_map}
use Rattle.deny_base.specs.declared.files.File.{File}
use Rattle.deny_base.specs.declared.key.Key.{Key}
use Rattle.deny_base.specs.declared.label.Label.{Label}
use Rattle.deny_base.specs.declared.level.LintLevel.{LintLevel}
use Rattle.deny_base.specs.declared.span.Span.{Span}
use Rattle.deny_base.specs.declared.span.Spanned.{Spanned}
use Rattle.deny_spec_report.specs.Circumstances.{Circumstances}
use Rattle.deny_spec_report.specs.Facts.{Facts}
use Rattle.deny_spec_report.specs.Holding.{Holds}
use Rattle.deny_spec_report.specs.Diags.{diag_of, key_message}
use Rattle.deny_cfg.specs.Lawful.{IsLawful, no_span}
use Rattle.deny_cfg.specs.Marks.{IsPolicySpan}
use Rattle.deny_cfg.specs.LabelSpans.{AreLabels, exception_span, feature_spans_by, licence_labels, of_some, reason_span, spec_span}
use Rattle.deny_cfg.specs.LabelSpans.{std_spans, with_spec, word_labels, word_spans}
use Rattle.deny_cfg.specs.LabelSpans as written
use Rattle.deny_cfg.specs.LicensingView.{exception_view, licensing_of}
use Rattle.deny_cfg_build.specs.BuildingView.{building_view, globs_file}
use Rattle.deny_cfg_build.specs.Builtin.{builtin_file}
use Rattle.deny_cfg_build.specs.declared.valid.ValidBuildConfig.{ValidBuildConfig}
use Rattle.deny_spec.specs.Building.{Building, ScriptGlob}
use Rattle.deny_cfg.specs.PolicyText.{IsPolicyOf, globs_files, policy_file}
use Rattle.deny_cfg.specs.PolicyView.{allow_view, building_of, builtin_file_of, ban_view, entry_view, feature_view}
use Rattle.deny_cfg.specs.PolicyView.{past_waiver_view, past_waivers_of, policy_view}
use Rattle.deny_cfg.specs.PolicyView.{reason_words, replacing_view, root_view, roots_from, words_or_none}
use Rattle.deny_cfg.specs.StdReplacementConfig.{StdReplacementConfig}
use Rattle.deny_cfg.specs.TreeSkipExtended.{TreeSkipExtended}
use Rattle.deny_cfg.specs.declared.bans.cfg.valid.KrateBan.{KrateBan}
use Rattle.deny_cfg.specs.declared.bans.cfg.valid.ValidConfig.{ValidConfig}
use Rattle.deny_cfg.specs.declared.bans.cfg.valid.ValidKrateFeatures.{ValidKrateFeatures}
use Rattle.deny_cfg.specs.declared.expired.ExpiredWaiver.{ExpiredWaiver}
use Rattle.deny_cfg.specs.declared.policy.Policy.{Policy}
use Rattle.deny_cfg_entries.specs.declared.day.Day.{Day}
use Rattle.deny_cfg_entries.specs.declared.expiry.Expiry.{Expiry}
use Rattle.deny_cfg_entries.specs.declared.waiver.Waiver.{Waiver}
use Rattle.deny_cfg.specs.Reason.{Reason}
use Rattle.deny_cfg.specs.PackageSpecOrExtended.{PackageSpecOrExtended}
use Rattle.deny_cfg.proofs.Among.{lie_prefix, lie_rest}
use Rattle.deny_cfg.proofs.BuiltLaws.{globs_read, next_file}
use Rattle.deny_cfg.proofs.LabelLaws.{Lie}
use Rattle.deny_cfg.proofs.LawfulLaws.{lawful}
use Rattle.deny_cfg_tables.specs.declared.licenses.config.Config as licenses
use Rattle.deny_cfg_tables.specs.declared.licenses.exception.Exception.{Exception}
use Rattle.deny_spdx.specs.declared.requirement.Requirement.{Requirement}
use Rattle.deny_spec.specs.Graph.{Graph}
use Rattle.deny_spec.specs.Licensing as model
use Rattle.deny_spec.specs.Policy.{FeatureEntry, SpannedText}
use Rattle.deny_krates.specs.Read.{IsGraphOf}
use Rattle.deny_base_disk.specs.Disk.{Disk}
use Rattle.deny_spans.specs.Seen.{lock_file}
use Rattle.deny_toml.specs.Spans.{IsSpan}
use Rattle.deny_gate.specs.Gating.{InputTexts, circumstances_of}
use Rattle.deny_gate.specs.private.Gating.{Extras, IsPolicyReport, IsReportSeen}
use Rattle.deny_gate.specs.Gating.{first_files}
use Rattle.deny_gate.specs.private.Gating.{extras_of}
use Rattle.deny_gate.specs.Labels.{AreLabelled}
use Rattle.deny_gate.specs.private.Labels.{allow_spans, ban_spans, build_spans, built_in_globs, built_in_spans}
use Rattle.deny_gate.specs.private.Labels.{entry_spans}
use Rattle.deny_gate.specs.private.Labels.{features_spans, ignore_spans, licence_spans, own_span, span_of}
use Rattle.deny_gate.specs.private.Labels.{past_spans, past_waiver_spans, spans_of}
use Rattle.deny_gate.specs.Labels.{ArePlaced}
use Rattle.deny_gate.specs.private.Labels.{root_spans}
use Rattle.deny_gate.specs.Report.{lock_id, policy_id, IsReport, finding_for}
use Rattle.deny_gate.specs.declared.report.Finding.{Finding}
use Rattle.deny_gate.specs.declared.report.GateError.{GateError}
use Rattle.deny_gate.specs.declared.report.Report.{Report}
use Rattle.deny_gate.proofs.ApartLemmas.{one_of}
use Rattle.deny_gate.proofs.EachCode.{labels_of_key}
use Rattle.deny_gate.proofs.FeatureSpans.{feature_spans, spans_lie}
use Rattle.deny_gate.proofs.HitsApart.{parts_of}
use Rattle.deny_gate.proofs.LabelLaws.{AreSpans}
use Rattle.deny_gate.proofs.Placed.{are_placed}
use Rattle.deny_gate.proofs.PolicyBuildSpans.{built_in_lie, builds_lie, glob_numbered}

-- ---- the labels of findings

reported_labels : (c : Circumstances) (key : Key) → (finding_for c key).diag.diag.labels ≡ (key_message c key).labels
unfolding finding_for diag_of
reported_labels c key = refl

are_labelled : (c : Circumstances) (facts : Facts) (text : List ℕ) (files : List File) → AreSpans c text files
    → (keys : List Key) → ((key : Key) → Contains keys key → Holds c facts key)
    → AreLabelled files (map (finding_for c) keys)
are_labelled c facts text files are [] hold = All-nil (λ (f : Finding). ArePlaced files f.diag.diag.labels)
are_labelled c facts text files are (key ∷ keys) hold =
    All-cons (λ (f : Finding). ArePlaced files f.diag.diag.labels) (finding_for c key) (map (finding_for c) keys)
    (subst (λ (ls : List Label). ArePlaced files ls) (sym (reported_labels c key))
    (labels_of_key c facts text files are key.code key refl (hold key (Contains-first key keys))))
    (are_labelled c facts text files are keys (λ k is. hold k (Contains-rest key keys k is)))

-- the labels of a report lie in its files
report_labelled : (c : Circumstances) (text : List ℕ) (report : Report) → AreSpans c text report.files
    → IsReport c report → AreLabelled report.files report.findings
report_labelled c text report are is =
    subst (λ (found : List Finding). AreLabelled report.files found) (sym is.findings)
    (are_labelled c is.listed.facts text report.files are is.keys is.listed.listed.sound)

-- ---- the numbers of the files

-- the built-in globs have the number behind the policy's, where they are there
abbrev AreNext : Option ℕ → Type 0
AreNext globs = IfSome globs (λ n. n ≡ policy_id + 1)

module _ (first lock : File) (others : List File) where
  abbrev files_by : Option ℕ → List File
  files_by globs = ((first ∷ globs_files globs) ++ lock ∷ []) ++ others

  lock_at : (globs : Option ℕ) → AreNext globs → slice_get (files_by globs) (lock_id globs) ≡ Some lock
  lock_at None next = refl
  lock_at (Some n) next = ap (λ (m : ℕ). slice_get (files_by (Some n)) (m + 1)) next

  globs_at : (globs : Option ℕ) (number : ℕ) → globs ≡ Some number → AreNext globs
      → slice_get (files_by globs) number ≡ Some builtin_file
  globs_at None number is next = absurd (none-some number is)
  globs_at (Some n) number is next =
      ap (λ (m : ℕ). slice_get (files_by (Some n)) m) (sym (same_Some n number is) ∙ next)

globs_behind : (globs : Option ℕ) (number : ℕ) → globs ≡ Some number → AreNext globs → number ≢ policy_id
globs_behind None number is next same = absurd (none-some number is)
globs_behind (Some n) number is next same = omega (arith, next, same_Some n number is, same)

-- what a policy says of builds, and the number of its built-in globs
globs_said : (build : Option ValidBuildConfig) (b : Building) → option_map building_view build ≡ Some b
    → (e : ScriptGlob) → Contains (built_in_globs b) e → (number : ℕ) × (option_and_then globs_file build ≡ Some number)
globs_said None b said e at = absurd (none-some b said)
globs_said (Some valid) b said e at = glob_numbered valid e
    (subst (λ (x : Building). Contains (built_in_globs x) e) (sym (same_Some (building_view valid) b said)) at)

module _ (P : Span → Type 0) where
  words_lie : (words : List SpannedText) → Lie P (word_spans words)
      → Lie P (map (λ (w : SpannedText). w.span) words)
  words_lie [] lie = tt
  words_lie (w ∷ ws) lie = (lie.0, words_lie ws lie.1)

  wrappers_lie : (wrappers : Option (List SpannedText)) → Lie P (of_some word_spans wrappers)
      → Lie P (map (λ (w : SpannedText). w.span) (words_or_none wrappers))
  wrappers_lie None lie = tt
  wrappers_lie (Some words) lie = words_lie words lie

  reason_lies : (reason : Option Reason) → Lie P (of_some reason_span reason)
      → Lie P (span_of (option_map reason_words reason))
  reason_lies None lie = tt
  reason_lies (Some reason) lie = lie

  instead_lies : (use_instead : Option SpannedText) → Lie P (of_some written.own_span use_instead)
      → Lie P (span_of use_instead)
  instead_lies None lie = tt
  instead_lies (Some words) lie = lie

  -- the spans of an entry of `deny` besides its spec
  abbrev besides : Option (List SpannedText) → Option Reason → Option SpannedText → List Span
  besides wrappers reason use_instead = map (λ (w : SpannedText). w.span) (words_or_none wrappers)
      ++ (span_of (option_map reason_words reason) ++ span_of use_instead)

  besides_lie : (ban : KrateBan) → Lie P (written.ban_spans ban)
      → Lie P (besides ban.wrappers ban.reason ban.use_instead)
  besides_lie ban lie =
      let wrappers = of_some word_spans ban.wrappers in
      let reason = of_some reason_span ban.reason in
      let instead = of_some written.own_span ban.use_instead in
      let rest = lie_rest P wrappers (reason ++ (instead ++ [])) lie in
      all_append P (map (λ (w : SpannedText). w.span) (words_or_none ban.wrappers))
      (span_of (option_map reason_words ban.reason) ++ span_of ban.use_instead)
      (wrappers_lie ban.wrappers (lie_prefix P wrappers (reason ++ (instead ++ [])) lie))
      (all_append P (span_of (option_map reason_words ban.reason)) (span_of ban.use_instead)
      (reason_lies ban.reason (lie_prefix P reason (instead ++ []) rest))
      (instead_lies ban.use_instead (lie_prefix P instead [] (lie_rest P reason (instead ++ []) rest))))

  ban_inner_lies : (inner : Option KrateBan) → Lie P (of_some written.ban_spans inner)
      → Lie P (besides (option_and_then (λ (ban : KrateBan). ban.wrappers) inner)
      (option_and_then (λ (ban : KrateBan). ban.reason) inner)
      (option_and_then (λ (ban : KrateBan). ban.use_instead) inner))
  ban_inner_lies None lie = tt
  ban_inner_lies (Some ban) lie = besides_lie ban lie

  ban_lies : (e : PackageSpecOrExtended KrateBan) → Lie P (with_spec written.ban_spans e)
      → Lie P (ban_spans (ban_view e))
  unfolding ban_spans
  ban_lies e lie = (lie.0, ban_inner_lies e.inner lie.1)

  allow_lies : (e : PackageSpecOrExtended Reason) → Lie P (with_spec reason_span e)
      → Lie P (allow_spans (allow_view e))
  unfolding allow_spans
  allow_lies e lie = (lie.0, reason_lies e.inner lie.1)

  -- the reason stands before the last day
  dated_lies : (reason : Option Reason) (last : Option (Spanned Expiry))
      → Lie P (of_some reason_span reason ++ (of_some written.own_span last ++ []))
      → Lie P (span_of (option_map reason_words reason))
  dated_lies reason last lie =
      reason_lies reason (lie_prefix P (of_some reason_span reason) (of_some written.own_span last ++ []) lie)

  waiver_lies : (inner : Option Waiver) → Lie P (of_some written.waiver_spans inner)
      → Lie P (span_of (option_map reason_words (option_and_then (λ (waiver : Waiver). waiver.reason) inner)))
  waiver_lies None lie = tt
  waiver_lies (Some waiver) lie = dated_lies waiver.reason waiver.expires lie

  entry_lies : (e : PackageSpecOrExtended Waiver) → Lie P (with_spec written.waiver_spans e)
      → Lie P (entry_spans (entry_view e))
  unfolding entry_spans
  entry_lies e lie = (lie.0, waiver_lies e.inner lie.1)

  root_inner_lies : (inner : Option TreeSkipExtended) → Lie P (of_some written.root_spans inner)
      → Lie P (span_of (option_map reason_words (option_and_then (λ (skip : TreeSkipExtended). skip.reason) inner)))
  root_inner_lies None lie = tt
  root_inner_lies (Some skip) lie = dated_lies skip.reason skip.expires lie

  root_lies : (number : ℕ) (e : PackageSpecOrExtended TreeSkipExtended) → Lie P (with_spec written.root_spans e)
      → Lie P (root_spans (root_view number e))
  unfolding root_spans
  root_lies number e lie = (lie.0, root_inner_lies e.inner lie.1)

  roots_lie : (number : ℕ) (es : List (PackageSpecOrExtended TreeSkipExtended))
      → Lie P (flat_map (with_spec written.root_spans) es) → Lie P (flat_map root_spans (roots_from number es))
  roots_lie number [] lie = tt
  roots_lie number (e ∷ es) lie =
      let first = with_spec written.root_spans e in
      let others = flat_map (with_spec written.root_spans) es in
      all_append P (root_spans (root_view number e)) (flat_map root_spans (roots_from (number + 1) es))
      (root_lies number e (lie_prefix P first others lie))
      (roots_lie (number + 1) es (lie_rest P first others lie))

  each_lies : {X Y : Type 0} (view : X → Y) (from : X → List Span) (to : Y → List Span)
      → ((x : X) → Lie P (from x) → Lie P (to (view x)))
      → (xs : List X) → Lie P (flat_map from xs) → Lie P (flat_map to (map view xs))
  each_lies view from to lies [] lie = tt
  each_lies view from to lies (x ∷ xs) lie =
      all_append P (to (view x)) (flat_map to (map view xs))
      (lies x (lie_prefix P (from x) (flat_map from xs) lie))
      (each_lies view from to lies xs (lie_rest P (from x) (flat_map from xs) lie))

  entries_lie : (es : List (PackageSpecOrExtended Waiver)) → Lie P (flat_map (with_spec written.waiver_spans) es)
      → Lie P (flat_map entry_spans (map entry_view es))
  entries_lie = each_lies entry_view (with_spec written.waiver_spans) entry_spans entry_lies

  -- the spans of an entry of `features`: its list, its flag, and the features that it names
  feature_lies : (f : ValidKrateFeatures) → Lie P (written.features_spans f) → Lie P (feature_spans f)
      → Lie P (features_spans (feature_view f))
  unfolding features_spans
  feature_lies f lie spans =
      let allowed = word_spans f.features.allow.value in
      let denied = word_spans f.features.deny in
      let rest = denied ++ (of_some reason_span f.reason ++ []) in
      all_append P (feature_spans f) _ spans
      (all_append P (map (λ (w : SpannedText). w.span) f.features.allow.value)
      (map (λ (w : SpannedText). w.span) f.features.deny)
      (words_lie f.features.allow.value (lie_prefix P allowed rest lie.1))
      (words_lie f.features.deny (lie_prefix P denied (of_some reason_span f.reason ++ [])
      (lie_rest P allowed rest lie.1))))

  features_lie : (fs : List ValidKrateFeatures) → Lie P (flat_map written.features_spans fs)
      → Lie P (flat_map feature_spans fs) → Lie P (flat_map features_spans (map feature_view fs))
  features_lie [] lie spans = tt
  features_lie (f ∷ fs) lie spans =
      let first = written.features_spans f in
      let others = flat_map written.features_spans fs in
      all_append P (features_spans (feature_view f)) (flat_map features_spans (map feature_view fs))
      (feature_lies f (lie_prefix P first others lie) (lie_prefix P (feature_spans f) (flat_map feature_spans fs) spans))
      (features_lie fs (lie_rest P first others lie)
      (lie_rest P (feature_spans f) (flat_map feature_spans fs) spans))

  level_lies : (level : Option (Spanned LintLevel)) → Lie P (of_some written.own_span level)
      → Lie P (own_span level)
  level_lies None lie = tt
  level_lies (Some at) lie = lie

  ignores_lie : (std : Option StdReplacementConfig) → Lie P (of_some std_spans std)
      → Lie P (ignore_spans (option_map replacing_view std))
  ignores_lie None lie = tt
  ignores_lie (Some std) lie = entries_lie std.ignore lie

  -- the spans of bans, allowed crates, skips, skipped trees, ignores, features and levels are among all spans of the
  -- configuration
  all_spans_lie : (cfg : ValidConfig) → Lie P (word_labels cfg) → Lie P (flat_map feature_spans cfg.features)
      → Lie P (spans_of (policy_view cfg))
  unfolding word_labels spans_of
  all_spans_lie cfg lie spans =
      let denied = flat_map (with_spec written.ban_spans) cfg.denied in
      let allowed = flat_map (with_spec reason_span) cfg.allowed in
      let external = of_some written.own_span cfg.external_default_features in
      let workspace = of_some written.own_span cfg.workspace_default_features in
      let features = flat_map written.features_spans cfg.features in
      let skipped = flat_map (with_spec written.waiver_spans) cfg.skipped in
      let trees = flat_map (with_spec written.root_spans) cfg.tree_skipped in
      let from_allowed = lie_rest P (denied ++ flat_map spec_span cfg.denied_multiple_versions) _ lie in
      let from_external = lie_rest P allowed _ from_allowed in
      let from_workspace = lie_rest P external _ from_external in
      let from_features = lie_rest P workspace _ from_workspace in
      let from_skipped = lie_rest P features _ from_features in
      let from_trees = lie_rest P skipped _ from_skipped in
      let bans = lie_prefix P denied (flat_map spec_span cfg.denied_multiple_versions)
      (lie_prefix P (denied ++ flat_map spec_span cfg.denied_multiple_versions) _ lie) in
      let from_std = lie_rest P trees _ from_trees in
      let std = lie_prefix P (of_some std_spans cfg.std_replacements) _ from_std in
      all_append P (flat_map ban_spans (map ban_view cfg.denied)) _
      (each_lies ban_view (with_spec written.ban_spans) ban_spans ban_lies cfg.denied bans)
      (all_append P (flat_map allow_spans (map allow_view cfg.allowed)) _
      (each_lies allow_view (with_spec reason_span) allow_spans allow_lies cfg.allowed
      (lie_prefix P allowed _ from_allowed))
      (all_append P (flat_map entry_spans (map entry_view cfg.skipped)) _
      (entries_lie cfg.skipped (lie_prefix P skipped _ from_skipped))
      (all_append P (flat_map root_spans (roots_from 0 cfg.tree_skipped)) _
      (roots_lie 0 cfg.tree_skipped (lie_prefix P trees _ from_trees))
      (all_append P (ignore_spans (option_map replacing_view cfg.std_replacements)) _
      (ignores_lie cfg.std_replacements std)
      (all_append P (flat_map features_spans (map feature_view cfg.features)) _
      (features_lie cfg.features (lie_prefix P features _ from_features) spans)
      (all_append P (own_span cfg.workspace_default_features) (own_span cfg.external_default_features)
      (level_lies cfg.workspace_default_features (lie_prefix P workspace _ from_workspace))
      (level_lies cfg.external_default_features (lie_prefix P external _ from_external))))))))

  -- the spans of builds are the last of all
  build_lies : (cfg : ValidConfig) → Lie P (word_labels cfg) → Lie P (of_some written.build_spans cfg.build)
  unfolding word_labels
  build_lies cfg lie =
      let denied = flat_map (with_spec written.ban_spans) cfg.denied
      ++ flat_map spec_span cfg.denied_multiple_versions in
      let from_allowed = lie_rest P denied _ lie in
      let from_external = lie_rest P (flat_map (with_spec reason_span) cfg.allowed) _ from_allowed in
      let from_workspace = lie_rest P (of_some written.own_span cfg.external_default_features) _ from_external in
      let from_features = lie_rest P (of_some written.own_span cfg.workspace_default_features) _ from_workspace in
      let from_skipped = lie_rest P (flat_map written.features_spans cfg.features) _ from_features in
      let from_trees = lie_rest P (flat_map (with_spec written.waiver_spans) cfg.skipped) _ from_skipped in
      let from_std = lie_rest P (flat_map (with_spec written.root_spans) cfg.tree_skipped) _ from_trees in
      lie_prefix P (of_some written.build_spans cfg.build) []
      (lie_rest P (of_some std_spans cfg.std_replacements) _ from_std)

  -- ---- licences

  allowances_lie : (allow : List (Spanned Requirement)) → Lie P (flat_map written.own_span allow)
      → Lie P (map (λ (a : Spanned Requirement). a.span) allow)
  allowances_lie [] lie = tt
  allowances_lie (a ∷ allow) lie = (lie.0, allowances_lie allow lie.1)

  exceptions_lie : (es : List Exception) → Lie P (flat_map exception_span es)
      → Lie P (map (λ (e : model.Exception). e.spec.span) (map exception_view es))
  exceptions_lie [] lie = tt
  exceptions_lie (e ∷ es) lie =
      (lie.0, exceptions_lie es (lie_rest P (of_some written.own_span e.expires) (flat_map exception_span es) lie.1))

  licences_lie : (licensing : Option licenses.Config) → Lie P (written.licence_spans licensing)
      → Lie P (licence_spans (licensing_of licensing))
  unfolding licence_labels
  licences_lie None lie = tt
  licences_lie (Some config) lie =
      let allow = flat_map written.own_span config.allow in
      let exceptions = flat_map exception_span config.exceptions in
      all_append P (map (λ (a : Spanned Requirement). a.span) config.allow)
      (map (λ (e : model.Exception). e.spec.span) (map exception_view config.exceptions))
      (allowances_lie config.allow (lie_prefix P allow (exceptions ++ []) lie))
      (exceptions_lie config.exceptions
      (lie_prefix P exceptions [] (lie_rest P allow (exceptions ++ []) lie)))

  -- ---- expired waivers

  past_one_lies : (w : ExpiredWaiver) → Lie P (written.expired_spans_of w)
      → Lie P (past_waiver_spans (past_waiver_view w))
  unfolding past_waiver_spans
  past_one_lies w lie = (lie.1.0, reason_lies w.reason lie.1.1)

  past_lies : (ws : List ExpiredWaiver) → Lie P (written.expired_spans ws)
      → Lie P (past_spans (map past_waiver_view ws))
  past_lies = each_lies past_waiver_view written.expired_spans_of past_waiver_spans past_one_lies

-- ---- together

-- an entry of `features` is known by the span of its name
one_feature : (cfg : ValidConfig) → IsLawful cfg → (d e : FeatureEntry) → Contains (map feature_view cfg.features) d
    → Contains (map feature_view cfg.features) e → d.spec.span ≡ e.spec.span → d ≡ e
one_feature cfg lawful d e at_d at_e same =
    let x = from_contains_map feature_view cfg.features d at_d in
    let y = from_contains_map feature_view cfg.features e at_e in
    let named = ap (λ (f : FeatureEntry). f.spec.span) x.2 ∙ (same ∙ sym (ap (λ (f : FeatureEntry). f.spec.span) y.2)) in
    let one : x.0 ≡ y.0 =
    one_of (feature_spans_by no_span) cfg.features x.0 y.0 x.0.spec.name.span (parts_of cfg lawful).features x.1 y.1
    (Contains-first x.0.spec.name.span _)
    (subst (Contains (feature_spans_by no_span y.0)) (sym named) (Contains-first y.0.spec.name.span _)) in
    sym x.2 ∙ (ap feature_view one ∙ y.2)

module _ (text : List ℕ) where
  abbrev OfPolicy : Span → Type 0
  OfPolicy span = IsPolicySpan text span

  all_spans : (today : Option Day) (old new : Disk) (metadata : List ℕ) (extras : Extras) (said : Policy)
      (report : Report) → (is : IsPolicyOf today text policy_id said) → (g : Graph) → IsGraphOf metadata g
      → AreLabels text (word_labels said.bans) → AreLabels text (written.licence_spans said.licenses)
      → All (IsPolicySpan text) (written.older_span said.bans)
      → All (IsPolicySpan text) (written.expired_spans said.expired_waivers)
      → (on : IsReportSeen old new said g extras (first_files text said g) report)
      → AreSpans (circumstances_of said g extras.replacements on.view on.packages) text report.files
  all_spans today old new metadata extras said report is g is_graph bans licences older expired on =
      let read = globs_read today text policy_id said is in
      let next = next_file today text policy_id said is in
      let words = recursion_from_All OfPolicy (word_labels said.bans) bans.located in record {
        first = refl;
        second = refl;
        of_policy = All-from_recursion OfPolicy (spans_of (policy_view said.bans))
            (all_spans_lie OfPolicy said.bans words (spans_lie today text said is));
        of_licences = All-from_recursion OfPolicy (licence_spans (licensing_of said.licenses))
            (licences_lie OfPolicy said.licenses
            (recursion_from_All OfPolicy (written.licence_spans said.licenses) licences.located));
        of_builds = All-from_recursion OfPolicy (build_spans (building_of said.bans))
            (builds_lie OfPolicy said.bans.build read (build_lies OfPolicy said.bans words)
            (recursion_from_All (IsPolicySpan text) (written.older_span said.bans) older));
        of_expired = All-from_recursion OfPolicy (past_spans (past_waivers_of said))
            (past_lies OfPolicy said.expired_waivers
            (recursion_from_All OfPolicy (written.expired_spans said.expired_waivers) expired));
        of_globs = All-from_recursion (IsSpan builtin_file.source) (built_in_spans (building_of said.bans))
            (built_in_lie said.bans.build read);
        one_feature = one_feature said.bans (lawful text said.bans bans);
        first_number = length (first_files text said g);
        past = omega arith;
        of_manifests = on.spans;
        policy_there = ap (λ (files : List File). slice_get files policy_id) on.seen.files;
        globs_there = λ b of e at. let numbered = globs_said said.bans.build b of e at in record {
          number = numbered.0;
          is = numbered.1;
          other = globs_behind (builtin_file_of said.bans) numbered.0 numbered.1 next;
          there = ap (λ (files : List File). slice_get files numbered.0) on.seen.files
              ∙ globs_at (policy_file text) (lock_file g.root g) _ (builtin_file_of said.bans) numbered.0 numbered.1
              next;
        };
        lock_there = ap (λ (files : List File). slice_get files (lock_id (builtin_file_of said.bans))) on.seen.files
            ∙ lock_at (policy_file text) (lock_file g.root g) _ (builtin_file_of said.bans) next;
        lines = on.lines;
        places = are_placed metadata g is_graph;
      }

-- the labels of the report of a policy that was read lie in its files
pub labels_then : (old new : Disk) (texts : InputTexts) (said : Policy) (read : List ℕ)
    (result : Result Report GateError) → read ≡ texts.policy → IsPolicyOf texts.today read policy_id said
    → AreLabels read (word_labels said.bans) → AreLabels read (written.licence_spans said.licenses)
    → All (IsPolicySpan read) (written.older_span said.bans)
    → All (IsPolicySpan read) (written.expired_spans said.expired_waivers)
    → IfOk result (IsPolicyReport old new said texts)
    → IfOk result (λ report. AreLabelled report.files report.findings)
labels_then old new texts said read (Ok report) same is bans licences older expired on =
    report_labelled (circumstances_of said on.graph texts.replacements on.seen.view on.seen.packages) texts.policy
    report
    (all_spans texts.policy texts.today old new texts.metadata (extras_of texts) said report
    (subst (λ (text : List ℕ). IsPolicyOf texts.today text policy_id said) same is) on.graph on.is_graph
    (subst (λ (text : List ℕ). AreLabels text (word_labels said.bans)) same bans)
    (subst (λ (text : List ℕ). AreLabels text (written.licence_spans said.licenses)) same licences)
    (subst (λ (text : List ℕ). All (IsPolicySpan text) (written.older_span said.bans)) same older)
    (subst (λ (text : List ℕ). All (IsPolicySpan text) (written.expired_spans said.expired_waivers)) same expired)
    on.seen)
    on.seen.is_report
labels_then old new texts said read (Err error) same is bans licences older expired on = tt
