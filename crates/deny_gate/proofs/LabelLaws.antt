-- The labels of findings mark spans of the policy, of the lock text and of manifests.
use Rattle.std.proofs.Common.{◌≡◌, ◌≢◌, ◌<◌, ◌==◌, ◌&&◌, ◌++◌, ◌∙◌, ℕ, Bool, true, false, List, [], ◌∷◌, All, Contains}
use Rattle.std.proofs.Common.{Option, None, Some, arith, length, refl, sym, ap, subst, inl, inr}
use Rattle.std.proofs.lemmas.Bool.{and_parts}
use Rattle.std.specs.Prelude.{codes, filter, if◌then◌else◌, map, not, slice_get}
use Rattle.std.specs.Option.{option_and_then, option_map_or}
use Rattle.std.proofs.lemmas.Option.{none-some}
use Rattle.std.proofs.lemmas.List.Elements.{All-nil, All-cons, All-append, All-contains, All-weaker}
use Rattle.std.proofs.lemmas.List.Elements.{Contains-append_cases, Contains-append_left, Contains-append_right}
use Rattle.deny_base.specs.declared.files.File.{File}
use Rattle.deny_base.specs.declared.code.Code.{Code}
use Rattle.deny_base.specs.declared.code.Code.TheVariants as code
use Rattle.deny_base.specs.declared.key.Key.{Key}
use Rattle.deny_base.specs.declared.key.Section.TheVariants as section
use Rattle.deny_base.specs.declared.label.Label.{Label}
use Rattle.deny_base.specs.declared.level.LintLevel.{LintLevel}
use Rattle.deny_base.specs.declared.license_code.LicenseCode.{LicenseCode}
use Rattle.deny_base.specs.declared.license_code.LicenseCode.TheVariants as license
use Rattle.deny_base.specs.declared.span.Span.{Span}
use Rattle.deny_base.specs.declared.span.Spanned.{Spanned}
use Rattle.deny_base_lists.proofs.Members.{Contains-by_cases, Contains-filter, Contains-first, Contains-from_flat_map}
use Rattle.deny_base_lists.proofs.Members.{Contains-rest, contains_map, filtered, from_contains_map, no_member}
use Rattle.deny_base_lists.proofs.Members.{passes_filter}
use Rattle.deny_base_lists.proofs.Finding.{found_member}
use Rattle.deny_spdx.specs.declared.requirement.Requirement.{Requirement}
use Rattle.deny_cfg_build.specs.Builtin.{builtin_file}
use Rattle.deny_spec.specs.Building.{Building, Bypass, ScriptGlob}
use Rattle.deny_spec.specs.declared.package.PackageFile.{PackageFile}
use Rattle.deny_cfg.specs.Marks.{IsPolicySpan}
use Rattle.deny_cfg.specs.PolicyText.{policy_file}
use Rattle.deny_spec.proofs.SpanLemmas.{same-span}
use Rattle.deny_spans.specs.Spans.{ViewLies}
use Rattle.deny_spans.specs.Seen.{lock_file}
use Rattle.deny_spec.specs.Bans.{wrapper_of}
use Rattle.deny_spec.specs.Graph.{Crate, Graph}
use Rattle.deny_spec.specs.Keys.{crate_key, key_of, unused_key}
use Rattle.deny_spec.specs.Licensing.{Exception, Licensing}
use Rattle.deny_spec.specs.Match.{matches}
use Rattle.deny_spec.specs.Policy.{AllowEntry, Ban, Entry, FeatureEntry, Policy, Replacing, Root, Spec}
use Rattle.deny_spec.specs.Policy.{SpannedText}
use Rattle.deny_spec.specs.Skips.{has_root, unmatched_skip_root_keys}
use Rattle.deny_spec.specs.Text.{same_text}
use Rattle.deny_spec.specs.DiagParts.{allow_labels, ban_labels, crate_at, entry_labels, label_at, primary, root_labels}
use Rattle.deny_spec.specs.DiagParts.{secondary}
use Rattle.deny_spec.specs.DiagParts.{spec_labels, wrapper_labels}
use Rattle.deny_spec.specs.Wrappers.{is_hit_wrapper, same_span, unused_wrapper_keys_of}
use Rattle.deny_toml.specs.Spans.{IsSpan}
use Rattle.deny_spec_report.specs.BuildScripts.{required_enabled, required_of, used}
use Rattle.deny_spec_report.specs.Circumstances.{Circumstances}
use Rattle.deny_spec_report.specs.Duplicates.{duplicate_diag}
use Rattle.deny_spec_report.specs.EachCode.{HoldsAs, LicenseHolds, message_licensed}
use Rattle.deny_spec_report.specs.Facts.{Facts}
use Rattle.deny_spec_report.specs.Features.{banned_features, default_enabled_keys, default_enabled_keys_at}
use Rattle.deny_spec_report.specs.Features.{default_enabled_keys_of, default_level, feature_banned_keys}
use Rattle.deny_spec_report.specs.Features.{feature_banned_keys_at, feature_banned_keys_of, has_feature}
use Rattle.deny_spec_report.specs.Features.{IsFeatureNotAllowed, feature_not_allowed_diag, is_default_reported}
use Rattle.deny_spec_report.specs.Features.{is_mismatch_reported, is_mismatched, mismatched_diag, mismatched_keys}
use Rattle.deny_spec_report.specs.Features.{mismatched_keys_of, not_allowed_feature_key}
use Rattle.deny_spec_report.specs.Features.{is_enabled, mismatch_labels, missing, matched_by, reports_unknown}
use Rattle.deny_spec_report.specs.Features.{unknown_feature_keys, unknown_feature_keys_at, unknown_feature_keys_of}
use Rattle.deny_spec_report.specs.Features.{unknown_features}
use Rattle.deny_spec_report.specs.Licences.{IsOfLicences, accepted_diag, exception_not_encountered_keys}
use Rattle.deny_spec_report.specs.Licences.{exception_not_encountered_diag, grants_by_allowance, grants_by_exception}
use Rattle.deny_spec_report.specs.Licences.{is_hit_by, license_key, not_encountered_keys, not_encountered_diag}
use Rattle.deny_spec_report.specs.Licences.{not_encountered_diag_in, parse_error_diag, rejected_diag, rejected_diag_in}
use Rattle.deny_spec_report.specs.Licences.{skipped_private_diag, unlicensed_diag}
use Rattle.deny_spec_report.specs.Members.{is_member}
use Rattle.deny_spec_report.specs.PackageFiles.{globs_of, is_decided_by}
use Rattle.deny_spec_report.specs.PackageDiags.{bypassed_by_glob_diag, checksum_mismatch_diag, denied_by_extension_diag}
use Rattle.deny_spec_report.specs.PackageDiags.{detected_diag, enabled_by_key, extension_labels, features_enabled_diag}
use Rattle.deny_spec_report.specs.PackageDiags.{file_of_key, glob_label, glob_labels, own_globs, script_glob_label}
use Rattle.deny_spec_report.specs.PackageDiags.{script_globs, script_diag, used_by_key}
use Rattle.deny_spec_report.specs.Saying.{Saying}
use Rattle.deny_spec_report.specs.StdReplacements.{ignore_labels, ignore_span, replaced_diag, unmatched_ignore_diag}
use Rattle.deny_spec_report.specs.MessageParts.{not_built}
use Rattle.deny_spec_report.specs.Wrappers.{unused_wrapper_keys}
use Rattle.deny_spec_report.specs.declared.message.Message as finding
use Rattle.deny_spec_removal.proofs.Asking.{used_member}
use Rattle.deny_gate.specs.Labels.{ArePlaced, IsPlaced}
use Rattle.deny_gate.specs.private.Labels.{AreLockLines, build_spans, building_spans, built_in_globs}
use Rattle.deny_gate.specs.private.Labels.{built_in_spans, features_spans, level_spans, licence_spans, own_span}
use Rattle.deny_gate.specs.private.Labels.{past_spans, span_of}
use Rattle.deny_gate.specs.private.Labels.{spans_of}
use Rattle.deny_gate.specs.Report.{lock_id, policy_id}
use Rattle.deny_gate.proofs.BuildEntries.{feature_there, glob_there, of_bypass, of_extension}
use Rattle.deny_gate.proofs.Found.{of_found, of_passing}
use Rattle.deny_gate.proofs.LockLabels.{lock_placed}
use Rattle.deny_gate.proofs.ManifestLabels.{no_labels}
use Rattle.deny_gate.proofs.Placed.{ArePlaced as AtPlaces}
use Rattle.deny_gate.proofs.PolicySpans.{allow_known, ban_instead, ban_known, ban_name, ban_reason, ban_wrapper}
use Rattle.deny_gate.proofs.PolicySpans.{allow_name, allow_reason, entry_name, entry_reason}
use Rattle.deny_gate.proofs.PolicySpans.{feature_allowed, feature_denied, feature_flag}
use Rattle.deny_gate.proofs.PolicySpans.{feature_known, feature_list, ignore_known, level_known, root_name}
use Rattle.deny_gate.proofs.PolicySpans.{root_reason, skip_known, tree_known}

-- a label marks one of the spans, in the file
pub record IsOf (spans : List Span) (file : ℕ) (label : Label) : Type 0 where
  pub in_file : label.file_id ≡ file
  pub known : Contains spans label.span

abbrev pub AreOf : List Span → ℕ → List Label → Type 0
AreOf spans file labels = All (IsOf spans file) labels

module _ (p : Policy) (file : ℕ) where
  pub none : AreOf (spans_of p) file []
  none = All-nil (IsOf (spans_of p) file)

  one_more : (label : Label) (labels : List Label) → label.file_id ≡ file → Contains (spans_of p) label.span
      → AreOf (spans_of p) file labels → AreOf (spans_of p) file (label ∷ labels)
  one_more label labels at is others =
      All-cons (IsOf (spans_of p) file) label labels (record { in_file = at; known = is }) others

  at_message : (message : List ℕ) (o : Option SpannedText)
      → ((span : Span) → Contains (span_of o) span → Contains (spans_of p) span)
      → AreOf (spans_of p) file (label_at file message o)
  at_message message None is = none
  at_message message (Some words) is = one_more (secondary file words.span message) [] refl
      (is words.span (Contains-first words.span [])) none

  of_spec : (message : List ℕ) (spec : Spec) (reason use_instead : Option SpannedText) → Contains (spans_of p) spec.span
      → ((span : Span) → Contains (span_of reason) span → Contains (spans_of p) span)
      → ((span : Span) → Contains (span_of use_instead) span → Contains (spans_of p) span)
      → AreOf (spans_of p) file (spec_labels file message spec reason use_instead)
  unfolding spec_labels
  of_spec message spec reason use_instead name why other =
      one_more (primary file spec.span message)
      (label_at file (codes "reason") reason ++ label_at file (codes "use instead") use_instead) refl name
      (All-append (IsOf (spans_of p) file) (label_at file (codes "reason") reason)
      (label_at file (codes "use instead") use_instead) (at_message (codes "reason") reason why)
      (at_message (codes "use instead") use_instead other))

  pub of_ban_entry : (message : List ℕ) (ban : Ban) → Contains p.deny ban
      → AreOf (spans_of p) file (ban_labels file message ban)
  of_ban_entry message ban written =
      of_spec message ban.spec ban.reason ban.use_instead (ban_known p ban ban.spec.span written (ban_name ban))
      (λ span is. ban_known p ban span written (ban_reason ban span is))
      (λ span is. ban_known p ban span written (ban_instead ban span is))

  nothing : (span : Span) → Contains (span_of None) span → Contains (spans_of p) span
  nothing span is = absurd (no_member span is)

  pub of_allowed : (message : List ℕ) (e : AllowEntry) → Contains p.allow e
      → AreOf (spans_of p) file (allow_labels file message e)
  of_allowed message e written =
      of_spec message e.spec e.reason None (allow_known p e e.spec.span written (allow_name e))
      (λ span is. allow_known p e span written (allow_reason e span is)) nothing

  pub of_skip : (message : List ℕ) (e : Entry) → Contains p.skip e
      → AreOf (spans_of p) file (entry_labels file message e)
  of_skip message e written =
      of_spec message e.spec e.reason None (skip_known p e e.spec.span written (entry_name e))
      (λ span is. skip_known p e span written (entry_reason e span is)) nothing

  pub of_root : (message : List ℕ) (t : Root) → Contains p.skip_tree t
      → AreOf (spans_of p) file (root_labels file message t)
  of_root message t written =
      of_spec message t.spec t.reason None (tree_known p t t.spec.span written (root_name t))
      (λ span is. tree_known p t span written (root_reason t span is)) nothing

  pub of_wrapper : (ban : Ban) (o : Option SpannedText) → Contains p.deny ban
      → ((w : SpannedText) → o ≡ Some w → Contains ban.wrappers w) → AreOf (spans_of p) file (wrapper_labels file ban o)
  of_wrapper ban None written is = none
  of_wrapper ban (Some w) written is =
      one_more (primary file ban.spec.span (codes "banned here")) (primary file w.span (codes "allowed wrapper") ∷ [])
      refl (ban_known p ban ban.spec.span written (ban_name ban))
      (one_more (primary file w.span (codes "allowed wrapper")) [] refl
      (ban_known p ban w.span written (ban_wrapper ban w (is w refl))) none)

  pub wrapper_in : (ban : Ban) (o : Option Crate) (w : SpannedText)
      → option_and_then (wrapper_of ban.wrappers) o ≡ Some w
      → Contains ban.wrappers w
  unfolding wrapper_of
  wrapper_in ban None w is = absurd (cc is)
  wrapper_in ban (Some parent) w is = found_member (λ (v : SpannedText). same_text v.value parent.name) ban.wrappers w
      is

  of_ignore : (r : Replacing) (e : Entry) → p.replacing ≡ Some r → Contains r.ignore e
      → AreOf (spans_of p) file (ignore_labels file e)
  of_ignore r e active written =
      one_more (primary file e.spec.span (codes "unmatched ignore configuration"))
      (label_at file (codes "ignore reason") e.reason) refl
      (ignore_known p r e e.spec.span active written (entry_name e))
      (at_message (codes "ignore reason") e.reason
      (λ span is. ignore_known p r e span active written (entry_reason e span is)))

  pub of_unmatched_ignore : (o : Option Replacing) (key : Key) → p.replacing ≡ o
      → AreOf (spans_of p) file (option_map_or (λ r. unmatched_ignore_diag r file key) o not_built).labels
  unfolding unmatched_ignore_diag
  of_unmatched_ignore None key same = none
  of_unmatched_ignore (Some r) key same = of_found (AreOf (spans_of p) file) (ignore_labels file)
      (λ e. same_span (ignore_span e) key.entry) r.ignore none (λ e written. of_ignore r e same written)

  pub of_replaced : (o : Option Replacing) (g : Graph) (said : Saying) (key : Key)
      → AreOf (spans_of p) file (option_map_or (λ r. replaced_diag r g said key) o not_built).labels
  unfolding replaced_diag
  of_replaced None g said key = none
  of_replaced (Some r) g said key = none

  -- ---- entries of `features`

  of_words : (message : List ℕ) (ws : List SpannedText) → ((w : SpannedText) → Contains ws w
      → Contains (spans_of p) w.span)
      → AreOf (spans_of p) file (map (λ (w : SpannedText). primary file w.span message) ws)
  of_words message [] known = none
  of_words message (w ∷ ws) known =
      one_more (primary file w.span message) (map (λ (v : SpannedText). primary file v.span message) ws) refl
      (known w (Contains-first w ws)) (of_words message ws (λ v is. known v (Contains-rest w ws v is)))

  pub of_mismatch : (e : FeatureEntry) (o : Option Crate) → Contains p.features e → e.exact.value ≡ true
      → AreOf (spans_of p) file (option_map_or (mismatch_labels file e) o [])
  unfolding missing
  of_mismatch e None written exact = none
  of_mismatch e (Some c) written exact =
      let absent : SpannedText → Bool = λ w. not (is_enabled c w.value) in
      one_more (primary file e.exact.span (codes "exact enabled here"))
      (map (λ (w : SpannedText). primary file w.span (codes "allowed feature not present"))
      (filter absent e.allow.value))
      refl
      (feature_known p e e.exact.span written (feature_flag e exact))
      (of_words (codes "allowed feature not present") (filter absent e.allow.value)
      (λ w is. feature_known p e w.span written (feature_allowed e w (filtered absent e.allow.value w is))))

  pub of_list : (e : FeatureEntry) → Contains p.features e → (length e.allow.value == 0) ≡ false
      → AreOf (spans_of p) file (primary file e.allow.span (codes "allowed features") ∷ [])
  of_list e written some = one_more (primary file e.allow.span (codes "allowed features")) [] refl
      (feature_known p e e.allow.span written (feature_list e some)) none

  -- the entry of a mismatch is exact
  pub of_exact : (g : Graph) (key : Key) → Contains (mismatched_keys p g) key
      → (e : FeatureEntry) × Contains p.features e × (e.exact.value ≡ true) × (e.spec.span ≡ key.entry)
  unfolding mismatched_keys_of is_mismatch_reported key_of
  of_exact g key is =
      let of = Contains-from_flat_map (mismatched_keys_of p g) p.features key is in
      let e = of.from in
      let at = from_contains_map (λ (c : Crate). crate_key code.ExactFeaturesMismatch c.place e.spec.span)
      (filter (is_mismatch_reported p g e) g.crates) key of.of in
      let passes = passes_filter (is_mismatch_reported p g e) g.crates at.0 at.1 in
      let both = and_parts (matches e.spec at.0) (e.exact.value && is_mismatched p g e at.0) passes in (
        e,
        of.member,
        (and_parts e.exact.value (is_mismatched p g e at.0) both.1).0,
        ap (λ (k : Key). k.entry) at.2,
      )

  -- ---- the entries that are named without being looked up

  -- a key that is made of a part of the policy has that part's span
  entry_is : (code : Code) (place : ℕ) (span : Span) (key : Key) → crate_key code place span ≡ key → span ≡ key.entry
  unfolding key_of
  entry_is code place span key made = ap (λ (k : Key). k.entry) made

  denied_in : (e : FeatureEntry) (c : Crate) (w : SpannedText) → Contains (banned_features e c) w → Contains e.deny w
  unfolding banned_features
  denied_in e c w is = by e.exact.value is
    where
      by : (b : Bool) → Contains (if b then [] else filter (λ (v : SpannedText). is_enabled c v.value) e.deny) w
          → Contains e.deny w
      by true is = absurd (no_member w is)
      by false is = filtered (λ (v : SpannedText). is_enabled c v.value) e.deny w is

  pub of_feature_banned : (g : Graph) (key : Key) → Contains (feature_banned_keys p g) key
      → Contains (spans_of p) key.entry
  unfolding feature_banned_keys_of feature_banned_keys_at
  of_feature_banned g key is =
      let of = Contains-from_flat_map (feature_banned_keys_of g) p.features key is in
      let e = of.from in
      let among = Contains-from_flat_map (feature_banned_keys_at e) (matched_by g e) key of.of in
      let c = among.from in
      let at = from_contains_map (λ (w : SpannedText). crate_key code.FeatureBanned c.place w.span)
      (banned_features e c) key
      among.of in
      subst (λ (span : Span). Contains (spans_of p) span)
      (entry_is code.FeatureBanned c.place at.0.span key at.2)
      (feature_known p e at.0.span of.member (feature_denied e at.0 (denied_in e c at.0 at.1)))

  named_in : (g : Graph) (e : FeatureEntry) (c : Crate) (w : SpannedText) → Contains (unknown_features p g e c) w
      → Contains (features_spans e) w.span
  unfolding unknown_features
  named_in g e c w is = by (reports_unknown p g e c) is
    where
      by : (b : Bool)
          → Contains (if b then filter (λ (v : SpannedText). not (has_feature c v.value)) (e.allow.value ++ e.deny) else
          []) w
          → Contains (features_spans e) w.span
      by true is = elim (Contains-append_cases e.allow.value e.deny w
          (filtered (λ (v : SpannedText). not (has_feature c v.value)) (e.allow.value ++ e.deny) w is))
          as (λ _. Contains (features_spans e) w.span)
          [ inl allowed ↦ feature_allowed e w allowed | inr denied ↦ feature_denied e w denied ]
      by false is = absurd (no_member w is)

  pub of_unknown_feature : (g : Graph) (key : Key) → Contains (unknown_feature_keys p g) key
      → Contains (spans_of p) key.entry
  unfolding unknown_feature_keys_of unknown_feature_keys_at
  of_unknown_feature g key is =
      let of = Contains-from_flat_map (unknown_feature_keys_of p g) p.features key is in
      let e = of.from in
      let among = Contains-from_flat_map (unknown_feature_keys_at p g e) (matched_by g e) key of.of in
      let c = among.from in
      let at = from_contains_map (λ (w : SpannedText). crate_key code.UnknownFeature c.place w.span)
      (unknown_features p g e c) key among.of in
      subst (λ (span : Span). Contains (spans_of p) span)
      (entry_is code.UnknownFeature c.place at.0.span key at.2)
      (feature_known p e at.0.span of.member (named_in g e c at.0 at.1))

  level_in : (g : Graph) (c : Crate) (at : Spanned LintLevel) → default_level p g c ≡ Some at
      → Contains (level_spans p) at.span
  unfolding default_level
  level_in g c at is = by (is_member g c) p.workspace_default p.external_default is
    where
      by : (b : Bool) (workspace external : Option (Spanned LintLevel))
          → (if b then workspace else external) ≡ Some at
          → Contains (own_span workspace ++ own_span external) at.span
      by true workspace external is = Contains-append_left (own_span workspace) (own_span external) at.span
          (subst (λ (o : Option (Spanned LintLevel)). Contains (own_span o) at.span) (sym is)
          (Contains-first at.span []))
      by false workspace external is = Contains-append_right (own_span workspace) (own_span external) at.span
          (subst (λ (o : Option (Spanned LintLevel)). Contains (own_span o) at.span) (sym is)
          (Contains-first at.span []))

  of_default_of : (c : Crate) (key : Key) (at : Spanned LintLevel) → Contains (level_spans p) at.span
      → Contains (default_enabled_keys_of p c at) key → Contains (spans_of p) key.entry
  unfolding default_enabled_keys_of
  of_default_of c key at known is = by (is_default_reported p c at) is
    where
      by : (b : Bool) → Contains (if b then crate_key code.DefaultFeatureEnabled c.place at.span ∷ [] else []) key
          → Contains (spans_of p) key.entry
      by true is = Contains-by_cases (crate_key code.DefaultFeatureEnabled c.place at.span) [] key is
          (λ same. subst (λ (span : Span). Contains (spans_of p) span)
          (entry_is code.DefaultFeatureEnabled c.place at.span key same) (level_known p at.span known))
          (λ more. absurd (no_member key more))
      by false is = absurd (no_member key is)

  of_default_at : (g : Graph) (key : Key) (c : Crate) → Contains (default_enabled_keys_at p g c) key
      → Contains (spans_of p) key.entry
  unfolding default_enabled_keys_at
  of_default_at g key c is = by (default_level p g c) refl is
    where
      by : (o : Option (Spanned LintLevel)) → default_level p g c ≡ o
          → Contains (option_map_or (default_enabled_keys_of p c) o []) key → Contains (spans_of p) key.entry
      by None same is = absurd (no_member key is)
      by (Some at) same is = of_default_of c key at (level_in g c at same) is

  pub of_default : (g : Graph) (key : Key) → Contains (default_enabled_keys p g) key → Contains (spans_of p) key.entry
  of_default g key is =
      let of = Contains-from_flat_map (default_enabled_keys_at p g) g.crates key is in
      of_default_at g key of.from of.of

  pub of_unused_wrapper : (g : Graph) (key : Key) → Contains (unused_wrapper_keys p g) key
      → Contains (spans_of p) key.entry
  unfolding unused_wrapper_keys_of key_of
  of_unused_wrapper g key is =
      let of = Contains-from_flat_map (unused_wrapper_keys_of p g) p.deny key is in
      let ban = of.from in
      let unused : SpannedText → Bool = λ w. not (is_hit_wrapper p g ban w) in
      let at = from_contains_map (λ (w : SpannedText). unused_key code.UnusedWrapper w.span)
      (filter unused ban.wrappers) key
      of.of in
      let written = filtered unused ban.wrappers at.0 at.1 in
      subst (λ (span : Span). Contains (spans_of p) span) (ap (λ (k : Key). k.entry) at.2)
      (ban_known p ban at.0.span of.member (ban_wrapper ban at.0 written))

  pub of_unmatched_root : (g : Graph) (key : Key) → Contains (unmatched_skip_root_keys p g) key
      → Contains (spans_of p) key.entry
  unfolding unmatched_skip_root_keys key_of
  of_unmatched_root g key is =
      let unmatched : Root → Bool = λ t. not (has_root g t) in
      let at = from_contains_map (λ (t : Root). unused_key code.UnmatchedSkipRoot t.spec.span)
      (filter unmatched p.skip_tree) key is in
      let written = filtered unmatched p.skip_tree at.0 at.1 in
      subst (λ (span : Span). Contains (spans_of p) span) (ap (λ (k : Key). k.entry) at.2)
      (tree_known p at.0 at.0.spec.span written (root_name at.0))

-- ---- licences

module _ (l : Licensing) (g : Graph) (counts : Crate → Bool) where
  of_allowance : (key : Key) → Contains (not_encountered_keys counts l g) key
      → Contains (licence_spans (Some l)) key.entry
  unfolding not_encountered_keys
  of_allowance key is =
      let unhit : Spanned Requirement → Bool = λ a. not (is_hit_by counts l g (grants_by_allowance l a)) in
      let at = from_contains_map
      (λ (a : Spanned Requirement). license_key section.LicensesUnused license.LicenseNotEncountered 0 a.span)
      (filter unhit l.allow) key is in
      let of_exceptions = map (λ (e : Exception). e.spec.span) l.exceptions in
      subst (λ (span : Span). Contains (licence_spans (Some l)) span) (ap (λ (k : Key). k.entry) at.2)
      (Contains-append_left (map (λ (a : Spanned Requirement). a.span) l.allow) of_exceptions at.0.span
      (contains_map (λ (a : Spanned Requirement). a.span) l.allow at.0 (filtered unhit l.allow at.0 at.1)))

  of_exception : (key : Key) → Contains (exception_not_encountered_keys counts l g) key
      → Contains (licence_spans (Some l)) key.entry
  unfolding exception_not_encountered_keys
  of_exception key is =
      let unhit : Exception → Bool = λ e. not (is_hit_by counts l g (grants_by_exception l e)) in
      let at = from_contains_map
      (λ (e : Exception). license_key section.LicensesUnused license.LicenseExceptionNotEncountered 0 e.spec.span)
      (filter unhit l.exceptions) key is in
      let of_licences = map (λ (a : Spanned Requirement). a.span) l.allow in
      subst (λ (span : Span). Contains (licence_spans (Some l)) span) (ap (λ (k : Key). k.entry) at.2)
      (Contains-append_right of_licences (map (λ (e : Exception). e.spec.span) l.exceptions) at.0.spec.span
      (contains_map (λ (e : Exception). e.spec.span) l.exceptions at.0 (filtered unhit l.exceptions at.0 at.1)))

-- the one label of an entry that no crate needs marks one of the spans
one_label : (spans : List Span) (file : ℕ) (span : Span) (message : List ℕ) → Contains spans span
    → AreOf spans file (primary file span message ∷ [])
one_label spans file span message known = All-cons (IsOf spans file) (primary file span message) []
    (record { in_file = refl; known = known }) (All-nil (IsOf spans file))

-- the notes and errors of crates have no label
no_label : (spans : List Span) (file : ℕ) → AreOf spans file []
no_label spans file = All-nil (IsOf spans file)

of_rejected : (licensing : Option Licensing) (g : Graph) (file : ℕ) (key : Key)
    → AreOf (licence_spans licensing) file (rejected_diag_in licensing g key).labels
unfolding rejected_diag
of_rejected None g file key = no_label [] file
of_rejected (Some l) g file key = no_label (licence_spans (Some l)) file

of_not_encountered : (licensing : Option Licensing) (g : Graph) (file : ℕ) (key : Key)
    → IsOfLicences not_encountered_keys licensing g key
    → AreOf (licence_spans licensing) file (not_encountered_diag_in licensing file key).labels
unfolding not_encountered_diag
of_not_encountered None g file key is = absurd is
of_not_encountered (Some l) g file key is =
    one_label (licence_spans (Some l)) file key.entry (codes "unmatched license allowance")
    (of_allowance l g is.counts key is.listed)

of_exception_not_encountered : (licensing : Option Licensing) (g : Graph) (file : ℕ) (key : Key)
    → IsOfLicences exception_not_encountered_keys licensing g key
    → AreOf (licence_spans licensing) file (exception_not_encountered_diag file key).labels
unfolding exception_not_encountered_diag
of_exception_not_encountered None g file key is = absurd is
of_exception_not_encountered (Some l) g file key is =
    one_label (licence_spans (Some l)) file key.entry (codes "unmatched license exception")
    (of_exception l g is.counts key is.listed)

pub of_licence : (d : LicenseCode) (licensing : Option Licensing) (g : Graph) (file : ℕ) (key : Key)
    → LicenseHolds d licensing g key
    → AreOf (licence_spans licensing) file (message_licensed d licensing g file key).labels
unfolding message_licensed accepted_diag unlicensed_diag parse_error_diag skipped_private_diag
of_licence license.Accepted licensing g file key is = no_label (licence_spans licensing) file
of_licence license.Rejected licensing g file key is = of_rejected licensing g file key
of_licence license.Unlicensed licensing g file key is = no_label (licence_spans licensing) file
of_licence license.ParseError licensing g file key is = no_label (licence_spans licensing) file
of_licence license.SkippedPrivateWorkspaceCrate licensing g file key is = no_label (licence_spans licensing) file
of_licence license.LicenseNotEncountered licensing g file key is = of_not_encountered licensing g file key is
of_licence license.LicenseExceptionNotEncountered licensing g file key is =
    of_exception_not_encountered licensing g file key is

-- ---- code by code

-- the built-in globs have a number, and are the file with it
pub record HasGlobsFile (c : Circumstances) (files : List File) : Type 0 where
  pub number : ℕ
  pub is : c.files.globs ≡ Some number
  pub other : number ≢ policy_id
  pub there : slice_get files number ≡ Some builtin_file

-- The files are the policy's text, the built-in globs where there are some, the lock text and others: the spans of
-- what the policy says lie in the first, those of built-in globs in theirs, the lines of the graph's crates in the
-- lock text, and what was seen of manifests in theirs, which come behind. An entry of `features` is known by its span.
pub record AreSpans (c : Circumstances) (text : List ℕ) (files : List File) : Type 0 where
  pub first : c.files.policy ≡ policy_id
  pub second : c.files.lock ≡ Some (lock_id c.files.globs)
  pub of_policy : All (IsPolicySpan text) (spans_of c.policy)
  pub of_licences : All (IsPolicySpan text) (licence_spans c.licensing)
  pub of_builds : All (IsPolicySpan text) (build_spans c.building)
  pub of_expired : All (IsPolicySpan text) (past_spans c.expired)
  pub of_globs : All (IsSpan builtin_file.source) (built_in_spans c.building)
  pub one_feature : (d e : FeatureEntry) → Contains c.policy.features d → Contains c.policy.features e
      → d.spec.span ≡ e.spec.span → d ≡ e
  pub first_number : ℕ
  pub past : policy_id < first_number
  pub of_manifests : ViewLies first_number files c.view
  pub policy_there : slice_get files policy_id ≡ Some (policy_file text)
  pub globs_there : (b : Building) → c.building ≡ Some b → (e : ScriptGlob) → Contains (built_in_globs b) e
      → HasGlobsFile c files
  pub lock_there : slice_get files (lock_id c.files.globs) ≡ Some (lock_file c.graph.root c.graph)
  pub lines : AreLockLines c.graph
  pub places : AtPlaces c.graph c.graph.crates

number_is : (globs : Option ℕ) (number : ℕ) → globs ≡ Some number → option_map_or (λ n. n) globs 0 ≡ number
number_is globs number is = ap (λ (o : Option ℕ). option_map_or (λ n. n) o 0) is

lock_behind : (globs : Option ℕ) → lock_id globs ≢ policy_id
lock_behind None same = omega (arith, same)
lock_behind (Some n) same = omega (arith, same)

-- where spans lie in the policy's text, so do the labels that mark them in its file
placed_in : (files : List File) (spans : List Span) (text : List ℕ)
    → slice_get files policy_id ≡ Some (policy_file text) → All (IsPolicySpan text) spans → (label : Label)
    → IsOf spans policy_id label → IsPlaced files label
placed_in files spans text there lie label of =
    let mark = All-contains (IsPolicySpan text) spans label.span lie of.known in
    record {
      file = policy_file text;
      there = subst (λ (n : ℕ). slice_get files n ≡ Some (policy_file text)) (sym of.in_file) there;
      span = mark.located;
      marked = λ in_policy. mark.marked;
    }

pub all_placed : (files : List File) (spans : List Span) (text : List ℕ) (file : ℕ) (labels : List Label)
    → slice_get files policy_id ≡ Some (policy_file text) → file ≡ policy_id → All (IsPolicySpan text) spans
    → AreOf spans file labels → ArePlaced files labels
all_placed files spans text file labels there first lie are =
    All-weaker (IsOf spans policy_id) (IsPlaced files) (placed_in files spans text there lie) labels
    (subst (λ (n : ℕ). AreOf spans n labels) first are)

-- labels mark spans of the policy's bans, in its file
abbrev pub LabelsOf : Circumstances → List Label → Type 0
LabelsOf c labels = AreOf (spans_of c.policy) c.files.policy labels

module _ {c : Circumstances} {text : List ℕ} {files : List File} (are : AreSpans c text files) where
  pub in_policy : (labels : List Label) → LabelsOf c labels → ArePlaced files labels
  in_policy labels of =
      all_placed files (spans_of c.policy) text c.files.policy labels are.policy_there are.first are.of_policy of

  -- the entry of `features` that a key shows is the one that it is made of
  shown_feature : (d e : FeatureEntry) (key : Key) → Contains c.policy.features d → Contains c.policy.features e
      → same_span d.spec.span key.entry ≡ true → e.spec.span ≡ key.entry → e ≡ d
  shown_feature d e key at_d at_e shown made =
      are.one_feature e d at_e at_d (made ∙ sym (same-span d.spec.span key.entry shown))

  pub mismatch_labelled : (key : Key) → Contains (mismatched_keys c.policy c.graph) key
      → ArePlaced files (mismatched_diag c.policy c.graph c.files.policy key).labels
  unfolding mismatched_diag
  mismatch_labelled key is =
      let made = of_exact c.policy c.files.policy c.graph key is in
      let at = crate_at c.graph key.place in
      in_policy _ (of_passing (LabelsOf c) (λ e. option_map_or (mismatch_labels c.files.policy e) at [])
      (λ e. same_span e.spec.span key.entry) c.policy.features (none c.policy c.files.policy)
      (λ d written shown. of_mismatch c.policy c.files.policy d at written
      (subst (λ (e : FeatureEntry). e.exact.value ≡ true)
      (shown_feature d made.0 key written made.1 shown made.3) made.2)))

  pub list_labelled : (key : Key) → IsFeatureNotAllowed c.policy c.graph key
      → ArePlaced files (feature_not_allowed_diag c.policy c.graph c.files.policy key).labels
  unfolding feature_not_allowed_diag not_allowed_feature_key key_of
  list_labelled key is =
      in_policy _ (of_passing (LabelsOf c) (λ e. primary c.files.policy e.allow.span (codes "allowed features") ∷ [])
      (λ e. same_span e.spec.span key.entry) c.policy.features (none c.policy c.files.policy)
      (λ d written shown. of_list c.policy c.files.policy d written
      (subst (λ (e : FeatureEntry). (length e.allow.value == 0) ≡ false)
      (shown_feature d is.entry key written is.written shown (sym (ap (λ (k : Key). k.entry) is.is)))
      is.is_not_allowed.some)))

  unlabelled : ArePlaced files []
  unlabelled = no_labels files

  pub of_duplicate : (facts : Facts) (key : Key) → HoldsAs code.Duplicate c facts key
      → ArePlaced files (duplicate_diag c.policy c.graph c.files.lock key).labels
  of_duplicate facts key is =
      subst (λ (lock : Option ℕ). ArePlaced files (duplicate_diag c.policy c.graph lock key).labels) (sym are.second)
      (lock_placed c.graph are.lines are.places files (lock_id c.files.globs) (lock_behind c.files.globs) (lock_file c.graph.root c.graph)
      are.lock_there refl c.policy facts.chains key is)

  -- a label at the entry of a key lies in its file
  pub at_entry : (key : Key) (message : List ℕ) → Contains (spans_of c.policy) key.entry
      → ArePlaced files (primary c.files.policy key.entry message ∷ [])
  at_entry key message known =
      let label = primary c.files.policy key.entry message in
      in_policy (label ∷ []) (one_more c.policy c.files.policy label [] refl known (none c.policy c.files.policy))

  -- ---- labels of builds

  in_builds : (labels : List Label) → AreOf (build_spans c.building) c.files.policy labels → ArePlaced files labels
  in_builds labels of = all_placed files (build_spans c.building) text c.files.policy labels are.policy_there are.first
      are.of_builds of

  pub at_build_entry : (key : Key) (message : List ℕ) → Contains (build_spans c.building) key.entry
      → ArePlaced files (primary c.files.policy key.entry message ∷ [])
  at_build_entry key message known = in_builds (primary c.files.policy key.entry message ∷ [])
      (one_label (build_spans c.building) c.files.policy key.entry message known)

  -- a span of the policy's builds is one of those in the circumstances
  said_span : (b : Building) (r : Span) → c.building ≡ Some b → Contains (building_spans b) r
      → Contains (build_spans c.building) r
  said_span b r said at = subst (λ (o : Option Building). Contains (build_spans o) r) (sym said) at

  message_labelled : (ws : List SpannedText) → ((w : SpannedText) → Contains ws w
      → Contains (build_spans c.building) w.span)
      → AreOf (build_spans c.building) c.files.policy (map (glob_label c.files.policy) ws)
  message_labelled [] known = All-nil (IsOf (build_spans c.building) c.files.policy)
  message_labelled (w ∷ ws) known = All-cons (IsOf (build_spans c.building) c.files.policy)
      (glob_label c.files.policy w) (map (glob_label c.files.policy) ws)
      (record { in_file = refl; known = known w (Contains-first w ws) })
      (message_labelled ws (λ v at. known v (Contains-rest w ws v at)))

  pub built : (message : Building → finding.Message) (o : Option Building) → c.building ≡ o
      → ((b : Building) → c.building ≡ Some b → ArePlaced files (message b).labels)
      → ArePlaced files (option_map_or message o not_built).labels
  built message None said each = unlabelled
  built message (Some b) said each = each b said

  module _ (b : Building) (said : c.building ≡ Some b) (key : Key) where
    used_written : (o : Option Crate) (y : Bypass) → option_and_then (used b) o ≡ Some y → Contains b.bypass y
    used_written None y is = absurd (none-some y is)
    used_written (Some k) y is = used_member b k y is

    glob_known : (o : Option Bypass) → used_by_key b c key ≡ o → (w : SpannedText) → Contains (globs_of o) w
        → Contains (build_spans c.building) w.span
    glob_known None is w at = absurd (no_member w at)
    glob_known (Some y) is w at = said_span b w.span said (of_bypass b y w.span
        (used_written (crate_at c.graph key.place) y is) (glob_there y w at))

    globs_placed : (o : Option PackageFile) → ArePlaced files (option_map_or (glob_labels b c key) o [])
    globs_placed None = unlabelled
    globs_placed (Some f) = in_builds (glob_labels b c key f) (message_labelled (own_globs (used_by_key b c key) f)
        (λ w at. glob_known (used_by_key b c key) refl w
        (filtered (λ w. is_decided_by f w.value) (globs_of (used_by_key b c key)) w at)))

    extension_by : (e : ScriptGlob) (o : Bool) → e.built_in ≡ o → Contains b.extensions e
        → IsPlaced files (if o then secondary (option_map_or (λ number. number) c.files.globs 0) e.span
        (codes "builtin")
        else secondary c.files.policy e.span [])
    extension_by e true is written =
        let mine = Contains-filter (λ (g : ScriptGlob). g.built_in) b.extensions e written is in
        let of = are.globs_there b said e mine in record {
          file = builtin_file;
          there = subst (λ (o : Option ℕ). slice_get files (option_map_or (λ number. number) o 0) ≡ Some builtin_file)
              (sym of.is) of.there;
          span = All-contains (IsSpan builtin_file.source) (built_in_spans c.building) e.span are.of_globs
              (subst (λ (o : Option Building). Contains (built_in_spans o) e.span) (sym said)
              (contains_map (λ (g : ScriptGlob). g.span) (built_in_globs b) e mine));
          marked = λ in_policy. absurd (of.other (sym (number_is c.files.globs of.number of.is) ∙ in_policy));
        }
    extension_by e false is written = placed_in files (build_spans c.building) text are.policy_there are.of_builds
        (secondary c.files.policy e.span [])
        (record {
          in_file = are.first;
          known = said_span b e.span said (of_extension b e
              (Contains-filter (λ (g : ScriptGlob). not g.built_in) b.extensions e written (ap not is)));
        })

    extension_placed : (e : ScriptGlob) → Contains b.extensions e → IsPlaced files (script_glob_label c.files e)
    extension_placed e written = extension_by e e.built_in refl written

    extensions_labelled : (es : List ScriptGlob) → ((e : ScriptGlob) → Contains es e → Contains b.extensions e)
        → ArePlaced files (map (script_glob_label c.files) es)
    extensions_labelled [] each = unlabelled
    extensions_labelled (e ∷ es) each = All-cons (IsPlaced files) (script_glob_label c.files e)
        (map (script_glob_label c.files) es) (extension_placed e (each e (Contains-first e es)))
        (extensions_labelled es (λ g at. each g (Contains-rest e es g at)))

    extensions_placed : (o : Option PackageFile) → ArePlaced files (option_map_or (extension_labels b c) o [])
    extensions_placed None = unlabelled
    extensions_placed (Some f) = extensions_labelled (script_globs b f)
        (λ e at. filtered (λ g. is_decided_by f g.text) b.extensions e at)

    feature_in : (o : Option Bypass) → ((y : Bypass) → o ≡ Some y → Contains b.bypass y) → (w : SpannedText)
        → Contains (required_of o) w → Contains (build_spans c.building) w.span
    feature_in None written w at = absurd (no_member w at)
    feature_in (Some y) written w at =
        said_span b w.span said (of_bypass b y w.span (written y refl) (feature_there y w at))

    enabled_known : (k : Crate) (w : SpannedText) → Contains (required_enabled b k) w
        → Contains (build_spans c.building) w.span
    unfolding required_enabled
    enabled_known k w at = feature_in (used b k) (λ y is. used_member b k y is) w
        (filtered (λ w. is_enabled k w.value) (required_of (used b k)) w at)

    enabled_in : (o : Option Crate) (w : SpannedText) → Contains (option_map_or (required_enabled b) o []) w
        → Contains (build_spans c.building) w.span
    enabled_in None w at = absurd (no_member w at)
    enabled_in (Some k) w at = enabled_known k w at

    enabled_placed : ArePlaced files (map (glob_label c.files.policy) (enabled_by_key b c key))
    enabled_placed = in_builds (map (glob_label c.files.policy) (enabled_by_key b c key))
        (message_labelled (enabled_by_key b c key) (enabled_in (crate_at c.graph key.place)))

    pub by_glob_placed : ArePlaced files (bypassed_by_glob_diag b c key).labels
    unfolding bypassed_by_glob_diag
    by_glob_placed = globs_placed (file_of_key c key)

    pub by_extension_placed : ArePlaced files (denied_by_extension_diag b c key).labels
    unfolding denied_by_extension_diag
    by_extension_placed = extensions_placed (file_of_key c key)

    pub features_placed : ArePlaced files (features_enabled_diag b c key).labels
    unfolding features_enabled_diag
    features_placed = enabled_placed

    pub mismatch_placed : Contains (build_spans c.building) key.entry
        → ArePlaced files (checksum_mismatch_diag b c key).labels
    unfolding checksum_mismatch_diag
    mismatch_placed known = at_build_entry key (codes "expected checksum") known

    pub script_placed : ArePlaced files (script_diag b c key).labels
    unfolding detected_diag
    script_placed = unlabelled
