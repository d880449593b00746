-- The spans of the waivers that have expired lie where those of the written entries lie.
use Rattle.std.proofs.Common.{◌≡◌, ◌++◌, Bool, true, false, cond, ℕ, List, [], ◌∷◌, Option, None, Some, subst}
use Rattle.std.proofs.lemmas.List.Elements.{All-from_recursion, recursion_from_All}
use Rattle.std.specs.Prelude.{All, IfSome, filter_map, find, int_lt, option_and_then, option_map}
use Rattle.std.specs.List.{AllByRecursion, flat_map}
use Rattle.std.specs.Option.{option_map_or}
use Rattle.std.specs.Ordering.{eq_by_cmp}
use Rattle.deny_base.specs.Entry.{entry_cmp}
use Rattle.deny_base.specs.declared.entry.EntryKind.{EntryKind}
use Rattle.deny_base.specs.declared.entry.EntryKind.TheVariants as kind
use Rattle.deny_base.specs.declared.span.Span.{Span}
use Rattle.deny_base.specs.declared.span.Spanned.{Spanned}
use Rattle.deny_base_lists.proofs.Each.{all_append, all_flat, all_found, all_given, all_weaker}
use Rattle.deny_base_lists.specs.Ascending.{AreFirst}
use Rattle.deny_cfg_build.specs.declared.valid.ValidBuildConfig.{ValidBuildConfig}
use Rattle.deny_cfg_build.specs.declared.valid.ValidBypass.{ValidBypass}
use Rattle.deny_cfg_entries.specs.declared.day.Day.{Day}
use Rattle.deny_cfg_entries.specs.declared.expiry.Expiry.{Expiry}
use Rattle.deny_cfg_entries.specs.declared.package_spec.PackageSpec.{PackageSpec}
use Rattle.deny_cfg_entries.specs.declared.reason.Reason.{Reason}
use Rattle.deny_cfg_entries.specs.declared.spec_or_extended.PackageSpecOrExtended.{PackageSpecOrExtended}
use Rattle.deny_cfg_entries.specs.declared.waiver.Waiver.{Waiver}
use Rattle.deny_cfg_tables.specs.declared.bans.cfg.std_replacements.StdReplacementConfig.{StdReplacementConfig}
use Rattle.deny_cfg_tables.specs.declared.bans.cfg.tree_skip.TreeSkipExtended.{TreeSkipExtended}
use Rattle.deny_cfg_tables.specs.declared.licenses.config.Config.{Config}
use Rattle.deny_cfg_tables.specs.declared.licenses.exception.Exception.{Exception}
use Rattle.deny_cfg.specs.Current.{IsCurrent, expired_as, expired_bypass, expired_exception, expired_id, expired_in}
use Rattle.deny_cfg.specs.Current.{expired_in_bans, expired_in_build, expired_in_licenses, expired_in_std, expired_root}
use Rattle.deny_cfg.specs.Current.{expired_skip, passed}
use Rattle.deny_cfg.specs.LabelSpans.{AreLabels, ban_spans, build_spans, bypass_spans, exception_span, expired_spans}
use Rattle.deny_cfg.specs.LabelSpans.{expired_spans_of, features_spans, joined, licence_labels, licence_spans, of_some}
use Rattle.deny_cfg.specs.LabelSpans.{own_span, path_spans, pattern_spans, reason_span, root_spans, spec_span, std_spans}
use Rattle.deny_cfg.specs.LabelSpans.{waiver_spans, with_spec, word_labels, word_spans}
use Rattle.deny_cfg.specs.Marks.{IsPolicySpan}
use Rattle.deny_cfg.specs.declared.bans.cfg.valid.ValidConfig.{ValidConfig}
use Rattle.deny_cfg.specs.declared.expired.ExpiredWaiver.{ExpiredWaiver}
use Rattle.deny_cfg.specs.declared.policy.Policy.{Policy}
use Rattle.deny_cfg.proofs.Among.{lie_each, lie_prefix, lie_rest}
use Rattle.deny_cfg.proofs.LabelLaws.{Lie}

module _ (P : Span → Type 0) (today : Option Day) where
  abbrev WaiverLies : ExpiredWaiver → Type 0
  WaiverLies waiver = Lie P (expired_spans_of waiver)

  -- ---- an entry

  passed_lies : (kind : EntryKind) (spec : PackageSpec) (reason : Option Reason) (day : Option Day)
      (last : Option (Spanned Expiry)) → P spec.name.span → Lie P (of_some reason_span reason)
      → Lie P (of_some own_span last) → IfSome (option_map (expired_as kind spec reason) (passed day last)) WaiverLies
  passed_lies kind spec reason None last name why lie = tt
  passed_lies kind spec reason (Some day) None name why lie = tt
  passed_lies kind spec reason (Some day) (Some last) name why lie = by_test (int_lt last.value.day.0 day.0)
    where
      by_test : (b : Bool)
          → IfSome (option_map (expired_as kind spec reason) (cond b (Some last) None)) WaiverLies
      by_test true = (name, (lie.0, why))
      by_test false = tt

  -- an entry with a reason and a last day beside its spec
  said_lies : (kind : EntryKind) (spec : PackageSpec) (reason : Option Reason) (last : Option (Spanned Expiry))
      → P spec.name.span → Lie P (joined (of_some reason_span reason ∷ of_some own_span last ∷ []))
      → IfSome (option_map (expired_as kind spec reason) (passed today last)) WaiverLies
  said_lies kind spec reason last name lie =
      let why = of_some reason_span reason in
      let day = of_some own_span last in
      passed_lies kind spec reason today last name (lie_prefix P why (day ++ []) lie)
      (lie_prefix P day [] (lie_rest P why (day ++ []) lie))

  skip_lies : (kind : EntryKind) (e : PackageSpecOrExtended Waiver) → Lie P (with_spec waiver_spans e)
      → IfSome (expired_skip today kind e) WaiverLies
  skip_lies kind e lie = by_inner e.inner lie.1
    where
      by_inner : (inner : Option Waiver) → Lie P (of_some waiver_spans inner)
          → IfSome (option_map (expired_as kind e.spec (option_and_then (λ waiver. waiver.reason) inner))
          (passed today (option_and_then (λ waiver. waiver.expires) inner))) WaiverLies
      by_inner None beside = passed_lies kind e.spec None today None lie.0 tt tt
      by_inner (Some waiver) beside = said_lies kind e.spec waiver.reason waiver.expires lie.0 beside

  root_lies : (e : PackageSpecOrExtended TreeSkipExtended) → Lie P (with_spec root_spans e)
      → IfSome (expired_root today e) WaiverLies
  root_lies e lie = by_inner e.inner lie.1
    where
      by_inner : (inner : Option TreeSkipExtended) → Lie P (of_some root_spans inner)
          → IfSome (option_map (expired_as kind.SkipRoot e.spec (option_and_then (λ skip. skip.reason) inner))
          (passed today (option_and_then (λ skip. skip.expires) inner))) WaiverLies
      by_inner None beside = passed_lies kind.SkipRoot e.spec None today None lie.0 tt tt
      by_inner (Some skip) beside = said_lies kind.SkipRoot e.spec skip.reason skip.expires lie.0 beside

  bypass_lies : (b : ValidBypass) → Lie P (bypass_spans b) → IfSome (expired_bypass today b) WaiverLies
  bypass_lies b lie =
      let script = of_some own_span b.build_script in
      let globs = of_some pattern_spans b.allow_globs in
      passed_lies kind.Bypass b.spec None today b.expires lie.0 tt
      (lie_prefix P (of_some own_span b.expires) []
      (lie_rest P (flat_map path_spans b.allow) _
      (lie_rest P globs _ (lie_rest P (word_spans b.required_features) _ (lie_rest P script _ lie.1)))))

  exception_lies : (e : Exception) → Lie P (exception_span e) → IfSome (expired_exception today e) WaiverLies
  exception_lies e lie = passed_lies kind.LicenseException e.spec None today e.expires lie.0 tt lie.1

  -- ---- a list of entries

  skips_lie : (kind : EntryKind) (es : List (PackageSpecOrExtended Waiver))
      → Lie P (flat_map (with_spec waiver_spans) es) → AllByRecursion WaiverLies (filter_map (expired_skip today kind) es)
  skips_lie kind es lie =
      all_given (λ e. Lie P (with_spec waiver_spans e)) WaiverLies (expired_skip today kind) (skip_lies kind) es
      (lie_each P (with_spec waiver_spans) es lie)

  roots_lie : (es : List (PackageSpecOrExtended TreeSkipExtended)) → Lie P (flat_map (with_spec root_spans) es)
      → AllByRecursion WaiverLies (filter_map (expired_root today) es)
  roots_lie es lie =
      all_given (λ e. Lie P (with_spec root_spans e)) WaiverLies (expired_root today) root_lies es
      (lie_each P (with_spec root_spans) es lie)

  std_lies : (std : Option StdReplacementConfig) → Lie P (of_some std_spans std)
      → AllByRecursion WaiverLies (option_map_or (expired_in_std today) std [])
  std_lies None lie = tt
  std_lies (Some std) lie = skips_lie kind.ReplacementIgnore std.ignore lie

  build_lies : (build : Option ValidBuildConfig) → Lie P (of_some build_spans build)
      → AllByRecursion WaiverLies (option_map_or (expired_in_build today) build [])
  build_lies None lie = tt
  build_lies (Some build) lie =
      let entries = flat_map bypass_spans build.bypass in
      all_given (λ b. Lie P (bypass_spans b)) WaiverLies (expired_bypass today) bypass_lies build.bypass
      (lie_each P bypass_spans build.bypass
      (lie_prefix P entries [] (lie_rest P (pattern_spans build.script_extensions) (entries ++ []) lie)))

  bans_lie : (written : ValidConfig) → Lie P (word_labels written)
      → AllByRecursion WaiverLies (expired_in_bans today written)
  unfolding word_labels expired_in_bans
  bans_lie written lie =
      let denied =
      flat_map (with_spec ban_spans) written.denied ++ flat_map spec_span written.denied_multiple_versions in
      let allowed = flat_map (with_spec reason_span) written.allowed in
      let external = of_some own_span written.external_default_features in
      let workspace = of_some own_span written.workspace_default_features in
      let features = flat_map features_spans written.features in
      let skips = flat_map (with_spec waiver_spans) written.skipped in
      let trees = flat_map (with_spec root_spans) written.tree_skipped in
      let std = of_some std_spans written.std_replacements in
      let build = of_some build_spans written.build in
      let dated =
      lie_rest P features (skips ++ (trees ++ (std ++ (build ++ []))))
      (lie_rest P workspace _ (lie_rest P external _ (lie_rest P allowed _ (lie_rest P denied _ lie)))) in
      let after_skips = lie_rest P skips (trees ++ (std ++ (build ++ []))) dated in
      let after_trees = lie_rest P trees (std ++ (build ++ [])) after_skips in
      all_append WaiverLies (filter_map (expired_skip today kind.Skip) written.skipped) _
      (skips_lie kind.Skip written.skipped (lie_prefix P skips _ dated))
      (all_append WaiverLies (filter_map (expired_root today) written.tree_skipped) _
      (roots_lie written.tree_skipped (lie_prefix P trees _ after_skips))
      (all_append WaiverLies (option_map_or (expired_in_std today) written.std_replacements [])
      (option_map_or (expired_in_build today) written.build [])
      (std_lies written.std_replacements (lie_prefix P std _ after_trees))
      (build_lies written.build (lie_prefix P build [] (lie_rest P std (build ++ []) after_trees)))))

  licences_lie : (licensing : Option Config) → Lie P (licence_spans licensing)
      → AllByRecursion WaiverLies (expired_in_licenses today licensing)
  unfolding licence_labels
  licences_lie None lie = tt
  licences_lie (Some config) lie =
      let exceptions = flat_map exception_span config.exceptions in
      all_given (λ e. Lie P (exception_span e)) WaiverLies (expired_exception today) exception_lies config.exceptions
      (lie_each P exception_span config.exceptions
      (lie_prefix P exceptions [] (lie_rest P (flat_map own_span config.allow) (exceptions ++ []) lie)))

  -- ---- all that has expired, in order

  firsts_lie : (all ordered : List ExpiredWaiver) → AreFirst entry_cmp expired_id all ordered
      → AllByRecursion WaiverLies all → AllByRecursion WaiverLies ordered
  firsts_lie all ordered first lie =
      let is_found : ExpiredWaiver → Type 0 =
      λ w. find (λ other. eq_by_cmp entry_cmp (expired_id w) (expired_id other)) all ≡ Some w in
      all_weaker is_found WaiverLies
      (λ w found. subst (λ o. IfSome o WaiverLies) found
      (all_found WaiverLies (λ other. eq_by_cmp entry_cmp (expired_id w) (expired_id other)) all lie)) ordered
      (recursion_from_All is_found ordered first)

  pub expired_lie : (written : ValidConfig) (licensing : Option Config) (policy : Policy)
      → IsCurrent today written licensing policy → Lie P (word_labels written) → Lie P (licence_spans licensing)
      → Lie P (expired_spans policy.expired_waivers)
  expired_lie written licensing policy current bans licences =
      all_flat WaiverLies P expired_spans_of (λ w lie. lie) policy.expired_waivers
      (firsts_lie (expired_in today written licensing) policy.expired_waivers current.waivers.first
      (all_append WaiverLies (expired_in_bans today written) (expired_in_licenses today licensing)
      (bans_lie written bans) (licences_lie licensing licences)))

pub expired_labels : (today : Option Day) (text : List ℕ) (written : ValidConfig) (licensing : Option Config)
    (policy : Policy) → IsCurrent today written licensing policy → AreLabels text (word_labels written)
    → AreLabels text (licence_spans licensing) → All (IsPolicySpan text) (expired_spans policy.expired_waivers)
expired_labels today text written licensing policy current bans licences =
    All-from_recursion (IsPolicySpan text) (expired_spans policy.expired_waivers)
    (expired_lie (IsPolicySpan text) today written licensing policy current
    (recursion_from_All (IsPolicySpan text) (word_labels written) bans.located)
    (recursion_from_All (IsPolicySpan text) (licence_spans licensing) licences.located))
