-- The spans of a valid configuration are among those of the written configuration.
use Rattle.std.proofs.Common.{◌≡◌, ◌≢◌, ◌<◌, ◌++◌, ℕ, Bool, true, false, cond, not, List, [], ◌∷◌, length, map}
use Rattle.std.proofs.Common.{append_assoc, Option, Some, None, refl, sym, ap, ◌∙◌, subst, arith}
use Rattle.std.specs.Prelude.{AllPairs, filter, option_map}
use Rattle.std.specs.List.{flat_map}
use Rattle.std.proofs.lemmas.List.{get_or-map, length-map}
use Rattle.std.proofs.lemmas.List.Elements.{recursion_from_All}
use Rattle.deny_base.specs.declared.span.Span.{Span}
use Rattle.deny_base_lists.proofs.Each.{all_append}
use Rattle.deny_base.specs.declared.span.Spanned.{Spanned}
use Rattle.deny_spec.specs.Policy.{SpannedText}
use Rattle.deny_toml.proofs.ApartParts.{AreDistinct}
use Rattle.deny_cfg.specs.Clashes.{is_ban}
use Rattle.deny_cfg.specs.LabelSpans.{AreLabels, ban_spans, build_spans}
use Rattle.deny_cfg.specs.Marks.{IsPolicySpan}
use Rattle.deny_cfg.specs.private.LabelSpans.{config_labels, crate_ban_spans}
use Rattle.deny_cfg.specs.LabelSpans.{of_some, own_span, reason_span}
use Rattle.deny_cfg.specs.private.LabelSpans.{crate_feature_spans}
use Rattle.deny_cfg.specs.LabelSpans.{features_spans}
use Rattle.deny_cfg.specs.LabelSpans.{root_spans, spec_span, std_spans, waiver_spans, with_spec, word_labels}
use Rattle.deny_cfg.specs.LabelSpans.{word_spans}
use Rattle.deny_cfg.specs.private.LabelSpans.{written_build_spans}
use Rattle.deny_cfg.specs.Valid.{IsValidOf, ban_of, features_of, is_multiple, krate_ban, older_key_of}
use Rattle.deny_cfg_tables.specs.declared.bans.cfg.ban.CrateBanExtended.{CrateBanExtended}
use Rattle.deny_cfg_tables.specs.declared.bans.cfg.config.Config.{Config}
use Rattle.deny_cfg_tables.specs.declared.bans.cfg.features.CrateFeatures.{CrateFeatures}
use Rattle.deny_cfg.specs.declared.bans.cfg.valid.ValidConfig.{ValidConfig}
use Rattle.deny_cfg_entries.specs.declared.spec_or_extended.PackageSpecOrExtended.{PackageSpecOrExtended}
use Rattle.deny_cfg.proofs.Among.{Among, among_both, among_itself, among_joined, among_rest, among_same, among_then}
use Rattle.deny_cfg.proofs.Among.{lie_prefix, lie_rest, times_both}
use Rattle.deny_cfg.proofs.BuildAmong.{built_among}
use Rattle.deny_cfg.proofs.LabelConfig.{are_labels}
use Rattle.deny_cfg.proofs.LabelLaws.{starts}

-- ---- bans without their flags, beside the other entries

wrapper_message : (wrappers : Option (Spanned (List SpannedText)))
    → of_some word_spans (option_map (λ (w : Spanned (List SpannedText)). w.value) wrappers)
    ≡ of_some (λ (w : Spanned (List SpannedText)). word_spans w.value) wrappers
wrapper_message None = refl
wrapper_message (Some w) = refl

said_among : (said : CrateBanExtended) → Among (ban_spans (krate_ban said)) (crate_ban_spans said)
said_among said =
    let rest = of_some reason_span said.reason ++ (of_some own_span said.use_instead ++ []) in
    among_both (of_some word_spans (option_map (λ (w : Spanned (List SpannedText)). w.value) said.wrappers)) rest
    (of_some (λ (w : Spanned (List SpannedText)). word_spans w.value) said.wrappers)
    (of_some own_span said.deny_multiple_versions ++ rest) (among_same _ _ (wrapper_message said.wrappers))
    (among_rest (of_some own_span said.deny_multiple_versions) rest)

inner_among : (inner : Option CrateBanExtended)
    → Among (of_some ban_spans (option_map krate_ban inner)) (of_some crate_ban_spans inner)
inner_among None = among_itself []
inner_among (Some said) = said_among said

ban_among : (e : PackageSpecOrExtended CrateBanExtended)
    → Among (with_spec ban_spans (ban_of e)) (with_spec crate_ban_spans e)
ban_among e =
    among_both (spec_span e.spec) (of_some ban_spans (option_map krate_ban e.inner)) (spec_span e.spec)
    (of_some crate_ban_spans e.inner) (among_itself (spec_span e.spec)) (inner_among e.inner)

spec_among : (e : PackageSpecOrExtended CrateBanExtended) → Among (spec_span e.spec) (with_spec crate_ban_spans e)
spec_among e =
    record {
      lie = λ P lie. (lie.0, tt);
      part = λ x. omega
          (arith, times_both (spec_span e.spec) (of_some crate_ban_spans e.inner) x);
    }

abbrev banned : List (PackageSpecOrExtended CrateBanExtended) → List Span
banned deny = flat_map (with_spec ban_spans) (map ban_of (filter is_ban deny))

abbrev several : List (PackageSpecOrExtended CrateBanExtended) → List Span
several deny =
    flat_map spec_span (map (λ (e : PackageSpecOrExtended CrateBanExtended). e.spec) (filter is_multiple deny))

-- one more entry on either side
among_first : (xs ns ms zs ws : List Span) → Among xs zs → Among (ns ++ ms) ws → Among ((xs ++ ns) ++ ms) (zs ++ ws)
among_first xs ns ms zs ws one rest =
    subst (λ ys. Among ys (zs ++ ws)) (sym (append_assoc xs ns ms)) (among_both xs (ns ++ ms) zs ws one rest)

among_second : (xs ns ms zs ws : List Span) → Among xs zs → Among (ns ++ ms) ws → Among (ns ++ (xs ++ ms)) (zs ++ ws)
among_second xs ns ms zs ws one rest = record {
  lie = λ P lie.
      let sides = rest.lie P (lie_rest P zs ws lie) in
      all_append P ns (xs ++ ms) (lie_prefix P ns ms sides)
      (all_append P xs ms (one.lie P (lie_prefix P zs ws lie)) (lie_rest P ns ms sides));
  part =
      λ x. omega (
        arith,
        one.part x,
        rest.part x,
        times_both ns (xs ++ ms) x,
        times_both xs ms x,
        times_both ns ms x,
        times_both zs ws x,
      );
}

deny_among : (deny : List (PackageSpecOrExtended CrateBanExtended))
    → Among (banned deny ++ several deny) (flat_map (with_spec crate_ban_spans) deny)
deny_among [] = among_itself []
deny_among (e ∷ es) = by_test (is_ban e) (deny_among es)
  where
    by_test : (b : Bool) → Among (banned es ++ several es) (flat_map (with_spec crate_ban_spans) es)
        → Among (flat_map (with_spec ban_spans) (map ban_of (cond b (e ∷ filter is_ban es) (filter is_ban es)))
        ++ flat_map spec_span
        (map (λ (f : PackageSpecOrExtended CrateBanExtended). f.spec)
        (cond (not b) (e ∷ filter is_multiple es) (filter is_multiple es))))
        (with_spec crate_ban_spans e ++ flat_map (with_spec crate_ban_spans) es)
    by_test true rest =
        among_first (with_spec ban_spans (ban_of e)) (banned es) (several es) (with_spec crate_ban_spans e)
        (flat_map (with_spec crate_ban_spans) es) (ban_among e) rest
    by_test false rest =
        among_second (spec_span e.spec) (banned es) (several es) (with_spec crate_ban_spans e)
        (flat_map (with_spec crate_ban_spans) es) (spec_among e) rest

features_same : (fs : List CrateFeatures)
    → flat_map features_spans (map features_of fs) ≡ flat_map crate_feature_spans fs
features_same [] = refl
features_same (f ∷ fs) = ap (λ spans. crate_feature_spans f ++ spans) (features_same fs)

valid_among : (config : Config) (file number : ℕ) (valid : ValidConfig) → IsValidOf config file number valid
    → Among (word_labels valid) (config_labels config)
unfolding word_labels config_labels
valid_among config file number valid is =
    let entries = flat_map (with_spec reason_span) in
    let deny = ap (flat_map (with_spec ban_spans)) is.denied in
    let multiple = ap (flat_map spec_span) is.denied_multiple_versions in
    among_joined
    ((flat_map (with_spec ban_spans) valid.denied ++ flat_map spec_span valid.denied_multiple_versions)
    ∷ flat_map (with_spec reason_span) valid.allowed ∷ of_some own_span valid.external_default_features
    ∷ of_some own_span valid.workspace_default_features ∷ flat_map features_spans valid.features
    ∷ flat_map (with_spec waiver_spans) valid.skipped ∷ flat_map (with_spec root_spans) valid.tree_skipped
    ∷ of_some std_spans valid.std_replacements ∷ of_some build_spans valid.build ∷ [])
    (flat_map (with_spec crate_ban_spans) config.deny ∷ flat_map (with_spec reason_span) config.allow
    ∷ of_some own_span config.external_default_features ∷ of_some own_span config.workspace_default_features
    ∷ flat_map crate_feature_spans config.features ∷ flat_map (with_spec waiver_spans) config.skip
    ∷ flat_map (with_spec root_spans) config.skip_tree ∷ of_some std_spans config.std_replacements
    ∷ of_some written_build_spans config.build ∷ []) (
      among_then _ (banned config.deny ++ several config.deny) _
          (among_same (flat_map (with_spec ban_spans) valid.denied
          ++ flat_map spec_span valid.denied_multiple_versions) (banned config.deny ++ several config.deny)
          (ap (λ xs. xs ++ flat_map spec_span valid.denied_multiple_versions) deny
          ∙ ap (λ xs. banned config.deny ++ xs) multiple))
          (deny_among config.deny),
      (
        among_same (flat_map (with_spec reason_span) valid.allowed) (flat_map (with_spec reason_span) config.allow)
            (ap (flat_map (with_spec reason_span)) is.allowed),
        (
          among_same (of_some own_span valid.external_default_features)
              (of_some own_span config.external_default_features)
              (ap (of_some own_span) is.external_default_features),
          (
            among_same (of_some own_span valid.workspace_default_features)
                (of_some own_span config.workspace_default_features)
                (ap (of_some own_span) is.workspace_default_features),
            (
              among_same (flat_map features_spans valid.features) (flat_map crate_feature_spans config.features)
                  (ap (flat_map features_spans) is.features ∙ features_same config.features),
              (
                among_same (flat_map (with_spec waiver_spans) valid.skipped)
                    (flat_map (with_spec waiver_spans) config.skip) (ap (flat_map (with_spec waiver_spans)) is.skipped),
                (
                  among_same (flat_map (with_spec root_spans) valid.tree_skipped)
                      (flat_map (with_spec root_spans) config.skip_tree)
                      (ap (flat_map (with_spec root_spans)) is.tree_skipped),
                  (
                    among_same (of_some std_spans valid.std_replacements) (of_some std_spans config.std_replacements)
                        (ap (of_some std_spans) is.std_replacements),
                    (
                      built_among config.build config.allow_build_scripts number (older_key_of config) valid.build
                          is.build,
                      tt,
                    ),
                  ),
                ),
              ),
            ),
          ),
        ),
      ),
    )

distinct_starts : (spans : List Span) → AllPairs (λ one other. one.start ≢ other.start) spans
    → AreDistinct (starts spans)
distinct_starts spans apart = λ i j d below within same.
    let default : Span = record { start = d; end = d } in
    let inside : j < length spans = omega (arith, within, length-map spans (λ (span : Span). span.start)) in
    apart i j default below inside
    (sym (get_or-map (λ (span : Span). span.start) spans i default d (omega (arith, below, inside)))
    ∙ (same ∙ get_or-map (λ (span : Span). span.start) spans j default d inside))

pub labels_among : (text : List ℕ) (xs ys : List Span) → Among xs ys → AreLabels text ys → AreLabels text xs
labels_among text xs ys among labels =
    are_labels text xs (starts ys) (among.lie (IsPolicySpan text) (recursion_from_All (IsPolicySpan text) ys labels.located)) among.part
    (distinct_starts ys labels.apart)

pub valid_are_labels : (text : List ℕ) (config : Config) (file number : ℕ) (valid : ValidConfig)
    → IsValidOf config file number valid
    → AreLabels text (config_labels config) → AreLabels text (word_labels valid)
valid_are_labels text config file number valid is labels =
    labels_among text (word_labels valid) (config_labels config) (valid_among config file number valid is) labels
