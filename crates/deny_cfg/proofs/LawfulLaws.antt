-- The spans that tell entries apart are among those of labels, so that no two of them are equal.
use Rattle.std.proofs.Common.{◌≡◌, ◌≢◌, ◌++◌, ℕ, List, [], ◌∷◌, map, Option, Some, None, refl, ap, subst, arith}
use Rattle.std.specs.Prelude.{AllPairs, IfSome}
use Rattle.std.specs.List.{flat_map}
use Rattle.deny_base.specs.declared.span.Span.{Span}
use Rattle.deny_base.specs.declared.span.Spanned.{Spanned}
use Rattle.deny_spdx.specs.declared.requirement.Requirement.{Requirement}
use Rattle.deny_cfg_tables.specs.declared.licenses.config.Config.{Config}
use Rattle.deny_cfg_tables.specs.declared.licenses.exception.Exception.{Exception}
use Rattle.deny_cfg.specs.LabelSpans.{AreLabels, ban_spans, build_spans, exception_span}
use Rattle.deny_cfg.specs.LabelSpans.{features_spans}
use Rattle.deny_cfg.specs.LabelSpans.{feature_spans_by, licence_labels, licence_spans, of_some, own_span}
use Rattle.deny_cfg.specs.LabelSpans.{reason_span, root_spans, spec_span, std_spans, std_spans_by, with_spec}
use Rattle.deny_cfg.specs.LabelSpans.{waiver_spans, word_labels, word_spans}
use Rattle.deny_cfg.specs.Lawful.{IsLawful, IsLawfulLicensing, entry_spans, no_span, wrapper_spans}
use Rattle.deny_cfg.specs.declared.bans.cfg.valid.KrateBan.{KrateBan}
use Rattle.deny_cfg.specs.declared.bans.cfg.valid.ValidConfig.{ValidConfig}
use Rattle.deny_cfg.specs.declared.bans.cfg.valid.ValidKrateFeatures.{ValidKrateFeatures}
use Rattle.deny_cfg_entries.specs.declared.reason.Reason.{Reason}
use Rattle.deny_cfg_entries.specs.declared.spec_or_extended.PackageSpecOrExtended.{PackageSpecOrExtended}
use Rattle.deny_cfg_entries.specs.declared.waiver.Waiver.{Waiver}
use Rattle.deny_cfg.proofs.Among.{Among, among_both, among_itself, among_joined, among_rest, lie_prefix, times_both}
use Rattle.deny_cfg.proofs.LabelValid.{labels_among}

among_prefix : (xs ys : List Span) → Among xs (xs ++ ys)
among_prefix xs ys = record {
  lie = λ P lie. lie_prefix P xs ys lie;
  part = λ x. omega (arith, times_both xs ys x);
}

among_flat : {T : Type 0} (f g : T → List Span) → ((x : T) → Among (f x) (g x)) → (xs : List T)
    → Among (flat_map f xs) (flat_map g xs)
among_flat f g each [] = among_itself []
among_flat f g each (x ∷ xs) = among_both (f x) (flat_map f xs) (g x) (flat_map g xs) (each x) (among_flat f g each xs)

among_some : {T : Type 0} (f g : T → List Span) → ((x : T) → Among (f x) (g x)) → (o : Option T)
    → Among (of_some f o) (of_some g o)
among_some f g each None = among_itself []
among_some f g each (Some x) = each x

among_entry : {T : Type 0} (f g : T → List Span) → ((x : T) → Among (f x) (g x)) → (e : PackageSpecOrExtended T)
    → Among (with_spec f e) (with_spec g e)
among_entry f g each e =
    among_both (spec_span e.spec) (of_some f e.inner) (spec_span e.spec) (of_some g e.inner)
    (among_itself (spec_span e.spec)) (among_some f g each e.inner)

none_among : {T : Type 0} (g : T → List Span) (x : T) → Among (no_span x) (g x)
none_among g x = among_prefix [] (g x)

wrappers_among : (ban : KrateBan) → Among (wrapper_spans ban) (ban_spans ban)
wrappers_among ban =
    among_prefix (of_some word_spans ban.wrappers)
    (of_some reason_span ban.reason ++ (of_some own_span ban.use_instead ++ []))

feature_among : (f : ValidKrateFeatures) → Among (feature_spans_by no_span f) (features_spans f)
feature_among f =
    let allow = word_spans f.features.allow.value in
    let deny = word_spans f.features.deny in
    let nothing = of_some no_span f.reason ++ [] in
    let reason = of_some reason_span f.reason ++ [] in
    among_both (spec_span f.spec) (allow ++ (deny ++ nothing)) (spec_span f.spec) (allow ++ (deny ++ reason))
    (among_itself (spec_span f.spec))
    (among_both allow (deny ++ nothing) allow (deny ++ reason) (among_itself allow)
    (among_both deny nothing deny reason (among_itself deny)
    (among_both (of_some no_span f.reason) [] (of_some reason_span f.reason) []
    (among_some no_span reason_span (none_among reason_span) f.reason) (among_itself []))))

reasons_among : (es : List (PackageSpecOrExtended Reason))
    → Among (flat_map (with_spec no_span) es) (flat_map (with_spec reason_span) es)
reasons_among =
    among_flat (with_spec no_span) (with_spec reason_span)
    (among_entry no_span reason_span (none_among reason_span))

waivers_among : (es : List (PackageSpecOrExtended Waiver))
    → Among (flat_map (with_spec no_span) es) (flat_map (with_spec waiver_spans) es)
waivers_among =
    among_flat (with_spec no_span) (with_spec waiver_spans)
    (among_entry no_span waiver_spans (none_among waiver_spans))

entries_among : (valid : ValidConfig) → Among (entry_spans valid) (word_labels valid)
unfolding entry_spans word_labels
entries_among valid =
    let several = flat_map spec_span valid.denied_multiple_versions in
    among_joined
    ((flat_map (with_spec wrapper_spans) valid.denied ++ several) ∷ flat_map (with_spec no_span) valid.allowed
    ∷ of_some own_span valid.external_default_features
    ∷ of_some own_span valid.workspace_default_features ∷ flat_map (feature_spans_by no_span) valid.features
    ∷ flat_map (with_spec no_span) valid.skipped
    ∷ flat_map (with_spec no_span) valid.tree_skipped ∷ of_some (std_spans_by no_span) valid.std_replacements
    ∷ of_some build_spans valid.build ∷ [])
    ((flat_map (with_spec ban_spans) valid.denied ++ several) ∷ flat_map (with_spec reason_span) valid.allowed
    ∷ of_some own_span valid.external_default_features
    ∷ of_some own_span valid.workspace_default_features ∷ flat_map features_spans valid.features
    ∷ flat_map (with_spec waiver_spans) valid.skipped ∷ flat_map (with_spec root_spans) valid.tree_skipped
    ∷ of_some std_spans valid.std_replacements ∷ of_some build_spans valid.build ∷ []) (
      among_both (flat_map (with_spec wrapper_spans) valid.denied) several
          (flat_map (with_spec ban_spans) valid.denied) several
          (among_flat (with_spec wrapper_spans) (with_spec ban_spans)
          (among_entry wrapper_spans ban_spans wrappers_among) valid.denied)
          (among_itself several),
      (
        reasons_among valid.allowed,
        (
          among_itself (of_some own_span valid.external_default_features),
          (
            among_itself (of_some own_span valid.workspace_default_features),
            (
              among_flat (feature_spans_by no_span) features_spans feature_among valid.features,
              (
                waivers_among valid.skipped,
                (
                  among_flat (with_spec no_span) (with_spec root_spans)
                      (among_entry no_span root_spans (none_among root_spans)) valid.tree_skipped,
                  (
                    among_some (std_spans_by no_span) std_spans (λ std. waivers_among std.ignore)
                        valid.std_replacements,
                    (among_itself (of_some build_spans valid.build), tt),
                  ),
                ),
              ),
            ),
          ),
        ),
      ),
    )

distinct_labels : (text : List ℕ) (spans : List Span) → AreLabels text spans → AllPairs (λ one other. one ≢ other) spans
distinct_labels text spans labels = λ i j d below within same.
    labels.apart i j d below within (ap (λ (span : Span). span.start) same)

pub lawful : (text : List ℕ) (valid : ValidConfig) → AreLabels text (word_labels valid) → IsLawful valid
lawful text valid labels =
    distinct_labels text (entry_spans valid)
    (labels_among text (entry_spans valid) (word_labels valid) (entries_among valid) labels)

-- ---- licences

one_span_each : {T : Type 0} (span_at : T → Span) (xs : List T) → flat_map (λ x. span_at x ∷ []) xs ≡ map span_at xs
one_span_each span_at [] = refl
one_span_each span_at (x ∷ xs) = ap (λ spans. span_at x ∷ spans) (one_span_each span_at xs)

names_among : (es : List Exception)
    → Among (flat_map (λ (e : Exception). spec_span e.spec) es) (flat_map exception_span es)
names_among =
    among_flat (λ (e : Exception). spec_span e.spec) exception_span
    (λ e. among_prefix (spec_span e.spec) (of_some own_span e.expires))

lawful_config : (text : List ℕ) (config : Config) → AreLabels text (licence_labels config) → IsLawfulLicensing config
unfolding licence_labels
lawful_config text config labels =
    let allow = flat_map own_span config.allow in
    let exceptions = flat_map exception_span config.exceptions in
    let first = labels_among text allow (licence_labels config) (among_prefix allow (exceptions ++ [])) labels in
    let rest =
    labels_among text (exceptions ++ []) (licence_labels config) (among_rest allow (exceptions ++ [])) labels in
    let second = labels_among text exceptions (exceptions ++ []) (among_prefix exceptions []) rest in
    let names = flat_map (λ (e : Exception). spec_span e.spec) config.exceptions in
    let third = labels_among text names exceptions (names_among config.exceptions) second in
    record {
      allow =
          subst (AllPairs (λ one other. one ≢ other))
          (one_span_each (λ (a : Spanned Requirement). a.span) config.allow) (distinct_labels text allow first);
      exceptions =
          subst (AllPairs (λ one other. one ≢ other))
          (one_span_each (λ (e : Exception). e.spec.name.span) config.exceptions)
          (distinct_labels text names third);
    }

pub lawful_licences : (text : List ℕ) (licensing : Option Config) → AreLabels text (licence_spans licensing)
    → IfSome licensing IsLawfulLicensing
lawful_licences text None labels = tt
lawful_licences text (Some config) labels = lawful_config text config labels
