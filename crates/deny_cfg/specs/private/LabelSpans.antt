-- The spans in a configuration, as it is written, that labels point at.
use Rattle.std.specs.Prelude.{List, [], ◌∷◌, ◌++◌}
use Rattle.std.specs.List.{flat_map}
use Rattle.deny_base.specs.declared.span.Span.{Span}
use Rattle.deny_cfg_tables.specs.declared.bans.cfg.ban.CrateBanExtended.{CrateBanExtended}
use Rattle.deny_cfg_tables.specs.declared.bans.cfg.build.BuildConfig.{BuildConfig}
use Rattle.deny_cfg_tables.specs.declared.bans.cfg.bypass.Bypass.{Bypass}
use Rattle.deny_cfg_tables.specs.declared.bans.cfg.config.Config.{Config}
use Rattle.deny_cfg_tables.specs.declared.bans.cfg.features.CrateFeatures.{CrateFeatures}
use Rattle.deny_cfg_entries.specs.declared.spec_or_extended.PackageSpecOrExtended.{PackageSpecOrExtended}
use Rattle.deny_cfg.specs.LabelSpans.{of_some, joined, own_span, word_spans, spec_span, reason_span, with_spec}
use Rattle.deny_cfg.specs.LabelSpans.{root_spans, std_spans, path_spans, waiver_spans}

-- a ban as it is written: its wrappers, its flag, its reason and its replacement
abbrev pub crate_ban_spans : CrateBanExtended → List Span
crate_ban_spans said = joined (
    of_some (λ wrappers. word_spans wrappers.value) said.wrappers
    ∷ of_some own_span said.deny_multiple_versions
    ∷ of_some reason_span said.reason
    ∷ of_some own_span said.use_instead
    ∷ []
    )

abbrev pub crate_feature_spans : CrateFeatures → List Span
crate_feature_spans f =
    spec_span f.spec ++ joined (word_spans f.allow.value ∷ word_spans f.deny ∷ of_some reason_span f.reason ∷ [])

abbrev pub written_bypass_spans : Bypass → List Span
written_bypass_spans bypass =
    spec_span bypass.spec
    ++ joined (
    of_some own_span bypass.build_script
    ∷ word_spans bypass.required_features
    ∷ of_some word_spans bypass.allow_globs
    ∷ flat_map path_spans bypass.allow
    ∷ of_some own_span bypass.expires
    ∷ []
    )

abbrev pub written_build_spans : BuildConfig → List Span
written_build_spans build =
    joined (
    of_some word_spans build.script_extensions
    ∷ of_some (flat_map written_bypass_spans) build.bypass
    ∷ []
    )

unfoldable pub config_labels : Config → List Span
config_labels config = joined (
    flat_map (with_spec crate_ban_spans) config.deny
    ∷ flat_map (with_spec reason_span) config.allow
    ∷ of_some own_span config.external_default_features
    ∷ of_some own_span config.workspace_default_features
    ∷ flat_map crate_feature_spans config.features
    ∷ flat_map (with_spec waiver_spans) config.skip
    ∷ flat_map (with_spec root_spans) config.skip_tree
    ∷ of_some std_spans config.std_replacements
    ∷ of_some written_build_spans config.build
    ∷ []
    )

-- the list of wrappers of an entry of `deny`
abbrev pub wrapper_list : PackageSpecOrExtended CrateBanExtended → List Span
wrapper_list e = of_some (λ said. of_some own_span said.wrappers) e.inner

-- the lists of wrappers, and the list that may stand for the table `build`
unfoldable pub list_spans : Config → List Span
list_spans config = flat_map wrapper_list config.deny ++ of_some own_span config.allow_build_scripts
