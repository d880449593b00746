-- Configurations that are alike have the same clashes, and the same view once they are valid.
use Rattle.std.proofs.Common.{◌≡◌, ◌++◌, ◌+◌, ◌&&◌, ℕ, Bool, false, List, [], ◌∷◌, Option, None, Some, map, not, refl}
use Rattle.std.proofs.Common.{sym, ap, ◌∙◌}
use Rattle.std.specs.Prelude.{filter, filter_map, find, option_and_then, option_map}
use Rattle.std.specs.List.{AllZip}
use Rattle.std.specs.Option.{option_eq, option_map_or}
use Rattle.semver.specs.Identifiers.{parts_of}
use Rattle.deny_base.specs.declared.span.Span.{Span}
use Rattle.deny_spec.specs.Policy.{AllowEntry, Ban, Entry, Replacing, Root, Spec, SpannedText}
use Rattle.deny_spec.specs.Text.{same_text}
use Rattle.deny_cfg.specs.Clashes.{banned_specs, clash_with, clashes_in, feature_at, feature_clash, feature_clashes}
use Rattle.deny_cfg.specs.Clashes.{is_ban, specs_of, two_spans, wrappers_clash, wrappers_clash_by}
use Rattle.deny_cfg.specs.Current.{counts, current_bans, current_std, root_expires, skip_expires}
use Rattle.deny_cfg.specs.PolicyView.{allow_view, ban_view, entry_view, feature_view, policy_view, reason_words}
use Rattle.deny_cfg.specs.PolicyView.{replacing_view}
use Rattle.deny_cfg.specs.PolicyView.{root_view, roots_from, scope_view, sharing_view, words_or_none}
use Rattle.deny_cfg_tables.specs.Highlight.{shows_lowest, shows_simplest}
use Rattle.deny_cfg_entries.specs.SpecView.{same_spec, spec_view}
use Rattle.deny_cfg.specs.Valid.{IsValidOf, ban_of, features_of, is_multiple, krate_ban}
use Rattle.deny_cfg_tables.specs.declared.bans.cfg.ban.CrateBanExtended.{CrateBanExtended}
use Rattle.deny_cfg_tables.specs.declared.bans.cfg.config.Config.{Config}
use Rattle.deny_cfg_tables.specs.declared.bans.cfg.features.CrateFeatures.{CrateFeatures}
use Rattle.deny_cfg_tables.specs.declared.bans.cfg.std_replacements.StdReplacementConfig.{StdReplacementConfig}
use Rattle.deny_cfg_tables.specs.declared.bans.cfg.tree_skip.TreeSkipExtended.{TreeSkipExtended}
use Rattle.deny_cfg.specs.declared.bans.cfg.valid.KrateBan.{KrateBan}
use Rattle.deny_cfg.specs.declared.bans.cfg.valid.ValidConfig.{ValidConfig}
use Rattle.deny_cfg.specs.declared.bans.cfg.valid.ValidKrateFeatures.{ValidKrateFeatures}
use Rattle.deny_cfg.specs.declared.clash.Clash.{Clash}
use Rattle.deny_cfg.specs.declared.clash.ClashKind.{ClashKind}
use Rattle.deny_cfg.specs.declared.clash.ClashKind.TheVariants as clash
use Rattle.deny_cfg_entries.specs.declared.day.Day.{Day}
use Rattle.deny_cfg_entries.specs.declared.package_spec.PackageSpec.{PackageSpec}
use Rattle.deny_cfg_entries.specs.declared.reason.Reason.{Reason}
use Rattle.deny_cfg_entries.specs.declared.spec_or_extended.PackageSpecOrExtended.{PackageSpecOrExtended}
use Rattle.deny_cfg_entries.specs.declared.waiver.Waiver.{Waiver}
use Rattle.deny_cfg_tables.proofs.ConfigLaws.{BothAlike, ConfigsAlike, EntriesAlike, FeaturesAlike, StdAlike}
use Rattle.deny_cfg_tables.proofs.ConfigLaws.{VersionsAlike}
use Rattle.deny_base_lists.proofs.Alike.{Same, alike_filter, alike_map, same_filter_map, same_find, same_flat_map}
use Rattle.deny_base_lists.proofs.Alike.{same_map}
use Rattle.deny_cfg_entries.proofs.ReadsLaws.{SpecsAlike}

-- whether an entry bans depends on what it gives beside its spec
says_ban : Option CrateBanExtended → Bool
says_ban inner =
    not (option_map_or (λ flag. flag.value) (option_and_then (λ said. said.deny_multiple_versions) inner) false)

same_is_ban : Same EntriesAlike is_ban is_ban
unfolding is_ban says_ban
same_is_ban a b alike = ap says_ban alike.1

same_is_multiple : Same EntriesAlike is_multiple is_multiple
same_is_multiple a b alike = ap not (same_is_ban a b alike)

says_clash : Option CrateBanExtended → Option Clash
says_clash inner =
    wrappers_clash_by (option_and_then (λ said. said.deny_multiple_versions) inner)
    (option_and_then (λ said. said.wrappers) inner)

same_wrappers_clash : Same EntriesAlike wrappers_clash wrappers_clash
unfolding wrappers_clash says_clash
same_wrappers_clash a b alike = ap says_clash alike.1

-- specs that are alike have the same clashes
sees_same : Spec → Spec → Bool
sees_same s t = same_text s.name t.name && option_eq same_text s.written t.written

same_specs : (a b : PackageSpec) → SpecsAlike a b → Same SpecsAlike (same_spec a) (same_spec b)
unfolding sees_same
same_specs a b alike x y too = λ i. sees_same (alike i) (too i)

same_spans : (kind : ClashKind) (a b : PackageSpec) → SpecsAlike a b
    → Same SpecsAlike (λ x. two_spans kind a.name.span x.name.span) (λ x. two_spans kind b.name.span x.name.span)
same_spans kind a b alike x y too = λ i. two_spans kind (alike i).span (too i).span

same_clash_with : (kind : ClashKind) (others those : List PackageSpec) → AllZip SpecsAlike others those
    → Same SpecsAlike (clash_with kind others) (clash_with kind those)
unfolding clash_with
same_clash_with kind others those alike a b spec =
    same_find SpecsAlike (same_spec a) (same_spec b) (λ x. two_spans kind a.name.span x.name.span)
    (λ x. two_spans kind b.name.span x.name.span)
    (same_specs a b spec) (same_spans kind a b spec) others those alike

same_clashes_with : (kind : ClashKind) (others those xs ys : List PackageSpec) → AllZip SpecsAlike others those
    → AllZip SpecsAlike xs ys
    → filter_map (clash_with kind others) xs ≡ filter_map (clash_with kind those) ys
same_clashes_with kind others those xs ys alike specs =
    same_filter_map SpecsAlike (clash_with kind others) (clash_with kind those)
    (same_clash_with kind others those alike) xs ys specs

entry_specs_alike : {T : Type 0} (xs ys : List (PackageSpecOrExtended T)) → AllZip EntriesAlike xs ys
    → AllZip SpecsAlike (specs_of xs) (specs_of ys)
entry_specs_alike xs ys each = alike_map EntriesAlike SpecsAlike (λ e. e.spec) (λ a b alike. alike.0) xs ys each

banned_specs_alike : (a b : Config) → ConfigsAlike a b → AllZip SpecsAlike (banned_specs a) (banned_specs b)
unfolding banned_specs
banned_specs_alike a b alike =
    entry_specs_alike (filter is_ban a.deny) (filter is_ban b.deny)
    (alike_filter EntriesAlike is_ban same_is_ban a.deny b.deny alike.deny)

says_features : Span → List SpannedText → List SpannedText → List Clash
says_features name denied allowed =
    filter_map (λ word. option_map (λ other. feature_at name word other.span)
    (find (λ other. same_text word.value other.value) denied)) allowed

same_feature_clashes : Same FeaturesAlike feature_clashes feature_clashes
unfolding feature_clashes feature_clash says_features
same_feature_clashes a b alike = λ i. says_features (alike.0 i).span (alike.1 i).deny (alike.1 i).allow.value

pub same_clashes : (a b : Config) → ConfigsAlike a b → clashes_in a ≡ clashes_in b
unfolding clashes_in
same_clashes a b alike =
    let banned = banned_specs_alike a b alike in
    let allowed = entry_specs_alike a.allow b.allow alike.allow in
    let skipped = entry_specs_alike a.skip b.skip alike.skip in
    let wrappers =
    same_filter_map EntriesAlike wrappers_clash wrappers_clash same_wrappers_clash a.deny b.deny alike.deny in
    let deny_allow =
    same_clashes_with clash.DenyAndAllow (specs_of a.allow) (specs_of b.allow) (banned_specs a) (banned_specs b)
    allowed banned in
    let deny_skip =
    same_clashes_with clash.DenyAndSkip (specs_of a.skip) (specs_of b.skip) (banned_specs a) (banned_specs b)
    skipped banned in
    let allow_skip =
    same_clashes_with clash.AllowAndSkip (specs_of a.skip) (specs_of b.skip) (specs_of a.allow) (specs_of b.allow)
    skipped allowed in
    let features =
    same_flat_map FeaturesAlike feature_clashes feature_clashes same_feature_clashes a.features b.features
    alike.features in
    λ i. wrappers i ++ (deny_allow i ++ (deny_skip i ++ (allow_skip i ++ features i)))

-- ---- the views of entries
ban_seen : Spec → Option KrateBan → Ban
ban_seen spec inner = record {
  spec = spec;
  wrappers = words_or_none (option_and_then (λ ban. ban.wrappers) inner);
  reason = option_map reason_words (option_and_then (λ ban. ban.reason) inner);
  use_instead = option_and_then (λ ban. ban.use_instead) inner;
}

same_ban : Same EntriesAlike ban_view ban_view
unfolding ban_seen
same_ban a b alike = λ i. ban_seen (alike.0 i) (alike.1 i)

allow_seen : Spec → Option Reason → AllowEntry
allow_seen spec inner = record { spec = spec; reason = option_map reason_words inner }

same_allow : Same EntriesAlike allow_view allow_view
unfolding allow_seen
same_allow a b alike = λ i. allow_seen (alike.0 i) (alike.1 i)

entry_seen : Spec → Option Waiver → Entry
entry_seen spec inner =
    record { spec = spec; reason = option_map reason_words (option_and_then (λ waiver. waiver.reason) inner) }

same_entry : Same EntriesAlike entry_view entry_view
unfolding entry_seen
same_entry a b alike = λ i. entry_seen (alike.0 i) (alike.1 i)

-- both entries count on a day, or neither does
pub same_skip_counts : (today : Option Day)
    → Same EntriesAlike (λ e. counts today (skip_expires e)) (λ e. counts today (skip_expires e))
same_skip_counts today a b alike =
    ap (λ (inner : Option Waiver). counts today (option_and_then (λ waiver. waiver.expires) inner)) alike.1

pub same_root_counts : (today : Option Day)
    → Same EntriesAlike (λ e. counts today (root_expires e)) (λ e. counts today (root_expires e))
same_root_counts today a b alike =
    ap (λ (inner : Option TreeSkipExtended). counts today (option_and_then (λ skip. skip.expires) inner)) alike.1

root_seen : ℕ → Spec → Option TreeSkipExtended → Root
root_seen number spec inner = record {
  number = number;
  spec = spec;
  depth = option_and_then (λ skip. skip.depth) inner;
  reason = option_map reason_words (option_and_then (λ skip. skip.reason) inner);
}

same_root : (number : ℕ) → Same EntriesAlike (root_view number) (root_view number)
unfolding root_seen
same_root number a b alike = λ i. root_seen number (alike.0 i) (alike.1 i)

same_roots : (number : ℕ) (xs ys : List (PackageSpecOrExtended TreeSkipExtended)) → AllZip EntriesAlike xs ys
    → roots_from number xs ≡ roots_from number ys
same_roots number [] [] each = refl
same_roots number [] (y ∷ ys) each = absurd each
same_roots number (x ∷ xs) [] each = absurd each
same_roots number (x ∷ xs) (y ∷ ys) each = λ i. same_root number x y each.0 i ∷ same_roots (number + 1) xs ys each.1 i

same_bans : (a b : Config) → ConfigsAlike a b
    → map ban_view (map ban_of (filter is_ban a.deny)) ≡ map ban_view (map ban_of (filter is_ban b.deny))
same_bans a b alike =
    let bans = alike_filter EntriesAlike is_ban same_is_ban a.deny b.deny alike.deny in
    same_map EntriesAlike ban_view ban_view same_ban (map ban_of (filter is_ban a.deny))
    (map ban_of (filter is_ban b.deny))
    (alike_map EntriesAlike EntriesAlike ban_of (λ x y same. (same.0, ap (option_map krate_ban) same.1))
    (filter is_ban a.deny) (filter is_ban b.deny) bans)

same_multiple : (a b : Config) → ConfigsAlike a b
    → map spec_view (specs_of (filter is_multiple a.deny)) ≡ map spec_view (specs_of (filter is_multiple b.deny))
same_multiple a b alike =
    let entries = alike_filter EntriesAlike is_multiple same_is_multiple a.deny b.deny alike.deny in
    same_map SpecsAlike spec_view spec_view (λ x y same. same) (specs_of (filter is_multiple a.deny))
    (specs_of (filter is_multiple b.deny))
    (entry_specs_alike (filter is_multiple a.deny) (filter is_multiple b.deny) entries)

SeenAlike : ValidKrateFeatures → ValidKrateFeatures → Type 0
SeenAlike a b = feature_view a ≡ feature_view b

seen_alike : (a b : CrateFeatures) → FeaturesAlike a b → SeenAlike (features_of a) (features_of b)
unfolding SeenAlike
seen_alike a b alike = λ i. record {
  spec = alike.0 i;
  allow = (alike.1 i).allow;
  deny = (alike.1 i).deny;
  exact = (alike.1 i).exact;
}

same_features : (a b : Config) → ConfigsAlike a b
    → map feature_view (map features_of a.features) ≡ map feature_view (map features_of b.features)
unfolding SeenAlike
same_features a b alike =
    same_map SeenAlike feature_view feature_view (λ x y same. same) (map features_of a.features)
    (map features_of b.features)
    (alike_map FeaturesAlike SeenAlike features_of seen_alike a.features b.features alike.features)

pub same_option : {T A : Type 0} (Alike : T → T → Type 0) (f : T → A) → Same Alike f f → (a b : Option T)
    → BothAlike Alike a b → option_map f a ≡ option_map f b
same_option Alike f same None None both = refl
same_option Alike f same None (Some y) both = absurd both
same_option Alike f same (Some x) None both = absurd both
same_option Alike f same (Some x) (Some y) both = ap Some (same x y both)

-- the table `std-replacements` as the rules see it on a day
replacing_on : Option Day → StdReplacementConfig → Replacing
replacing_on today std = replacing_view (current_std today std)

same_replacing : (today : Option Day) → Same StdAlike (replacing_on today) (replacing_on today)
unfolding replacing_on
same_replacing today a b alike =
    let rust_version =
    same_option VersionsAlike parts_of (λ x y same. same) a.rust_version b.rust_version alike.rust_version in
    let counting : PackageSpecOrExtended Waiver → Bool = λ e. counts today (skip_expires e) in
    let ignore =
    same_map EntriesAlike entry_view entry_view same_entry (filter counting a.ignore) (filter counting b.ignore)
    (alike_filter EntriesAlike counting (same_skip_counts today) a.ignore b.ignore alike.ignore) in
    λ i. record {
      scope = scope_view (alike.scope i);
      level = alike.level i;
      rust_version = rust_version i;
      ignore = ignore i;
      ignore_rust_version = scope_view (alike.ignore_rust_version i);
    }

replacing_twice : (today : Option Day) (std : Option StdReplacementConfig)
    → option_map replacing_view (option_map (current_std today) std) ≡ option_map (replacing_on today) std
unfolding replacing_on
replacing_twice today None = refl
replacing_twice today (Some std) = refl

-- the view of what counts of a valid configuration
pub same_view : (today : Option Day) (a b : Config) (file next number following : ℕ) (these those : ValidConfig)
    → ConfigsAlike a b → IsValidOf a file next these → IsValidOf b number following those
    → policy_view (current_bans today these) ≡ policy_view (current_bans today those)
unfolding current_bans
same_view today a b file next number following these those alike one two =
    let multiple_versions = one.multiple_versions ∙ alike.multiple_versions ∙ sym two.multiple_versions in
    let include_dev = one.include_dev ∙ alike.include_dev ∙ sym two.include_dev in
    let highlight = one.highlight ∙ alike.highlight ∙ sym two.highlight in
    let deny = ap (map ban_view) one.denied ∙ same_bans a b alike ∙ sym (ap (map ban_view) two.denied) in
    let deny_multiple =
    ap (map spec_view) one.denied_multiple_versions ∙ same_multiple a b alike
    ∙ sym (ap (map spec_view) two.denied_multiple_versions) in
    let allow =
    ap (map allow_view) one.allowed
    ∙ same_map EntriesAlike allow_view allow_view same_allow a.allow b.allow alike.allow
    ∙ sym (ap (map allow_view) two.allowed) in
    let allow_workspace = one.allow_workspace ∙ alike.allow_workspace ∙ sym two.allow_workspace in
    let skip =
    ap (λ es. map entry_view (filter (λ e. counts today (skip_expires e)) es)) one.skipped
    ∙ same_map EntriesAlike entry_view entry_view same_entry (filter (λ e. counts today (skip_expires e)) a.skip)
    (filter (λ e. counts today (skip_expires e)) b.skip)
    (alike_filter EntriesAlike (λ e. counts today (skip_expires e)) (same_skip_counts today) a.skip b.skip alike.skip)
    ∙ sym (ap (λ es. map entry_view (filter (λ e. counts today (skip_expires e)) es)) two.skipped) in
    let skip_tree =
    ap (λ es. roots_from 0 (filter (λ e. counts today (root_expires e)) es)) one.tree_skipped
    ∙ same_roots 0 (filter (λ e. counts today (root_expires e)) a.skip_tree)
    (filter (λ e. counts today (root_expires e)) b.skip_tree)
    (alike_filter EntriesAlike (λ e. counts today (root_expires e)) (same_root_counts today) a.skip_tree b.skip_tree
    alike.skip_tree)
    ∙ sym (ap (λ es. roots_from 0 (filter (λ e. counts today (root_expires e)) es)) two.tree_skipped) in
    let features =
    ap (map feature_view) one.features ∙ same_features a b alike ∙ sym (ap (map feature_view) two.features) in
    let workspace_default =
    one.workspace_default_features ∙ alike.workspace_default ∙ sym two.workspace_default_features in
    let external_default = one.external_default_features ∙ alike.external_default ∙ sym two.external_default_features in
    let wildcards = one.wildcards ∙ alike.wildcards ∙ sym two.wildcards in
    let allow_wildcard_paths = one.allow_wildcard_paths ∙ alike.allow_wildcard_paths ∙ sym two.allow_wildcard_paths in
    let workspace = one.workspace_dependencies ∙ alike.workspace_dependencies ∙ sym two.workspace_dependencies in
    let replacing =
    replacing_twice today these.std_replacements
    ∙ ap (option_map (replacing_on today)) one.std_replacements
    ∙ same_option StdAlike (replacing_on today) (same_replacing today) a.std_replacements b.std_replacements
    alike.std_replacements
    ∙ sym (ap (option_map (replacing_on today)) two.std_replacements)
    ∙ sym (replacing_twice today those.std_replacements) in
    λ i. record {
      multiple_versions = multiple_versions i;
      include_dev = include_dev i;
      simplest = shows_simplest (highlight i);
      lowest = shows_lowest (highlight i);
      deny = deny i;
      deny_multiple = deny_multiple i;
      allow = allow i;
      allow_workspace = allow_workspace i;
      skip = skip i;
      skip_tree = skip_tree i;
      features = features i;
      workspace_default = workspace_default i;
      external_default = external_default i;
      wildcards = wildcards i;
      allow_wildcard_paths = allow_wildcard_paths i;
      sharing = option_map sharing_view (workspace i);
      replacing = replacing i;
    }
