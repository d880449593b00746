-- The clashes between entries of a policy, the faults of its table `build`, and their diagnostics.
use Rattle.std.specs.Prelude.{◌&&◌, ◌==◌, ◌++◌, ◌≡◌, ◌⊎◌, ℕ, Bool, false, true, not, List, [], ◌∷◌, Option, None, Some}
use Rattle.std.specs.Prelude.{filter, find, length, map, filter_map, option_map, option_and_then, codes, Contains}
use Rattle.std.specs.Prelude.{if◌then◌else◌}
use Rattle.std.specs.Fmt.{decimal}
use Rattle.std.specs.List.{flat_map}
use Rattle.std.specs.Option.{option_map_or}
use Rattle.std.specs.Ordering.{bool_cmp, nat_cmp, on, then_cmp}
use Rattle.std.specs.declared.cmp.Ordering.{Ordering}
use Rattle.deny_base_lists.specs.Ascending.{Lists}
use Rattle.deny_base.specs.KeyOrder.{span_cmp}
use Rattle.deny_base.specs.declared.finding.Diagnostic.{Diagnostic}
use Rattle.deny_base.specs.declared.label.Label.{Label}
use Rattle.deny_base.specs.declared.label.LabelStyle.{LabelStyle}
use Rattle.deny_base.specs.declared.label.LabelStyle.TheVariants.{Primary, Secondary}
use Rattle.deny_base.specs.declared.level.Severity.TheVariants.{Error}
use Rattle.deny_base.specs.declared.span.Span.{Span}
use Rattle.deny_base.specs.declared.span.Spanned.{Spanned}
use Rattle.deny_cfg_build.specs.Wrong.{IsWrong}
use Rattle.deny_cfg_build.specs.declared.wrong.BuildFault.{BuildFault}
use Rattle.deny_cfg_build.specs.declared.wrong.BuildFault.TheVariants as fault
use Rattle.deny_cfg_entries.specs.SpecView.{same_spec}
use Rattle.deny_cfg_tables.specs.declared.bans.cfg.ban.CrateBanExtended.{CrateBanExtended}
use Rattle.deny_cfg_tables.specs.declared.bans.cfg.build.BuildConfig.{BuildConfig}
use Rattle.deny_cfg_tables.specs.declared.bans.cfg.config.Config.{Config}
use Rattle.deny_cfg_tables.specs.declared.bans.cfg.features.CrateFeatures.{CrateFeatures}
use Rattle.deny_cfg.specs.declared.clash.Clash.{Clash}
use Rattle.deny_cfg.specs.declared.clash.ClashKind.{ClashKind}
use Rattle.deny_cfg.specs.declared.clash.ClashKind.TheVariants as clash
use Rattle.deny_cfg_entries.specs.declared.package_spec.PackageSpec.{PackageSpec}
use Rattle.deny_cfg_entries.specs.declared.spec_or_extended.PackageSpecOrExtended.{PackageSpecOrExtended}
use Rattle.deny_spec.specs.Policy.{SpannedText}
use Rattle.deny_spec.specs.Keys.{no_span}
use Rattle.deny_spec.specs.Text.{same_text}

-- the flag of an entry of `deny`, where it has one
abbrev pub flag_of : PackageSpecOrExtended CrateBanExtended → Option (Spanned Bool)
flag_of e = option_and_then (λ said. said.deny_multiple_versions) e.inner

-- an entry of `deny` bans crates, unless it denies only several versions
unfoldable pub is_ban : PackageSpecOrExtended CrateBanExtended → Bool
is_ban e = not (option_map_or (λ flag. flag.value) (flag_of e) false)

abbrev pub two_spans : ClashKind → Span → Span → Clash
two_spans kind first second = record {
  kind = kind;
  first = first;
  second = second;
  third = no_span;
  number = 0;
  ascii = false;
}

-- the clash of wrappers with the flag of an entry that denies only several versions
abbrev pub wrappers_clash_by : Option (Spanned Bool) → Option (Spanned (List SpannedText)) → Option Clash
wrappers_clash_by (Some flag) (Some wrappers) =
    if flag.value && not (length wrappers.value == 0)
    then Some (record {
      kind = clash.WrappersOfMultiple;
      first = wrappers.span;
      second = flag.span;
      third = no_span;
      number = length
          wrappers.value;
      ascii = false;
    })
    else None
wrappers_clash_by _ _ = None

unfoldable pub wrappers_clash : PackageSpecOrExtended CrateBanExtended → Option Clash
wrappers_clash e = wrappers_clash_by (flag_of e) (option_and_then (λ said. said.wrappers) e.inner)

-- the clash of a spec with the first equal one of some entries
unfoldable pub clash_with : ClashKind → List PackageSpec → PackageSpec → Option Clash
clash_with kind others spec =
    option_map (λ other. two_spans kind spec.name.span other.name.span) (find (same_spec spec) others)

abbrev pub specs_of : {T : Type 0} → List (PackageSpecOrExtended T) → List PackageSpec
specs_of entries = map (λ e. e.spec) entries

unfoldable pub banned_specs : Config → List PackageSpec
banned_specs config = specs_of (filter is_ban config.deny)

-- the clash of an allowed feature with a denied one of the same entry
abbrev pub feature_at : Span → SpannedText → Span → Clash
feature_at name allowed denied = record {
  kind = clash.FeatureTwice;
  first = name;
  second = allowed.span;
  third = denied;
  number = 0;
  ascii = false;
}

unfoldable pub feature_clash : CrateFeatures → SpannedText → Option Clash
feature_clash entry allowed = option_map
    (λ denied. feature_at entry.spec.name.span allowed denied.span)
    (find (λ denied. same_text allowed.value denied.value) entry.deny)

unfoldable pub feature_clashes : CrateFeatures → List Clash
feature_clashes entry = filter_map (feature_clash entry) entry.allow.value

unfoldable pub clashes_in : Config → List Clash
clashes_in config = filter_map wrappers_clash config.deny
    ++ (filter_map (clash_with clash.DenyAndAllow (specs_of config.allow)) (banned_specs config)
    ++ (filter_map (clash_with clash.DenyAndSkip (specs_of config.skip)) (banned_specs config)
    ++ (filter_map (clash_with clash.AllowAndSkip (specs_of config.skip)) (specs_of config.allow)
    ++ flat_map feature_clashes config.features)))

-- the clash for a fault of a table `build`
abbrev pub build_clash : BuildFault → Clash
build_clash (fault.NonAscii span) = two_spans clash.Extension span no_span
build_clash (fault.NoLetter span byte) = record (two_spans clash.Extension span byte) { ascii = true }
build_clash (fault.Glob span byte) = record (two_spans clash.Glob span no_span) { number = byte }
build_clash (fault.Absolute span) = two_spans clash.Path span no_span

pub record IsWrongIn (source : List ℕ) (build : BuildConfig) (found : Clash) : Type 0 where
  pub of : BuildFault
  pub wrong : IsWrong source build of
  pub is : found ≡ build_clash of

abbrev pub IsBuildClash : List ℕ → Option BuildConfig → Clash → Type 0
IsBuildClash source None found = ⊥
IsBuildClash source (Some build) found = IsWrongIn source build found

-- a configuration that is read from the text has this clash
abbrev pub IsClash : List ℕ → Config → Clash → Type 0
IsClash source config found = Contains (clashes_in config) found ⊎ IsBuildClash source config.build found

unfoldable pub kind_number : ClashKind → ℕ
kind_number clash.WrappersOfMultiple = 0
kind_number clash.DenyAndAllow = 1
kind_number clash.DenyAndSkip = 2
kind_number clash.AllowAndSkip = 3
kind_number clash.FeatureTwice = 4
kind_number clash.Extension = 5
kind_number clash.Glob = 6
kind_number clash.Path = 7

abbrev pub kind_cmp : ClashKind → ClashKind → Ordering
kind_cmp = on kind_number nat_cmp

-- the order of clashes: by kind, then by the spans of the labels
abbrev pub clash_cmp : Clash → Clash → Ordering
clash_cmp = then_cmp (on (λ c. c.kind) kind_cmp)
    (then_cmp (on (λ c. c.first) span_cmp)
    (then_cmp (on (λ c. c.second) span_cmp)
    (then_cmp (on (λ c. c.third) span_cmp)
    (then_cmp (on (λ c. c.number) nat_cmp) (on (λ c. c.ascii) bool_cmp)))))

abbrev pub clash_message : ClashKind → Clash → List ℕ
clash_message clash.WrappersOfMultiple c =
    codes "a crate ban was specified with both `wrappers` and `deny-multiple-versions` = true"
clash_message clash.DenyAndAllow c = codes "a crate was specified in both `allow` and `deny`"
clash_message clash.DenyAndSkip c = codes "a crate was specified in both `skip` and `deny`"
clash_message clash.AllowAndSkip c = codes "a crate was specified in both `skip` and `allow`"
clash_message clash.FeatureTwice c = codes "a crate feature was specified as both allowed and denied"
clash_message clash.Extension c =
    if c.ascii then codes "invalid file extension provided" else codes "non-ascii file extension provided"
clash_message clash.Glob c = codes "invalid glob pattern: at byte " ++ decimal c.number
clash_message clash.Path c = codes "absolute paths are not allowed"

abbrev pub label_of : LabelStyle → ℕ → Span → List ℕ → Label
label_of style file span message = record { style = style; file_id = file; span = span; message = message }

abbrev pub marks : ℕ → Clash → List ℕ → List ℕ → List Label
marks file c first second = label_of Secondary file c.first first ∷ label_of Secondary file c.second second ∷ []

abbrev pub wrapper_labels : ℕ → Clash → List Label
wrapper_labels file c =
    marks file c (codes "has " ++ (decimal c.number ++ codes " `wrappers`"))
    (codes "has `deny-multiple-versions` set to true")

abbrev pub feature_labels : ℕ → Clash → List Label
feature_labels file c =
    label_of Primary file c.first (codes "crate ban entry")
    ∷ label_of Secondary file c.second (codes "marked as `allow`")
    ∷ label_of Secondary file c.third (codes "marked as `deny`")
    ∷ []

abbrev pub one_label : ℕ → Clash → List ℕ → List Label
one_label file c message = label_of Primary file c.first message ∷ []

-- the labels of an extension, and of its first character that is not allowed where all are ASCII
abbrev pub extension_labels : ℕ → Clash → List Label
extension_labels file c =
    if c.ascii
    then label_of Primary file c.first (codes "extension")
    ∷ label_of Secondary file c.second (codes "invalid character") ∷ []
    else one_label file c (codes "invalid extension")

abbrev pub clash_labels : ClashKind → ℕ → Clash → List Label
clash_labels clash.WrappersOfMultiple file c = wrapper_labels file c
clash_labels clash.DenyAndAllow file c = marks file c (codes "marked as `deny`") (codes "marked as `allow`")
clash_labels clash.DenyAndSkip file c = marks file c (codes "marked as `deny`") (codes "marked as `skip`")
clash_labels clash.AllowAndSkip file c = marks file c (codes "marked as `allow`") (codes "marked as `skip`")
clash_labels clash.FeatureTwice file c = feature_labels file c
clash_labels clash.Extension file c = extension_labels file c
clash_labels clash.Glob file c = one_label file c []
clash_labels clash.Path file c = one_label file c []

unfoldable pub clash_diag : ℕ → Clash → Diagnostic
clash_diag file c = record {
  severity = Error;
  code = None;
  message = clash_message c.kind c;
  labels = clash_labels c.kind file c;
  notes = [];
}

-- these diagnostics report the clashes of a configuration that is read from the text, in order, each once
pub record AreClashes (source : List ℕ) (config : Config) (file : ℕ) (reported : List Diagnostic) : Type 0 where
  pub clashes : List Clash
  pub listed : Lists clash_cmp (IsClash source config) clashes
  pub is : reported ≡ map (clash_diag file) clashes
