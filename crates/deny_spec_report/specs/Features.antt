-- Features of crates that a policy does not allow, denies or does not know, and the feature `default` by its level: the
-- keys of all entries, and the message of each key.
use Rattle.std.specs.Prelude.{◌≡◌, ◌&&◌, ◌||◌, ◌==◌, ◌++◌, ◌∷◌, ℕ, Bool, true, false, IsTrue, not, length, is_some}
use Rattle.std.specs.Prelude.{nat_eq, List, [], Option, Some, Contains, filter, find, map, option_and_then, codes}
use Rattle.std.specs.Prelude.{if◌then◌else◌}
use Rattle.std.specs.FinMap as finite
use Rattle.std.specs.List.{flat_map, list_any, starts_with}
use Rattle.std.specs.Option.{option_map_or}
use Rattle.deny_base.specs.Level.{severity_of}
use Rattle.deny_base.specs.declared.code.Code.TheVariants as code
use Rattle.deny_base.specs.declared.finding.GraphNode.{GraphNode}
use Rattle.deny_base.specs.declared.key.Key.{Key}
use Rattle.deny_base.specs.declared.label.Label.{Label}
use Rattle.deny_base.specs.declared.level.LintLevel.{LintLevel}
use Rattle.deny_base.specs.declared.level.LintLevel.TheVariants as level
use Rattle.deny_base.specs.declared.level.Severity.{Severity}
use Rattle.deny_base.specs.declared.level.Severity.TheVariants as severity
use Rattle.deny_base.specs.declared.span.Span.{Span}
use Rattle.deny_base.specs.declared.span.Spanned.{Spanned}
use Rattle.deny_spec.specs.Graph.{Crate, Graph, kid_of}
use Rattle.deny_spec.specs.Keys.{crate_key}
use Rattle.deny_spec.specs.Match.{matches}
use Rattle.deny_spec.specs.Policy as policy
use Rattle.deny_spec.specs.Policy.{FeatureEntry, Policy}
use Rattle.deny_spec.specs.Text.{same_text}
use Rattle.deny_spec.specs.DiagParts.{crate_at, kid_at, node_of, of_crate, primary}
use Rattle.deny_spec.specs.Wrappers.{same_span}
use Rattle.deny_spec_report.specs.Members.{is_member}
use Rattle.deny_spec_report.specs.MessageParts.{plainly}
use Rattle.deny_spec_report.specs.declared.message.Message.{Message}

-- ---- features of a crate

unfoldable pub has_feature : Crate → List ℕ → Bool
has_feature c feature = is_some (finite.get c.features feature)

unfoldable pub is_enabled : Crate → List ℕ → Bool
is_enabled c feature = list_any (same_text feature) c.enabled

abbrev pub default_feature : List ℕ
default_feature = codes "default"

-- an entry of a feature's list is a feature of the crate itself: neither a dependency nor a feature of one
unfoldable pub is_plain : List ℕ → Bool
is_plain text = not (starts_with nat_eq text (codes "dep:")) && not (list_any (λ byte. byte == 47) text)

-- the crate's table lists a feature as a plain entry of another
pub record LeadsTo (c : Crate) (feature other : List ℕ) : Type 0 where
  pub entries : List (List ℕ)
  pub listed : finite.get c.features feature ≡ Some entries
  pub one : Contains entries other
  pub plain : IsTrue (is_plain other)

-- one step or more lead from a feature to another, whether the features between them are enabled or not
pub data Reaches (c : Crate) : List ℕ → List ℕ → Type 0 where
  step : (feature other : List ℕ) → LeadsTo c feature other → Reaches c feature other
  on : (feature middle other : List ℕ) → LeadsTo c feature middle → Reaches c middle other → Reaches c feature other

-- ---- the feature `default`, by its level

-- the level of `default` of a crate, by whether it is a member of the workspace, where the policy gives one
unfoldable pub default_level : Policy → Graph → Crate → Option (Spanned LintLevel)
default_level p g c = if is_member g c then p.workspace_default else p.external_default

-- a list of texts names a feature
unfoldable pub names_feature : List policy.SpannedText → List ℕ → Bool
names_feature texts feature = list_any (λ w. same_text w.value feature) texts

-- the entry matches the crate and says nothing of `default`: it is not exact, and neither of its lists names it
unfoldable pub leaves_default : Crate → FeatureEntry → Bool
leaves_default c e = matches e.spec c && (not e.exact.value
    && (not (names_feature e.allow.value default_feature) && not (names_feature e.deny default_feature)))

-- whether the feature `default` of a crate is reported at a level: at allow never, at warn always, and at deny where no
-- entry matches the crate, or one that matches says nothing of `default`
unfoldable pub checks_default : Policy → Crate → LintLevel → Bool
checks_default p c level.Allow = false
checks_default p c level.Warn = true
checks_default p c level.Deny = not (list_any (λ e. matches e.spec c) p.features)
    || list_any (leaves_default c) p.features

unfoldable pub is_default_reported : Policy → Crate → Spanned LintLevel → Bool
is_default_reported p c at = is_enabled c default_feature && checks_default p c at.value

unfoldable pub default_enabled_keys_of : Policy → Crate → Spanned LintLevel → List Key
default_enabled_keys_of p c at =
    if is_default_reported p c at then crate_key code.DefaultFeatureEnabled c.place at.span ∷ [] else []

unfoldable pub default_enabled_keys_at : Policy → Graph → Crate → List Key
default_enabled_keys_at p g c = option_map_or (default_enabled_keys_of p c) (default_level p g c) []

-- ---- entries that match a crate

-- the level is deny
abbrev pub denies : LintLevel → Bool
denies level.Allow = false
denies level.Warn = false
denies level.Deny = true

-- `default` is left to its own level: the policy gives one, and it is not deny
unfoldable pub has_default_apart : Policy → Graph → Crate → Bool
has_default_apart p g c = option_map_or (λ at. not (denies at.value)) (default_level p g c) false

-- an entry does not allow the feature; `default` is not asked for where it is left to its own level
unfoldable pub is_unlisted : Policy → Graph → FeatureEntry → Crate → List ℕ → Bool
is_unlisted p g e c feature = not (names_feature e.allow.value feature)
    && not (same_text feature default_feature && has_default_apart p g c)

unfoldable pub unlisted : Policy → Graph → FeatureEntry → Crate → List (List ℕ)
unlisted p g e c = filter (is_unlisted p g e c) c.enabled

-- the features that an entry allows and that are not enabled
unfoldable pub missing : FeatureEntry → Crate → List policy.SpannedText
missing e c = filter (λ w. not (is_enabled c w.value)) e.allow.value

-- the enabled features of a crate are not exactly those of an entry
unfoldable pub is_mismatched : Policy → Graph → FeatureEntry → Crate → Bool
is_mismatched p g e c = not (length (unlisted p g e c) == 0) || not (length (missing e c) == 0)

-- unknown features are reported, unless the entry is exact and the crate's features do not match it
unfoldable pub reports_unknown : Policy → Graph → FeatureEntry → Crate → Bool
reports_unknown p g e c = not (e.exact.value && is_mismatched p g e c)

-- the crates that an entry matches
abbrev pub matched_by : Graph → FeatureEntry → List Crate
matched_by g e = filter (matches e.spec) g.crates

-- ---- keys

unfoldable pub is_mismatch_reported : Policy → Graph → FeatureEntry → Crate → Bool
is_mismatch_reported p g e c = matches e.spec c && (e.exact.value && is_mismatched p g e c)

unfoldable pub mismatched_keys_of : Policy → Graph → FeatureEntry → List Key
mismatched_keys_of p g e = map (λ c. crate_key code.ExactFeaturesMismatch c.place e.spec.span)
    (filter (is_mismatch_reported p g e) g.crates)

-- the denied features of an entry that are enabled
unfoldable pub banned_features : FeatureEntry → Crate → List policy.SpannedText
banned_features e c = if e.exact.value then [] else filter (λ w. is_enabled c w.value) e.deny

unfoldable pub feature_banned_keys_at : FeatureEntry → Crate → List Key
feature_banned_keys_at e c = map (λ w. crate_key code.FeatureBanned c.place w.span) (banned_features e c)

unfoldable pub feature_banned_keys_of : Graph → FeatureEntry → List Key
feature_banned_keys_of g e = flat_map (feature_banned_keys_at e) (matched_by g e)

-- the features that an entry lists and that the crate does not have
unfoldable pub unknown_features : Policy → Graph → FeatureEntry → Crate → List policy.SpannedText
unknown_features p g e c =
    if reports_unknown p g e c then filter (λ w. not (has_feature c w.value)) (e.allow.value ++ e.deny) else []

unfoldable pub unknown_feature_keys_at : Policy → Graph → FeatureEntry → Crate → List Key
unknown_feature_keys_at p g e c = map (λ w. crate_key code.UnknownFeature c.place w.span) (unknown_features p g e c)

unfoldable pub unknown_feature_keys_of : Policy → Graph → FeatureEntry → List Key
unknown_feature_keys_of p g e = flat_map (unknown_feature_keys_at p g e) (matched_by g e)

-- ---- of all entries

abbrev pub default_enabled_keys : Policy → Graph → List Key
default_enabled_keys p g = flat_map (default_enabled_keys_at p g) g.crates

abbrev pub mismatched_keys : Policy → Graph → List Key
mismatched_keys p g = flat_map (mismatched_keys_of p g) p.features

abbrev pub feature_banned_keys : Policy → Graph → List Key
feature_banned_keys p g = flat_map (feature_banned_keys_of g) p.features

abbrev pub unknown_feature_keys : Policy → Graph → List Key
unknown_feature_keys p g = flat_map (unknown_feature_keys_of p g) p.features

-- the key of a feature that is not explicitly allowed; its text is the feature's name
unfoldable pub not_allowed_feature_key : ℕ → Span → List ℕ → Key
not_allowed_feature_key place entry feature = record (crate_key code.FeatureNotExplicitlyAllowed place entry) {
  text = feature;
}

-- an entry that matches a crate allows some features, but not exactly these, and this is an enabled feature that it
-- does not allow and to which none of the allowed features leads
pub record IsNotAllowedOf (p : Policy) (g : Graph) (e : FeatureEntry) (c : Crate) (feature : List ℕ) : Type 0 where
  pub matched_by : IsTrue (matches e.spec c)
  pub inexact : e.exact.value ≡ false
  pub some : (length e.allow.value == 0) ≡ false
  pub unlisted : Contains (unlisted p g e c) feature
  pub unreached : (w : policy.SpannedText) → Contains e.allow.value w → Reaches c w.value feature → ⊥

pub record IsFeatureNotAllowed (p : Policy) (g : Graph) (key : Key) : Type 0 where
  pub entry : FeatureEntry
  pub written : Contains p.features entry
  pub krate : Crate
  pub known : Contains g.crates krate
  pub feature : List ℕ
  pub is_not_allowed : IsNotAllowedOf p g entry krate feature
  pub is : key ≡ not_allowed_feature_key krate.place entry.spec.span feature

-- ---- messages

-- the entry with a span, and below, the feature with a span
abbrev pub feature_entry_at : Policy → Span → Option FeatureEntry
feature_entry_at p span = find (λ e. same_span e.spec.span span) p.features

abbrev pub features_of : FeatureEntry → List policy.SpannedText
features_of e = e.allow.value ++ e.deny

unfoldable pub feature_at : Policy → Span → List ℕ
feature_at p span = option_map_or (λ w. w.value) (find (λ w. same_span w.span span) (flat_map features_of p.features))
    []

-- a feature of the crate at a place, as it is shown
unfoldable pub feature_nodes_at : Graph → ℕ → List (List ℕ) → List GraphNode
feature_nodes_at g place features =
    option_map_or (λ c. map (λ feature. record { kid = kid_of c; feature = Some feature }) features)
    (crate_at g place) []

-- a message with these nodes and all features that lead to them
abbrev pub with_features : Message → List GraphNode → Message
with_features diag nodes = record diag { nodes = nodes; with_features = true }

abbrev pub entry_and_crate : {A : Type 0} → Policy → Graph → Key → (FeatureEntry → Crate → A) → A → A
entry_and_crate p g key part nothing =
    option_map_or (λ e. option_map_or (part e) (crate_at g key.place) nothing) (feature_entry_at p key.entry) nothing

abbrev pub mismatch_labels : ℕ → FeatureEntry → Crate → List Label
mismatch_labels file e c = primary file e.exact.span (codes "exact enabled here")
    ∷ map (λ w. primary file w.span (codes "allowed feature not present")) (missing e c)

abbrev pub unlisted_note : List ℕ → List ℕ
unlisted_note feature = codes "'" ++ (feature ++ codes "' feature was enabled but not explicitly allowed")

-- the nodes of a mismatch: the features that the entry does not list, or the crate where there are none
abbrev pub mismatch_nodes : Policy → Graph → FeatureEntry → Crate → List GraphNode
mismatch_nodes p g e c = if length (unlisted p g e c) == 0 then node_of c ∷ []
    else feature_nodes_at g c.place (unlisted p g e c)

unfoldable pub mismatched_diag : Policy → Graph → ℕ → Key → Message
mismatched_diag p g file key = record
    (with_features
    (plainly severity.Error
    (of_crate (codes "feature set for crate '") g key (codes "' did not match exactly"))
    (entry_and_crate p g key (mismatch_labels file) [])
    (kid_at g key.place))
    (entry_and_crate p g key (mismatch_nodes p g) [])) {
      notes = entry_and_crate p g key (λ e c. map unlisted_note (unlisted p g e c)) [];
    }

-- a sentence about a feature of the crate of a key
abbrev pub of_feature : List ℕ → List ℕ → List ℕ → Graph → Key → List ℕ → List ℕ
of_feature before feature between g key after = before ++ (feature ++ of_crate between g key after)

unfoldable pub feature_not_allowed_diag : Policy → Graph → ℕ → Key → Message
feature_not_allowed_diag p g file key = with_features
    (plainly severity.Error
    (of_feature (codes "feature '") key.text (codes "' for crate '") g key (codes "' was not explicitly allowed"))
    (option_map_or (λ e. primary file e.allow.span (codes "allowed features") ∷ []) (feature_entry_at p key.entry) [])
    (kid_at g key.place))
    []

unfoldable pub feature_banned_diag : Policy → Graph → ℕ → Key → Message
feature_banned_diag p g file key = with_features
    (plainly severity.Error
    (of_feature (codes "feature '") (feature_at p key.entry) (codes "' for crate '") g key
    (codes "' is explicitly denied"))
    (primary file key.entry (codes "feature denied here") ∷ [])
    (kid_at g key.place))
    (feature_nodes_at g key.place (feature_at p key.entry ∷ []))

-- the feature with a span, among those of the entries of `features` and these others
unfoldable pub named_at : List policy.SpannedText → Policy → Span → List ℕ
named_at others p span = option_map_or (λ w. w.value)
    (find (λ w. same_span w.span span) (flat_map features_of p.features ++ others)) []

unfoldable pub unknown_feature_diag : Policy → List policy.SpannedText → Graph → ℕ → Key → Message
unknown_feature_diag p others g file key = plainly severity.Warning
    (of_feature (codes "found unknown feature '") (named_at others p key.entry) (codes "' for crate '") g key
    (codes "'"))
    (primary file key.entry (codes "unknown feature") ∷ [])
    (kid_at g key.place)

-- the severity of the level of `default` of a key's crate
unfoldable pub default_severity : Policy → Graph → Key → Severity
default_severity p g key = option_map_or (λ at. severity_of at.value)
    (option_and_then (default_level p g) (crate_at g key.place)) severity.Warning

unfoldable pub default_enabled_diag : Policy → Graph → ℕ → Key → Message
default_enabled_diag p g file key = with_features
    (plainly (default_severity p g key)
    (of_crate (codes "'default' feature enabled for crate '") g key (codes "'"))
    (primary file key.entry (codes "lint level") ∷ [])
    (kid_at g key.place))
    (feature_nodes_at g key.place (default_feature ∷ []))
