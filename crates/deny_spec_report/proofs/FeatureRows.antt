-- Worked cases of features: `default` at each level, what entries allow and deny, what allowed features lead to, and
-- the messages.
use Rattle.std.proofs.Common.{◌≡◌, ℕ, List, [], ◌∷◌, true, false, Option, Some, None, codes, refl, sym, ap, ◌∙◌, subst}
use Rattle.std.specs.Prelude.{⊤, IsTrue, Contains, is_some}
use Rattle.std.specs.FinMap as finite
use Rattle.std.specs.Fmt.{digits}
use Rattle.deny_base.specs.Level.{severity_of}
use Rattle.deny_base.specs.declared.code.Code.TheVariants as code
use Rattle.deny_base.specs.declared.key.Key.{Key}
use Rattle.deny_base.specs.declared.level.LintLevel.{LintLevel}
use Rattle.deny_base.specs.declared.level.LintLevel.TheVariants.{Allow, Warn, Deny}
use Rattle.deny_base.specs.declared.level.Severity.TheVariants as severity
use Rattle.deny_base.specs.declared.span.Spanned.{Spanned}
use Rattle.deny_spec.specs.Graph.{Crate, Graph}
use Rattle.deny_spec.specs.Keys.{crate_key, key_of}
use Rattle.deny_spec.specs.Match.{matches}
use Rattle.deny_spec.specs.Policy as policy
use Rattle.deny_spec.specs.Policy.{FeatureEntry, Policy}
use Rattle.deny_spec.specs.DiagParts.{primary}
use Rattle.deny_base_lists.proofs.Members.{Contains-by_cases, Contains-first, Contains-rest, no_member}
use Rattle.deny_base_lists.proofs.TextMapLemmas.{get-from_entries}
use Rattle.deny_spec_report.specs.Features.{LeadsTo, Reaches, step, on, IsNotAllowedOf, IsFeatureNotAllowed}
use Rattle.deny_spec_report.specs.Features.{has_feature}
use Rattle.deny_spec_report.specs.Features.{is_enabled, default_feature, is_plain, default_level, names_feature}
use Rattle.deny_spec_report.specs.Features.{leaves_default, checks_default, is_default_reported}
use Rattle.deny_spec_report.specs.Features.{default_enabled_keys_of}
use Rattle.deny_spec_report.specs.Features.{default_enabled_keys_at, default_enabled_keys, has_default_apart}
use Rattle.deny_spec_report.specs.Features.{is_unlisted}
use Rattle.deny_spec_report.specs.Features.{unlisted, missing, is_mismatched, reports_unknown, is_mismatch_reported}
use Rattle.deny_spec_report.specs.Features.{mismatched_keys_of, mismatched_keys, banned_features}
use Rattle.deny_spec_report.specs.Features.{feature_banned_keys_at}
use Rattle.deny_spec_report.specs.Features.{feature_banned_keys_of, feature_banned_keys, unknown_features}
use Rattle.deny_spec_report.specs.Features.{unknown_feature_keys_at, unknown_feature_keys_of, unknown_feature_keys}
use Rattle.deny_spec_report.specs.Features.{not_allowed_feature_key, feature_at, feature_nodes_at, named_at}
use Rattle.deny_spec_report.specs.Features.{mismatched_diag}
use Rattle.deny_spec_report.specs.Features.{feature_not_allowed_diag, feature_banned_diag, unknown_feature_diag}
use Rattle.deny_spec_report.specs.Features.{default_severity, default_enabled_diag}
use Rattle.deny_spec_report.specs.Members.{is_member}
use Rattle.deny_spec_report.specs.MessageParts.{plainly}
use Rattle.deny_spec_report.proofs.Cases.{app, crate, graph, on_cases, plain, span, spec_at, spanned_at}
use Rattle.deny_spec_report.proofs.BuildCases.{featured}

-- `x` with `a` and `b`, which enable each other, and `d` beside them
unfoldable a_and_b : List (List ℕ × List (List ℕ))
a_and_b = (codes "a", codes "b" ∷ []) ∷ (codes "b", codes "a" ∷ []) ∷ (codes "d", []) ∷ []

unfoldable x : Crate
x = featured a_and_b (codes "a" ∷ codes "b" ∷ []) (crate 1 (codes "x") 1)

-- `x` with `default` enabled alone
unfoldable by_default : Crate
by_default = featured ((codes "default", []) ∷ []) (codes "default" ∷ []) (crate 1 (codes "x") 1)

-- `app` and another crate
unfoldable beside : Crate → Graph
beside c = graph (c ∷ []) []

-- the member `app` with `default` enabled, and nothing else
unfoldable app_by_default : Graph
app_by_default = record (graph [] []) { crates = featured [] (codes "default" ∷ []) app ∷ [] }

-- an entry on `x`: what it allows and denies
unfoldable on_x : List policy.SpannedText → List policy.SpannedText → FeatureEntry
on_x allow deny = record {
  spec = spec_at (codes "x") 9;
  allow = record { value = allow; span = span 10 };
  deny = deny;
  exact = record { value = false; span = span 11 };
}

unfoldable exactly : List policy.SpannedText → FeatureEntry
exactly allow = record (on_x allow []) { exact = record { value = true; span = span 11 } }

unfoldable with_entries : List FeatureEntry → Policy
with_entries entries = record plain { features = entries }

unfoldable at : LintLevel → Option (Spanned LintLevel)
at level = Some (record { value = level; span = span 5 })

-- `default` of other crates at a level
unfoldable checking : LintLevel → List FeatureEntry → Policy
checking level entries = record (with_entries entries) { external_default = at level }

-- what a row unfolds
unfoldable features_on_cases : ⊤
unfolding on_cases digits featured a_and_b x by_default beside app_by_default on_x exactly with_entries at checking
    key_of matches is_member is_enabled is_plain default_level names_feature leaves_default
    checks_default is_default_reported default_enabled_keys_of default_enabled_keys_at has_default_apart is_unlisted
    unlisted
    missing is_mismatched reports_unknown is_mismatch_reported mismatched_keys_of banned_features feature_banned_keys_at
    feature_banned_keys_of unknown_features unknown_feature_keys_at unknown_feature_keys_of not_allowed_feature_key
    feature_at named_at feature_nodes_at mismatched_diag feature_not_allowed_diag feature_banned_diag
    unknown_feature_diag
    default_severity default_enabled_diag
features_on_cases = tt

-- ---- features of a crate

has_a : has_feature x (codes "a") ≡ true
unfolding features_on_cases has_feature
has_a = ap is_some (get-from_entries a_and_b (codes "a"))

has_b : has_feature x (codes "b") ≡ true
unfolding features_on_cases has_feature
has_b = ap is_some (get-from_entries a_and_b (codes "b"))

has_d : has_feature x (codes "d") ≡ true
unfolding features_on_cases has_feature
has_d = ap is_some (get-from_entries a_and_b (codes "d"))

has_no_c : has_feature x (codes "c") ≡ false
unfolding features_on_cases has_feature
has_no_c = ap is_some (get-from_entries a_and_b (codes "c"))

has_no_e : has_feature x (codes "e") ≡ false
unfolding features_on_cases has_feature
has_no_e = ap is_some (get-from_entries a_and_b (codes "e"))

-- `x` without a table, with an enabled feature
unfoldable enabled_alone : Crate
enabled_alone = featured [] (codes "z" ∷ []) (crate 1 (codes "x") 1)

has_no_z : has_feature enabled_alone (codes "z") ≡ false
unfolding features_on_cases has_feature enabled_alone
has_no_z = ap is_some (get-from_entries [] (codes "z"))

plain_texts : (is_plain (codes "dep") ≡ true) × (is_plain (codes "a:b") ≡ true) × (is_plain (codes "") ≡ true)
unfolding features_on_cases
plain_texts = (refl, refl, refl)

not_plain : (is_plain (codes "dep:n") ≡ false) × (is_plain (codes "n/f") ≡ false) × (is_plain (codes "n?/f") ≡ false)
    × (is_plain (codes "dep:") ≡ false) × (is_plain (codes "/") ≡ false)
unfolding features_on_cases
not_plain = (refl, refl, refl, refl, refl)

-- ---- the feature `default`, by its level

-- one level counts for a member, the other for another crate
level_of_member : default_level (record plain { workspace_default = at Deny; external_default = at Warn })
    (beside by_default) app ≡ at Deny
unfolding features_on_cases
level_of_member = refl

level_of_other : default_level (record plain { workspace_default = at Deny; external_default = at Warn })
    (beside by_default) by_default ≡ at Warn
unfolding features_on_cases
level_of_other = refl

reported_of_member : default_enabled_keys (record plain { workspace_default = at Deny }) app_by_default
    ≡ crate_key code.DefaultFeatureEnabled 0 (span 5) ∷ []
unfolding features_on_cases
reported_of_member = refl

member_at_no_level : default_enabled_keys (checking Deny []) app_by_default ≡ []
unfolding features_on_cases
member_at_no_level = refl

other_at_no_level : default_enabled_keys (record plain { workspace_default = at Deny }) (beside by_default) ≡ []
unfolding features_on_cases
other_at_no_level = refl

-- the key of `x` at the level of other crates
unfoldable default_key : List Key
default_key = crate_key code.DefaultFeatureEnabled 1 (span 5) ∷ []

not_enabled : default_enabled_keys (checking Deny []) (beside x) ≡ []
unfolding features_on_cases
not_enabled = refl

allowed_by_level : default_enabled_keys (checking Allow []) (beside by_default) ≡ []
unfolding features_on_cases
allowed_by_level = refl

warned : default_enabled_keys (checking Warn []) (beside by_default) ≡ default_key
unfolding features_on_cases default_key
warned = refl

-- entries change nothing at level warn
warned_beside_entries : default_enabled_keys
    (checking Warn (exactly [] ∷ on_x (spanned_at default_feature 20 ∷ []) [] ∷ [])) (beside by_default) ≡ default_key
unfolding features_on_cases default_key
warned_beside_entries = refl

denied_by_level : default_enabled_keys (checking Deny []) (beside by_default) ≡ default_key
unfolding features_on_cases default_key
denied_by_level = refl

-- an entry for another crate does not count
denied_beside_another : default_enabled_keys
    (checking Deny (record (exactly []) { spec = spec_at (codes "y") 9 } ∷ [])) (beside by_default) ≡ default_key
unfolding features_on_cases default_key
denied_beside_another = refl

settled_by_exact : default_enabled_keys (checking Deny (exactly [] ∷ [])) (beside by_default) ≡ []
unfolding features_on_cases
settled_by_exact = refl

settled_by_allow : default_enabled_keys (checking Deny (on_x (spanned_at default_feature 20 ∷ []) [] ∷ []))
    (beside by_default) ≡ []
unfolding features_on_cases
settled_by_allow = refl

settled_by_deny : default_enabled_keys (checking Deny (on_x [] (spanned_at default_feature 20 ∷ []) ∷ []))
    (beside by_default) ≡ []
unfolding features_on_cases
settled_by_deny = refl

left_open : default_enabled_keys (checking Deny (on_x (spanned_at (codes "a") 20 ∷ []) [] ∷ [])) (beside by_default)
    ≡ default_key
unfolding features_on_cases default_key
left_open = refl

-- one entry leaves `default` open, and it is reported once, whatever other entries say
left_open_by_two : default_enabled_keys (checking Deny (exactly [] ∷ on_x [] [] ∷ on_x [] [] ∷ [])) (beside by_default)
    ≡ default_key
unfolding features_on_cases default_key
left_open_by_two = refl

-- ---- unlisted and missing features

unlisted_both : unlisted (with_entries []) (beside x) (on_x [] []) x ≡ codes "a" ∷ codes "b" ∷ []
unfolding features_on_cases
unlisted_both = refl

unlisted_one : unlisted (with_entries []) (beside x) (on_x (spanned_at (codes "b") 20 ∷ []) []) x ≡ codes "a" ∷ []
unfolding features_on_cases
unlisted_one = refl

-- what is denied is not thereby listed
denied_is_unlisted : unlisted (with_entries []) (beside x) (on_x [] (spanned_at (codes "a") 20 ∷ [])) x
    ≡ codes "a" ∷ codes "b" ∷ []
unfolding features_on_cases
denied_is_unlisted = refl

default_at_no_level : unlisted (with_entries []) (beside by_default) (on_x [] []) by_default ≡ default_feature ∷ []
unfolding features_on_cases
default_at_no_level = refl

default_at_allow : unlisted (checking Allow []) (beside by_default) (on_x [] []) by_default ≡ []
unfolding features_on_cases
default_at_allow = refl

default_at_warn : unlisted (checking Warn []) (beside by_default) (on_x [] []) by_default ≡ []
unfolding features_on_cases
default_at_warn = refl

default_at_deny : unlisted (checking Deny []) (beside by_default) (on_x [] []) by_default ≡ default_feature ∷ []
unfolding features_on_cases
default_at_deny = refl

-- the members' level says nothing of another crate
default_at_members_level : unlisted (record plain { workspace_default = at Warn }) (beside by_default) (on_x [] [])
    by_default ≡ default_feature ∷ []
unfolding features_on_cases
default_at_members_level = refl

missing_one : missing (on_x (spanned_at (codes "a") 20 ∷ spanned_at (codes "d") 21 ∷ []) []) x
    ≡ spanned_at (codes "d") 21 ∷ []
unfolding features_on_cases
missing_one = refl

-- ---- entries that say exactly which features a crate has

unfoldable mismatch_key : List Key
mismatch_key = crate_key code.ExactFeaturesMismatch 1 (span 9) ∷ []

exactly_those : mismatched_keys
    (with_entries (exactly (spanned_at (codes "b") 20 ∷ spanned_at (codes "a") 21 ∷ []) ∷ []))
    (beside x) ≡ []
unfolding features_on_cases
exactly_those = refl

exactly_none : mismatched_keys (with_entries (exactly [] ∷ [])) (beside x) ≡ mismatch_key
unfolding features_on_cases mismatch_key
exactly_none = refl

with_unlisted : mismatched_keys (with_entries (exactly (spanned_at (codes "a") 20 ∷ []) ∷ [])) (beside x) ≡ mismatch_key
unfolding features_on_cases mismatch_key
with_unlisted = refl

with_missing : mismatched_keys (with_entries
    (exactly (spanned_at (codes "a") 20 ∷ spanned_at (codes "b") 21 ∷ spanned_at (codes "d") 22 ∷ []) ∷ [])) (beside x)
    ≡ mismatch_key
unfolding features_on_cases mismatch_key
with_missing = refl

-- `default` at warn does not make a mismatch
exact_beside_default : mismatched_keys (checking Warn (exactly [] ∷ [])) (beside by_default) ≡ []
unfolding features_on_cases
exact_beside_default = refl

-- an unknown feature of an exact entry is missing, and reported as missing alone
exactly_unknown : (mismatched_keys (with_entries (exactly (spanned_at (codes "c") 20 ∷ []) ∷ [])) (beside x)
    ≡ mismatch_key)
    × (unknown_feature_keys (with_entries (exactly (spanned_at (codes "c") 20 ∷ []) ∷ [])) (beside x) ≡ [])
unfolding features_on_cases mismatch_key
exactly_unknown = (refl, refl)

-- a denied feature that is unknown is reported where the features match exactly
exact_and_unknown : unknown_feature_keys (with_entries (record
    (exactly (spanned_at (codes "a") 20 ∷ spanned_at (codes "b") 21 ∷ [])) { deny = spanned_at (codes "c") 22 ∷ [] }
    ∷ []))
    (beside x) ≡ crate_key code.UnknownFeature 1 (span 22) ∷ []
unfolding features_on_cases
exact_and_unknown = simp (has_a, has_b, has_no_c) refl

-- an enabled feature that the table does not have is unknown too
enabled_and_unknown : unknown_feature_keys (with_entries (on_x (spanned_at (codes "z") 20 ∷ []) [] ∷ []))
    (beside enabled_alone) ≡ crate_key code.UnknownFeature 1 (span 20) ∷ []
unfolding features_on_cases enabled_alone
enabled_and_unknown = simp has_no_z refl

-- ---- denied features

banned_and_enabled : feature_banned_keys (with_entries (on_x [] (spanned_at (codes "b") 20 ∷ []) ∷ [])) (beside x)
    ≡ crate_key code.FeatureBanned 1 (span 20) ∷ []
unfolding features_on_cases
banned_and_enabled = refl

banned_and_not_enabled : feature_banned_keys (with_entries (on_x [] (spanned_at (codes "d") 20 ∷ []) ∷ [])) (beside x)
    ≡ []
unfolding features_on_cases
banned_and_not_enabled = refl

-- once for each place where it is denied
banned_twice : feature_banned_keys
    (with_entries (on_x [] (spanned_at (codes "b") 20 ∷ spanned_at (codes "b") 21 ∷ []) ∷ [])) (beside x)
    ≡ crate_key code.FeatureBanned 1 (span 20) ∷ crate_key code.FeatureBanned 1 (span 21) ∷ []
unfolding features_on_cases
banned_twice = refl

banned_of_another : feature_banned_keys (with_entries (record (on_x [] (spanned_at (codes "b") 20 ∷ [])) {
  spec = spec_at (codes "y") 9;
} ∷ [])) (beside x) ≡ []
unfolding features_on_cases
banned_of_another = refl

-- an exact entry bans nothing besides
banned_by_exact : feature_banned_keys
    (with_entries (record (exactly []) { deny = spanned_at (codes "b") 20 ∷ [] } ∷ [])) (beside x) ≡ []
unfolding features_on_cases
banned_by_exact = refl

-- ---- unknown features

unknown_twice : unknown_feature_keys
    (with_entries (on_x (spanned_at (codes "c") 20 ∷ spanned_at (codes "c") 21 ∷ []) (spanned_at (codes "e") 22 ∷ [])
    ∷ []))
    (beside x)
    ≡ crate_key code.UnknownFeature 1 (span 20) ∷ crate_key code.UnknownFeature 1 (span 21)
    ∷ crate_key code.UnknownFeature 1 (span 22) ∷ []
unfolding features_on_cases
unknown_twice = simp (has_no_c, has_no_e) refl

-- features that the entry does not list are not reported where the one key does not hold
unknown_beside_banned : unknown_feature_keys
    (with_entries (on_x (spanned_at (codes "c") 20 ∷ []) (spanned_at (codes "b") 21 ∷ []) ∷ [])) (beside x)
    ≡ crate_key code.UnknownFeature 1 (span 20) ∷ []
unfolding features_on_cases
unknown_beside_banned = simp (has_b, has_no_c) refl

-- a feature that is not enabled is known all the same
known_and_not_enabled : unknown_feature_keys (with_entries (on_x (spanned_at (codes "d") 20 ∷ []) [] ∷ [])) (beside x)
    ≡ []
unfolding features_on_cases
known_and_not_enabled = simp has_d refl

-- ---- what features lead to

listed_a : finite.get x.features (codes "a") ≡ Some (codes "b" ∷ [])
unfolding features_on_cases
listed_a = get-from_entries a_and_b (codes "a")

listed_b : finite.get x.features (codes "b") ≡ Some (codes "a" ∷ [])
unfolding features_on_cases
listed_b = get-from_entries a_and_b (codes "b")

a_leads_to_b : LeadsTo x (codes "a") (codes "b")
unfolding features_on_cases
a_leads_to_b = record { entries = codes "b" ∷ []; listed = listed_a; one = Contains-first (codes "b") []; plain = refl }

b_leads_to_a : LeadsTo x (codes "b") (codes "a")
unfolding features_on_cases
b_leads_to_a = record { entries = codes "a" ∷ []; listed = listed_b; one = Contains-first (codes "a") []; plain = refl }

-- a step, and a cycle
a_reaches_b : Reaches x (codes "a") (codes "b")
a_reaches_b = step (codes "a") (codes "b") a_leads_to_b

a_reaches_itself : Reaches x (codes "a") (codes "a")
a_reaches_itself = on (codes "a") (codes "b") (codes "a") a_leads_to_b (step (codes "b") (codes "a") b_leads_to_a)

-- a feature that leads nowhere reaches nothing
leads_nowhere : (c : Crate) (feature : List ℕ) → ((other : List ℕ) → LeadsTo c feature other → ⊥) → (other : List ℕ)
    → Reaches c feature other → ⊥
leads_nowhere c _ none _ (step feature other leads) = none other leads
leads_nowhere c _ none _ (on feature middle other leads rest) = none middle leads

never : false ≡ true → ⊥
never is = (cc)

list_or_none : Option (List (List ℕ)) → List (List ℕ)
list_or_none None = []
list_or_none (Some entries) = entries

-- a feature leads nowhere that the crate's table does not have, or that has no plain entry
leads_to_none : (c : Crate) (feature : List ℕ) (got : Option (List (List ℕ))) → finite.get c.features feature ≡ got
    → ((other : List ℕ) → Contains (list_or_none got) other → IsTrue (is_plain other) → ⊥) → (other : List ℕ)
    → Reaches c feature other → ⊥
unfolding list_or_none
leads_to_none c feature got is none = leads_nowhere c feature (λ other leads. none other
    (subst (λ entries. Contains entries other) (ap list_or_none (sym leads.listed ∙ is)) leads.one) leads.plain)

-- no chain of length zero leads from a feature to itself
no_way_of_length_zero : Reaches x (codes "d") (codes "d") → ⊥
unfolding features_on_cases list_or_none
no_way_of_length_zero = leads_to_none x (codes "d") (Some []) (get-from_entries a_and_b (codes "d"))
    (λ other contained plain. no_member other contained) (codes "d")

c_reaches_nothing : (other : List ℕ) → Reaches x (codes "c") other → ⊥
unfolding features_on_cases list_or_none
c_reaches_nothing = leads_to_none x (codes "c") None (get-from_entries a_and_b (codes "c"))
    (λ other contained plain. no_member other contained)

-- a feature that enables a dependency, and a feature of one
unfoldable of_dependencies : List (List ℕ × List (List ℕ))
of_dependencies = (codes "a", codes "dep:n" ∷ codes "n/f" ∷ []) ∷ []

unfoldable through_dependencies : Crate
through_dependencies = featured of_dependencies (codes "n/f" ∷ []) (crate 1 (codes "x") 1)

not_through_dependencies : (other : List ℕ) → Reaches through_dependencies (codes "a") other → ⊥
unfolding features_on_cases list_or_none of_dependencies through_dependencies
not_through_dependencies = leads_to_none through_dependencies (codes "a") (Some (codes "dep:n" ∷ codes "n/f" ∷ []))
    (get-from_entries of_dependencies (codes "a"))
    (λ other contained plain. Contains-by_cases (codes "dep:n") (codes "n/f" ∷ []) other contained
    (λ is. never (subst (λ text. IsTrue (is_plain text)) (sym is) plain))
    (λ rest. Contains-by_cases (codes "n/f") [] other rest
    (λ is. never (subst (λ text. IsTrue (is_plain text)) (sym is) plain))
    (λ none. no_member other none)))

-- ---- features that are not explicitly allowed

-- `a` leads to `b`, so nothing is reported where `a` alone is allowed
unfoldable allowing_a : Policy
allowing_a = with_entries (on_x (spanned_at (codes "a") 20 ∷ []) [] ∷ [])

b_is_reached : (c : Crate) (feature : List ℕ) → Contains (beside x).crates c
    → IsNotAllowedOf allowing_a (beside x) (on_x (spanned_at (codes "a") 20 ∷ []) []) c feature → ⊥
unfolding features_on_cases allowing_a
b_is_reached c feature known reported = Contains-by_cases app (x ∷ []) c known
    (λ is. never (subst (λ k. IsTrue (matches (spec_at (codes "x") 9) k)) (sym is) reported.matched_by))
    (λ rest. Contains-by_cases x [] c rest
    (λ is. Contains-by_cases (codes "b") [] feature
    (subst (λ k. Contains (unlisted allowing_a (beside x) (on_x (spanned_at (codes "a") 20 ∷ []) []) k) feature)
    (sym is) reported.unlisted)
    (λ b. reported.unreached (spanned_at (codes "a") 20) (Contains-first (spanned_at (codes "a") 20) [])
    (subst (λ k. Reaches k (codes "a") feature) is (subst (Reaches x (codes "a")) b a_reaches_b)))
    (λ none. no_member feature none))
    (λ none. no_member c none))

nothing_reported_of_a_cycle : (key : Key) → IsFeatureNotAllowed allowing_a (beside x) key → ⊥
unfolding features_on_cases allowing_a
nothing_reported_of_a_cycle key reported =
    Contains-by_cases (on_x (spanned_at (codes "a") 20 ∷ []) []) [] reported.entry reported.written
    (λ is. b_is_reached reported.krate reported.feature reported.known
    (subst (λ e. IsNotAllowedOf allowing_a (beside x) e reported.krate reported.feature) (sym is)
    reported.is_not_allowed))
    (λ none. no_member reported.entry none)

-- where `c` alone is allowed, both others are reported, and `c` is unknown
unfoldable allowing_c : Policy
allowing_c = with_entries (on_x (spanned_at (codes "c") 20 ∷ []) [] ∷ [])

reported_of_a_cycle : (feature : List ℕ) → Contains (codes "a" ∷ codes "b" ∷ []) feature
    → IsFeatureNotAllowed allowing_c (beside x) (not_allowed_feature_key 1 (span 9) feature)
unfolding features_on_cases allowing_c
reported_of_a_cycle feature enabled = record {
  entry = on_x (spanned_at (codes "c") 20 ∷ []) [];
  written = Contains-first (on_x (spanned_at (codes "c") 20 ∷ []) []) [];
  krate = x;
  known = Contains-rest app (x ∷ []) x (Contains-first x []);
  feature = feature;
  is_not_allowed = record {
    matched_by = refl;
    inexact = refl;
    some = refl;
    unlisted = enabled;
    unreached = λ w allowed reached. Contains-by_cases (spanned_at (codes "c") 20) [] w allowed
        (λ is. c_reaches_nothing feature (subst (λ v. Reaches x v.value feature) (sym is) reached))
        (λ none. no_member w none);
  };
  is = refl;
}

unknown_beside_a_cycle : unknown_feature_keys allowing_c (beside x) ≡ crate_key code.UnknownFeature 1 (span 20) ∷ []
unfolding features_on_cases allowing_c
unknown_beside_a_cycle = simp has_no_c refl

-- an entry that allows nothing, and is not exact, allows all
no_list : (c : Crate) (feature : List ℕ) → IsNotAllowedOf plain (beside x) (on_x [] []) c feature → ⊥
unfolding features_on_cases
no_list c feature reported = never (sym reported.some)

by_exact : (c : Crate) (feature : List ℕ)
    → IsNotAllowedOf plain (beside x) (exactly (spanned_at (codes "d") 20 ∷ [])) c feature
    → ⊥
unfolding features_on_cases
by_exact c feature reported = never (sym reported.inexact)

-- ---- messages

unfoldable exactly_a_and_d : Policy
exactly_a_and_d = with_entries (exactly (spanned_at (codes "a") 20 ∷ spanned_at (codes "d") 21 ∷ []) ∷ [])

reported_mismatched : mismatched_diag exactly_a_and_d (beside x) 3 (crate_key code.ExactFeaturesMismatch 1 (span 9))
    ≡ record {
      severity = severity.Error;
      message = codes "feature set for crate 'x = 1.0.0' did not match exactly";
      labels = primary 3 (span 11) (codes "exact enabled here")
          ∷ primary 3 (span 21) (codes "allowed feature not present") ∷ [];
      notes = codes "'b' feature was enabled but not explicitly allowed" ∷ [];
      nodes = record { kid = record { 0 = codes "x" }; feature = Some (codes "b") } ∷ [];
      with_features = true;
      krate = Some (record { 0 = codes "x" });
    }
unfolding features_on_cases exactly_a_and_d
reported_mismatched = refl

unfoldable exactly_all : Policy
exactly_all = with_entries
    (exactly (spanned_at (codes "a") 20 ∷ spanned_at (codes "b") 21 ∷ spanned_at (codes "d") 22 ∷ []) ∷ [])

-- where no feature is unlisted the crate is shown
reported_missing : mismatched_diag exactly_all (beside x) 3 (crate_key code.ExactFeaturesMismatch 1 (span 9))
    ≡ record {
      severity = severity.Error;
      message = codes "feature set for crate 'x = 1.0.0' did not match exactly";
      labels = primary 3 (span 11) (codes "exact enabled here")
          ∷ primary 3 (span 22) (codes "allowed feature not present") ∷ [];
      notes = [];
      nodes = record { kid = record { 0 = codes "x" }; feature = None } ∷ [];
      with_features = true;
      krate = Some (record { 0 = codes "x" });
    }
unfolding features_on_cases exactly_all
reported_missing = refl

reported_not_allowed : feature_not_allowed_diag allowing_c (beside x) 3 (not_allowed_feature_key 1 (span 9) (codes "a"))
    ≡ record (plainly severity.Error (codes "feature 'a' for crate 'x = 1.0.0' was not explicitly allowed")
    (primary 3 (span 10) (codes "allowed features") ∷ []) (Some (record { 0 = codes "x" }))) { with_features = true }
unfolding features_on_cases allowing_c
reported_not_allowed = refl

unfoldable denying_b : Policy
denying_b = with_entries (on_x (spanned_at (codes "a") 20 ∷ []) (spanned_at (codes "b") 21 ∷ []) ∷ [])

reported_banned : feature_banned_diag denying_b (beside x) 3 (crate_key code.FeatureBanned 1 (span 21))
    ≡ record (plainly severity.Error (codes "feature 'b' for crate 'x = 1.0.0' is explicitly denied")
    (primary 3 (span 21) (codes "feature denied here") ∷ []) (Some (record { 0 = codes "x" }))) {
      nodes = record { kid = record { 0 = codes "x" }; feature = Some (codes "b") } ∷ [];
      with_features = true;
    }
unfolding features_on_cases denying_b
reported_banned = refl

reported_unknown : unknown_feature_diag allowing_c [] (beside x) 3 (crate_key code.UnknownFeature 1 (span 20))
    ≡ plainly severity.Warning (codes "found unknown feature 'c' for crate 'x = 1.0.0'")
    (primary 3 (span 20) (codes "unknown feature") ∷ []) (Some (record { 0 = codes "x" }))
unfolding features_on_cases allowing_c
reported_unknown = refl

reported_default : (level : LintLevel) → default_enabled_diag (checking level []) (beside by_default) 3
    (crate_key code.DefaultFeatureEnabled 1 (span 5))
    ≡ record (plainly (severity_of level) (codes "'default' feature enabled for crate 'x = 1.0.0'")
    (primary 3 (span 5) (codes "lint level") ∷ []) (Some (record { 0 = codes "x" }))) {
      nodes = record { kid = record { 0 = codes "x" }; feature = Some default_feature } ∷ [];
      with_features = true;
    }
unfolding features_on_cases
reported_default level = refl
