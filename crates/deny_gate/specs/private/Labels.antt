-- The spans of a policy that labels mark.
use Rattle.std.specs.Prelude.{◌++◌, ◌==◌, ◌∷◌, [], ℕ, Bool, List, Option, None, Some, Contains, filter, length, map}
use Rattle.std.specs.Prelude.{not, if◌then◌else◌}
use Rattle.std.specs.List.{flat_map}
use Rattle.deny_base.specs.declared.span.Span.{Span}
use Rattle.deny_spec.specs.Building.{AllowedPath, Building, Bypass, ScriptGlob}
use Rattle.deny_base.specs.declared.span.Spanned.{Spanned}
use Rattle.deny_krates_lock.specs.Text.{IsLineOf, LinesAscend, lock_span_at, lock_text}
use Rattle.deny_spec.specs.Expired.{PastWaiver}
use Rattle.deny_spec.specs.Graph.{Crate, Graph}
use Rattle.deny_spec.specs.Licensing.{Licensing}
use Rattle.deny_spec.specs.Policy.{AllowEntry, Ban, Entry, FeatureEntry, Policy, Replacing, Root, SpannedText}

-- the line of each crate is in the lock text, one behind the other
pub record AreLockLines (g : Graph) : Type 0 where
  pub each : (c : Crate) → Contains g.crates c → IsLineOf (lock_text g.crates) c (lock_span_at g.crates c)
  pub ascend : LinesAscend g.crates

abbrev pub span_of : Option SpannedText → List Span
span_of None = []
span_of (Some words) = words.span ∷ []

unfoldable pub ban_spans : Ban → List Span
ban_spans ban = ban.spec.span ∷ (map (λ w. w.span) ban.wrappers ++ (span_of ban.reason ++ span_of ban.use_instead))

unfoldable pub allow_spans : AllowEntry → List Span
allow_spans e = e.spec.span ∷ span_of e.reason

unfoldable pub entry_spans : Entry → List Span
entry_spans e = e.spec.span ∷ span_of e.reason

unfoldable pub root_spans : Root → List Span
root_spans t = t.spec.span ∷ span_of t.reason

-- the spans of the entries that ignore replaced crates
abbrev pub ignore_spans : Option Replacing → List Span
ignore_spans None = []
ignore_spans (Some r) = flat_map entry_spans r.ignore

-- a span, where this holds
abbrev pub span_if : Bool → Span → List Span
span_if b span = if b then span ∷ [] else []

-- the list `allow` of an entry of `features`, where it has elements, and its flag `exact`, where it is set
abbrev pub list_and_flag : Spanned (List SpannedText) → Spanned Bool → List Span
list_and_flag allow exact = span_if (not (length allow.value == 0)) allow.span ++ span_if exact.value exact.span

-- the spans of an entry of `features`: its list, its flag and the features that it names
unfoldable pub features_spans : FeatureEntry → List Span
features_spans e = list_and_flag e.allow e.exact ++ (map (λ w. w.span) e.allow.value ++ map (λ w. w.span) e.deny)

-- the span of a level of default features
abbrev pub own_span : {T : Type 0} → Option (Spanned T) → List Span
own_span None = []
own_span (Some at) = at.span ∷ []

abbrev pub level_spans : Policy → List Span
level_spans p = own_span p.workspace_default ++ own_span p.external_default

unfoldable pub spans_of : Policy → List Span
spans_of p = flat_map ban_spans p.deny
    ++ (flat_map allow_spans p.allow
    ++ (flat_map entry_spans p.skip
    ++ (flat_map root_spans p.skip_tree
    ++ (ignore_spans p.replacing ++ (flat_map features_spans p.features ++ level_spans p)))))

-- the spans of what a policy says of builds: its crates, checksums, features, globs and paths, the globs of scripts
-- that it writes, and the older key for it
abbrev pub sum_span : Option (Spanned (List ℕ)) → List Span
sum_span None = []
sum_span (Some sum) = sum.span ∷ []

unfoldable pub path_spans : AllowedPath → List Span
path_spans a = a.path.span ∷ sum_span a.checksum

unfoldable pub bypass_spans : Bypass → List Span
bypass_spans y = y.spec.span
    ∷ (sum_span y.script
    ++ (map (λ w. w.span) y.required ++ (map (λ w. w.span) y.globs ++ flat_map path_spans y.allow)))

-- the globs of scripts that a policy writes, without those that are built in
abbrev pub written_globs : Building → List ScriptGlob
written_globs b = filter (λ e. not e.built_in) b.extensions

abbrev pub built_in_globs : Building → List ScriptGlob
built_in_globs b = filter (λ e. e.built_in) b.extensions

abbrev pub older_span : Option Span → List Span
older_span None = []
older_span (Some span) = span ∷ []

unfoldable pub building_spans : Building → List Span
building_spans b = flat_map bypass_spans b.bypass
    ++ (map (λ e. e.span) (written_globs b) ++ older_span b.older_key)

abbrev pub build_spans : Option Building → List Span
build_spans None = []
build_spans (Some b) = building_spans b

-- the spans in the file of the built-in globs
abbrev pub built_in_spans : Option Building → List Span
built_in_spans None = []
built_in_spans (Some b) = map (λ e. e.span) (built_in_globs b)

-- the spans that the labels of expired waivers mark: their last days and reasons
unfoldable pub past_waiver_spans : PastWaiver → List Span
past_waiver_spans w = w.expires.span ∷ span_of w.reason

abbrev pub past_spans : List PastWaiver → List Span
past_spans waivers = flat_map past_waiver_spans waivers

-- the spans of what a policy says of licences: the licences that every crate may have, and the names of exceptions
abbrev pub licence_spans : Option Licensing → List Span
licence_spans None = []
licence_spans (Some l) = map (λ a. a.span) l.allow ++ map (λ e. e.spec.span) l.exceptions
