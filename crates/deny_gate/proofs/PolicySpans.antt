-- The spans of the entries of a policy are among its spans.
use Rattle.std.proofs.Common.{◌≡◌, ◌==◌, [], Bool, false, true, Contains, List, Option, Some, length, not, subst, sym}
use Rattle.std.specs.Prelude.{◌++◌, map}
use Rattle.std.specs.List.{flat_map}
use Rattle.std.proofs.lemmas.List.Elements.{Contains-append_left, Contains-append_right}
use Rattle.deny_base.specs.declared.span.Span.{Span}
use Rattle.deny_base_lists.proofs.Members.{Contains-first, Contains-flat_map, Contains-rest, contains_map}
use Rattle.deny_spec.specs.Policy.{AllowEntry, Ban, Entry, FeatureEntry, Policy, Replacing, Root, SpannedText}
use Rattle.deny_gate.specs.private.Labels.{allow_spans, ban_spans, entry_spans, features_spans, ignore_spans}
use Rattle.deny_gate.specs.private.Labels.{list_and_flag, span_if}
use Rattle.deny_gate.specs.private.Labels.{level_spans}
use Rattle.deny_gate.specs.private.Labels.{span_of}
use Rattle.deny_gate.specs.private.Labels.{spans_of, root_spans}

pub ban_known : (p : Policy) (ban : Ban) (span : Span) → Contains p.deny ban → Contains (ban_spans ban) span
    → Contains (spans_of p) span
unfolding spans_of
ban_known p ban span written is = Contains-append_left (flat_map ban_spans p.deny) _ span
    (Contains-flat_map ban_spans p.deny ban span written is)

pub allow_known : (p : Policy) (e : AllowEntry) (span : Span) → Contains p.allow e → Contains (allow_spans e) span
    → Contains (spans_of p) span
unfolding spans_of
allow_known p e span written is =
    Contains-append_right (flat_map ban_spans p.deny) _ span
    (Contains-append_left (flat_map allow_spans p.allow) _ span
    (Contains-flat_map allow_spans p.allow e span written is))

pub skip_known : (p : Policy) (e : Entry) (span : Span) → Contains p.skip e → Contains (entry_spans e) span
    → Contains (spans_of p) span
unfolding spans_of
skip_known p e span written is =
    Contains-append_right (flat_map ban_spans p.deny) _ span
    (Contains-append_right (flat_map allow_spans p.allow) _ span
    (Contains-append_left (flat_map entry_spans p.skip) _ span
    (Contains-flat_map entry_spans p.skip e span written is)))

pub tree_known : (p : Policy) (t : Root) (span : Span) → Contains p.skip_tree t → Contains (root_spans t) span
    → Contains (spans_of p) span
unfolding spans_of
tree_known p t span written is =
    Contains-append_right (flat_map ban_spans p.deny) _ span
    (Contains-append_right (flat_map allow_spans p.allow) _ span
    (Contains-append_right (flat_map entry_spans p.skip) _ span
    (Contains-append_left (flat_map root_spans p.skip_tree) _ span
    (Contains-flat_map root_spans p.skip_tree t span written is))))

of_ignores : (replacing : Option Replacing) (r : Replacing) (e : Entry) (span : Span) → replacing ≡ Some r
    → Contains r.ignore e → Contains (entry_spans e) span → Contains (ignore_spans replacing) span
of_ignores replacing r e span active written is =
    subst (λ (o : Option Replacing). Contains (ignore_spans o) span) (sym active)
    (Contains-flat_map entry_spans r.ignore e span written is)

pub ignore_known : (p : Policy) (r : Replacing) (e : Entry) (span : Span) → p.replacing ≡ Some r
    → Contains r.ignore e → Contains (entry_spans e) span → Contains (spans_of p) span
unfolding spans_of
ignore_known p r e span active written is =
    Contains-append_right (flat_map ban_spans p.deny) _ span
    (Contains-append_right (flat_map allow_spans p.allow) _ span
    (Contains-append_right (flat_map entry_spans p.skip) _ span
    (Contains-append_right (flat_map root_spans p.skip_tree) _ span
    (Contains-append_left (ignore_spans p.replacing) _ span (of_ignores p.replacing r e span active written is)))))

-- the spans behind those of the entries that ignore replaced crates
of_rest : (p : Policy) (span : Span) → Contains (flat_map features_spans p.features ++ level_spans p) span
    → Contains (spans_of p) span
unfolding spans_of
of_rest p span is =
    Contains-append_right (flat_map ban_spans p.deny) _ span
    (Contains-append_right (flat_map allow_spans p.allow) _ span
    (Contains-append_right (flat_map entry_spans p.skip) _ span
    (Contains-append_right (flat_map root_spans p.skip_tree) _ span
    (Contains-append_right (ignore_spans p.replacing) _ span is))))

pub feature_known : (p : Policy) (e : FeatureEntry) (span : Span) → Contains p.features e
    → Contains (features_spans e) span → Contains (spans_of p) span
feature_known p e span written is =
    of_rest p span (Contains-append_left (flat_map features_spans p.features) (level_spans p) span
    (Contains-flat_map features_spans p.features e span written is))

pub level_known : (p : Policy) (span : Span) → Contains (level_spans p) span → Contains (spans_of p) span
level_known p span is =
    of_rest p span (Contains-append_right (flat_map features_spans p.features) (level_spans p) span is)

-- the spans of the features that an entry names
abbrev named : FeatureEntry → List Span
named e = map (λ (w : SpannedText). w.span) e.allow.value ++ map (λ (w : SpannedText). w.span) e.deny

pub feature_list : (e : FeatureEntry) → (length e.allow.value == 0) ≡ false → Contains (features_spans e) e.allow.span
unfolding features_spans
feature_list e some =
    let here : Contains (span_if (not (length e.allow.value == 0)) e.allow.span) e.allow.span =
    subst (λ (b : Bool). Contains (span_if (not b) e.allow.span) e.allow.span) (sym some)
    (Contains-first e.allow.span []) in
    Contains-append_left (list_and_flag e.allow e.exact) (named e) e.allow.span
    (Contains-append_left (span_if (not (length e.allow.value == 0)) e.allow.span) (span_if e.exact.value e.exact.span)
    e.allow.span here)

pub feature_flag : (e : FeatureEntry) → e.exact.value ≡ true → Contains (features_spans e) e.exact.span
unfolding features_spans
feature_flag e exact =
    let here : Contains (span_if e.exact.value e.exact.span) e.exact.span =
    subst (λ (b : Bool). Contains (span_if b e.exact.span) e.exact.span) (sym exact)
    (Contains-first e.exact.span []) in
    Contains-append_left (list_and_flag e.allow e.exact) (named e) e.exact.span
    (Contains-append_right (span_if (not (length e.allow.value == 0)) e.allow.span) (span_if e.exact.value e.exact.span)
    e.exact.span here)

-- the features that an entry names are behind its list and its flag
among_named : (e : FeatureEntry) (span : Span) → Contains (named e) span → Contains (features_spans e) span
unfolding features_spans
among_named e span is = Contains-append_right (list_and_flag e.allow e.exact) (named e) span is

pub feature_allowed : (e : FeatureEntry) (w : SpannedText) → Contains e.allow.value w
    → Contains (features_spans e) w.span
feature_allowed e w is = among_named e w.span
    (Contains-append_left (map (λ (v : SpannedText). v.span) e.allow.value) (map (λ (v : SpannedText). v.span) e.deny)
    w.span
    (contains_map (λ (v : SpannedText). v.span) e.allow.value w is))

pub feature_denied : (e : FeatureEntry) (w : SpannedText) → Contains e.deny w → Contains (features_spans e) w.span
feature_denied e w is = among_named e w.span
    (Contains-append_right (map (λ (v : SpannedText). v.span) e.allow.value) (map (λ (v : SpannedText). v.span) e.deny)
    w.span
    (contains_map (λ (v : SpannedText). v.span) e.deny w is))

pub ban_name : (ban : Ban) → Contains (ban_spans ban) ban.spec.span
unfolding ban_spans
ban_name ban = Contains-first ban.spec.span _

pub ban_wrapper : (ban : Ban) (w : SpannedText) → Contains ban.wrappers w → Contains (ban_spans ban) w.span
unfolding ban_spans
ban_wrapper ban w is = Contains-rest ban.spec.span _ w.span
    (Contains-append_left (map (λ (v : SpannedText). v.span) ban.wrappers) _ w.span
    (contains_map (λ (v : SpannedText). v.span) ban.wrappers w is))

pub ban_reason : (ban : Ban) (span : Span) → Contains (span_of ban.reason) span → Contains (ban_spans ban) span
unfolding ban_spans
ban_reason ban span is = Contains-rest ban.spec.span _ span
    (Contains-append_right (map (λ (v : SpannedText). v.span) ban.wrappers) _ span
    (Contains-append_left (span_of ban.reason) _ span is))

pub ban_instead : (ban : Ban) (span : Span) → Contains (span_of ban.use_instead) span
    → Contains (ban_spans ban) span
unfolding ban_spans
ban_instead ban span is = Contains-rest ban.spec.span _ span
    (Contains-append_right (map (λ (v : SpannedText). v.span) ban.wrappers) _ span
    (Contains-append_right (span_of ban.reason) _ span is))

pub allow_name : (e : AllowEntry) → Contains (allow_spans e) e.spec.span
unfolding allow_spans
allow_name e = Contains-first e.spec.span _

pub allow_reason : (e : AllowEntry) (span : Span) → Contains (span_of e.reason) span → Contains (allow_spans e) span
unfolding allow_spans
allow_reason e span is = Contains-rest e.spec.span _ span is

pub entry_name : (e : Entry) → Contains (entry_spans e) e.spec.span
unfolding entry_spans
entry_name e = Contains-first e.spec.span _

pub entry_reason : (e : Entry) (span : Span) → Contains (span_of e.reason) span → Contains (entry_spans e) span
unfolding entry_spans
entry_reason e span is = Contains-rest e.spec.span _ span is

pub root_name : (t : Root) → Contains (root_spans t) t.spec.span
unfolding root_spans
root_name t = Contains-first t.spec.span _

pub root_reason : (t : Root) (span : Span) → Contains (span_of t.reason) span → Contains (root_spans t) span
unfolding root_spans
root_reason t span is = Contains-rest t.spec.span _ span is
