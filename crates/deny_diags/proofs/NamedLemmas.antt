-- A key that holds names an entry of the policy, or a feature in one.
use Rattle.std.proofs.Common.{◌≡◌, Bool, true, false, List, [], None, Option, Some, ap, filter, map, not, refl}
use Rattle.std.proofs.Common.{sym, ◌∙◌}
use Rattle.std.specs.Prelude.{Contains, IsTrue, find, is_some, if◌then◌else◌}
use Rattle.std.specs.List.{flat_map}
use Rattle.std.specs.Option.{option_map_or}
use Rattle.std.proofs.lemmas.List.Elements.{Contains-append_right}
use Rattle.deny_base_lists.proofs.Filters.{find-any}
use Rattle.deny_base_lists.proofs.Members.{Contains-flat_map, Contains-from_flat_map, any_from, filtered}
use Rattle.deny_base_lists.proofs.Members.{from_contains_map, no_member}
use Rattle.deny_base.specs.declared.code.Code.TheVariants as code
use Rattle.deny_base.specs.declared.key.Key.{Key}
use Rattle.deny_base.specs.declared.span.Span.{Span}
use Rattle.deny_spec.specs.Bans.{allowed_by_wrapper_keys_at, allowed_by_wrapper_keys_of, allowed_keys_of}
use Rattle.deny_spec.specs.Bans.{banned_keys_of, is_banned, is_wrapped, is_wrapper, unmatched_wrapper_keys_at}
use Rattle.deny_spec.specs.Bans.{unmatched_wrapper_keys_of}
use Rattle.deny_spec.specs.Facts as chains
use Rattle.deny_spec.specs.Graph.{Crate, Graph, dependents}
use Rattle.deny_spec.specs.Keys.{crate_key, dependent_key, key_of, unused_key}
use Rattle.deny_spec.specs.Match.{matches}
use Rattle.deny_spec.specs.Policy.{AllowEntry, Ban, Entry, FeatureEntry, Policy, Root, Sharing, SpannedText}
use Rattle.deny_spec.specs.Skips.{is_hit_skip, is_needless, is_skipped, is_skipped_by_root, skipped_by_root_keys_of}
use Rattle.deny_spec.specs.Skips.{skipped_keys_of, unmatched_skip_keys, unnecessary_skip_keys}
use Rattle.deny_spec.specs.DiagParts.{allow_at, ban_at, root_at, skip_at}
use Rattle.deny_spec.specs.View.{View, WorkspaceEntry}
use Rattle.deny_spec.specs.Wrappers.{same_span}
use Rattle.deny_spec.proofs.SpanLemmas.{same_span-true}
use Rattle.deny_spec_report.specs.AllowList.{allowed_keys}
use Rattle.deny_spec_report.specs.Bans.{allowed_by_wrapper_keys, banned_keys, unmatched_wrapper_keys}
use Rattle.deny_spec_report.specs.Features.{IsFeatureNotAllowed, banned_features, feature_banned_keys}
use Rattle.deny_spec_report.specs.Features.{feature_banned_keys_at, feature_banned_keys_of, feature_entry_at}
use Rattle.deny_spec_report.specs.Features.{features_of, has_feature, is_enabled, is_mismatch_reported, mismatched_keys}
use Rattle.deny_spec_report.specs.Features.{mismatched_keys_of, not_allowed_feature_key, matched_by, reports_unknown}
use Rattle.deny_spec_report.specs.Features.{unknown_feature_keys, unknown_feature_keys_at, unknown_feature_keys_of}
use Rattle.deny_spec_report.specs.Features.{unknown_features}
use Rattle.deny_spec_report.specs.Sharing.{unused_at, unused_entry_key, unused_entry_keys, unused_entry_keys_by}
use Rattle.deny_spec_report.specs.SkippedTrees.{skipped_by_root_keys}
use Rattle.deny_spec_report.specs.Skips.{skipped_keys}
use Rattle.deny_spec_report.specs.Wildcards.{is_active}

-- an item is found at the span that a key shows
pub named_by : {E : Type 0} (span_of : E → Span) (es : List E) (e : E) (key : Key) → Contains es e
    → key.entry ≡ span_of e → IsTrue (is_some (find (λ d. same_span (span_of d) key.entry) es))
named_by span_of es e key is at =
    sym (find-any (λ d. same_span (span_of d) key.entry) es)
    ∙ any_from (λ d. same_span (span_of d) key.entry) es e is (same_span-true (span_of e) key.entry (sym at))

-- keys that all show one span
shows : {X : Type 0} (span : Span) (f : X → Key) (xs : List X) (key : Key) → ((x : X) → (f x).entry ≡ span)
    → Contains (map f xs) key → key.entry ≡ span
shows span f xs key each is =
    let from = from_contains_map f xs key is in
    sym (ap (λ (k : Key). k.entry) from.2) ∙ each from.0

-- keys of several lists that all show one span
shows_flat : {X : Type 0} (span : Span) (f : X → List Key) (xs : List X) (key : Key)
    → ((x : X) → Contains (f x) key → key.entry ≡ span) → Contains (flat_map f xs) key → key.entry ≡ span
shows_flat span f xs key each is = let from = Contains-from_flat_map f xs key is in each from.from from.of

-- the keys of each entry show its span
named_flat : {E : Type 0} (span_of : E → Span) (keys_of : E → List Key) (es : List E) (key : Key)
    → ((e : E) → Contains (keys_of e) key → key.entry ≡ span_of e) → Contains (flat_map keys_of es) key
    → IsTrue (is_some (find (λ d. same_span (span_of d) key.entry) es))
named_flat span_of keys_of es key each is =
    let from = Contains-from_flat_map keys_of es key is in
    named_by span_of es from.from key from.member (each from.from from.of)

-- some entries have a key each, which shows its span
named_map : {E : Type 0} (span_of : E → Span) (key_by : E → Key) (test : E → Bool) (es : List E) (key : Key)
    → ((e : E) → (key_by e).entry ≡ span_of e) → Contains (map key_by (filter test es)) key
    → IsTrue (is_some (find (λ d. same_span (span_of d) key.entry) es))
named_map span_of key_by test es key each is =
    let from = from_contains_map key_by (filter test es) key is in
    named_by span_of es from.0 key (filtered test es from.0 from.1)
    (sym (ap (λ (k : Key). k.entry) from.2) ∙ each from.0)

module _ (p : Policy) (g : Graph) (key : Key) where
  -- ---- bans

  pub banned_named : Contains (banned_keys p g) key → IsTrue (is_some (ban_at p key.entry))
  unfolding banned_keys_of key_of
  banned_named is = named_flat (λ (ban : Ban). ban.spec.span) (banned_keys_of p g) p.deny key
      (λ ban of. shows ban.spec.span (λ (c : Crate). crate_key code.Banned c.place ban.spec.span)
      (filter (is_banned p g ban) g.crates) key (λ c. refl) of) is

  pub allowed_by_wrapper_named : Contains (allowed_by_wrapper_keys p g) key → IsTrue (is_some (ban_at p key.entry))
  unfolding allowed_by_wrapper_keys_of allowed_by_wrapper_keys_at key_of
  allowed_by_wrapper_named is = named_flat (λ (ban : Ban). ban.spec.span) (allowed_by_wrapper_keys_of p g) p.deny key
      (λ ban of. shows_flat ban.spec.span (allowed_by_wrapper_keys_at g ban) (filter (is_wrapped p g ban) g.crates) key
      (λ c at. shows ban.spec.span
      (λ (parent : Crate). dependent_key code.AllowedByWrapper c.place ban.spec.span parent.place)
      (filter (is_wrapper ban.wrappers) (dependents g c.place)) key (λ parent. refl) at) of) is

  pub unmatched_wrapper_named : Contains (unmatched_wrapper_keys p g) key → IsTrue (is_some (ban_at p key.entry))
  unfolding unmatched_wrapper_keys_of unmatched_wrapper_keys_at key_of
  unmatched_wrapper_named is = named_flat (λ (ban : Ban). ban.spec.span) (unmatched_wrapper_keys_of p g) p.deny key
      (λ ban of. shows_flat ban.spec.span (unmatched_wrapper_keys_at g ban) (filter (is_wrapped p g ban) g.crates) key
      (λ c at. shows ban.spec.span
      (λ (parent : Crate). dependent_key code.UnmatchedWrapper c.place ban.spec.span parent.place)
      (filter (λ parent. not (is_wrapper ban.wrappers parent)) (dependents g c.place)) key (λ parent. refl) at) of) is

  -- ---- the allow list

  pub allowed_named : Contains (allowed_keys p g) key → IsTrue (is_some (allow_at p key.entry))
  unfolding allowed_keys_of key_of
  allowed_named is = named_flat (λ (e : AllowEntry). e.spec.span) (allowed_keys_of g) p.allow key
      (λ e of. shows e.spec.span (λ (c : Crate). crate_key code.Allowed c.place e.spec.span)
      (filter (matches e.spec) g.crates) key (λ c. refl) of) is

  -- ---- skips and skipped trees

  pub skipped_named : (facts : chains.Facts) → Contains (skipped_keys p g facts) key
      → IsTrue (is_some (skip_at p key.entry))
  unfolding skipped_keys_of key_of
  skipped_named facts is = named_flat (λ (s : Entry). s.spec.span) (skipped_keys_of g facts) p.skip key
      (λ s of. shows s.spec.span (λ (c : Crate). crate_key code.Skipped c.place s.spec.span)
      (filter (is_skipped facts s) g.crates) key (λ c. refl) of) is

  pub unmatched_skip_named : (facts : chains.Facts) → Contains (unmatched_skip_keys p g facts) key
      → IsTrue (is_some (skip_at p key.entry))
  unfolding unmatched_skip_keys key_of
  unmatched_skip_named facts is = named_map (λ (s : Entry). s.spec.span)
      (λ (s : Entry). unused_key code.UnmatchedSkip s.spec.span) (λ s. not (is_hit_skip g facts s)) p.skip key
      (λ s. refl) is

  pub unnecessary_skip_named : (facts : chains.Facts) → Contains (unnecessary_skip_keys p g facts) key
      → IsTrue (is_some (skip_at p key.entry))
  unfolding unnecessary_skip_keys key_of
  unnecessary_skip_named facts is = named_map (λ (s : Entry). s.spec.span)
      (λ (s : Entry). unused_key code.UnnecessarySkip s.spec.span) (is_needless p g facts) p.skip key (λ s. refl) is

  pub skipped_by_root_named : (facts : chains.Facts) → Contains (skipped_by_root_keys p g facts) key
      → IsTrue (is_some (root_at p key.entry))
  unfolding skipped_by_root_keys_of key_of
  skipped_by_root_named facts is = named_flat (λ (t : Root). t.spec.span) (skipped_by_root_keys_of p g facts)
      p.skip_tree key
      (λ t of. shows t.spec.span (λ (c : Crate). crate_key code.SkippedByRoot c.place t.spec.span)
      (filter (is_skipped_by_root p facts t) g.crates) key (λ c. refl) of) is

  -- ---- entries on features

  pub mismatched_named : Contains (mismatched_keys p g) key → IsTrue (is_some (feature_entry_at p key.entry))
  unfolding mismatched_keys_of key_of
  mismatched_named is = named_flat (λ (e : FeatureEntry). e.spec.span) (mismatched_keys_of p g) p.features key
      (λ e of. shows e.spec.span (λ (c : Crate). crate_key code.ExactFeaturesMismatch c.place e.spec.span)
      (filter (is_mismatch_reported p g e) g.crates) key (λ c. refl) of) is

  pub feature_not_allowed_named : IsFeatureNotAllowed p g key → IsTrue (is_some (feature_entry_at p key.entry))
  unfolding not_allowed_feature_key key_of
  feature_not_allowed_named is = named_by (λ (e : FeatureEntry). e.spec.span) p.features is.entry key is.written
      (ap (λ (k : Key). k.entry) is.is)

  -- ---- features

  -- a feature that an entry lists, and that a key shows
  record IsListed : Type 0 where
    pub entry : FeatureEntry
    pub written : Contains p.features entry
    pub feature : SpannedText
    pub listed : Contains (features_of entry) feature
    pub at : key.entry ≡ feature.span

  listed_named : IsListed → IsTrue (is_some (find (λ w. same_span w.span key.entry) (flat_map features_of p.features)))
  listed_named is = named_by (λ (w : SpannedText). w.span) (flat_map features_of p.features) is.feature key
      (Contains-flat_map features_of p.features is.entry is.feature is.written is.listed) is.at

  banned_listed : (e : FeatureEntry) (c : Crate) (b : Bool) (w : SpannedText)
      → Contains (if b then [] else filter (λ w. is_enabled c w.value) e.deny) w → Contains (features_of e) w
  banned_listed e c true w is = absurd (no_member w is)
  banned_listed e c false w is = Contains-append_right e.allow.value e.deny w
      (filtered (λ w. is_enabled c w.value) e.deny w is)

  pub feature_banned_named : Contains (feature_banned_keys p g) key
      → IsTrue (is_some (find (λ w. same_span w.span key.entry) (flat_map features_of p.features)))
  unfolding feature_banned_keys_of feature_banned_keys_at banned_features key_of
  feature_banned_named is =
      let by_entry = Contains-from_flat_map (feature_banned_keys_of g) p.features key is in
      let e = by_entry.from in
      let by_crate = Contains-from_flat_map (feature_banned_keys_at e) (matched_by g e) key by_entry.of in
      let c = by_crate.from in
      let by_feature = from_contains_map (λ (w : SpannedText). crate_key code.FeatureBanned c.place w.span)
      (banned_features e c) key by_crate.of in
      listed_named (record {
        entry = e;
        written = by_entry.member;
        feature = by_feature.0;
        listed = banned_listed e c e.exact.value by_feature.0 by_feature.1;
        at = sym (ap (λ (k : Key). k.entry) by_feature.2);
      })

  unknown_listed : (e : FeatureEntry) (c : Crate) (b : Bool) (w : SpannedText)
      → Contains (if b then filter (λ w. not (has_feature c w.value)) (features_of e) else []) w
      → Contains (features_of e) w
  unknown_listed e c true w is = filtered (λ w. not (has_feature c w.value)) (features_of e) w is
  unknown_listed e c false w is = absurd (no_member w is)

  pub unknown_feature_named : Contains (unknown_feature_keys p g) key
      → IsTrue (is_some (find (λ w. same_span w.span key.entry) (flat_map features_of p.features)))
  unfolding unknown_feature_keys_of unknown_feature_keys_at unknown_features key_of
  unknown_feature_named is =
      let by_entry = Contains-from_flat_map (unknown_feature_keys_of p g) p.features key is in
      let e = by_entry.from in
      let by_crate = Contains-from_flat_map (unknown_feature_keys_at p g e) (matched_by g e) key by_entry.of in
      let c = by_crate.from in
      let by_feature = from_contains_map (λ (w : SpannedText). crate_key code.UnknownFeature c.place w.span)
      (unknown_features p g e c) key by_crate.of in
      listed_named (record {
        entry = e;
        written = by_entry.member;
        feature = by_feature.0;
        listed = unknown_listed e c (reports_unknown p g e c) by_feature.0 by_feature.1;
        at = sym (ap (λ (k : Key). k.entry) by_feature.2);
      })

-- ---- the workspace's entries

pub unused_named : (p : Policy) (view : View) (key : Key) → Contains (unused_entry_keys p view) key
    → IsTrue (is_some (unused_at view key.entry))
unfolding unused_entry_keys_by unused_entry_key key_of
unused_named p view key is = by_sharing p.sharing is
  where
    by_test : (b : Bool) → Contains (if b then map unused_entry_key view.unused else []) key
        → IsTrue (is_some (unused_at view key.entry))
    by_test false of = absurd (no_member key of)
    by_test true of =
        let from = from_contains_map unused_entry_key view.unused key of in
        named_by (λ (e : WorkspaceEntry). e.key) view.unused from.0 key from.1 (sym (ap (λ (k : Key). k.entry) from.2))

    by_sharing : (o : Option Sharing) → Contains (option_map_or (unused_entry_keys_by view) o []) key
        → IsTrue (is_some (unused_at view key.entry))
    by_sharing None of = absurd (no_member key of)
    by_sharing (Some s) of = by_test (is_active s.unused) of
