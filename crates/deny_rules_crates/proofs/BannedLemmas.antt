-- The keys of a ban are those that the code adds.
use Rattle.std.proofs.Common.{◌≡◌, ◌++◌, ℕ, Bool, true, false, not, List, [], ◌∷◌, Contains, Option, Some, None, filter}
use Rattle.std.proofs.Common.{length, map, refl, sym, ap, ◌∙◌, subst, inl, inr, append_assoc, arith}
use Rattle.std.specs.Prelude.{◌&&◌, ◌==◌, option_map}
use Rattle.std.specs.List.{flat_map, list_all, list_any}
use Rattle.std.specs.Option.{option_map_or}
use Rattle.std.proofs.Math.Path.{fun_ext}
use Rattle.std.proofs.lemmas.Bool.{and_from, and_parts, cases_Bool, eqb-true, false≢true, ne_eqb, not-false}
use Rattle.std.proofs.lemmas.Bool.{not_from_false, not-true}
use Rattle.std.proofs.lemmas.List.{append-nil}
use Rattle.std.proofs.lemmas.List.Elements.{Contains-append_cases, Contains-append_left, Contains-append_right}
use Rattle.std.proofs.lemmas.List.Elements.{filter_agree}
use Rattle.std.proofs.lemmas.Simd.{map-map}
use Rattle.deny_base_lists.specs.Ascending.{Adds, Lists}
use Rattle.deny_base.specs.KeyOrder.{span_cmp}
use Rattle.deny_base_lists.specs.TextMap.{TextFinMap}
use Rattle.deny_base.specs.declared.code.Code.TheVariants.{AllowedByWrapper, Banned, UnmatchedWrapper, UnusedWrapper}
use Rattle.deny_base.specs.declared.key.Key.{Key}
use Rattle.deny_base.specs.declared.span.Span.{Span}
use Rattle.deny_spec.specs.Bans.{allowed_by_wrapper_keys_at, allowed_by_wrapper_keys_of, banned_keys_of, concerns}
use Rattle.deny_spec.specs.Bans.{has_wrappers, is_banned, is_waived, is_wrapped, is_wrapper, unmatched_wrapper_keys_at}
use Rattle.deny_spec.specs.Bans.{unmatched_wrapper_keys_of, wrapper_of}
use Rattle.deny_spec.specs.Graph.{Crate, Graph, dependents}
use Rattle.deny_spec.specs.Keys.{crate_key, dependent_key, unused_key}
use Rattle.deny_spec.specs.Policy.{Ban, Policy, SpannedText}
use Rattle.deny_spec.specs.Wrappers.{hits_wrapper, is_hit_wrapper, same_span, unused_wrapper_keys_of, wraps}
use Rattle.deny_rules_match.specs.Wrappers.{AreFirstSpans, span_of}
use Rattle.deny_rules_crates.specs.private.Banned.{hits_at, is_hit, is_waived_at, keys_of_ban}
use Rattle.deny_rules_crates.specs.private.Banned.{reported_code, reported_key, reported_keys_at}
use Rattle.deny_base_lists.proofs.Adding.{adds_both, adds_list, adds_same}
use Rattle.deny_base_lists.proofs.Filters.{filter-all, filter-filter, filter-map, filter-none}
use Rattle.deny_rules_match.proofs.WrapperLemmas.{has-wrapper, span-wrapper}
use Rattle.deny_base_lists.proofs.Members.{Contains-filter, Contains-filter_map, Contains-flat_map}
use Rattle.deny_base_lists.proofs.Members.{Contains-from_filter, Contains-from_flat_map, Contains-from_map, any_from}
use Rattle.deny_base_lists.proofs.Members.{any_passes, contains_map, from_filter_map}
use Rattle.deny_rules_match.specs.Matches.{places_concerned}
use Rattle.deny_base_lists.proofs.Booleans.{tests_agree}

pub has_none : (ban : Ban) → length ban.wrappers ≡ 0 → has_wrappers ban ≡ false
unfolding has_wrappers
has_none ban none = ap (λ n. not (n == 0)) none

pub has_some : (ban : Ban) → (length ban.wrappers ≡ 0 → ⊥) → has_wrappers ban ≡ true
unfolding has_wrappers
has_some ban some = ap not (ne_eqb (length ban.wrappers) 0 some)

module _ (p : Policy) (g : Graph) (ban : Ban) where
  banned-by : (q : Crate → Bool) → ((c : Crate) → (concerns p g ban c && q c) ≡ is_banned p g ban c)
      → map (λ place. crate_key Banned place ban.spec.span)
      (map (λ (c : Crate). c.place) (filter q (filter (concerns p g ban) g.crates))) ≡ banned_keys_of p g ban
  unfolding banned_keys_of
  banned-by q same =
      map-map (λ place. crate_key Banned place ban.spec.span) (λ (c : Crate). c.place)
      (filter q (filter (concerns p g ban) g.crates))
      ∙ ap (map (λ (c : Crate). crate_key Banned c.place ban.spec.span))
      (filter-filter (concerns p g ban) q g.crates
      ∙ filter_agree (λ c. concerns p g ban c && q c) (is_banned p g ban) same g.crates)

  -- a ban without wrappers
  module _ (bare : has_wrappers ban ≡ false) where
    bare_banned : (c : Crate) → (concerns p g ban c && true) ≡ is_banned p g ban c
    unfolding is_banned is_waived
    bare_banned c = ap (λ b. concerns p g ban c && not (b && list_all (is_wrapper ban.wrappers) (dependents g c.place)))
        (sym bare)

    not_wrapped : (c : Crate) → is_wrapped p g ban c ≡ false
    unfolding is_wrapped
    not_wrapped c = ap (λ b. b && concerns p g ban c) bare

    bare_keys : (ws : List SpannedText) → not (length ws == 0) ≡ false
        → map (λ (w : SpannedText). unused_key UnusedWrapper w.span) (filter (λ w. not (is_hit_wrapper p g ban w)) ws)
        ≡ []
    bare_keys [] none = refl
    bare_keys (w ∷ ws) none = absurd (omega (
      arith,
      eqb-true (length (w ∷ ws)) 0
          (not-false (length (w ∷ ws) == 0) none),
    ))

    no_unused : unused_wrapper_keys_of p g ban ≡ []
    unfolding unused_wrapper_keys_of has_wrappers
    no_unused = bare_keys ban.wrappers bare

    no_allowed : allowed_by_wrapper_keys_of p g ban ≡ []
    unfolding allowed_by_wrapper_keys_of
    no_allowed = ap (flat_map (allowed_by_wrapper_keys_at g ban))
        (filter-none (is_wrapped p g ban) g.crates not_wrapped)

    no_unmatched : unmatched_wrapper_keys_of p g ban ≡ []
    unfolding unmatched_wrapper_keys_of
    no_unmatched = ap (flat_map (unmatched_wrapper_keys_at g ban))
        (filter-none (is_wrapped p g ban) g.crates not_wrapped)

    pub bare_ban : (places : List ℕ) (old new : List Key) → places ≡ places_concerned p g ban
        → new ≡ old ++ map (λ place. crate_key Banned place ban.spec.span) places
        → Adds (Contains (keys_of_ban p g ban)) old new
    unfolding keys_of_ban places_concerned
    bare_ban places old new are added =
        let all : map (λ place. crate_key Banned place ban.spec.span) places ≡ banned_keys_of p g ban =
        ap (map (λ place. crate_key Banned place ban.spec.span))
        (are ∙ ap (map (λ (c : Crate). c.place)) (sym (filter-all (filter (concerns p g ban) g.crates))))
        ∙ banned-by (λ c. true) bare_banned in
        let rest : allowed_by_wrapper_keys_of p g ban ++
        (unmatched_wrapper_keys_of p g ban ++ unused_wrapper_keys_of p g ban) ≡ [] =
        ap (λ ks. ks ++ (unmatched_wrapper_keys_of p g ban ++ unused_wrapper_keys_of p g ban)) no_allowed
        ∙ (ap (λ ks. ks ++ unused_wrapper_keys_of p g ban) no_unmatched ∙ no_unused) in
        adds_list old new (banned_keys_of p g ban ++ (allowed_by_wrapper_keys_of p g ban ++
        (unmatched_wrapper_keys_of p g ban ++ unused_wrapper_keys_of p g ban)))
        (added ∙ (ap (λ ks. old ++ ks) all ∙ ap (λ ks. old ++ ks)
        (sym (ap (λ ks. banned_keys_of p g ban ++ ks) rest ∙ append-nil (banned_keys_of p g ban)))))

  -- a ban with wrappers
  module _ (wrapped : has_wrappers ban ≡ true) (spans : TextFinMap Span)
      (first : AreFirstSpans ban.wrappers spans) where
    waived-same : (c : Crate) → is_waived_at g spans c.place ≡ is_waived g ban c
    unfolding is_waived_at is_waived
    waived-same c =
        ap (λ t. list_all t (dependents g c.place)) (fun_ext (λ parent. has-wrapper ban.wrappers spans parent first))
        ∙ ap (λ b. b && list_all (is_wrapper ban.wrappers) (dependents g c.place)) (sym wrapped)

    banned-same : (c : Crate) → (concerns p g ban c && not (is_waived_at g spans c.place)) ≡ is_banned p g ban c
    unfolding is_banned
    banned-same c = ap (λ b. concerns p g ban c && not b) (waived-same c)

    banned_are : (places : List ℕ) → places ≡ places_concerned p g ban
        → map (λ place. crate_key Banned place ban.spec.span)
        (filter (λ place. not (is_waived_at g spans place)) places) ≡ banned_keys_of p g ban
    unfolding places_concerned
    banned_are places are =
        ap (λ ps. map (λ place. crate_key Banned place ban.spec.span)
        (filter (λ place. not (is_waived_at g spans place)) ps)) are
        ∙ (ap (map (λ place. crate_key Banned place ban.spec.span))
        (filter-map (λ place. not (is_waived_at g spans place)) (λ (c : Crate). c.place)
        (filter (concerns p g ban) g.crates))
        ∙ banned-by (λ c. not (is_waived_at g spans c.place)) banned-same)

    wrapped-same : (c : Crate) → concerns p g ban c ≡ is_wrapped p g ban c
    unfolding is_wrapped
    wrapped-same c = ap (λ b. b && concerns p g ban c) (sym wrapped)

    -- a crate at one of these places is concerned
    record IsConcerned (place : ℕ) : Type 0 where
      crate : Crate
      member : Contains (filter (is_wrapped p g ban) g.crates) crate
      holds : Contains g.crates crate
      concerned : concerns p g ban crate ≡ true
      at : crate.place ≡ place

    concerned_at : (places : List ℕ) (place : ℕ) → places ≡ places_concerned p g ban → Contains places place
        → IsConcerned place
    unfolding places_concerned
    concerned_at places place are is =
        let from = Contains-from_map (λ (c : Crate). c.place) (filter (concerns p g ban) g.crates) place
        (subst (λ (ps : List ℕ). Contains ps place) are is) in
        let kept = Contains-from_filter (concerns p g ban) g.crates from.from from.member in
        record {
          crate = from.from;
          member = Contains-filter (is_wrapped p g ban) g.crates from.from kept.0
              (sym (wrapped-same from.from) ∙ kept.1);
          holds = kept.0;
          concerned = kept.1;
          at = from.is;
        }

    place_of : (places : List ℕ) (c : Crate) → places ≡ places_concerned p g ban → Contains g.crates c
        → concerns p g ban c ≡ true → Contains places c.place
    unfolding places_concerned
    place_of places c are holds concerned =
        subst (λ (ps : List ℕ). Contains ps c.place) (sym are)
        (contains_map (λ (c : Crate). c.place) (filter (concerns p g ban) g.crates) c
        (Contains-filter (concerns p g ban) g.crates c holds concerned))

    reported-wrapper : (place : ℕ) (parent : Crate) → is_wrapper ban.wrappers parent ≡ true
        → reported_key spans ban.spec.span place parent
        ≡ dependent_key AllowedByWrapper place ban.spec.span parent.place
    unfolding reported_key reported_code
    reported-wrapper place parent is = ap (λ b. dependent_key (reported_code b) place ban.spec.span parent.place)
        (has-wrapper ban.wrappers spans parent first ∙ is)

    reported-other : (place : ℕ) (parent : Crate) → is_wrapper ban.wrappers parent ≡ false
        → reported_key spans ban.spec.span place parent
        ≡ dependent_key UnmatchedWrapper place ban.spec.span parent.place
    unfolding reported_key reported_code
    reported-other place parent is = ap (λ b. dependent_key (reported_code b) place ban.spec.span parent.place)
        (has-wrapper ban.wrappers spans parent first ∙ is)

    allowed_at : (c parent : Crate) → Contains (dependents g c.place) parent → is_wrapper ban.wrappers parent ≡ true
        → Contains (allowed_by_wrapper_keys_at g ban c) (reported_key spans ban.spec.span c.place parent)
    unfolding allowed_by_wrapper_keys_at
    allowed_at c parent is passes =
        subst (λ (k : Key). Contains (map (λ (q : Crate). dependent_key AllowedByWrapper c.place ban.spec.span q.place)
        (filter (is_wrapper ban.wrappers) (dependents g c.place))) k)
        (sym (reported-wrapper c.place parent passes))
        (contains_map (λ (q : Crate). dependent_key AllowedByWrapper c.place ban.spec.span q.place)
        (filter (is_wrapper ban.wrappers) (dependents g c.place)) parent
        (Contains-filter (is_wrapper ban.wrappers) (dependents g c.place) parent is passes))

    unmatched_at : (c parent : Crate) → Contains (dependents g c.place) parent → is_wrapper ban.wrappers parent ≡ false
        → Contains (unmatched_wrapper_keys_at g ban c) (reported_key spans ban.spec.span c.place parent)
    unfolding unmatched_wrapper_keys_at
    unmatched_at c parent is fails =
        subst (λ (k : Key). Contains (map (λ (q : Crate). dependent_key UnmatchedWrapper c.place ban.spec.span q.place)
        (filter (λ q. not (is_wrapper ban.wrappers q)) (dependents g c.place))) k)
        (sym (reported-other c.place parent fails))
        (contains_map (λ (q : Crate). dependent_key UnmatchedWrapper c.place ban.spec.span q.place)
        (filter (λ q. not (is_wrapper ban.wrappers q)) (dependents g c.place)) parent
        (Contains-filter (λ q. not (is_wrapper ban.wrappers q)) (dependents g c.place) parent is
        (not_from_false (is_wrapper ban.wrappers parent) fails)))

    -- the keys of the dependents of the crates at these places: of wrappers, and of the others
    reported_there : (places : List ℕ) (key : Key) → places ≡ places_concerned p g ban
        → Contains (flat_map (reported_keys_at g spans ban.spec.span) places) key
        → Contains (allowed_by_wrapper_keys_of p g ban ++ unmatched_wrapper_keys_of p g ban) key
    unfolding reported_keys_at allowed_by_wrapper_keys_of unmatched_wrapper_keys_of
    reported_there places key are is =
        let by = Contains-from_flat_map (reported_keys_at g spans ban.spec.span) places key is in
        let of = concerned_at places by.from are by.member in
        let made = Contains-from_map (reported_key spans ban.spec.span by.from) (dependents g by.from) key by.of in
        let parent : Contains (dependents g of.crate.place) made.from =
        subst (λ (n : ℕ). Contains (dependents g n) made.from) (sym of.at) made.member in
        let key_is : reported_key spans ban.spec.span of.crate.place made.from ≡ key =
        ap (λ n. reported_key spans ban.spec.span n made.from) of.at ∙ made.is in
        let wrapped_crates = filter (is_wrapped p g ban) g.crates in
        elim (cases_Bool (is_wrapper ban.wrappers made.from)) as
        (λ _. Contains (flat_map (allowed_by_wrapper_keys_at g ban) wrapped_crates ++ flat_map
        (unmatched_wrapper_keys_at g ban) wrapped_crates) key) [
          | inl passes ↦ Contains-append_left (flat_map (allowed_by_wrapper_keys_at g ban) wrapped_crates)
              (flat_map (unmatched_wrapper_keys_at g ban) wrapped_crates) key
              (Contains-flat_map (allowed_by_wrapper_keys_at g ban) wrapped_crates of.crate key of.member
              (subst (λ (k : Key). Contains (allowed_by_wrapper_keys_at g ban of.crate) k) key_is
              (allowed_at of.crate made.from parent passes)))
          | inr fails ↦ Contains-append_right (flat_map (allowed_by_wrapper_keys_at g ban) wrapped_crates)
              (flat_map (unmatched_wrapper_keys_at g ban) wrapped_crates) key
              (Contains-flat_map (unmatched_wrapper_keys_at g ban) wrapped_crates of.crate key of.member
              (subst (λ (k : Key). Contains (unmatched_wrapper_keys_at g ban of.crate) k) key_is
              (unmatched_at of.crate made.from parent fails)))
        ]

    -- each dependent of a crate that is concerned has a key
    reported_of : (places : List ℕ) (c parent : Crate) → places ≡ places_concerned p g ban
        → Contains (filter (is_wrapped p g ban) g.crates) c → Contains (dependents g c.place) parent
        → Contains (flat_map (reported_keys_at g spans ban.spec.span) places)
        (reported_key spans ban.spec.span c.place parent)
    unfolding reported_keys_at
    reported_of places c parent are is member =
        let kept = Contains-from_filter (is_wrapped p g ban) g.crates c is in
        Contains-flat_map (reported_keys_at g spans ban.spec.span) places c.place
        (reported_key spans ban.spec.span c.place parent)
        (place_of places c are kept.0 (wrapped-same c ∙ kept.1))
        (contains_map (reported_key spans ban.spec.span c.place) (dependents g c.place) parent member)

    reported_back : (places : List ℕ) (key : Key) → places ≡ places_concerned p g ban
        → Contains (allowed_by_wrapper_keys_of p g ban ++ unmatched_wrapper_keys_of p g ban) key
        → Contains (flat_map (reported_keys_at g spans ban.spec.span) places) key
    unfolding allowed_by_wrapper_keys_of unmatched_wrapper_keys_of allowed_by_wrapper_keys_at unmatched_wrapper_keys_at
    reported_back places key are is =
        let wrapped_crates = filter (is_wrapped p g ban) g.crates in
        elim (Contains-append_cases (flat_map (allowed_by_wrapper_keys_at g ban) wrapped_crates)
        (flat_map (unmatched_wrapper_keys_at g ban) wrapped_crates) key is) as
        (λ _. Contains (flat_map (reported_keys_at g spans ban.spec.span) places) key) [
          | inl here ↦
              let by = Contains-from_flat_map (allowed_by_wrapper_keys_at g ban) wrapped_crates key here in
              let made = Contains-from_map
              (λ (q : Crate). dependent_key AllowedByWrapper by.from.place ban.spec.span q.place)
              (filter (is_wrapper ban.wrappers) (dependents g by.from.place)) key by.of in
              let kept = Contains-from_filter (is_wrapper ban.wrappers)
              (dependents g by.from.place) made.from made.member in
              subst (λ (k : Key). Contains (flat_map (reported_keys_at g spans ban.spec.span) places) k)
              (reported-wrapper by.from.place made.from kept.1 ∙ made.is)
              (reported_of places by.from made.from are by.member kept.0)
          | inr there ↦
              let by = Contains-from_flat_map (unmatched_wrapper_keys_at g ban) wrapped_crates key there in
              let made = Contains-from_map
              (λ (q : Crate). dependent_key UnmatchedWrapper by.from.place ban.spec.span q.place)
              (filter (λ q. not (is_wrapper ban.wrappers q)) (dependents g by.from.place)) key by.of in
              let kept = Contains-from_filter (λ q. not (is_wrapper ban.wrappers q))
              (dependents g by.from.place) made.from made.member in
              subst (λ (k : Key). Contains (flat_map (reported_keys_at g spans ban.spec.span) places) k)
              (reported-other by.from.place made.from (not-true (is_wrapper ban.wrappers made.from) kept.1) ∙ made.is)
              (reported_of places by.from made.from are by.member kept.0)
        ]

    -- whether a dependent has this wrapper's span
    abbrev is_at : Span → Option Span → Bool
    is_at span o = option_map_or (λ r. same_span r span) o false

    is_at-map : (span : Span) (o : Option SpannedText)
        → option_map_or (λ (v : SpannedText). same_span v.span span) o false ≡ is_at span
        (option_map (λ (v : SpannedText). v.span) o)
    is_at-map span None = refl
    is_at-map span (Some v) = refl

    wraps-is : (w : SpannedText) (parent : Crate) → wraps ban.wrappers w parent ≡ is_at w.span (span_of spans parent)
    unfolding wraps
    wraps-is w parent = is_at-map w.span (wrapper_of ban.wrappers parent)
        ∙ ap (is_at w.span) (sym (span-wrapper ban.wrappers spans parent first))

    is_at_some : (span : Span) (o : Option Span) → is_at span o ≡ true
        → (r : Span) × (o ≡ Some r) × (same_span r span ≡ true)
    is_at_some span None is = absurd (false≢true is)
    is_at_some span (Some r) is = (r, refl, is)

    hit-same : (places : List ℕ) (hits : List Span) (w : SpannedText) → places ≡ places_concerned p g ban
        → Lists span_cmp (Contains (flat_map (hits_at g spans) places)) hits
        → is_hit hits w.span ≡ is_hit_wrapper p g ban w
    unfolding is_hit hits_at is_hit_wrapper hits_wrapper
    hit-same places hits w are listed = tests_agree _ _
        (λ hit.
        let one = any_passes (λ h. same_span h w.span) hits hit in
        let by = Contains-from_flat_map (hits_at g spans) places one.one (listed.sound one.one one.member) in
        let of = concerned_at places by.from are by.member in
        let given = from_filter_map (span_of spans) (dependents g by.from) one.one by.of in
        let parent : Contains (dependents g of.crate.place) given.from =
        subst (λ (n : ℕ). Contains (dependents g n) given.from) (sym of.at) given.member in
        let holds_for : wraps ban.wrappers w given.from ≡ true =
        wraps-is w given.from ∙ (ap (is_at w.span) given.gives ∙ one.passes) in
        any_from (hits_wrapper p g ban w) g.crates of.crate of.holds
        (and_from (concerns p g ban of.crate) (list_any (wraps ban.wrappers w)
        (dependents g of.crate.place)) of.concerned
        (any_from (wraps ban.wrappers w) (dependents g of.crate.place) given.from parent holds_for)))
        (λ hit.
        let one = any_passes (hits_wrapper p g ban w) g.crates hit in
        let parts = and_parts (concerns p g ban one.one) (list_any (wraps ban.wrappers w)
        (dependents g one.one.place)) one.passes in
        let parent = any_passes (wraps ban.wrappers w) (dependents g one.one.place) parts.1 in
        let span = is_at_some w.span (span_of spans parent.one) (sym (wraps-is w parent.one) ∙ parent.passes) in
        let hit_at : Contains (flat_map (hits_at g spans) places) span.0 = Contains-flat_map
        (hits_at g spans) places one.one.place span.0 (place_of places one.one are one.member parts.0)
        (Contains-filter_map (span_of spans) (dependents g one.one.place) parent.one span.0 parent.member span.1) in
        any_from (λ h. same_span h w.span) hits span.0 (listed.whole span.0 hit_at) span.2)

    unused_are : (places : List ℕ) (hits : List Span) → places ≡ places_concerned p g ban
        → Lists span_cmp (Contains (flat_map (hits_at g spans) places)) hits
        → map (λ (w : SpannedText). unused_key UnusedWrapper w.span)
        (filter (λ w. not (is_hit hits w.span)) ban.wrappers) ≡ unused_wrapper_keys_of p g ban
    unfolding unused_wrapper_keys_of
    unused_are places hits are listed =
        ap (map (λ (w : SpannedText). unused_key UnusedWrapper w.span))
        (filter_agree (λ (w : SpannedText). not (is_hit hits w.span)) (λ w. not (is_hit_wrapper p g ban w))
        (λ w. ap not (hit-same places hits w are listed)) ban.wrappers)

    pub wrapped_ban : (places : List ℕ) (hits : List Span) (old banned reported new : List Key)
        → places ≡ places_concerned p g ban
        → banned ≡ old ++ map (λ place. crate_key Banned place ban.spec.span)
        (filter (λ place. not (is_waived_at g spans place)) places)
        → Adds (Contains (flat_map (reported_keys_at g spans ban.spec.span) places)) banned reported
        → Lists span_cmp (Contains (flat_map (hits_at g spans) places)) hits
        → new ≡ reported ++ map (λ (w : SpannedText). unused_key UnusedWrapper w.span)
        (filter (λ w. not (is_hit hits w.span)) ban.wrappers)
        → Adds (Contains (keys_of_ban p g ban)) old new
    unfolding keys_of_ban
    wrapped_ban places hits old banned reported new are add_banned add_reported listed add_unused =
        let bs = banned_keys_of p g ban in
        let ws = allowed_by_wrapper_keys_of p g ban in
        let os = unmatched_wrapper_keys_of p g ban in
        let us = unused_wrapper_keys_of p g ban in
        let one : Adds (Contains bs) old banned = adds_list old banned bs (add_banned
        ∙ ap (λ ks. old ++ ks) (banned_are places are)) in
        let two : Adds (Contains (ws ++ os)) banned reported = adds_same
        (Contains (flat_map (reported_keys_at g spans ban.spec.span) places))
        (Contains (ws ++ os)) banned reported add_reported
        (λ key is. reported_there places key are is) (λ key is. reported_back places key are is) in
        let three : Adds (Contains us) reported new = adds_list reported new us (add_unused
        ∙ ap (λ ks. reported ++ ks) (unused_are places hits are listed)) in
        subst (λ (ks : List Key). Adds (Contains (bs ++ ks)) old new) (append_assoc ws os us)
        (adds_both bs ((ws ++ os) ++ us) old banned new one (adds_both (ws ++ os) us banned reported new two three))
