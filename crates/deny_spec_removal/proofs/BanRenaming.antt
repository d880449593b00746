-- The keys of bans, wrappers and the allow list where spans of the policy are replaced.
use Rattle.std.proofs.Common.{◌≡◌, ◌==◌, ◌&&◌, ◌∙◌, ℕ, Bool, None, Option, Some, ap, length, map, not, refl}
use Rattle.std.specs.Prelude.{Contains, filter, is_none, option_and_then, option_map}
use Rattle.std.specs.List.{flat_map, list_all, list_any}
use Rattle.std.proofs.lemmas.List.{length-map}
use Rattle.deny_base_lists.proofs.Agreement.{filter_on, find_on, list_any_on}
use Rattle.deny_base.specs.declared.code.Code.TheVariants as code
use Rattle.deny_base.specs.declared.entry.EntryKind.TheVariants.{Wrapper}
use Rattle.deny_base.specs.declared.entry.Witness.TheVariants.{Parent}
use Rattle.deny_base.specs.declared.span.Span.{Span}
use Rattle.deny_spec.specs.Hits.{hit_of, wrapper_hit, wrapper_hit_at}
use Rattle.deny_spec.specs.Bans.{allowed_by_wrapper_keys_at, allowed_by_wrapper_keys_of, allowed_keys_of}
use Rattle.deny_spec.specs.Bans.{banned_keys_of, concerns, has_wrappers, is_banned, is_exempt, is_waived}
use Rattle.deny_spec.specs.Bans.{is_not_allowed, is_wrapped, is_wrapper, not_allowed_keys, unmatched_wrapper_keys_at}
use Rattle.deny_spec.specs.Bans.{unmatched_wrapper_keys_of, wrapper_of}
use Rattle.deny_spec.specs.Graph.{Crate, Graph, dependents, kid_of}
use Rattle.deny_spec.specs.Keys.{crate_key, dependent_key, key_of, no_span, unused_key}
use Rattle.deny_spec.specs.Match.{matches}
use Rattle.deny_spec.specs.Policy as policy
use Rattle.deny_spec.specs.Policy.{AllowEntry, Ban, Policy}
use Rattle.deny_spec.specs.Wrappers.{hits_wrapper, is_hit_wrapper, unused_wrapper_keys_of, wraps}
use Rattle.deny_spec_report.specs.AllowList.{allowed_keys}
use Rattle.deny_spec_report.specs.Bans.{allowed_by_wrapper_keys, banned_keys, bears_name, unmatched_wrapper_keys}
use Rattle.deny_spec_report.specs.FirstMatch.{first_of}
use Rattle.deny_spec_report.specs.Wrappers.{unused_wrapper_keys, wrapper_hits_of}
use Rattle.deny_spec_report.proofs.Kept.{list_all_on}
use Rattle.deny_spec_removal.specs.Renaming.{KeepsApart, Renaming, renamed, renamed_allow, renamed_ban, renamed_hit}
use Rattle.deny_spec_removal.specs.Renaming.{renamed_text}
use Rattle.deny_spec_removal.proofs.Anew.{and_then_anew, any_anew, filter_map_anew, flat_map_alike, flat_map_anew}
use Rattle.deny_spec_removal.proofs.Anew.{none_anew, spanned, reported_alike, reported_anew}
use Rattle.deny_spec_removal.proofs.FirstMatch.{first_anew, is_first_renamed}

parent_hit_anew : (r : Renaming) (span : Span) (c : Crate) (o : Option Crate)
    → option_map (λ parent. hit_of Wrapper (r.span span) (Parent (kid_of c) (kid_of parent))) o
    ≡ option_map (renamed_hit r) (option_map (λ parent. hit_of Wrapper span (Parent (kid_of c) (kid_of parent))) o)
parent_hit_anew r span c None = refl
parent_hit_anew r span c (Some parent) = refl

module _ (r : Renaming) (p : Policy) (g : Graph) where
  -- ---- bans

  concerned : (ban : Ban) (c : Crate) → concerns (renamed r p) g (renamed_ban r ban) c ≡ concerns p g ban c
  unfolding concerns is_exempt matches
  concerned ban c = refl

  wrapped_by : (ban : Ban) (parent : Crate)
      → is_wrapper (map (renamed_text r) ban.wrappers) parent ≡ is_wrapper ban.wrappers parent
  unfolding is_wrapper wrapper_of
  wrapped_by ban parent =
      ap (λ (o : Option policy.SpannedText). not (is_none o))
      (first_anew bears_name (renamed_text r) ban.wrappers parent (λ w is. refl))
      ∙ ap (λ b. not b) (none_anew (renamed_text r) (first_of bears_name ban.wrappers parent))

  wrappers_there : (ban : Ban) → has_wrappers (renamed_ban r ban) ≡ has_wrappers ban
  unfolding has_wrappers
  wrappers_there ban = ap (λ (n : ℕ). not (n == 0)) (length-map ban.wrappers (renamed_text r))

  waived_same : (ban : Ban) (c : Crate) → is_waived g (renamed_ban r ban) c ≡ is_waived g ban c
  unfolding is_waived
  waived_same ban c =
      ap (λ b. b && list_all (is_wrapper (map (renamed_text r) ban.wrappers)) (dependents g c.place))
      (wrappers_there ban)
      ∙ ap (λ b. has_wrappers ban && b) (list_all_on (is_wrapper (map (renamed_text r) ban.wrappers))
      (is_wrapper ban.wrappers) (dependents g c.place) (λ parent is. wrapped_by ban parent))

  banned_same : (ban : Ban) (c : Crate) → is_banned (renamed r p) g (renamed_ban r ban) c ≡ is_banned p g ban c
  unfolding is_banned
  banned_same ban c =
      ap (λ b. b && not (is_waived g (renamed_ban r ban) c)) (concerned ban c)
      ∙ ap (λ b. concerns p g ban c && not b) (waived_same ban c)

  banned_of_anew : (ban : Ban) → banned_keys_of (renamed r p) g (renamed_ban r ban) ≡ map (spanned r)
      (banned_keys_of p g ban)
  unfolding banned_keys_of key_of
  banned_of_anew ban = reported_alike (is_banned (renamed r p) g (renamed_ban r ban)) (is_banned p g ban)
      (λ c. crate_key code.Banned c.place (r.span ban.spec.span)) (λ c. crate_key code.Banned c.place ban.spec.span)
      (spanned r) g.crates (λ c known. banned_same ban c) (λ c. refl)

  pub banned_anew : banned_keys (renamed r p) g ≡ map (spanned r) (banned_keys p g)
  banned_anew = flat_map_anew (banned_keys_of (renamed r p) g) (banned_keys_of p g) (renamed_ban r) (spanned r) p.deny
      (λ ban written. banned_of_anew ban)

  -- ---- dependents

  wrapped_same : (ban : Ban) (c : Crate) → is_wrapped (renamed r p) g (renamed_ban r ban) c ≡ is_wrapped p g ban c
  unfolding is_wrapped
  wrapped_same ban c =
      ap (λ b. b && concerns (renamed r p) g (renamed_ban r ban) c) (wrappers_there ban)
      ∙ ap (λ b. has_wrappers ban && b) (concerned ban c)

  allowed_at_anew : (ban : Ban) (c : Crate) → allowed_by_wrapper_keys_at g (renamed_ban r ban) c ≡ map (spanned r)
      (allowed_by_wrapper_keys_at g ban c)
  unfolding allowed_by_wrapper_keys_at key_of
  allowed_at_anew ban c = reported_alike (is_wrapper (map (renamed_text r) ban.wrappers)) (is_wrapper ban.wrappers)
      (λ parent. dependent_key code.AllowedByWrapper c.place (r.span ban.spec.span) parent.place)
      (λ parent. dependent_key code.AllowedByWrapper c.place ban.spec.span parent.place)
      (spanned r) (dependents g c.place) (λ parent is. wrapped_by ban parent) (λ parent. refl)

  allowed_of_anew : (ban : Ban) → allowed_by_wrapper_keys_of (renamed r p) g (renamed_ban r ban) ≡ map (spanned r)
      (allowed_by_wrapper_keys_of p g ban)
  unfolding allowed_by_wrapper_keys_of
  allowed_of_anew ban =
      ap (flat_map (allowed_by_wrapper_keys_at g (renamed_ban r ban)))
      (filter_on (is_wrapped (renamed r p) g (renamed_ban r ban)) (is_wrapped p g ban) g.crates
      (λ c known. wrapped_same ban c))
      ∙ flat_map_alike (allowed_by_wrapper_keys_at g (renamed_ban r ban)) (allowed_by_wrapper_keys_at g ban) (spanned r)
      (filter (is_wrapped p g ban) g.crates) (λ c is. allowed_at_anew ban c)

  pub allowed_by_anew : allowed_by_wrapper_keys (renamed r p) g ≡ map (spanned r) (allowed_by_wrapper_keys p g)
  allowed_by_anew = flat_map_anew (allowed_by_wrapper_keys_of (renamed r p) g) (allowed_by_wrapper_keys_of p g)
      (renamed_ban r) (spanned r) p.deny (λ ban written. allowed_of_anew ban)

  unmatched_at_anew : (ban : Ban) (c : Crate) → unmatched_wrapper_keys_at g (renamed_ban r ban) c ≡ map (spanned r)
      (unmatched_wrapper_keys_at g ban c)
  unfolding unmatched_wrapper_keys_at key_of
  unmatched_at_anew ban c = reported_alike (λ parent. not (is_wrapper (map (renamed_text r) ban.wrappers) parent))
      (λ parent. not (is_wrapper ban.wrappers parent))
      (λ parent. dependent_key code.UnmatchedWrapper c.place (r.span ban.spec.span) parent.place)
      (λ parent. dependent_key code.UnmatchedWrapper c.place ban.spec.span parent.place)
      (spanned r) (dependents g c.place) (λ parent is. ap (λ b. not b) (wrapped_by ban parent)) (λ parent. refl)

  unmatched_of_anew : (ban : Ban) → unmatched_wrapper_keys_of (renamed r p) g (renamed_ban r ban) ≡ map (spanned r)
      (unmatched_wrapper_keys_of p g ban)
  unfolding unmatched_wrapper_keys_of
  unmatched_of_anew ban =
      ap (flat_map (unmatched_wrapper_keys_at g (renamed_ban r ban)))
      (filter_on (is_wrapped (renamed r p) g (renamed_ban r ban)) (is_wrapped p g ban) g.crates
      (λ c known. wrapped_same ban c))
      ∙ flat_map_alike (unmatched_wrapper_keys_at g (renamed_ban r ban)) (unmatched_wrapper_keys_at g ban) (spanned r)
      (filter (is_wrapped p g ban) g.crates) (λ c is. unmatched_at_anew ban c)

  pub unmatched_by_anew : unmatched_wrapper_keys (renamed r p) g ≡ map (spanned r) (unmatched_wrapper_keys p g)
  unmatched_by_anew = flat_map_anew (unmatched_wrapper_keys_of (renamed r p) g) (unmatched_wrapper_keys_of p g)
      (renamed_ban r) (spanned r) p.deny (λ ban written. unmatched_of_anew ban)

  -- ---- the allow list

  allowed_of_same : (e : AllowEntry) → allowed_keys_of g (renamed_allow r e) ≡ map (spanned r) (allowed_keys_of g e)
  unfolding allowed_keys_of key_of matches
  allowed_of_same e = reported_alike (matches e.spec) (matches e.spec)
      (λ c. crate_key code.Allowed c.place (r.span e.spec.span)) (λ c. crate_key code.Allowed c.place e.spec.span)
      (spanned r) g.crates (λ c known. refl) (λ c. refl)

  pub allowed_anew : allowed_keys (renamed r p) g ≡ map (spanned r) (allowed_keys p g)
  allowed_anew = flat_map_anew (allowed_keys_of g) (allowed_keys_of g) (renamed_allow r) (spanned r) p.allow
      (λ e written. allowed_of_same e)

  not_allowed_same : (c : Crate) → is_not_allowed (renamed r p) g c ≡ is_not_allowed p g c
  unfolding is_not_allowed is_exempt matches
  not_allowed_same c =
      ap (λ (n : ℕ). not (n == 0) && (not (list_any (λ e. matches e.spec c) (map (renamed_allow r) p.allow))
      && not (is_exempt p g c))) (length-map p.allow (renamed_allow r))
      ∙ ap (λ (b : Bool). not (length p.allow == 0) && (not b && not (is_exempt p g c)))
      (any_anew (λ e. matches e.spec c) (λ e. matches e.spec c) (renamed_allow r) p.allow (λ e is. refl))

  pub not_allowed_stay : not_allowed_keys (renamed r p) g ≡ not_allowed_keys p g
  unfolding not_allowed_keys
  not_allowed_stay = ap (map (λ (c : Crate). crate_key code.NotAllowed c.place no_span))
      (filter_on (is_not_allowed (renamed r p) g) (is_not_allowed p g) g.crates (λ c known. not_allowed_same c))

-- ---- wrappers

module _ (r : Renaming) (p : Policy) (g : Graph) (apart : KeepsApart r p) where
  pub wraps_same : (ban : Ban) (w : policy.SpannedText) (parent : Crate) → Contains p.deny ban → Contains ban.wrappers w
      → wraps (map (renamed_text r) ban.wrappers) (renamed_text r w) parent ≡ wraps ban.wrappers w parent
  unfolding wraps wrapper_of
  wraps_same ban w parent written within = is_first_renamed (λ (v : policy.SpannedText). v.span) bears_name
      (renamed_text r)
      ban.wrappers w parent (λ v is. refl) (λ v is same. apart.wrappers ban written v w is within same)
      (λ v same. ap r.span same)

  hits_same : (ban : Ban) (w : policy.SpannedText) (c : Crate) → Contains p.deny ban → Contains ban.wrappers w
      → hits_wrapper (renamed r p) g (renamed_ban r ban) (renamed_text r w) c ≡ hits_wrapper p g ban w c
  unfolding hits_wrapper
  hits_same ban w c written within =
      ap (λ b. b && list_any (wraps (map (renamed_text r) ban.wrappers) (renamed_text r w)) (dependents g c.place))
      (concerned r p g ban c)
      ∙ ap (λ b. concerns p g ban c && b)
      (list_any_on (wraps (map (renamed_text r) ban.wrappers) (renamed_text r w)) (wraps ban.wrappers w)
      (dependents g c.place) (λ parent is. wraps_same ban w parent written within))

  is_hit_same : (ban : Ban) (w : policy.SpannedText) → Contains p.deny ban → Contains ban.wrappers w
      → is_hit_wrapper (renamed r p) g (renamed_ban r ban) (renamed_text r w) ≡ is_hit_wrapper p g ban w
  unfolding is_hit_wrapper
  is_hit_same ban w written within =
      list_any_on (hits_wrapper (renamed r p) g (renamed_ban r ban) (renamed_text r w)) (hits_wrapper p g ban w)
      g.crates
      (λ c known. hits_same ban w c written within)

  unused_of_anew : (ban : Ban) → Contains p.deny ban → unused_wrapper_keys_of (renamed r p) g (renamed_ban r ban)
      ≡ map (spanned r) (unused_wrapper_keys_of p g ban)
  unfolding unused_wrapper_keys_of key_of
  unused_of_anew ban written = reported_anew (λ w. not (is_hit_wrapper (renamed r p) g (renamed_ban r ban) w))
      (λ w. not (is_hit_wrapper p g ban w)) (renamed_text r) (λ w. unused_key code.UnusedWrapper w.span)
      (λ w. unused_key code.UnusedWrapper w.span) (spanned r) ban.wrappers
      (λ w within. ap (λ b. not b) (is_hit_same ban w written within)) (λ w. refl)

  pub unused_anew : unused_wrapper_keys (renamed r p) g ≡ map (spanned r) (unused_wrapper_keys p g)
  unused_anew = flat_map_anew (unused_wrapper_keys_of (renamed r p) g) (unused_wrapper_keys_of p g) (renamed_ban r)
      (spanned r) p.deny (λ ban written. unused_of_anew ban written)

  -- ---- hits

  hit_at_anew : (ban : Ban) (w : policy.SpannedText) (c : Crate) → Contains p.deny ban → Contains ban.wrappers w
      → wrapper_hit_at g (renamed_ban r ban) (renamed_text r w) c
      ≡ option_map (renamed_hit r) (wrapper_hit_at g ban w c)
  unfolding wrapper_hit_at
  hit_at_anew ban w c written within =
      ap (option_map (λ (parent : Crate). hit_of Wrapper (r.span w.span) (Parent (kid_of c) (kid_of parent))))
      (find_on (wraps (map (renamed_text r) ban.wrappers) (renamed_text r w)) (wraps ban.wrappers w)
      (dependents g c.place) (λ parent is. wraps_same ban w parent written within))
      ∙ parent_hit_anew r w.span c _

  hit_anew : (ban : Ban) (w : policy.SpannedText) → Contains p.deny ban → Contains ban.wrappers w
      → wrapper_hit (renamed r p) g (renamed_ban r ban) (renamed_text r w)
      ≡ option_map (renamed_hit r) (wrapper_hit p g ban w)
  unfolding wrapper_hit
  hit_anew ban w written within =
      ap (option_and_then (wrapper_hit_at g (renamed_ban r ban) (renamed_text r w)))
      (find_on (hits_wrapper (renamed r p) g (renamed_ban r ban) (renamed_text r w)) (hits_wrapper p g ban w) g.crates
      (λ c known. hits_same ban w c written within))
      ∙ and_then_anew (wrapper_hit_at g (renamed_ban r ban) (renamed_text r w)) (wrapper_hit_at g ban w)
      (renamed_hit r) _ (λ c. hit_at_anew ban w c written within)

  hits_of_anew : (ban : Ban) → Contains p.deny ban → wrapper_hits_of (renamed r p) g (renamed_ban r ban)
      ≡ map (renamed_hit r) (wrapper_hits_of p g ban)
  hits_of_anew ban written = filter_map_anew (wrapper_hit (renamed r p) g (renamed_ban r ban)) (wrapper_hit p g ban)
      (renamed_text r) (renamed_hit r) ban.wrappers (λ w within. hit_anew ban w written within)

  pub wrapper_hits_anew : flat_map (wrapper_hits_of (renamed r p) g) (map (renamed_ban r) p.deny)
      ≡ map (renamed_hit r) (flat_map (wrapper_hits_of p g) p.deny)
  wrapper_hits_anew = flat_map_anew (wrapper_hits_of (renamed r p) g) (wrapper_hits_of p g) (renamed_ban r)
      (renamed_hit r) p.deny (λ ban written. hits_of_anew ban written)
