-- Wrappers that nothing hits can be taken out of a policy.
use Rattle.std.proofs.Common.{◌≡◌, ◌&&◌, ◌∙◌, ◌++◌, List, None, Option, Some, ap, false, map, not, refl, sym, true}
use Rattle.std.specs.Prelude.{Contains, filter, filter_map, option_and_then, option_map}
use Rattle.std.specs.List.{flat_map, list_all, list_any}
use Rattle.std.specs.Option.{option_map_or}
use Rattle.std.proofs.lemmas.Bool.{and_from, and_parts}
use Rattle.std.proofs.lemmas.List.Folds.{flat_map-map}
use Rattle.deny_base_lists.proofs.Agreement.{filter_map_on, filter_on, find_on, flat_map_on, found_on, list_any_on}
use Rattle.deny_base_lists.proofs.Members.{Contains-from_filter, any_from}
use Rattle.deny_base_lists.specs.Ascending.{Lists}
use Rattle.deny_base_lists.proofs.Finding.{found_member}
use Rattle.deny_base.specs.KeyOrder.{key_cmp}
use Rattle.deny_base.specs.declared.code.Code.TheVariants as code
use Rattle.deny_base.specs.declared.entry.EntryId.{EntryId}
use Rattle.deny_base.specs.declared.entry.EntryKind.TheVariants.{Wrapper}
use Rattle.deny_base.specs.declared.entry.Hit.{Hit}
use Rattle.deny_base.specs.declared.entry.Witness.TheVariants.{Parent}
use Rattle.deny_base.specs.declared.key.Key.{Key}
use Rattle.deny_spec.specs.Hits.{all_hits, hit_of, root_hit, skip_hit, wrapper_hit, wrapper_hit_at}
use Rattle.deny_spec.specs.Bans.{allowed_by_wrapper_keys_at}
use Rattle.deny_spec.specs.Bans.{allowed_by_wrapper_keys_of, banned_keys_of, concerns, has_wrappers, is_banned}
use Rattle.deny_spec.specs.Bans.{is_exempt, is_waived, is_wrapped, is_wrapper, unmatched_wrapper_keys_at}
use Rattle.deny_spec.specs.Bans.{unmatched_wrapper_keys_of, wrapper_of}
use Rattle.deny_spec.specs.Facts as chains
use Rattle.deny_spec.specs.Graph.{Crate, Graph, dependents, kid_of}
use Rattle.deny_spec.specs.Keys.{crate_key, dependent_key, key_of, unused_key}
use Rattle.deny_spec.specs.Policy as policy
use Rattle.deny_spec.specs.Policy.{Ban, Policy}
use Rattle.deny_spec.specs.Wrappers.{same_span, hits_wrapper, is_hit_wrapper, unused_wrapper_keys_of, wraps}
use Rattle.deny_spec.proofs.SpanLemmas.{same_span-itself}
use Rattle.deny_spec_report.specs.Bans.{allowed_by_wrapper_keys, banned_keys, bears_name, unmatched_wrapper_keys}
use Rattle.deny_spec_report.specs.Circumstances.{Circumstances}
use Rattle.deny_spec_report.specs.Facts.{Facts, AreFacts}
use Rattle.deny_spec_report.specs.FirstMatch.{first_of}
use Rattle.deny_spec_report.specs.Packages.{build_keys_in, bypass_hits_in}
use Rattle.deny_spec_report.specs.Holding.{Holds}
use Rattle.deny_spec_report.specs.StdReplacements.{ignore_hits_in}
use Rattle.deny_spec_report.specs.Wrappers.{unused_wrapper_keys, wrapper_hits_of}
use Rattle.deny_spec_report.proofs.Kept.{filter-flat_map, list_all_on, fails_if_gone, filter_map_kept, find_none_on}
use Rattle.deny_spec_report.proofs.Kept.{guarded}
use Rattle.deny_spec_report.proofs.Kept.{reported_kept}
use Rattle.deny_spec_removal.specs.Removal.{AreGone, cut, is_taken, stays_wrapper}
use Rattle.deny_spec_removal.specs.WrapperRemoval.{AreUnhitWrappers, without_wrappers, without_wrappers_in}
use Rattle.deny_spec_removal.proofs.FirstMatch.{first_stays, is_first_stays}
use Rattle.deny_spec_removal.proofs.FeatureRemoval.{features_hold}
use Rattle.deny_spec_removal.proofs.KeyParts.{part_listed, same_listed}
use Rattle.deny_spec_removal.proofs.ManifestRemoval.{asked_same, manifests_hold}
use Rattle.deny_spec_removal.proofs.OtherParts.{allow_list_holds, builds_hold, licences_hold, replacing_holds}
use Rattle.deny_spec_removal.proofs.OtherParts.{skips_hold}
use Rattle.deny_spec_removal.proofs.PolicyParts.{BansHold, PartsHold, listed_in_rest}

module _ (p : Policy) (g : Graph) (taken : List EntryId) (unhit : AreUnhitWrappers p g taken) where
  -- ---- at a crate that an entry concerns

  concerned : (ban : Ban) (c : Crate) → concerns (without_wrappers p taken) g (cut taken ban) c ≡ concerns p g ban c
  unfolding concerns is_exempt
  concerned ban c = refl

  -- the first wrapper with a dependent's name is hit
  first_is_hit : (ban : Ban) (c parent : Crate) (w : policy.SpannedText) → Contains g.crates c
      → concerns p g ban c ≡ true
      → Contains (dependents g c.place) parent
      → wrapper_of ban.wrappers parent ≡ Some w → is_hit_wrapper p g ban w ≡ true
  unfolding is_hit_wrapper hits_wrapper wraps wrapper_of
  first_is_hit ban c parent w known does_match is_parent is = any_from (hits_wrapper p g ban w) g.crates c known
      (and_from (concerns p g ban c) (list_any (wraps ban.wrappers w) (dependents g c.place)) does_match
      (any_from (wraps ban.wrappers w) (dependents g c.place) parent is_parent
      (ap (λ (o : Option policy.SpannedText). option_map_or (λ first. same_span first.span w.span) o false) is
      ∙ same_span-itself w.span)))

  first_stays_there : (ban : Ban) (c parent : Crate) (w : policy.SpannedText) → Contains p.deny ban
      → Contains g.crates c
      → concerns p g ban c ≡ true → Contains (dependents g c.place) parent
      → first_of bears_name ban.wrappers parent ≡ Some w → stays_wrapper taken w ≡ true
  unfolding wrapper_of
  first_stays_there ban c parent w written known does_match is_parent is =
      unhit.wrappers ban written w (found_member (λ v. bears_name v parent) ban.wrappers w is)
      (first_is_hit ban c parent w known does_match is_parent is)

  wrapper_stays : (ban : Ban) (c parent : Crate) → Contains p.deny ban → Contains g.crates c → concerns p g ban c ≡ true
      → Contains (dependents g c.place) parent
      → wrapper_of (cut taken ban).wrappers parent ≡ wrapper_of ban.wrappers parent
  unfolding wrapper_of
  wrapper_stays ban c parent written known does_match is_parent =
      first_stays bears_name (stays_wrapper taken) ban.wrappers parent
      (λ w is. first_stays_there ban c parent w written known does_match is_parent is)

  is_wrapper_stays : (ban : Ban) (c parent : Crate) → Contains p.deny ban → Contains g.crates c
      → concerns p g ban c ≡ true → Contains (dependents g c.place) parent
      → is_wrapper (cut taken ban).wrappers parent ≡ is_wrapper ban.wrappers parent
  unfolding is_wrapper
  is_wrapper_stays ban c parent written known does_match is_parent =
      rw (wrapper_stays ban c parent written known does_match is_parent) refl

  wraps_stays : (ban : Ban) (w : policy.SpannedText) (c parent : Crate) → Contains p.deny ban → Contains g.crates c
      → concerns p g ban c ≡ true → Contains (dependents g c.place) parent
      → wraps (cut taken ban).wrappers w parent ≡ wraps ban.wrappers w parent
  unfolding wraps wrapper_of
  wraps_stays ban w c parent written known does_match is_parent =
      is_first_stays (λ (v : policy.SpannedText). v.span) bears_name (stays_wrapper taken) ban.wrappers w parent
      (λ v is. first_stays_there ban c parent v written known does_match is_parent is)

  -- ---- bans

  waived_stays : (ban : Ban) (c : Crate) → Contains p.deny ban → Contains g.crates c → concerns p g ban c ≡ true
      → is_waived g (cut taken ban) c ≡ is_waived g ban c
  unfolding is_waived
  waived_stays ban c written known does_match =
      ap (λ b. b && list_all (is_wrapper (cut taken ban).wrappers) (dependents g c.place))
      (unhit.not_emptied ban written)
      ∙ ap (λ b. has_wrappers ban && b) (list_all_on (is_wrapper (cut taken ban).wrappers) (is_wrapper ban.wrappers)
      (dependents g c.place)
      (λ parent is. is_wrapper_stays ban c parent written known does_match is))

  banned_stays : (ban : Ban) (c : Crate) → Contains p.deny ban → Contains g.crates c
      → is_banned (without_wrappers p taken) g (cut taken ban) c ≡ is_banned p g ban c
  unfolding is_banned
  banned_stays ban c written known =
      ap (λ b. b && not (is_waived g (cut taken ban) c)) (concerned ban c)
      ∙ guarded (concerns p g ban c) (not (is_waived g (cut taken ban) c)) (not (is_waived g ban c))
      (λ does_match. ap (λ b. not b) (waived_stays ban c written known does_match))

  banned_of_stays : (ban : Ban) → Contains p.deny ban → banned_keys_of (without_wrappers p taken) g (cut taken ban) ≡
      banned_keys_of p g ban
  unfolding banned_keys_of
  banned_of_stays ban written = ap (map (λ (c : Crate). crate_key code.Banned c.place ban.spec.span))
      (filter_on (is_banned (without_wrappers p taken) g (cut taken ban)) (is_banned p g ban) g.crates
      (λ c known. banned_stays ban c written known))

  bans_stay : banned_keys (without_wrappers p taken) g ≡ banned_keys p g
  bans_stay = flat_map-map (banned_keys_of (without_wrappers p taken) g) (cut taken) p.deny
      ∙ flat_map_on (λ ban. banned_keys_of (without_wrappers p taken) g (cut taken ban)) (banned_keys_of p g) p.deny
      (λ ban written. banned_of_stays ban written)

  wrapped_stays : (ban : Ban) (c : Crate) → Contains p.deny ban
      → is_wrapped (without_wrappers p taken) g (cut taken ban) c ≡ is_wrapped p g ban c
  unfolding is_wrapped
  wrapped_stays ban c written =
      ap (λ b. b && concerns (without_wrappers p taken) g (cut taken ban) c) (unhit.not_emptied ban written)
      ∙ ap (λ b. has_wrappers ban && b) (concerned ban c)

  matches_if_wrapped : (ban : Ban) (c : Crate) → is_wrapped p g ban c ≡ true → concerns p g ban c ≡ true
  unfolding is_wrapped
  matches_if_wrapped ban c is = (and_parts (has_wrappers ban) (concerns p g ban c) is).1

  allowed_at_stays : (ban : Ban) (c : Crate) → Contains p.deny ban → Contains g.crates c → concerns p g ban c ≡ true
      → allowed_by_wrapper_keys_at g (cut taken ban) c ≡ allowed_by_wrapper_keys_at g ban c
  unfolding allowed_by_wrapper_keys_at
  allowed_at_stays ban c written known does_match =
      ap (map (λ (parent : Crate). dependent_key code.AllowedByWrapper c.place ban.spec.span parent.place))
      (filter_on (is_wrapper (cut taken ban).wrappers) (is_wrapper ban.wrappers) (dependents g c.place)
      (λ parent is. is_wrapper_stays ban c parent written known does_match is))

  unmatched_at_stays : (ban : Ban) (c : Crate) → Contains p.deny ban → Contains g.crates c → concerns p g ban c ≡ true
      → unmatched_wrapper_keys_at g (cut taken ban) c ≡ unmatched_wrapper_keys_at g ban c
  unfolding unmatched_wrapper_keys_at
  unmatched_at_stays ban c written known does_match = ap (map (λ (parent : Crate). dependent_key code.UnmatchedWrapper
      c.place ban.spec.span parent.place))
      (filter_on (λ parent. not (is_wrapper (cut taken ban).wrappers parent))
      (λ parent. not (is_wrapper ban.wrappers parent)) (dependents g c.place)
      (λ parent is. ap (λ b. not b) (is_wrapper_stays ban c parent written known does_match is)))

  allowed_of_stays : (ban : Ban) → Contains p.deny ban → allowed_by_wrapper_keys_of (without_wrappers p taken) g
      (cut taken ban) ≡ allowed_by_wrapper_keys_of p g ban
  unfolding allowed_by_wrapper_keys_of
  allowed_of_stays ban written =
      ap (flat_map (allowed_by_wrapper_keys_at g (cut taken ban)))
      (filter_on (is_wrapped (without_wrappers p taken) g (cut taken ban)) (is_wrapped p g ban) g.crates
      (λ c known. wrapped_stays ban c written))
      ∙ flat_map_on (allowed_by_wrapper_keys_at g (cut taken ban)) (allowed_by_wrapper_keys_at g ban)
      (filter (is_wrapped p g ban) g.crates)
      (λ c is. let kept = Contains-from_filter (is_wrapped p g ban) g.crates c is in allowed_at_stays ban c written
      kept.0 (matches_if_wrapped ban c kept.1))

  unmatched_of_stays : (ban : Ban) → Contains p.deny ban → unmatched_wrapper_keys_of (without_wrappers p taken) g
      (cut taken ban) ≡ unmatched_wrapper_keys_of p g ban
  unfolding unmatched_wrapper_keys_of
  unmatched_of_stays ban written =
      ap (flat_map (unmatched_wrapper_keys_at g (cut taken ban)))
      (filter_on (is_wrapped (without_wrappers p taken) g (cut taken ban)) (is_wrapped p g ban) g.crates
      (λ c known. wrapped_stays ban c written))
      ∙ flat_map_on (unmatched_wrapper_keys_at g (cut taken ban)) (unmatched_wrapper_keys_at g ban)
      (filter (is_wrapped p g ban) g.crates)
      (λ c is. let kept = Contains-from_filter (is_wrapped p g ban) g.crates c is in unmatched_at_stays ban c written
      kept.0 (matches_if_wrapped ban c kept.1))

  allowed_stay : allowed_by_wrapper_keys (without_wrappers p taken) g ≡ allowed_by_wrapper_keys p g
  allowed_stay = flat_map-map (allowed_by_wrapper_keys_of (without_wrappers p taken) g) (cut taken) p.deny
      ∙ flat_map_on (λ ban. allowed_by_wrapper_keys_of (without_wrappers p taken) g (cut taken ban))
      (allowed_by_wrapper_keys_of p g) p.deny (λ ban written. allowed_of_stays ban written)

  unmatched_stay : unmatched_wrapper_keys (without_wrappers p taken) g ≡ unmatched_wrapper_keys p g
  unmatched_stay = flat_map-map (unmatched_wrapper_keys_of (without_wrappers p taken) g) (cut taken) p.deny
      ∙ flat_map_on (λ ban. unmatched_wrapper_keys_of (without_wrappers p taken) g (cut taken ban))
      (unmatched_wrapper_keys_of p g) p.deny (λ ban written. unmatched_of_stays ban written)

  -- ---- wrappers

  hits_at_stays : (ban : Ban) (w : policy.SpannedText) (c : Crate) → Contains p.deny ban → Contains g.crates c
      → hits_wrapper (without_wrappers p taken) g (cut taken ban) w c ≡ hits_wrapper p g ban w c
  unfolding hits_wrapper
  hits_at_stays ban w c written known =
      ap (λ b. b && list_any (wraps (cut taken ban).wrappers w) (dependents g c.place)) (concerned ban c)
      ∙ guarded (concerns p g ban c) (list_any (wraps (cut taken ban).wrappers w) (dependents g c.place))
      (list_any (wraps ban.wrappers w) (dependents g c.place))
      (λ does_match. list_any_on (wraps (cut taken ban).wrappers w) (wraps ban.wrappers w) (dependents g c.place)
      (λ parent is. wraps_stays ban w c parent written known does_match is))

  is_hit_stays : (ban : Ban) (w : policy.SpannedText) → Contains p.deny ban
      → is_hit_wrapper (without_wrappers p taken) g (cut taken ban) w ≡ is_hit_wrapper p g ban w
  unfolding is_hit_wrapper
  is_hit_stays ban w written =
      list_any_on (hits_wrapper (without_wrappers p taken) g (cut taken ban) w) (hits_wrapper p g ban w) g.crates
      (λ c known. hits_at_stays ban w c written known)

  unused_of_part : (ban : Ban) → Contains p.deny ban
      → unused_wrapper_keys_of (without_wrappers p taken) g (cut taken ban) ≡ filter
      (λ key. not (is_taken taken Wrapper key.entry)) (unused_wrapper_keys_of p g ban)
  unfolding unused_wrapper_keys_of key_of
  unused_of_part ban written =
      ap (map (λ (w : policy.SpannedText). unused_key code.UnusedWrapper w.span))
      (filter_on (λ w. not (is_hit_wrapper (without_wrappers p taken) g (cut taken ban) w))
      (λ w. not (is_hit_wrapper p g ban w)) (filter (stays_wrapper taken) ban.wrappers)
      (λ w is. ap (λ b. not b) (is_hit_stays ban w written)))
      ∙ reported_kept (stays_wrapper taken) (λ w. not (is_hit_wrapper p g ban w))
      (λ w. unused_key code.UnusedWrapper w.span) (λ key. not (is_taken taken Wrapper key.entry)) ban.wrappers
      (λ w. refl)

  unused_part : unused_wrapper_keys (without_wrappers p taken) g
      ≡ filter (λ key. not (is_taken taken Wrapper key.entry)) (unused_wrapper_keys p g)
  unused_part = flat_map-map (unused_wrapper_keys_of (without_wrappers p taken) g) (cut taken) p.deny
      ∙ (flat_map_on (λ ban. unused_wrapper_keys_of (without_wrappers p taken) g (cut taken ban))
      (λ ban. filter (λ key. not (is_taken taken Wrapper key.entry)) (unused_wrapper_keys_of p g ban)) p.deny
      (λ ban written. unused_of_part ban written)
      ∙ sym (filter-flat_map (λ (key : Key). not (is_taken taken Wrapper key.entry)) (unused_wrapper_keys_of p g)
      p.deny))

  -- ---- hits

  matches_if_hit : (ban : Ban) (w : policy.SpannedText) (c : Crate) → hits_wrapper p g ban w c ≡ true
      → concerns p g ban c ≡ true
  unfolding hits_wrapper
  matches_if_hit ban w c is = (and_parts (concerns p g ban c) (list_any (wraps ban.wrappers w) (dependents g c.place))
      is).0

  hit_at_stays : (ban : Ban) (w : policy.SpannedText) (c : Crate) → Contains p.deny ban → Contains g.crates c
      → concerns p g ban c ≡ true
      → wrapper_hit_at g (cut taken ban) w c ≡ wrapper_hit_at g ban w c
  unfolding wrapper_hit_at
  hit_at_stays ban w c written known does_match = ap (option_map
      (λ (parent : Crate). hit_of Wrapper w.span (Parent (kid_of c) (kid_of parent))))
      (find_on (wraps (cut taken ban).wrappers w) (wraps ban.wrappers w) (dependents g c.place)
      (λ parent is. wraps_stays ban w c parent written known does_match is))

  hit_stays : (ban : Ban) (w : policy.SpannedText) → Contains p.deny ban
      → wrapper_hit (without_wrappers p taken) g (cut taken ban) w ≡ wrapper_hit p g ban w
  unfolding wrapper_hit
  hit_stays ban w written =
      ap (option_and_then (wrapper_hit_at g (cut taken ban) w))
      (find_on (hits_wrapper (without_wrappers p taken) g (cut taken ban) w) (hits_wrapper p g ban w) g.crates
      (λ c known. hits_at_stays ban w c written known))
      ∙ found_on (wrapper_hit_at g (cut taken ban) w) (wrapper_hit_at g ban w) (hits_wrapper p g ban w) g.crates
      (λ c known hits. hit_at_stays ban w c written known (matches_if_hit ban w c hits))

  no_hit : (ban : Ban) (w : policy.SpannedText) → is_hit_wrapper p g ban w ≡ false → wrapper_hit p g ban w ≡ None
  unfolding is_hit_wrapper wrapper_hit
  no_hit ban w none = ap (option_and_then (wrapper_hit_at g ban w))
      (find_none_on (hits_wrapper p g ban w) g.crates none)

  hits_of_stay : (ban : Ban) → Contains p.deny ban → wrapper_hits_of (without_wrappers p taken) g (cut taken ban) ≡
      wrapper_hits_of p g ban
  hits_of_stay ban written =
      filter_map_on (wrapper_hit (without_wrappers p taken) g (cut taken ban)) (wrapper_hit p g ban)
      (filter (stays_wrapper taken) ban.wrappers) (λ w is. hit_stays ban w written)
      ∙ filter_map_kept (stays_wrapper taken) (wrapper_hit p g ban) ban.wrappers
      (λ w within gone. no_hit ban w (fails_if_gone (stays_wrapper taken w) (is_hit_wrapper p g ban w)
      (unhit.wrappers ban written w within) gone))

  wrapper_hits_stay : flat_map (wrapper_hits_of (without_wrappers p taken) g) (map (cut taken) p.deny) ≡ flat_map
      (wrapper_hits_of p g) p.deny
  wrapper_hits_stay = flat_map-map (wrapper_hits_of (without_wrappers p taken) g) (cut taken) p.deny
      ∙ flat_map_on (λ ban. wrapper_hits_of (without_wrappers p taken) g (cut taken ban)) (wrapper_hits_of p g) p.deny
      (λ ban written. hits_of_stay ban written)

  hits_stay : (f : chains.Facts) → all_hits (without_wrappers p taken) g f ≡ all_hits p g f
  hits_stay f = ap (λ (hits : List Hit). filter_map (skip_hit g f) p.skip ++
      (filter_map (root_hit g) p.skip_tree ++ hits)) wrapper_hits_stay

-- ---- part by part

module _ (c : Circumstances) (facts : Facts) (taken : List EntryId) (unhit : AreUnhitWrappers c.policy c.graph taken)
    (key : Key) where
  abbrev bans : List Ban
  bans = map (cut taken) c.policy.deny

  bans_still_hold : BansHold c (without_wrappers_in c taken) facts taken key
  bans_still_hold =
      let rest : Policy = without_wrappers c.policy taken in
      record {
        banned = λ of. same_listed (banned_keys c.policy c.graph) (banned_keys rest c.graph) key false refl
            (bans_stay c.policy c.graph taken unhit);
        allowed_by_wrapper = λ of. same_listed (allowed_by_wrapper_keys c.policy c.graph)
            (allowed_by_wrapper_keys rest c.graph) key false refl (allowed_stay c.policy c.graph taken unhit);
        unmatched_wrapper = λ of. same_listed (unmatched_wrapper_keys c.policy c.graph)
            (unmatched_wrapper_keys rest c.graph) key false refl (unmatched_stay c.policy c.graph taken unhit);
        unused_wrapper = λ of. part_listed (λ k. is_taken taken Wrapper k.entry)
            (unused_wrapper_keys c.policy c.graph) (unused_wrapper_keys rest c.graph) key
            (unused_part c.policy c.graph taken unhit);
      }

  parts_hold : PartsHold c (without_wrappers_in c taken) facts taken key
  parts_hold =
      let p = c.policy in
      record {
        deprecated = λ of. (λ unnamed is. is, λ is. (is, refl));
        expired = λ of. (λ unnamed is. is, λ is. (is, refl));
        bans = bans_still_hold;
        allow_list = allow_list_holds c facts taken key bans p.skip p.skip_tree p.replacing c.licensing c.building;
        skips = skips_hold c facts taken key bans p.replacing c.licensing c.building (unhit.no_skip key.entry)
            (unhit.no_root key.entry);
        features = features_hold c facts taken key bans p.skip p.skip_tree p.replacing c.licensing c.building
            (same_listed (build_keys_in c facts) (build_keys_in c facts) key false refl refl);
        manifests = manifests_hold c facts bans p.skip p.skip_tree p.replacing
            (λ k known. asked_same p facts.chains bans p.replacing k) taken key c.licensing c.building;
        replacing = replacing_holds c facts taken key bans p.skip p.skip_tree c.licensing c.building
            (unhit.no_ignore key.entry);
        builds = builds_hold c facts taken key bans p.skip p.skip_tree p.replacing c.licensing unhit.no_bypass;
        licences = licences_hold c facts taken key bans p.skip p.skip_tree p.replacing c.building unhit.no_licence;
      }

-- ---- all together

facts_hold : (c : Circumstances) (facts : Facts) (taken : List EntryId) → AreFacts c facts
    → AreFacts (without_wrappers_in c taken) facts
facts_hold c facts taken are = record {
  chains = record { counts = are.chains.counts; in_tree = are.chains.in_tree };
  reached = are.reached;
}

pub wrappers_gone : (c : Circumstances) (facts : Facts) (taken : List EntryId) (keys : List Key) → AreFacts c facts
    → AreUnhitWrappers c.policy c.graph taken
    → Lists key_cmp (Holds c facts) keys → AreGone c (without_wrappers_in c taken) facts taken keys
wrappers_gone c facts taken keys are unhit listed = record {
  facts_hold = facts_hold c facts taken are;
  listed = listed_in_rest c (without_wrappers_in c taken) facts taken keys
      (λ key. parts_hold c facts taken unhit key) listed;
  hits = ap (λ (hits : List Hit). hits ++ (ignore_hits_in c ++ bypass_hits_in c facts))
      (hits_stay c.policy c.graph taken unhit facts.chains);
  licence_hits = λ counts reports. refl;
}
