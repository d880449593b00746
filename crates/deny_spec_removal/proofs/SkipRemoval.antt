-- Skips and skipped trees that nothing hits can be taken out of a policy.
use Rattle.std.proofs.Common.{◌≡◌, ◌==◌, ◌&&◌, ◌||◌, ◌∙◌, ◌++◌, ℕ, Bool, List, None, [], ap, false, length, map, not}
use Rattle.std.proofs.Common.{refl, subst, sym, true}
use Rattle.std.specs.Prelude.{Contains, filter, filter_map, if◌then◌else◌, nat_le, option_map}
use Rattle.std.specs.List.{flat_map}
use Rattle.std.proofs.lemmas.Bool.{and_from, and_parts, and_right}
use Rattle.deny_base_lists.proofs.Agreement.{filter_on, flat_map_on}
use Rattle.deny_base_lists.proofs.Members.{Contains-from_filter, any_from, filtered}
use Rattle.deny_base_lists.specs.Ascending.{Lists}
use Rattle.deny_base.specs.KeyOrder.{key_cmp}
use Rattle.deny_base.specs.declared.code.Code.TheVariants as code
use Rattle.deny_base.specs.declared.entry.EntryId.{EntryId}
use Rattle.deny_base.specs.declared.entry.EntryKind.TheVariants.{Skip, SkipRoot}
use Rattle.deny_base.specs.declared.entry.Hit.{Hit}
use Rattle.deny_base.specs.declared.entry.Witness.TheVariants.{Krate}
use Rattle.deny_base.specs.declared.key.Key.{Key}
use Rattle.deny_spec.specs.Hits.{all_hits, hit_of, root_hit, skip_hit, wrapper_hit}
use Rattle.deny_spec.specs.Bans.{concerns, is_exempt}
use Rattle.deny_spec.specs.Crates.{is_git_source}
use Rattle.deny_spec.specs.Facts as chains
use Rattle.deny_spec.specs.Duplicates.{IsDuplicate, duplicate_level, is_denied_multiple}
use Rattle.deny_spec.specs.Graph.{Crate, Graph, kid_of}
use Rattle.deny_spec.specs.Groups.{group, has_name, is_in_group, is_internal, is_marked, is_in_skipped_tree}
use Rattle.deny_spec.specs.Groups.{may_duplicate, reduced}
use Rattle.deny_spec.specs.Groups.{unmarked}
use Rattle.deny_spec.specs.Keys.{crate_key, key_of, unused_key}
use Rattle.deny_spec.specs.Match.{matches}
use Rattle.deny_spec.specs.Policy.{Entry, Policy, Root}
use Rattle.deny_spec.specs.Skips.{has_root, is_skipped_by_root, skipped_by_root_keys_of, unmatched_skip_root_keys}
use Rattle.deny_spec.specs.Skips.{is_hit_skip, is_needless, is_skipped, skipped_keys_of, unmatched_skip_keys}
use Rattle.deny_spec.specs.Skips.{unnecessary_skip_keys}
use Rattle.deny_spec.specs.VersionOrder.{version_cmp}
use Rattle.deny_spec.specs.Wrappers.{hits_wrapper}
use Rattle.deny_spec_report.specs.Circumstances.{Circumstances}
use Rattle.deny_spec_report.specs.Facts.{Facts, AreFacts}
use Rattle.deny_spec_report.specs.Packages.{build_keys_in, bypass_hits_in}
use Rattle.deny_spec_report.specs.SkippedTrees.{skipped_by_root_keys}
use Rattle.deny_spec_report.specs.Skips.{skipped_keys}
use Rattle.deny_spec_report.specs.Holding.{Holds}
use Rattle.deny_spec_report.specs.StdReplacements.{ignore_hits_in}
use Rattle.deny_spec_report.specs.Wrappers.{wrapper_hits_of}
use Rattle.deny_spec_report.specs.Wildcards.{is_asked}
use Rattle.deny_spec_report.proofs.Kept.{fails_if_gone, filter_fails_on, filter_kept, filter_map_kept, filter_none_on}
use Rattle.deny_spec_report.proofs.Kept.{find_none_on, flat_map_kept, guarded, list_any_kept, reported_kept}
use Rattle.deny_spec_removal.specs.Removal.{AreGone, is_taken, stays_root, stays_skip}
use Rattle.deny_spec_removal.specs.SkipRemoval.{AreUnhit, without_skips, without_skips_in}
use Rattle.deny_spec_removal.proofs.FeatureRemoval.{features_hold}
use Rattle.deny_spec_removal.proofs.KeyParts.{part_listed, same_listed}
use Rattle.deny_spec_removal.proofs.ManifestRemoval.{manifests_hold}
use Rattle.deny_spec_removal.proofs.OtherParts.{allow_list_holds, bans_hold, builds_hold, licences_hold}
use Rattle.deny_spec_removal.proofs.OtherParts.{replacing_holds}
use Rattle.deny_spec_removal.proofs.PolicyParts.{PartsHold, SkipsHold, listed_in_rest}

wrapper_hits_stay : (p : Policy) (g : Graph) (taken : List EntryId)
    → flat_map (wrapper_hits_of (without_skips p taken) g) p.deny ≡ flat_map (wrapper_hits_of p g) p.deny
unfolding wrapper_hit hits_wrapper concerns is_exempt
wrapper_hits_stay p g taken = refl

-- a reduced group is a part of the group
in_part : (b : Bool) (crates : List Crate) (test : Crate → Bool) (k : Crate)
    → Contains (if b then crates else filter test crates) k → Contains crates k
in_part true crates test k is = is
in_part false crates test k is = filtered test crates k is

reduced_in_group : (p : Policy) (g : Graph) (f : chains.Facts) (name : List ℕ) (k : Crate)
    → Contains (reduced p g f name) k → Contains (group p g f name) k
unfolding reduced
reduced_in_group p g f name k is = in_part (length (group p g f name) == 1) (group p g f name)
    (λ c. not (is_internal g name c)) k is

counts_in_group : (p : Policy) (f : chains.Facts) (name : List ℕ) (k : Crate) → is_in_group p f name k ≡ true
    → f.counts k ≡ true
unfolding is_in_group may_duplicate
counts_in_group p f name k is =
    (and_parts (f.counts k) (is_marked p k || not (is_in_skipped_tree p f k))
    (and_parts (has_name name k) (may_duplicate p f k) is).1).0

module _ (p : Policy) (g : Graph) (f : chains.Facts) (taken : List EntryId) (are : chains.AreFacts p g f)
    (unhit : AreUnhit p g f taken) where
  -- ---- what is hit

  hit_by : (s : Entry) (k : Crate) → Contains g.crates k → f.counts k ≡ true → matches s.spec k ≡ true
      → is_hit_skip g f s ≡ true
  unfolding is_hit_skip is_skipped
  hit_by s k known counts does_match = any_from (is_skipped f s) g.crates k known
      (and_from (f.counts k) (matches s.spec k) counts does_match)

  in_tree_by : (t : Root) (k : Crate) → Contains p.skip_tree t → Contains g.crates k → f.in_tree t k ≡ true
      → has_root g t ≡ true
  unfolding has_root
  in_tree_by t k written known is =
      let tree = (are.in_tree t written k known).0 is in
      any_from (matches t.spec) g.crates tree.root tree.known tree.matched

  -- ---- groups

  marked_stays : (k : Crate) → Contains g.crates k → f.counts k ≡ true
      → is_marked (without_skips p taken) k ≡ is_marked p k
  unfolding is_marked
  marked_stays k known counts = list_any_kept (stays_skip taken) (λ s. matches s.spec k) p.skip
      (λ s written does_match. unhit.skips s written (hit_by s k known counts does_match))

  in_tree_stays : (k : Crate) → Contains g.crates k
      → is_in_skipped_tree (without_skips p taken) f k ≡ is_in_skipped_tree p f k
  unfolding is_in_skipped_tree
  in_tree_stays k known = list_any_kept (stays_root taken) (λ t. f.in_tree t k) p.skip_tree
      (λ t written is. unhit.roots t written (in_tree_by t k written known is))

  asked_stays : (k : Crate) → Contains g.crates k → is_asked (without_skips p taken) f k ≡ is_asked p f k
  unfolding is_asked
  asked_stays k known = guarded (f.counts k)
      (not (is_marked (without_skips p taken) k) && (not (is_in_skipped_tree (without_skips p taken) f k)
      && not (is_git_source k)))
      (not (is_marked p k) && (not (is_in_skipped_tree p f k) && not (is_git_source k)))
      (λ counts. ap (λ b. not b && (not (is_in_skipped_tree (without_skips p taken) f k) && not (is_git_source k)))
      (marked_stays k known counts)
      ∙ ap (λ b. not (is_marked p k) && (not b && not (is_git_source k))) (in_tree_stays k known))

  hold_stays : (k : Crate) → Contains g.crates k → may_duplicate (without_skips p taken) f k ≡ may_duplicate p f k
  unfolding may_duplicate
  hold_stays k known = guarded (f.counts k)
      (is_marked (without_skips p taken) k || not (is_in_skipped_tree (without_skips p taken) f k))
      (is_marked p k || not (is_in_skipped_tree p f k))
      (λ counts. ap (λ b. b || not (is_in_skipped_tree (without_skips p taken) f k)) (marked_stays k known counts)
      ∙ ap (λ b. is_marked p k || not b) (in_tree_stays k known))

  in_group_stays : (name : List ℕ) (k : Crate) → Contains g.crates k
      → is_in_group (without_skips p taken) f name k ≡ is_in_group p f name k
  unfolding is_in_group
  in_group_stays name k known = ap (λ b. has_name name k && b) (hold_stays k known)

  group_stays : (name : List ℕ) → group (without_skips p taken) g f name ≡ group p g f name
  group_stays name = filter_on (is_in_group (without_skips p taken) f name) (is_in_group p f name) g.crates
      (in_group_stays name)

  reduced_stays : (name : List ℕ) → reduced (without_skips p taken) g f name ≡ reduced p g f name
  unfolding reduced
  reduced_stays name = ap (λ (crates : List Crate). if length crates == 1 then crates else filter
      (λ c. not (is_internal g name c)) crates) (group_stays name)

  unmarked_stays : (name : List ℕ) → unmarked (without_skips p taken) g f name ≡ unmarked p g f name
  unmarked_stays name =
      ap (λ (crates : List Crate). filter (λ c. not (is_marked (without_skips p taken) c)) crates) (reduced_stays name)
      ∙ filter_on (λ c. not (is_marked (without_skips p taken) c)) (λ c. not (is_marked p c)) (reduced p g f name)
      (λ k is. let member = Contains-from_filter (is_in_group p f name) g.crates k (reduced_in_group p g f name k is) in
      ap (λ b. not b) (marked_stays k member.0 (counts_in_group p f name k member.1)))

  -- ---- duplicates

  duplicates_there : (key : Key) → IsDuplicate p g f key → IsDuplicate (without_skips p taken) g f key
  unfolding duplicate_level is_denied_multiple
  duplicates_there key found =
      let d = found.2 in (
        found.0,
        found.1,
        record {
          crates = d.crates;
          listed = subst (λ (crates : List Crate). Lists version_cmp (Contains crates) d.crates)
              (sym (unmarked_stays found.0.name)) d.listed;
          several = d.several;
          active = d.active;
          is = d.is;
        },
      )

  duplicates_back : (key : Key) → IsDuplicate (without_skips p taken) g f key → IsDuplicate p g f key
  unfolding duplicate_level is_denied_multiple
  duplicates_back key found =
      let d = found.2 in (
        found.0,
        found.1,
        record {
          crates = d.crates;
          listed = subst (λ (crates : List Crate). Lists version_cmp (Contains crates) d.crates)
              (unmarked_stays found.0.name) d.listed;
          several = d.several;
          active = d.active;
          is = d.is;
        },
      )

  -- ---- skips

  not_hit : (s : Entry) → Contains p.skip s → stays_skip taken s ≡ false → is_hit_skip g f s ≡ false
  not_hit s written gone = fails_if_gone (stays_skip taken s) (is_hit_skip g f s) (unhit.skips s written) gone

  none_skipped : (s : Entry) → is_hit_skip g f s ≡ false → skipped_keys_of g f s ≡ []
  unfolding is_hit_skip skipped_keys_of
  none_skipped s none = ap (map (λ (c : Crate). crate_key code.Skipped c.place s.spec.span))
      (filter_none_on (is_skipped f s) g.crates none)

  skipped_stay : skipped_keys (without_skips p taken) g f ≡ skipped_keys p g f
  skipped_stay = flat_map_kept (stays_skip taken) (skipped_keys_of g f) p.skip
      (λ s written gone. none_skipped s (not_hit s written gone))

  needless_stays : (s : Entry) → is_needless (without_skips p taken) g f s ≡ is_needless p g f s
  unfolding is_needless
  needless_stays s = ap (λ (crates : List Crate). is_hit_skip g f s && nat_le (length crates) 1)
      (reduced_stays s.spec.name)

  needless_hit : (s : Entry) → is_needless p g f s ≡ true → is_hit_skip g f s ≡ true
  unfolding is_needless
  needless_hit s is = (and_parts (is_hit_skip g f s) (nat_le (length (reduced p g f s.spec.name)) 1) is).0

  unnecessary_stay : unnecessary_skip_keys (without_skips p taken) g f ≡ unnecessary_skip_keys p g f
  unfolding unnecessary_skip_keys
  unnecessary_stay = ap (map (λ (s : Entry). unused_key code.UnnecessarySkip s.spec.span))
      (filter_on (is_needless (without_skips p taken) g f) (is_needless p g f) (filter (stays_skip taken) p.skip)
      (λ s is. needless_stays s)
      ∙ filter_kept (stays_skip taken) (is_needless p g f) p.skip
      (λ s written is. unhit.skips s written (needless_hit s is)))

  unmatched_part : unmatched_skip_keys (without_skips p taken) g f ≡ filter (λ key. not (is_taken taken Skip key.entry))
      (unmatched_skip_keys p g f)
  unfolding unmatched_skip_keys key_of
  unmatched_part = reported_kept (stays_skip taken) (λ s. not (is_hit_skip g f s))
      (λ s. unused_key code.UnmatchedSkip s.spec.span)
      (λ key. not (is_taken taken Skip key.entry)) p.skip (λ s. refl)

  -- ---- skipped trees

  not_in_tree : (t : Root) → Contains p.skip_tree t → stays_root taken t ≡ false → has_root g t ≡ false
  not_in_tree t written gone = fails_if_gone (stays_root taken t) (has_root g t) (unhit.roots t written) gone

  outside : (t : Root) (k : Crate) → Contains p.skip_tree t → has_root g t ≡ false → Contains g.crates k
      → is_skipped_by_root p f t k ≡ false
  unfolding is_skipped_by_root
  outside t k written none known = and_right (f.counts k) (not (is_marked p k) && f.in_tree t k)
      (and_right (not (is_marked p k)) (f.in_tree t k) (fails_if_gone (has_root g t) (f.in_tree t k)
      (in_tree_by t k written known) none))

  none_by_root : (t : Root) → Contains p.skip_tree t → has_root g t ≡ false → skipped_by_root_keys_of p g f t ≡ []
  unfolding skipped_by_root_keys_of
  none_by_root t written none = ap (map (λ (c : Crate). crate_key code.SkippedByRoot c.place t.spec.span))
      (filter_fails_on (is_skipped_by_root p f t) g.crates (λ k known. outside t k written none known))

  by_root_stays : (t : Root) (k : Crate) → Contains g.crates k
      → is_skipped_by_root (without_skips p taken) f t k ≡ is_skipped_by_root p f t k
  unfolding is_skipped_by_root
  by_root_stays t k known = guarded (f.counts k) (not (is_marked (without_skips p taken) k) && f.in_tree t k)
      (not (is_marked p k) && f.in_tree t k)
      (λ counts. ap (λ b. not b && f.in_tree t k) (marked_stays k known counts))

  of_root_stays : (t : Root) → skipped_by_root_keys_of (without_skips p taken) g f t ≡ skipped_by_root_keys_of p g f t
  unfolding skipped_by_root_keys_of
  of_root_stays t = ap (map (λ (c : Crate). crate_key code.SkippedByRoot c.place t.spec.span))
      (filter_on (is_skipped_by_root (without_skips p taken) f t) (is_skipped_by_root p f t) g.crates (by_root_stays t))

  by_root_stay : skipped_by_root_keys (without_skips p taken) g f ≡ skipped_by_root_keys p g f
  by_root_stay =
      flat_map_on (skipped_by_root_keys_of (without_skips p taken) g f) (skipped_by_root_keys_of p g f)
      (filter (stays_root taken) p.skip_tree) (λ t is. of_root_stays t)
      ∙ flat_map_kept (stays_root taken) (skipped_by_root_keys_of p g f) p.skip_tree
      (λ t written gone. none_by_root t written (not_in_tree t written gone))

  unmatched_root_part : unmatched_skip_root_keys (without_skips p taken) g ≡ filter
      (λ key. not (is_taken taken SkipRoot key.entry)) (unmatched_skip_root_keys p g)
  unfolding unmatched_skip_root_keys key_of
  unmatched_root_part = reported_kept (stays_root taken) (λ t. not (has_root g t))
      (λ t. unused_key code.UnmatchedSkipRoot t.spec.span)
      (λ key. not (is_taken taken SkipRoot key.entry)) p.skip_tree (λ t. refl)

  -- ---- hits

  no_skip_hit : (s : Entry) → is_hit_skip g f s ≡ false → skip_hit g f s ≡ None
  unfolding is_hit_skip skip_hit
  no_skip_hit s none = ap (option_map (λ (c : Crate). hit_of Skip s.spec.span (Krate (kid_of c))))
      (find_none_on (is_skipped f s) g.crates none)

  no_root_hit : (t : Root) → has_root g t ≡ false → root_hit g t ≡ None
  unfolding has_root root_hit
  no_root_hit t none = ap (option_map (λ (c : Crate). hit_of SkipRoot t.spec.span (Krate (kid_of c))))
      (find_none_on (matches t.spec) g.crates none)

  hits_stay : all_hits (without_skips p taken) g f ≡ all_hits p g f
  hits_stay =
      let skips = filter_map_kept (stays_skip taken) (skip_hit g f) p.skip
      (λ s written gone. no_skip_hit s (not_hit s written gone)) in
      let roots = filter_map_kept (stays_root taken) (root_hit g) p.skip_tree
      (λ t written gone. no_root_hit t (not_in_tree t written gone)) in
      ap (λ (hits : List Hit). hits ++ (filter_map (root_hit g) (filter (stays_root taken) p.skip_tree) ++ flat_map
      (wrapper_hits_of (without_skips p taken) g) p.deny)) skips
      ∙ (ap (λ (hits : List Hit). filter_map (skip_hit g f) p.skip ++
      (hits ++ flat_map (wrapper_hits_of (without_skips p taken) g) p.deny)) roots
      ∙ ap (λ (hits : List Hit). filter_map (skip_hit g f) p.skip ++ (filter_map (root_hit g) p.skip_tree ++ hits))
      (wrapper_hits_stay p g taken))

-- ---- part by part

module _ (c : Circumstances) (facts : Facts) (taken : List EntryId)
    (are : chains.AreFacts c.policy c.graph facts.chains)
    (unhit : AreUnhit c.policy c.graph facts.chains taken) (key : Key) where
  abbrev skips : List Entry
  skips = filter (stays_skip taken) c.policy.skip

  abbrev trees : List Root
  trees = filter (stays_root taken) c.policy.skip_tree

  skips_still_hold : SkipsHold c (without_skips_in c taken) facts taken key
  skips_still_hold =
      let rest : Policy = without_skips c.policy taken in
      record {
        skipped = λ of. same_listed (skipped_keys c.policy c.graph facts.chains)
            (skipped_keys rest c.graph facts.chains) key false refl
            (skipped_stay c.policy c.graph facts.chains taken are unhit);
        skipped_by_root = λ of. same_listed (skipped_by_root_keys c.policy c.graph facts.chains)
            (skipped_by_root_keys rest c.graph facts.chains) key false refl
            (by_root_stay c.policy c.graph facts.chains taken are unhit);
        unmatched_skip = λ of. part_listed (λ k. is_taken taken Skip k.entry)
            (unmatched_skip_keys c.policy c.graph facts.chains) (unmatched_skip_keys rest c.graph facts.chains) key
            (unmatched_part c.policy c.graph facts.chains taken are unhit);
        unmatched_skip_root = λ of. part_listed (λ k. is_taken taken SkipRoot k.entry)
            (unmatched_skip_root_keys c.policy c.graph) (unmatched_skip_root_keys rest c.graph) key
            (unmatched_root_part c.policy c.graph facts.chains taken are unhit);
        unnecessary_skip = λ of. same_listed (unnecessary_skip_keys c.policy c.graph facts.chains)
            (unnecessary_skip_keys rest c.graph facts.chains) key false refl
            (unnecessary_stay c.policy c.graph facts.chains taken are unhit);
        duplicate = λ of. (
          λ unnamed is. duplicates_there c.policy c.graph facts.chains taken are unhit key is,
          λ is. (duplicates_back c.policy c.graph facts.chains taken are unhit key is, refl),
        );
      }

  parts_hold : PartsHold c (without_skips_in c taken) facts taken key
  parts_hold = record {
    deprecated = λ of. (λ unnamed is. is, λ is. (is, refl));
    expired = λ of. (λ unnamed is. is, λ is. (is, refl));
    bans = bans_hold c facts taken key skips trees c.policy.replacing c.licensing c.building
        (unhit.no_wrapper key.entry);
    allow_list = allow_list_holds c facts taken key c.policy.deny skips trees c.policy.replacing c.licensing
        c.building;
    skips = skips_still_hold;
    features = features_hold c facts taken key c.policy.deny skips trees c.policy.replacing c.licensing c.building
        (same_listed (build_keys_in c facts) (build_keys_in c facts) key false refl refl);
    manifests = manifests_hold c facts c.policy.deny skips trees c.policy.replacing
        (asked_stays c.policy c.graph facts.chains taken are unhit) taken key c.licensing c.building;
    replacing = replacing_holds c facts taken key c.policy.deny skips trees c.licensing c.building
        (unhit.no_ignore key.entry);
    builds = builds_hold c facts taken key c.policy.deny skips trees c.policy.replacing c.licensing unhit.no_bypass;
    licences = licences_hold c facts taken key c.policy.deny skips trees c.policy.replacing c.building
        unhit.no_licence;
  }

-- ---- all together

facts_hold : (c : Circumstances) (facts : Facts) (taken : List EntryId) → AreFacts c facts
    → AreFacts (without_skips_in c taken) facts
facts_hold c facts taken are = record {
  chains = record {
    counts = are.chains.counts;
    in_tree = λ t written k known. are.chains.in_tree t (filtered (stays_root taken) c.policy.skip_tree t written) k
        known;
  };
  reached = are.reached;
}

pub skips_gone : (c : Circumstances) (facts : Facts) (taken : List EntryId) (keys : List Key) → AreFacts c facts
    → AreUnhit c.policy c.graph facts.chains taken
    → Lists key_cmp (Holds c facts) keys → AreGone c (without_skips_in c taken) facts taken keys
skips_gone c facts taken keys are unhit listed = record {
  facts_hold = facts_hold c facts taken are;
  listed = listed_in_rest c (without_skips_in c taken) facts taken keys
      (λ key. parts_hold c facts taken are.chains unhit key) listed;
  hits = ap (λ (hits : List Hit). hits ++ (ignore_hits_in c ++ bypass_hits_in c facts))
      (hits_stay c.policy c.graph facts.chains taken are.chains unhit);
  licence_hits = λ counts reports. refl;
}
