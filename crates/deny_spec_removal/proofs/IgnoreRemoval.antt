-- Ignores that nothing hits can be taken out of a policy.
use Rattle.std.proofs.Common.{◌≡◌, ◌&&◌, ◌∙◌, ◌++◌, List, None, Option, Some, [], ap, false, map, not, refl, true}
use Rattle.std.specs.Prelude.{Contains, filter, is_none, option_map}
use Rattle.std.specs.Option.{option_map_or}
use Rattle.std.proofs.lemmas.Bool.{and_from}
use Rattle.deny_base_lists.proofs.Agreement.{filter_map_on, filter_on, find_on, list_any_on}
use Rattle.deny_base_lists.proofs.Members.{any_from}
use Rattle.deny_base_lists.specs.Ascending.{Lists}
use Rattle.deny_base_lists.proofs.Finding.{found_member}
use Rattle.deny_base.specs.KeyOrder.{key_cmp}
use Rattle.deny_base.specs.declared.code.Code.TheVariants as code
use Rattle.deny_base.specs.declared.entry.EntryId.{EntryId}
use Rattle.deny_base.specs.declared.entry.EntryKind.TheVariants.{ReplacementIgnore}
use Rattle.deny_base.specs.declared.entry.Hit.{Hit}
use Rattle.deny_base.specs.declared.entry.Witness.TheVariants.{Krate}
use Rattle.deny_base.specs.declared.key.Key.{Key}
use Rattle.deny_spec.specs.Bans.{concerns, is_exempt}
use Rattle.deny_spec.specs.Facts as chains
use Rattle.deny_spec.specs.Graph.{Crate, Graph, kid_of}
use Rattle.deny_spec.specs.Hits.{all_hits, hit_of, wrapper_hit}
use Rattle.deny_spec.specs.Keys.{key_of, unused_key}
use Rattle.deny_spec.specs.Policy.{Entry, Policy, Replacing}
use Rattle.deny_spec.specs.Wrappers.{hits_wrapper, same_span}
use Rattle.deny_spec.proofs.SpanLemmas.{same_span-itself}
use Rattle.deny_spec_report.specs.Circumstances.{Circumstances}
use Rattle.deny_spec_report.specs.Facts.{Facts, AreFacts}
use Rattle.deny_spec_report.specs.FirstMatch.{first_of, is_first}
use Rattle.deny_spec_report.specs.Hits.{hits_in}
use Rattle.deny_spec_report.specs.Packages.{build_keys_in, bypass_hits_in}
use Rattle.deny_spec_report.specs.Saying.{Saying, said_by}
use Rattle.deny_spec_report.specs.Holding.{Holds}
use Rattle.deny_spec_report.specs.StdReplacements.{counting_version, hits_ignore, ignore_hit, ignore_hits}
use Rattle.deny_spec_report.specs.StdReplacements.{ignore_hits_in}
use Rattle.deny_spec_report.specs.StdReplacements.{ignore_of, ignore_span, ignores, is_hit_ignore, is_replaced}
use Rattle.deny_spec_report.specs.StdReplacements.{is_reported_replaced, is_unmatched_ignore, looks_at_none}
use Rattle.deny_spec_report.specs.StdReplacements.{may_replace}
use Rattle.deny_spec_report.specs.StdReplacements.{replaced_key, replaced_keys, replaced_keys_in, satisfies}
use Rattle.deny_spec_report.specs.StdReplacements.{unmatched_ignore_keys, unmatched_ignore_keys_in}
use Rattle.deny_spec_report.proofs.Kept.{fails_if_gone, filter_map_kept, find_none_on, guarded, reported_kept}
use Rattle.deny_spec_removal.specs.IgnoreRemoval.{AreUnhitIgnores, without_ignores, without_ignores_in}
use Rattle.deny_spec_removal.specs.Removal.{AreGone, cut_replacing, is_taken, stays_ignore}
use Rattle.deny_spec_removal.proofs.FirstMatch.{first_stays, is_first_stays}
use Rattle.deny_spec_removal.proofs.FeatureRemoval.{features_hold}
use Rattle.deny_spec_removal.proofs.KeyParts.{part_listed, same_listed}
use Rattle.deny_spec_removal.proofs.ManifestRemoval.{asked_same, manifests_hold}
use Rattle.deny_spec_removal.proofs.OtherParts.{allow_list_holds, bans_hold, builds_hold, licences_hold, skips_hold}
use Rattle.deny_spec_removal.proofs.PolicyParts.{PartsHold, ReplacingHolds, listed_in_rest}

crate_hits_stay : (p : Policy) (g : Graph) (f : chains.Facts) (taken : List EntryId)
    → all_hits (without_ignores p taken) g f ≡ all_hits p g f
unfolding wrapper_hit hits_wrapper concerns is_exempt
crate_hits_stay p g f taken = refl

-- ---- a policy that checks replaced crates

module _ (s : Replacing) (g : Graph) (said : Saying) (taken : List EntryId)
    (unhit : (e : Entry) → Contains s.ignore e → is_hit_ignore s g said e ≡ true → stays_ignore taken e ≡ true) where
  replaced_same : (c : Crate) → is_replaced (cut_replacing taken s) g said c ≡ is_replaced s g said c
  unfolding is_replaced may_replace satisfies counting_version
  replaced_same c = refl

  -- the first ignore that matches a replaced crate is hit
  first_is_hit : (c : Crate) (e : Entry) → Contains g.crates c → is_replaced s g said c ≡ true
      → first_of ignores s.ignore c ≡ Some e → is_hit_ignore s g said e ≡ true
  unfolding is_hit_ignore hits_ignore
  first_is_hit c e known replaced is = any_from (hits_ignore s g said e) g.crates c known
      (and_from (is_replaced s g said c) _ replaced
      (ap (λ (o : Option Entry). option_map_or (λ first. same_span (ignore_span first) (ignore_span e)) o false) is
      ∙ same_span-itself (ignore_span e)))

  first_stays_there : (c : Crate) (e : Entry) → Contains g.crates c → is_replaced s g said c ≡ true
      → first_of ignores s.ignore c ≡ Some e → stays_ignore taken e ≡ true
  first_stays_there c e known replaced is = unhit e (found_member (λ x. ignores x c) s.ignore e is)
      (first_is_hit c e known replaced is)

  -- ---- replaced crates

  first_same : (c : Crate) → Contains g.crates c → is_replaced s g said c ≡ true
      → ignore_of (cut_replacing taken s) c ≡ ignore_of s c
  unfolding ignore_of
  first_same c known replaced = first_stays ignores (stays_ignore taken) s.ignore c
      (λ e is. first_stays_there c e known replaced is)

  reported_same : (c : Crate) → Contains g.crates c
      → is_reported_replaced (cut_replacing taken s) g said c ≡ is_reported_replaced s g said c
  unfolding is_reported_replaced
  reported_same c known =
      ap (λ b. b && is_none (ignore_of (cut_replacing taken s) c)) (replaced_same c)
      ∙ guarded (is_replaced s g said c) (is_none (ignore_of (cut_replacing taken s) c)) (is_none (ignore_of s c))
      (λ replaced. ap (λ (o : Option Entry). is_none o) (first_same c known replaced))

  replaced_stay : replaced_keys (cut_replacing taken s) g said ≡ replaced_keys s g said
  unfolding replaced_keys
  replaced_stay = ap (map (λ (c : Crate). replaced_key c.place))
      (filter_on (is_reported_replaced (cut_replacing taken s) g said) (is_reported_replaced s g said) g.crates
      reported_same)

  -- ---- ignores

  hits_same : (e : Entry) (c : Crate) → Contains g.crates c
      → hits_ignore (cut_replacing taken s) g said e c ≡ hits_ignore s g said e c
  unfolding hits_ignore
  hits_same e c known =
      ap (λ b. b && is_first ignore_span ignores (filter (stays_ignore taken) s.ignore) e c) (replaced_same c)
      ∙ guarded (is_replaced s g said c) (is_first ignore_span ignores (filter (stays_ignore taken) s.ignore) e c)
      (is_first ignore_span ignores s.ignore e c) (λ replaced. is_first_stays ignore_span ignores (stays_ignore taken)
      s.ignore e c (λ x is. first_stays_there c x known replaced is))

  is_hit_same : (e : Entry) → is_hit_ignore (cut_replacing taken s) g said e ≡ is_hit_ignore s g said e
  unfolding is_hit_ignore
  is_hit_same e = list_any_on (hits_ignore (cut_replacing taken s) g said e) (hits_ignore s g said e) g.crates
      (λ c known. hits_same e c known)

  unmatched_same : (e : Entry) → is_unmatched_ignore (cut_replacing taken s) g said e
      ≡ is_unmatched_ignore s g said e
  unfolding is_unmatched_ignore
  unmatched_same e = ap (λ b. not (looks_at_none s.scope) && not b) (is_hit_same e)

  unmatched_part : unmatched_ignore_keys (cut_replacing taken s) g said
      ≡ filter (λ key. not (is_taken taken ReplacementIgnore key.entry)) (unmatched_ignore_keys s g said)
  unfolding unmatched_ignore_keys key_of
  unmatched_part =
      ap (map (λ (e : Entry). unused_key code.UnmatchedReplacementIgnore (ignore_span e)))
      (filter_on (is_unmatched_ignore (cut_replacing taken s) g said) (is_unmatched_ignore s g said)
      (filter (stays_ignore taken) s.ignore) (λ e is. unmatched_same e))
      ∙ reported_kept (stays_ignore taken) (is_unmatched_ignore s g said)
      (λ e. unused_key code.UnmatchedReplacementIgnore (ignore_span e))
      (λ key. not (is_taken taken ReplacementIgnore key.entry)) s.ignore (λ e. refl)

  -- ---- hits

  hit_same : (e : Entry) → ignore_hit (cut_replacing taken s) g said e ≡ ignore_hit s g said e
  unfolding ignore_hit
  hit_same e = ap (option_map (λ (c : Crate). hit_of ReplacementIgnore (ignore_span e) (Krate (kid_of c))))
      (find_on (hits_ignore (cut_replacing taken s) g said e) (hits_ignore s g said e) g.crates
      (λ c known. hits_same e c known))

  no_hit : (e : Entry) → is_hit_ignore s g said e ≡ false → ignore_hit s g said e ≡ None
  unfolding is_hit_ignore ignore_hit
  no_hit e none = ap (option_map (λ (c : Crate). hit_of ReplacementIgnore (ignore_span e) (Krate (kid_of c))))
      (find_none_on (hits_ignore s g said e) g.crates none)

  hits_stay : ignore_hits (cut_replacing taken s) g said ≡ ignore_hits s g said
  unfolding ignore_hits
  hits_stay =
      filter_map_on (ignore_hit (cut_replacing taken s) g said) (ignore_hit s g said)
      (filter (stays_ignore taken) s.ignore) (λ e is. hit_same e)
      ∙ filter_map_kept (stays_ignore taken) (ignore_hit s g said) s.ignore
      (λ e written gone. no_hit e (fails_if_gone (stays_ignore taken e) (is_hit_ignore s g said e) (unhit e written)
      gone))

-- ---- a policy that may not check replaced crates

module _ (c : Circumstances) (taken : List EntryId) (unhit : AreUnhitIgnores c taken) where
  -- ignores that are hit stay
  abbrev Stay : Option Replacing → Type 0
  Stay o = (s : Replacing) → o ≡ Some s → (e : Entry) → Contains s.ignore e
      → is_hit_ignore s c.graph (said_by c.table) e ≡ true → stays_ignore taken e ≡ true

  replaced_in : replaced_keys_in (without_ignores_in c taken) ≡ replaced_keys_in c
  replaced_in = by c.policy.replacing unhit.ignores
    where
      by : (o : Option Replacing) → Stay o
          → option_map_or (λ s. replaced_keys s c.graph (said_by c.table)) (option_map (cut_replacing taken) o) []
          ≡ option_map_or (λ s. replaced_keys s c.graph (said_by c.table)) o []
      by None stays = refl
      by (Some s) stays = replaced_stay s c.graph (said_by c.table) taken (stays s refl)

  unmatched_in : unmatched_ignore_keys_in (without_ignores_in c taken)
      ≡ filter (λ key. not (is_taken taken ReplacementIgnore key.entry)) (unmatched_ignore_keys_in c)
  unmatched_in = by c.policy.replacing unhit.ignores
    where
      by : (o : Option Replacing) → Stay o
          → option_map_or (λ s. unmatched_ignore_keys s c.graph (said_by c.table)) (option_map (cut_replacing taken) o)
          [] ≡ filter (λ key. not (is_taken taken ReplacementIgnore key.entry))
          (option_map_or (λ s. unmatched_ignore_keys s c.graph (said_by c.table)) o [])
      by None stays = refl
      by (Some s) stays = unmatched_part s c.graph (said_by c.table) taken (stays s refl)

  ignore_hits_stay : ignore_hits_in (without_ignores_in c taken) ≡ ignore_hits_in c
  ignore_hits_stay = by c.policy.replacing unhit.ignores
    where
      by : (o : Option Replacing) → Stay o
          → option_map_or (λ s. ignore_hits s c.graph (said_by c.table)) (option_map (cut_replacing taken) o) []
          ≡ option_map_or (λ s. ignore_hits s c.graph (said_by c.table)) o []
      by None stays = refl
      by (Some s) stays = hits_stay s c.graph (said_by c.table) taken (stays s refl)

  all_hits_stay : (f : Facts) → hits_in (without_ignores_in c taken) f ≡ hits_in c f
  all_hits_stay f =
      ap (λ (hits : List Hit). hits ++ (ignore_hits_in (without_ignores_in c taken) ++ bypass_hits_in c f))
      (crate_hits_stay c.policy c.graph f.chains taken)
      ∙ ap (λ (hits : List Hit). all_hits c.policy c.graph f.chains ++ (hits ++ bypass_hits_in c f)) ignore_hits_stay

-- ---- part by part

module _ (c : Circumstances) (facts : Facts) (taken : List EntryId) (unhit : AreUnhitIgnores c taken) (key : Key) where
  abbrev ignores_left : Option Replacing
  ignores_left = option_map (cut_replacing taken) c.policy.replacing

  replacing_still_holds : ReplacingHolds c (without_ignores_in c taken) facts taken key
  replacing_still_holds = record {
    replaced = λ of. same_listed (replaced_keys_in c) (replaced_keys_in (without_ignores_in c taken)) key false refl
        (replaced_in c taken unhit);
    unmatched_ignore = λ of. part_listed (λ k. is_taken taken ReplacementIgnore k.entry) (unmatched_ignore_keys_in c)
        (unmatched_ignore_keys_in (without_ignores_in c taken)) key (unmatched_in c taken unhit);
  }

  parts_hold : PartsHold c (without_ignores_in c taken) facts taken key
  parts_hold =
      let p = c.policy in
      record {
        deprecated = λ of. (λ unnamed is. is, λ is. (is, refl));
        expired = λ of. (λ unnamed is. is, λ is. (is, refl));
        bans = bans_hold c facts taken key p.skip p.skip_tree ignores_left c.licensing c.building
            (unhit.no_wrapper key.entry);
        allow_list = allow_list_holds c facts taken key p.deny p.skip p.skip_tree ignores_left c.licensing c.building;
        skips = skips_hold c facts taken key p.deny ignores_left c.licensing c.building (unhit.no_skip key.entry)
            (unhit.no_root key.entry);
        features = features_hold c facts taken key p.deny p.skip p.skip_tree ignores_left c.licensing c.building
            (same_listed (build_keys_in c facts) (build_keys_in c facts) key false refl refl);
        manifests = manifests_hold c facts p.deny p.skip p.skip_tree ignores_left
            (λ k known. asked_same p facts.chains p.deny ignores_left k) taken key c.licensing c.building;
        replacing = replacing_still_holds;
        builds = builds_hold c facts taken key p.deny p.skip p.skip_tree ignores_left c.licensing unhit.no_bypass;
        licences = licences_hold c facts taken key p.deny p.skip p.skip_tree ignores_left c.building unhit.no_licence;
      }

-- ---- all together

facts_hold : (c : Circumstances) (facts : Facts) (taken : List EntryId) → AreFacts c facts
    → AreFacts (without_ignores_in c taken) facts
facts_hold c facts taken are = record {
  chains = record { counts = are.chains.counts; in_tree = are.chains.in_tree };
  reached = are.reached;
}

pub ignores_gone : (c : Circumstances) (facts : Facts) (taken : List EntryId) (keys : List Key) → AreFacts c facts
    → AreUnhitIgnores c taken
    → Lists key_cmp (Holds c facts) keys → AreGone c (without_ignores_in c taken) facts taken keys
ignores_gone c facts taken keys are unhit listed = record {
  facts_hold = facts_hold c facts taken are;
  listed = listed_in_rest c (without_ignores_in c taken) facts taken keys (λ key. parts_hold c facts taken unhit key)
      listed;
  hits = all_hits_stay c taken unhit facts;
  licence_hits = λ counts reports. refl;
}
