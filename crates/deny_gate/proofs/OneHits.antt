-- True facts determine what is hit; and what depends on no files is hit whatever was seen of them.
use Rattle.std.proofs.Common.{◌≡◌, ◌∙◌, ◌&&◌, ◌++◌, ◌≤◌, Bool, false, not, List, [], Option, None, Some, ap}
use Rattle.std.proofs.Common.{append-nil, arith, refl, sym}
use Rattle.std.specs.Prelude.{Contains, filter_map, option_map}
use Rattle.std.specs.List.{flat_map, list_any}
use Rattle.std.specs.Option.{option_map_or}
use Rattle.std.proofs.lemmas.List.Elements.{filter-append}
use Rattle.deny_base_lists.proofs.Agreement.{filter_map_on, find_on, same_test}
use Rattle.deny_base_lists.proofs.Members.{Contains-from_flat_map, no_member}
use Rattle.deny_base.specs.Entry.{entry_kind_number}
use Rattle.deny_base.specs.declared.entry.EntryKind.{EntryKind}
use Rattle.deny_base.specs.declared.entry.EntryKind.TheVariants as kind
use Rattle.deny_base.specs.declared.entry.Hit.{Hit}
use Rattle.deny_base.specs.declared.entry.Witness.TheVariants.{Krate}
use Rattle.deny_spec.specs.Building.{Building, Bypass}
use Rattle.deny_spec.specs.declared.package.Package.{Package}
use Rattle.deny_spec.proofs.Agreement.{TwoFacts}
use Rattle.deny_spec.specs.Graph.{Crate, Graph, kid_of}
use Rattle.deny_spec.specs.Hits.{all_hits, hit_of, root_hit, skip_hit, wrapper_hit}
use Rattle.deny_spec.specs.Licensing.{Licensing}
use Rattle.deny_spec.specs.Match.{matches}
use Rattle.deny_spec.specs.Policy.{Entry, Policy}
use Rattle.deny_spec.specs.Skips.{is_skipped}
use Rattle.deny_spec.specs.Facts as chains
use Rattle.deny_spec.specs.View.{View}
use Rattle.deny_spec_report.specs.Circumstances.{Circumstances, seen_anew}
use Rattle.deny_spec_report.specs.Facts.{Facts, AreFacts}
use Rattle.deny_spec_report.specs.Hits.{TestsLicensed, both_hits, hits_in, licence_hits_in}
use Rattle.deny_spec_report.specs.Licences.{Asked, TestsCounting, allowance_hit, asked_in, exception_hit, first_hit}
use Rattle.deny_spec_report.specs.Licences.{hits_by, is_scanned, is_passed_over, licence_hits}
use Rattle.deny_spec_report.specs.Packages.{Scanning, bypass_hits, bypass_hits_in, bypass_hits_of, scanning}
use Rattle.deny_spec_report.specs.StdReplacements.{ignore_hits_in}
use Rattle.deny_spec_report.proofs.BuildAlike.{hits_of_builds_alike}
use Rattle.deny_spec_report.proofs.Kept.{filter_fails_on}
use Rattle.deny_gate.specs.Unseeing.{is_free_kind, unseeing_hits}
use Rattle.deny_gate.proofs.BypassHits.{IsHitOf, hit_of_one, kinds_of}

-- ---- skips, by the crates that count

skip_alike : (p : Policy) (g : Graph) (these those : chains.Facts) → TwoFacts p g these those → (s : Entry)
    → skip_hit g these s ≡ skip_hit g those s
unfolding skip_hit is_skipped
skip_alike p g these those both s =
    ap (option_map (λ (c : Crate). hit_of kind.Skip s.spec.span (Krate (kid_of c))))
    (find_on (is_skipped these s) (is_skipped those s) g.crates
    (λ c known. ap (λ (b : Bool). b && matches s.spec c)
    (same_test (these.counts c) (those.counts c) (both.left.counts c known) (both.right.counts c known))))

all_alike : (c : Circumstances) (these those : Facts) → AreFacts c these → AreFacts c those
    → all_hits c.policy c.graph these.chains ≡ all_hits c.policy c.graph those.chains
all_alike c these those are too =
    let p = c.policy in
    let g = c.graph in
    ap (λ (hits : List Hit). hits ++ (filter_map (root_hit g) p.skip_tree
    ++ flat_map (λ ban. filter_map (wrapper_hit p g ban) ban.wrappers) p.deny))
    (filter_map_on (skip_hit g these.chains) (skip_hit g those.chains) p.skip
    (λ s written. skip_alike p g these.chains those.chains (record { left = are.chains; right = too.chains }) s))

bans_alike : (c : Circumstances) (these those : Facts) → AreFacts c these → AreFacts c those
    → hits_in c these ≡ hits_in c those
bans_alike c these those are too =
    ap (λ (hits : List Hit). hits ++ (ignore_hits_in c ++ bypass_hits_in c these)) (all_alike c these those are too)
    ∙ ap (λ (hits : List Hit). all_hits c.policy c.graph those.chains ++ (ignore_hits_in c ++ hits))
    (hits_of_builds_alike c these those are.reached too.reached)

-- ---- licences, by the crates that the check runs over

module _ (l : Licensing) (g : Graph) (one other : Crate → Bool) (reports : TestsCounting l g one)
    (reports_too : TestsCounting l g other) where
  first_alike : (grants : Asked → Bool) → first_hit one l g grants ≡ first_hit other l g grants
  unfolding first_hit hits_by is_scanned
  first_alike grants = find_on (hits_by one l grants) (hits_by other l grants) g.crates
      (λ c known. ap (λ (b : Bool). (b && not (is_passed_over l c)) && list_any grants (asked_in c))
      (same_test (one c) (other c) (reports c known) (reports_too c known)))

  granted_alike : licence_hits one l g ≡ licence_hits other l g
  unfolding allowance_hit exception_hit
  granted_alike =
      ap (λ (hits : List Hit). hits ++ filter_map (exception_hit one l g) l.exceptions)
      (filter_map_on (allowance_hit one l g) (allowance_hit other l g) l.allow
      (λ a written. ap (option_map _) (first_alike _)))
      ∙ ap (λ (hits : List Hit). filter_map (allowance_hit other l g) l.allow ++ hits)
      (filter_map_on (exception_hit one l g) (exception_hit other l g) l.exceptions
      (λ e written. ap (option_map _) (first_alike _)))

licences_alike : (licensing : Option Licensing) (g : Graph) (one other : Crate → Bool) → TestsLicensed licensing g one
    → TestsLicensed licensing g other
    → option_map_or (λ l. licence_hits one l g) licensing [] ≡ option_map_or (λ l. licence_hits other l g) licensing []
licences_alike None g one other reports reports_too = refl
licences_alike (Some l) g one other reports reports_too = granted_alike l g one other reports reports_too

pub hits_alike : (c : Circumstances) (these those : Facts) (one other : Crate → Bool) → AreFacts c these
    → AreFacts c those → TestsLicensed c.licensing c.graph one → TestsLicensed c.licensing c.graph other
    → both_hits c these one ≡ both_hits c those other
hits_alike c these those one other are too reports reports_too =
    ap (λ (hits : List Hit). hits ++ licence_hits_in one c) (bans_alike c these those are too)
    ∙ ap (λ (hits : List Hit). hits_in c those ++ hits) (licences_alike c.licensing c.graph one other reports
    reports_too)

-- ---- hits that depend on no files

abbrev is_free_hit : Hit → Bool
is_free_hit h = is_free_kind h.entry.kind

kind_sees : (k : EntryKind) → (3 ≤ entry_kind_number k) × (entry_kind_number k ≤ 5) → is_free_kind k ≡ false
unfolding entry_kind_number
kind_sees kind.Bypass between = refl
kind_sees kind.BypassPath between = refl
kind_sees kind.BypassGlob between = refl
kind_sees kind.Skip between = absurd (omega (arith, between.0))
kind_sees kind.SkipRoot between = absurd (omega (arith, between.0))
kind_sees kind.Wrapper between = absurd (omega (arith, between.0))
kind_sees kind.ReplacementIgnore between = absurd (omega (arith, between.1))
kind_sees kind.LicenseAllow between = absurd (omega (arith, between.1))
kind_sees kind.LicenseException between = absurd (omega (arith, between.1))

-- hits of bypasses depend on files
seeing_hit : (l : Scanning) (y : Bypass) (h : Hit) → IsHitOf l y h → is_free_hit h ≡ false
seeing_hit l y h of = kind_sees h.entry.kind (kinds_of l y h of)

sees_bypasses : (c : Circumstances) (facts : Facts) (h : Hit) → Contains (bypass_hits_in c facts) h
    → is_free_hit h ≡ false
sees_bypasses c facts h at = by c.building at
  where
    by : (o : Option Building) → Contains (option_map_or (λ b. bypass_hits (scanning c facts b)) o []) h
        → is_free_hit h ≡ false
    by None at = absurd (no_member h at)
    by (Some b) at =
        let from = Contains-from_flat_map (bypass_hits_of (scanning c facts b)) b.bypass h at in
        seeing_hit (scanning c facts b) from.from h (hit_of_one (scanning c facts b) from.from h from.of)

without_seeing : (all ignored seeing licensed : List Hit) → unseeing_hits seeing ≡ []
    → unseeing_hits ((all ++ (ignored ++ seeing)) ++ licensed) ≡ unseeing_hits ((all ++ ignored) ++ licensed)
without_seeing all ignored seeing licensed none =
    let free : List Hit → List Hit = unseeing_hits in
    let inner : free (ignored ++ seeing) ≡ free ignored = filter-append is_free_hit ignored seeing
    ∙ (ap (λ (hits : List Hit). free ignored ++ hits) none ∙ append-nil (free ignored)) in
    let middle : free (all ++ (ignored ++ seeing)) ≡ free (all ++ ignored) =
    filter-append is_free_hit all (ignored ++ seeing)
    ∙ (ap (λ (hits : List Hit). free all ++ hits) inner ∙ sym (filter-append is_free_hit all ignored)) in
    filter-append is_free_hit (all ++ (ignored ++ seeing)) licensed
    ∙ (ap (λ (hits : List Hit). hits ++ free licensed) middle
    ∙ sym (filter-append is_free_hit (all ++ ignored) licensed))

-- all other hits are the same whatever was seen of manifests and packages
pub unseeing_alike : (c : Circumstances) (view : View) (packages : List Package) (facts : Facts) (counts : Crate → Bool)
    → unseeing_hits (both_hits c facts counts) ≡ unseeing_hits (both_hits (seen_anew c view packages) facts counts)
unseeing_alike c view packages facts counts =
    let d = seen_anew c view packages in
    let all = all_hits c.policy c.graph facts.chains in
    let ignored = ignore_hits_in c in
    let licensed = licence_hits_in counts c in
    without_seeing all ignored (bypass_hits_in c facts) licensed
    (filter_fails_on is_free_hit (bypass_hits_in c facts) (sees_bypasses c facts))
    ∙ sym (without_seeing all ignored (bypass_hits_in d facts) licensed
    (filter_fails_on is_free_hit (bypass_hits_in d facts) (sees_bypasses d facts)))
