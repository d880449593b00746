-- The findings by their keys: those of the policy's own warnings, then those of the bans check, and then those of the
-- licence check; and the hits of both checks.
use Rattle.std.proofs.Common.{◌≡◌, ◌++◌, ℕ, Bool, false, List, [], ◌∷◌, Option, None, Some, length, refl, sym, ap, subst, ◌∙◌}
use Rattle.std.specs.Prelude.{Contains, filter, is_some, map}
use Rattle.std.specs.List.{flat_map}
use Rattle.std.specs.List.Sorted.{IsStrictlySortedBy}
use Rattle.std.proofs.lemmas.List.{append-nil, map-append}
use Rattle.std.proofs.lemmas.List.Elements.{filter-append}
use Rattle.deny_base.specs.KeyOrder.{key_cmp}
use Rattle.deny_base.specs.declared.entry.Hit.{Hit}
use Rattle.deny_base.specs.declared.files.File.{File}
use Rattle.deny_base.specs.declared.finding.Pack.{Pack}
use Rattle.deny_base.specs.declared.key.Key.{Key}
use Rattle.deny_base_lists.specs.Ascending.{Lists}
use Rattle.deny_base_lists.proofs.Agreement.{filter_on, map_on}
use Rattle.deny_base_lists.proofs.Filters.{filter-none}
use Rattle.deny_base_lists.proofs.Members.{no_member}
use Rattle.deny_base_lists.proofs.Options.{is_some-option_map}
use Rattle.deny_base_lists.proofs.Equalities.{subst₃}
use Rattle.deny_cfg.specs.LicensingView.{licensing_of, licensing_view}
use Rattle.deny_cfg.specs.PolicyText.{policy_files}
use Rattle.deny_cfg.specs.PolicyView.{AreGlobsRead, building_of, builtin_file_of, past_waivers_of, policy_view}
use Rattle.deny_cfg.specs.declared.policy.Policy as cfg
use Rattle.deny_krates.specs.Read.{IsGraphOf}
use Rattle.deny_spec.specs.Expired.{PastWaiver, expired_keys}
use Rattle.deny_spec.specs.Graph.{Crate, Graph}
use Rattle.deny_spec.specs.Licensing.{Licensing}
use Rattle.deny_spec.specs.View.{View}
use Rattle.deny_spec.specs.declared.package.Package.{Package}
use Rattle.deny_base_disk.specs.Disk.{Disk}
use Rattle.deny_rules.specs.Packages.{AreSeenBy, HaveCauses}
use Rattle.deny_spans.specs.Spans.{ViewLies}
use Rattle.deny_spans.specs.Seen.{IsSeen, lock_file}
use Rattle.deny_base.specs.Unread.{unread_cmp}
use Rattle.deny_base.specs.declared.unread.Unread.{Unread}
use Rattle.deny_spec_report.specs.Circumstances.{Circumstances, built, licensed, seen_by, tabled, with_expired}
use Rattle.deny_spec_report.specs.Circumstances.{with_packages}
use Rattle.deny_spec_report.specs.Codes.{is_of_bans, is_of_licenses, is_of_policy}
use Rattle.deny_spec_report.specs.Facts.{Facts}
use Rattle.deny_spec_report.specs.Hits.{TestsLicensed, both_hits, hits_in, licence_hits_in}
use Rattle.deny_spec_report.specs.Saying.{bytes_of, said_by}
use Rattle.deny_spec_report.specs.Holding.{ListsOwn, Holds, HoldsIn}
use Rattle.deny_spec_report.specs.Diags.{diag_of, pack_of, key_pack, key_message}
use Rattle.deny_spec_report.specs.Packages.{deprecated_keys_in}
use Rattle.deny_rules_dup_edges.specs.DupEdges.{ShowsEach, is_of_duplicate}
use Rattle.deny_rules.specs.Check.{IsChecked}
use Rattle.deny_rules.specs.declared.check.BansEnd.{BansEnd}
use Rattle.deny_spec_removal.specs.Dead.{AreDead}
use Rattle.deny_gate.specs.private.Gating.{AreEntriesApart, Extras, IsLicensedIf, IsPolicyReport, IsReportSeen}
use Rattle.deny_gate.specs.Gating.{IsTableFor}
use Rattle.deny_gate.specs.private.Gating.{AreResults}
use Rattle.deny_gate.specs.Gating.{InputTexts, circumstances_of, first_files}
use Rattle.deny_gate.specs.private.Gating.{AreGraphResults, extras_of}
use Rattle.deny_gate.specs.Hits.{AreHits}
use Rattle.deny_gate.specs.private.Hits.{IsOneEach}
use Rattle.deny_gate.specs.Report.{finding_for, keys_in, lock_id, policy_id, verdict_of}
use Rattle.deny_gate.specs.private.Report.{findings_of}
use Rattle.deny_gate.specs.private.Warnings.{AreAllFindings, AreWarnings}
use Rattle.deny_gate.specs.Stats.{all_stats}
use Rattle.deny_gate.specs.Unread.{of_manifests, of_packages}
use Rattle.deny_gate.specs.declared.checks.GraphResults.{GraphResults}
use Rattle.deny_gate.specs.declared.checks.CheckResults.{CheckResults}
use Rattle.deny_gate.specs.declared.report.Finding.{Finding}
use Rattle.deny_gate.specs.declared.report.Report.{Report}
use Rattle.deny_gate.proofs.HitsApart.{hits_apart}
use Rattle.deny_gate.proofs.FindingKeys.{no_duplicate, no_duplicate_warned, none_of_licences}

-- the pack of a key gives one finding
one_each : (c : Circumstances) (key : Key) → findings_of (key_pack c key) ≡ finding_for c key ∷ []
unfolding findings_of pack_of finding_for
one_each c key = refl

findings_of_packs : (c : Circumstances) (keys : List Key)
    → flat_map findings_of (map (key_pack c) keys) ≡ map (finding_for c) keys
findings_of_packs c [] = refl
findings_of_packs c (key ∷ keys) =
    ap (λ (fs : List Finding). fs ++ flat_map findings_of (map (key_pack c) keys)) (one_each c key)
    ∙ ap (λ (fs : List Finding). finding_for c key ∷ fs) (findings_of_packs c keys)

-- the finding of a key has that key
pub key_of_finding : (c : Circumstances) (key : Key) → (finding_for c key).diag.key ≡ key
unfolding finding_for diag_of
key_of_finding c key = refl

pub keys_of_findings : (c : Circumstances) (keys : List Key) → keys_in (map (finding_for c) keys) ≡ keys
keys_of_findings c [] = refl
keys_of_findings c (key ∷ keys) = ap (λ (k : Key). k ∷ keys_in (map (finding_for c) keys)) (key_of_finding c key)
    ∙ ap (λ (ks : List Key). key ∷ ks) (keys_of_findings c keys)

-- findings whose messages have one severity have that severity
pub severity_of_finding : (c d : Circumstances) (key : Key) → (key_message d key).severity
    ≡ (key_message c key).severity
    → (key_message d (finding_for c key).diag.key).severity ≡ (finding_for c key).diag.diag.severity
unfolding finding_for diag_of
severity_of_finding c d key same = same

-- the laws on the policy's own warnings and the two checks
pub record CheckLaws : Type 0 where
  pub keys : (c : Circumstances) → (licensing : Option Licensing) → (facts : Facts) → (keys : List Key)
      → ListsOwn is_of_bans c facts keys → ListsOwn is_of_bans (licensed c licensing) facts keys
  pub packs : (c : Circumstances) → (licensing : Option Licensing) → (facts : Facts) → (key : Key)
      → HoldsIn is_of_bans c facts key → key_pack (licensed c licensing) key ≡ key_pack c key
  pub unexpired : (c : Circumstances) → (waivers : List PastWaiver) → (facts : Facts) → (keys : List Key)
      → ListsOwn is_of_bans c facts keys → ListsOwn is_of_bans (with_expired c waivers) facts keys
  pub unexpired_packs : (c : Circumstances) → (waivers : List PastWaiver) → (facts : Facts) → (key : Key)
      → HoldsIn is_of_bans c facts key → key_pack (with_expired c waivers) key ≡ key_pack c key
  pub warned : (c : Circumstances) → (facts : Facts) → (keys : List Key)
      → Lists key_cmp (Contains (deprecated_keys_in c ++ expired_keys c.expired)) keys
      → ListsOwn is_of_policy c facts keys
  pub joined : (c : Circumstances) → (facts : Facts) → (ws xs ys : List Key) → ListsOwn is_of_policy c facts ws
      → ListsOwn is_of_bans c facts xs → ListsOwn is_of_licenses c facts ys
      → Lists key_cmp (Holds c facts) (ws ++ (xs ++ ys))

-- the packs that the licence check adds, key by key, and its hits
record LicenceKeys (c : Circumstances) (facts : Facts) (old new : List Pack) (hits : List Hit) : Type 0 where
  keys : List Key
  listed : ListsOwn is_of_licenses c facts keys
  packs : new ≡ old ++ map (key_pack c) keys
  counts : Crate → Bool
  reports : TestsLicensed c.licensing c.graph counts
  hits_are : hits ≡ licence_hits_in counts c

-- keys of which none is of a duplicate
no_duplicates : (keys : List Key) → ((key : Key) → Contains keys key → is_of_duplicate key ≡ false)
    → filter is_of_duplicate keys ≡ []
no_duplicates keys none =
    filter_on is_of_duplicate (λ (key : Key). false) keys none ∙ filter-none (λ (key : Key). false) keys (λ key. refl)

-- the duplicates among all keys are those of the bans check
duplicates_of_bans : (c : Circumstances) (facts : Facts) (warned bans licences : List Key)
    → ListsOwn is_of_policy c facts warned → ListsOwn is_of_licenses c facts licences
    → filter is_of_duplicate (warned ++ (bans ++ licences)) ≡ filter is_of_duplicate bans
duplicates_of_bans c facts warned bans licences own listed =
    filter-append is_of_duplicate warned (bans ++ licences)
    ∙ (ap (λ (keys : List Key). keys ++ filter is_of_duplicate (bans ++ licences))
    (no_duplicates warned (λ key at. no_duplicate_warned c facts key (own.sound key at)))
    ∙ (filter-append is_of_duplicate bans licences
    ∙ (ap (λ (keys : List Key). filter is_of_duplicate bans ++ keys)
    (no_duplicates licences (λ key at. no_duplicate c facts key (listed.sound key at)))
    ∙ append-nil (filter is_of_duplicate bans))))

-- without a section on licences no key of the licence check holds
none_listed : (c : Circumstances) (facts : Facts) → c.licensing ≡ None → ListsOwn is_of_licenses c facts []
unfolding IsStrictlySortedBy
none_listed c facts none = record {
  ascending = tt;
  whole = λ key is. absurd (none_of_licences c facts key none is);
  sound = λ key is. absurd (no_member key is);
}

licence_keys : (c : Circumstances) (licensing : Option Licensing) (facts : Facts) (old new : List Pack)
    (hits : List Hit)
    → IsLicensedIf licensing c.graph c.files.policy old new hits
    → LicenceKeys (licensed c licensing) facts old new hits
licence_keys c None facts old new hits same = record {
  keys = [];
  listed = none_listed (licensed c None) facts refl;
  packs = same.0 ∙ sym (append-nil old);
  counts = λ k. false;
  reports = tt;
  hits_are = same.1;
}
licence_keys c (Some l) facts old new hits of = record {
  keys = of.keys;
  listed = of.listed c facts;
  packs = of.reported c;
  counts = of.counts;
  reports = of.reports;
  hits_are = of.hits_are;
}

-- the circumstances of the bans check, where the policy and the lock text have these numbers
abbrev pub checked_by : cfg.Policy → Graph → List ℕ → ℕ → ℕ → View → List Package → Circumstances
checked_by said g table file lock view packages =
    tabled (with_packages (built (seen_by (policy_view said.bans) g file lock view) (building_of said.bans))
    (builtin_file_of said.bans) packages) table

module _ (laws : CheckLaws) where
  -- the results of both checks: the packs of the bans check, put behind none, and those of the licence check behind
  -- these; their findings stand behind those of the policy's own warnings
  results_of_both : (c : Circumstances) (licensing : Option Licensing) (waivers : List PastWaiver)
      (none between packs : List Pack) (end : BansEnd) (others : List Hit) (warnings : List Finding)
      (results : CheckResults) → IsChecked c none between end → none ≡ []
      → IsLicensedIf licensing c.graph c.files.policy between packs others
      → AreWarnings (with_expired (licensed c licensing) waivers) warnings
      → AreHits (end.hits ++ others) results.hits → results.findings ≡ warnings ++ flat_map findings_of packs
      → results.dup_edges ≡ end.dup_edges → AreResults (with_expired (licensed c licensing) waivers) results
  results_of_both c licensing waivers none between packs end others warnings results checked empty reports warned hit
      are shown =
      let all = with_expired (licensed c licensing) waivers in
      let facts = checked.listed.facts in
      let more = licence_keys (with_expired c waivers) licensing facts between packs others reports in
      let with_licences : ListsOwn is_of_bans (licensed c licensing) facts checked.keys =
      laws.keys c licensing facts checked.keys checked.listed.listed in
      let bans : ListsOwn is_of_bans all facts checked.keys =
      laws.unexpired (licensed c licensing) waivers facts checked.keys with_licences in
      let alike : map (key_pack c) checked.keys ≡ map (key_pack all) checked.keys =
      map_on (key_pack c) (key_pack all) checked.keys
      (λ key at. sym (laws.packs c licensing facts key (checked.listed.listed.sound key at))
      ∙ sym (laws.unexpired_packs (licensed c licensing) waivers facts key (with_licences.sound key at))) in
      let first : between ≡ map (key_pack all) checked.keys =
      checked.reported ∙ (ap (λ (ps : List Pack). ps ++ map (key_pack c) checked.keys) empty ∙ alike) in
      let together : packs ≡ map (key_pack all) (checked.keys ++ more.keys) =
      more.packs ∙ (ap (λ (ps : List Pack). ps ++ map (key_pack all) more.keys) first
      ∙ sym (map-append (key_pack all) checked.keys more.keys)) in
      let found : flat_map findings_of packs ≡ map (finding_for all) (checked.keys ++ more.keys) =
      ap (flat_map findings_of) together ∙ findings_of_packs all (checked.keys ++ more.keys) in
      let hits : end.hits ++ others ≡ both_hits all facts more.counts =
      ap (λ (hs : List Hit). hs ++ others) checked.hits
      ∙ ap (λ (hs : List Hit). hits_in all facts ++ hs) more.hits_are in
      let own : ListsOwn is_of_policy all facts warned.keys = laws.warned all facts warned.keys warned.listed in
      record {
        keys = warned.keys ++ (checked.keys ++ more.keys);
        listed = record {
          facts = facts;
          true_facts = record {
            chains = checked.listed.true_facts.chains;
            reached = checked.listed.true_facts.reached;
          };
          listed = laws.joined all facts warned.keys checked.keys more.keys own bans more.listed;
        };
        findings = are ∙ (ap (λ (fs : List Finding). fs ++ flat_map findings_of packs) warned.are
            ∙ (ap (λ (fs : List Finding). map (finding_for all) warned.keys ++ fs) found
            ∙ sym (map-append (finding_for all) warned.keys (checked.keys ++ more.keys))));
        shown = subst (ShowsEach c.policy c.graph (filter is_of_duplicate (warned.keys ++ (checked.keys ++ more.keys))))
            (sym shown)
            (subst (λ (keys : List Key). ShowsEach c.policy c.graph keys end.dup_edges)
            (sym (duplicates_of_bans all facts warned.keys checked.keys more.keys own more.listed)) checked.dup_edges);
        counts = more.counts;
        reports = more.reports;
        hits = subst (λ (hs : List Hit). AreHits hs results.hits) hits hit;
      }

  -- the results where the policy is the first file and the lock text is behind the built-in globs
  pub results_are : (said : cfg.Policy) (g : Graph) (replacements : Option (List ℕ)) (file lock : ℕ) (view : View)
      (packages : List Package) (none between packs : List Pack) (end : BansEnd) (others : List Hit)
      (results : CheckResults)
      → file ≡ policy_id → lock ≡ lock_id (builtin_file_of said.bans)
      → IsChecked (checked_by said g (bytes_of replacements) file lock view packages) none between end
      → none ≡ [] → IsLicensedIf (licensing_of said.licenses) g file between packs others
      → AreHits (end.hits ++ others) results.hits → AreAllFindings said packs results.findings
      → results.dup_edges ≡ end.dup_edges → AreResults (circumstances_of said g replacements view packages) results
  results_are said g replacements file lock view packages none between packs end others results first second checked
      empty reports hit found shown =
      let l = licensing_of said.licenses in
      let at : ℕ → ℕ → Circumstances = λ m n. checked_by said g (bytes_of replacements) m n view packages in
      let here : IsChecked (at policy_id (lock_id (builtin_file_of said.bans))) none between end =
      subst (λ (m : ℕ). IsChecked (at m (lock_id (builtin_file_of said.bans))) none between end) first
      (subst (λ (n : ℕ). IsChecked (at file n) none between end) second checked) in
      results_of_both (at policy_id (lock_id (builtin_file_of said.bans))) l (past_waivers_of said) none between packs
      end others found.warnings results here empty
      (subst (λ (m : ℕ). IsLicensedIf l g m between packs others) first reports)
      (found.are_own g replacements view packages) hit found.followed shown

-- no two hits of both checks have the same entry, where no two entries have the same span
pub hits_differ : (said : cfg.Policy) (g : Graph) (table : List ℕ) (file lock : ℕ) (view : View)
    (packages : List Package) (none between packs : List Pack) (end : BansEnd) (others : List Hit)
    → AreGlobsRead said.bans → AreEntriesApart said
    → IsChecked (checked_by said g table file lock view packages) none between end
    → IsLicensedIf (licensing_of said.licenses) g file between packs others → IsOneEach (end.hits ++ others)
hits_differ said g table file lock view packages none between packs end others read apart checked reports =
    let c = checked_by said g table file lock view packages in
    let more = licence_keys c (licensing_of said.licenses) checked.listed.facts between packs others reports in
    subst (λ (hits : List Hit). IsOneEach hits)
    (sym (ap (λ (hits : List Hit). hits ++ others) checked.hits
    ∙ ap (λ (hits : List Hit). hits_in c checked.listed.facts ++ hits) more.hits_are))
    (hits_apart said.bans said.licenses g checked.listed.facts (said_by table) packages more.counts read apart.bans
    apart.licences)

-- the report by the results of the checks, with what was seen of files, the dead entries, the counts and the verdict
pub seen_report : (before after : Disk) (said : cfg.Policy) (g : Graph) (extras : Extras) (first new : List File)
    (checked : GraphResults) (report : Report)
    → AreGraphResults before after said g extras first new checked → report.files ≡ new → report.krates ≡ g
    → report.findings ≡ checked.results.findings → report.dup_edges ≡ checked.results.dup_edges
    → report.unread ≡ checked.unread → report.malformed ≡ checked.malformed → report.hits ≡ checked.results.hits
    → AreDead (keys_in report.findings) report.hits report.dead
    → report.stats ≡ all_stats (is_some said.licenses) report.findings → report.verdict ≡ verdict_of report.findings
    → IsReportSeen before after said g extras first report
seen_report before after said g extras first new checked report of in_files graph findings dup_edges unread malformed
    hits dead stats verdict =
    let is = of.results in
    let all = circumstances_of said g extras.replacements of.view of.packages in
    let building = building_of said.bans in
    record {
      view = of.view;
      packages = of.packages;
      ascending = subst (IsStrictlySortedBy unread_cmp) (sym unread) of.ascending;
      seen = subst₃ (λ (fs : List File) (us : List Unread) (paths : List (List ℕ)).
          IsSeen before.files g extras.registries first fs (of_manifests us) paths of.view) (sym in_files) (sym unread)
          (sym malformed) of.seen;
      packages_seen = subst (λ (us : List Unread). AreSeenBy before.files building extras.home g
          (of_packages us) of.packages)
          (sym unread) of.packages_seen;
      causes = subst (λ (us : List Unread). HaveCauses before after building extras.home g (of_packages us) of.packages)
          (sym unread) of.causes;
      spans = subst (λ (fs : List File). ViewLies (length first) fs of.view) (sym in_files) of.spans;
      lines = of.lines;
      is_report = record {
        graph = graph;
        keys = is.keys;
        listed = is.listed;
        findings = findings ∙ is.findings;
        shown = subst (ShowsEach all.policy g (filter is_of_duplicate is.keys)) (sym dup_edges) is.shown;
        counts = is.counts;
        reports = is.reports;
        hits = subst (AreHits (both_hits all is.listed.facts is.counts)) (sym hits) is.hits;
        dead = subst (λ (keys : List Key). AreDead keys report.hits report.dead)
            (ap keys_in (findings ∙ is.findings) ∙ keys_of_findings all is.keys) dead;
        stats = stats ∙ sym (ap (λ (has : Bool). all_stats has report.findings)
            (is_some-option_map licensing_view said.licenses));
        verdict = verdict;
      };
    }

-- the report by the inputs besides a policy and metadata, behind the files of the policy
pub report_by_texts : (before after : Disk) (said : cfg.Policy) (texts : InputTexts) (g : Graph) (extras : Extras)
    (files : List File) (report : Report) → extras ≡ extras_of texts → files ≡ policy_files texts.policy said.bans
    → IsGraphOf texts.metadata g → IsTableFor (policy_view said.bans) extras.replacements
    → IsReportSeen before after said g extras (files ++ lock_file g.root g ∷ []) report
    → IsPolicyReport before after said texts report
report_by_texts before after said texts g extras files report handed first is_graph table seen = record {
  graph = g;
  is_graph = is_graph;
  table = subst (λ (e : Extras). IsTableFor (policy_view said.bans) e.replacements) handed table;
  seen = subst (λ (e : Extras). IsReportSeen before after said g e (first_files texts.policy said g) report) handed
      (subst (λ (fs : List File). IsReportSeen before after said g extras (fs ++ lock_file g.root g ∷ []) report) first
      seen);
}
