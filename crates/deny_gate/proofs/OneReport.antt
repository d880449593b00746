-- Inputs have one report on a disk that tells its files; what was seen determines the findings on every disk, and
-- findings that depend on no files are the same whatever was seen.
use Rattle.std.proofs.Common.{◌≡◌, ◌∙◌, ◌++◌, ◌<◌, ℕ, Bool, true, false, List, [], ◌∷◌, Option, None, Some, map, ap}
use Rattle.std.proofs.Common.{refl, sym, subst, arith}
use Rattle.std.specs.Prelude.{Contains, IsTrue, filter, is_some}
use Rattle.std.specs.Cmp.{nat_cmp_total, on_total}
use Rattle.std.specs.List.{AllZip}
use Rattle.std.proofs.lemmas.List.Kept.{IsStrictlySortedBy-filter}
use Rattle.deny_base.specs.Code.{asks_no_file}
use Rattle.deny_base.specs.declared.edge.Edge.{Edge}
use Rattle.deny_base.specs.declared.entry.Hit.{Hit}
use Rattle.deny_base.specs.declared.files.File.{File}
use Rattle.deny_base.specs.declared.key.Key.{Key}
use Rattle.deny_base.proofs.EdgeEqual.{edge_cmp-total}
use Rattle.deny_base.proofs.EntryEqual.{entry_cmp-total}
use Rattle.deny_base_lists.proofs.Agreement.{filter_on, map_on}
use Rattle.deny_base_lists.proofs.Filters.{filter-map}
use Rattle.deny_base_lists.proofs.Members.{Contains-filter, filtered, passes_filter}
use Rattle.deny_base_lists.proofs.Sorted.{one_ascending, one_list}
use Rattle.deny_base_lists.proofs.Equalities.{subst₃}
use Rattle.deny_spec.specs.Building.{Building}
use Rattle.deny_spec.specs.declared.package.Package.{Package}
use Rattle.deny_cfg.specs.LicensingView.{licensing_of}
use Rattle.deny_cfg.specs.PolicyText.{IsPolicyOf, globs_files, policy_file}
use Rattle.deny_cfg.specs.PolicyView.{building_of, builtin_file_of, past_waivers_of, policy_view}
use Rattle.deny_cfg.specs.declared.policy.Policy as cfg
use Rattle.deny_cfg_entries.specs.declared.day.Day.{Day}
use Rattle.deny_spec.specs.Graph.{Graph}
use Rattle.deny_spec.specs.Policy.{Policy}
use Rattle.deny_spec.specs.View.{View}
use Rattle.deny_base_disk.specs.Disk.{Files}
use Rattle.deny_rules_dup_edges.specs.DupEdges.{AreEdgesOf, IsDupSetOf, IsSimplest, ShowsEach, Simplest, is_of_duplicate}
use Rattle.deny_rules_dup_edges.specs.declared.dup_edges.DupEdges.{DupEdges}
use Rattle.deny_rules_dup_edges.specs.declared.dup_edges.DupSet.{DupSet}
use Rattle.deny_spec_report.specs.Circumstances.{Circumstances, seen_anew}
use Rattle.deny_spec_report.specs.Codes.{unseeing}
use Rattle.deny_spec_report.specs.Hits.{both_hits}
use Rattle.deny_spec_report.specs.Holding.{AreKeys}
use Rattle.deny_spec_report.specs.Diags.{check_of_code, diag_of, key_message}
use Rattle.deny_spec_report.specs.declared.message.Message.{Message}
use Rattle.deny_spec_removal.specs.Dead.{AreDead}
use Rattle.deny_build_scan.specs.Failures.{failures_in}
use Rattle.deny_build_scan.specs.OneSight.{HasOneSight}
use Rattle.deny_rules.specs.Packages.{AreSeenBy}
use Rattle.deny_spans.specs.Seen.{IsSeen, lock_file}
use Rattle.deny_spans.proofs.OneViewLemmas.{same_seen}
use Rattle.deny_base.specs.declared.unread.Unread.{Unread}
use Rattle.deny_gate.specs.Gating.{AreAlikeUnseen, AreReportedAlike, IsReportBy, IsReportOf, Saying, InputTexts}
use Rattle.deny_gate.specs.Gating.{circumstances_of, circumstances_on, first_files, saying_of}
use Rattle.deny_gate.specs.Hits.{AreHits, entry_of, hit_cmp}
use Rattle.deny_gate.specs.Report.{IsReport, finding_for, policy_id, verdict_of}
use Rattle.deny_gate.specs.Stats.{all_stats}
use Rattle.deny_gate.specs.Unread.{of_manifests, of_packages}
use Rattle.deny_gate.specs.Unseeing.{is_free_kind, unseeing_findings, unseeing_hits}
use Rattle.deny_gate.specs.declared.report.Finding.{Finding}
use Rattle.deny_gate.specs.declared.report.Report.{Report}
use Rattle.deny_gate.proofs.FindingLaws.{key_of_finding}
use Rattle.deny_gate.proofs.IdsApart.{ids_apart}
use Rattle.deny_gate.proofs.OneGraph.{one_graph}
use Rattle.deny_gate.proofs.OneHits.{hits_alike, unseeing_alike}
use Rattle.deny_gate.proofs.FindingKeys.{duplicates_seen}
use Rattle.deny_gate.proofs.Unseeing.{dead_unseen}

-- a relation that determines each item determines the list
one_zip : {A B : Type 0} (R : A → B → Type 0) → ((x : A) (y z : B) → R x y → R x z → y ≡ z)
    → (xs : List A) (ys zs : List B) → AllZip R xs ys → AllZip R xs zs → ys ≡ zs
one_zip R one [] [] [] these those = refl
one_zip R one [] [] (z ∷ zs) these those = absurd those
one_zip R one [] (y ∷ ys) zs these those = absurd these
one_zip R one (x ∷ xs) [] zs these those = absurd these
one_zip R one (x ∷ xs) (y ∷ ys) [] these those = absurd those
one_zip R one (x ∷ xs) (y ∷ ys) (z ∷ zs) these those =
    let first : y ≡ z = one x y z these.0 those.0 in
    let rest : ys ≡ zs = one_zip R one xs ys zs these.1 those.1 in
    cc

-- ---- what is shown of duplicates

one_set : (g : Graph) (edges : List Edge) (place : ℕ) (s t : DupSet) → IsDupSetOf g edges place s → IsDupSetOf g edges place t
    → s ≡ t
one_set g edges place s t this that =
    let places : s.place ≡ t.place = this.of_crate ∙ sym that.of_crate in
    let numbers : s.edges ≡ t.edges = one_list nat_cmp_total s.edges t.edges this.numbers that.numbers in
    λ i. record { place = places i; edges = numbers i }

-- neither of two simplest sets comes before the other
not_later : (sets : List DupSet) (m n : ℕ) → IsSimplest sets m → IsSimplest sets n → m < n → ⊥
not_later sets m n this that before = omega (
  arith,
  that.first m this.set this.numbered before,
  this.fewest n that.set that.numbered,
)

one_simplest : (sets : List DupSet) (m n : ℕ) → IsSimplest sets m → IsSimplest sets n → m ≡ n
one_simplest sets m n this that =
    let up : ¬ (m < n) = not_later sets m n this that in
    let down : ¬ (n < m) = not_later sets n m that this in
    omega (arith, up, down)

same_simplest : (wanted : Bool) (sets : List DupSet) (x y : Option ℕ) → Simplest wanted sets x → Simplest wanted sets y
    → x ≡ y
same_simplest false sets x y this that = this ∙ sym that
same_simplest true [] x y this that = this ∙ sym that
same_simplest true (set ∷ sets) None y this that = absurd this
same_simplest true (set ∷ sets) (Some m) None this that = absurd that
same_simplest true (set ∷ sets) (Some m) (Some n) this that = ap Some (one_simplest (set ∷ sets) m n this that)

one_shown : (p : Policy) (g : Graph) (key : Key) (s t : DupEdges) → AreEdgesOf p g key s → AreEdgesOf p g key t → s ≡ t
one_shown p g key s t this that =
    let name : s.name ≡ t.name = this.name ∙ sym that.name in
    let edges : s.edges ≡ t.edges = one_list edge_cmp-total s.edges t.edges this.edges that.edges in
    let sets : s.sets ≡ t.sets =
    one_zip (IsDupSetOf g t.edges) (one_set g t.edges) key.places s.sets t.sets
    (subst (λ (es : List Edge). AllZip (IsDupSetOf g es) key.places s.sets) edges this.sets) that.sets in
    let simplest : s.simplest ≡ t.simplest = same_simplest p.simplest t.sets s.simplest t.simplest
    (subst (λ (ss : List DupSet). Simplest p.simplest ss s.simplest) sets this.simplest) that.simplest in
    let lowest : s.lowest ≡ t.lowest = this.lowest ∙ sym that.lowest in
    λ i. record { name = name i; edges = edges i; sets = sets i; simplest = simplest i; lowest = lowest i }

-- ---- the report

-- the laws on reports, policies and what is seen of files
pub record ReportLaws : Type 0 where
  pub keys : (c : Circumstances) → (xs ys : List Key) → AreKeys c xs → AreKeys c ys → xs ≡ ys
  pub unseen : (c : Circumstances) → (view : View) → (packages : List Package) → (xs ys : List Key) → AreKeys c xs
      → AreKeys (seen_anew c view packages) ys → unseeing xs ≡ unseeing ys
  pub words : (c : Circumstances) → (view : View) → (packages : List Package) → (key : Key)
      → IsTrue (asks_no_file key.code) → key_message (seen_anew c view packages) key ≡ key_message c key
  pub policies : (today : Option Day) → (text : List ℕ) → (file : ℕ) → (a b : cfg.Policy)
      → IsPolicyOf today text file a → IsPolicyOf today text file b → policy_view a.bans ≡ policy_view b.bans
  pub buildings : (today : Option Day) → (text : List ℕ) → (file : ℕ) → (a b : cfg.Policy)
      → IsPolicyOf today text file a → IsPolicyOf today text file b → building_of a.bans ≡ building_of b.bans
  pub globs : (today : Option Day) → (text : List ℕ) → (file : ℕ) → (a b : cfg.Policy)
      → IsPolicyOf today text file a → IsPolicyOf today text file b → builtin_file_of a.bans ≡ builtin_file_of b.bans
  pub licences : (today : Option Day) → (text : List ℕ) → (file : ℕ) → (a b : cfg.Policy)
      → IsPolicyOf today text file a → IsPolicyOf today text file b → licensing_of a.licenses ≡ licensing_of b.licenses
  pub expired : (today : Option Day) → (text : List ℕ) → (file : ℕ) → (a b : cfg.Policy)
      → IsPolicyOf today text file a → IsPolicyOf today text file b → past_waivers_of a ≡ past_waivers_of b
  pub sight : (b : Building) → (g : Graph) → HasOneSight b g

-- the finding of a key by its message
abbrev finding_by : Key → Message → Finding
finding_by key words = record { check = check_of_code key.code; kid = words.krate; diag = diag_of key words }

finding_is : (c : Circumstances) (key : Key) → finding_for c key ≡ finding_by key (key_message c key)
unfolding finding_for
finding_is c key = refl

-- ---- reports by one view

-- what is shown of duplicates, by keys with the same duplicates
one_dup_edges : (c : Circumstances) (xs ys : List Key) (a b : List DupEdges)
    → filter is_of_duplicate xs ≡ filter is_of_duplicate ys
    → ShowsEach c.policy c.graph (filter is_of_duplicate xs) a
    → ShowsEach c.policy c.graph (filter is_of_duplicate ys) b → a ≡ b
one_dup_edges c xs ys a b same this that =
    one_zip (AreEdgesOf c.policy c.graph) (one_shown c.policy c.graph) (filter is_of_duplicate ys) a b
    (subst (λ (ks : List Key). ShowsEach c.policy c.graph ks a) same this) that

one_hits : (c : Circumstances) (a b : Report) → IsReport c a → IsReport c b → a.hits ≡ b.hits
one_hits c a b this that =
    one_list (on_total entry_of entry_cmp-total) a.hits b.hits
    (subst (λ (all : List Hit). AreHits all a.hits)
    (hits_alike c this.listed.facts that.listed.facts this.counts that.counts this.listed.true_facts
    that.listed.true_facts this.reports that.reports) this.hits) that.hits

-- reports with the same keys are equal but for what could not be read
reported_alike : (c : Circumstances) (a b : Report) (this : IsReport c a) (that : IsReport c b) → this.keys ≡ that.keys
    → AreReportedAlike a b
reported_alike c a b this that keys =
    let findings : a.findings ≡ b.findings = this.findings ∙ (ap (map (finding_for c)) keys ∙ sym that.findings) in
    let hits : a.hits ≡ b.hits = one_hits c a b this that in
    record {
      krates = this.graph ∙ sym that.graph;
      findings = findings;
      dup_edges = one_dup_edges c this.keys that.keys a.dup_edges b.dup_edges (ap (filter is_of_duplicate) keys)
          this.shown that.shown;
      hits = hits;
      dead = one_list entry_cmp-total a.dead b.dead
          (subst (λ (hs : List Hit). AreDead that.keys hs a.dead) hits
          (subst (λ (ks : List Key). AreDead ks a.hits a.dead) keys this.dead)) that.dead;
      stats = this.stats ∙ (ap (all_stats (is_some c.licensing)) findings ∙ sym that.stats);
      verdict = this.verdict ∙ (ap verdict_of findings ∙ sym that.verdict);
    }

-- reports that are equal but for what could not be read are equal, where that is equal too
one_of : (a b : Report) → AreReportedAlike a b → a.files ≡ b.files → a.unread ≡ b.unread → a.malformed ≡ b.malformed
    → a ≡ b
one_of a b alike files unread malformed = λ i. record {
  files = files i;
  krates = alike.krates i;
  findings = alike.findings i;
  dup_edges = alike.dup_edges i;
  unread = unread i;
  malformed = malformed i;
  hits = alike.hits i;
  dead = alike.dead i;
  stats = alike.stats i;
  verdict = alike.verdict i;
}

-- ---- reports by different views

abbrev is_free : Hit → Bool
is_free h = is_free_kind h.entry.kind

-- the hits that depend on no files
free_hits : (c : Circumstances) (view : View) (packages : List Package) (a b : Report) → IsReport c a
    → IsReport (seen_anew c view packages) b → unseeing_hits a.hits ≡ unseeing_hits b.hits
free_hits c view packages a b this that =
    let d = seen_anew c view packages in
    let same : unseeing_hits (both_hits c this.listed.facts this.counts)
    ≡ unseeing_hits (both_hits d that.listed.facts that.counts) =
    unseeing_alike c view packages this.listed.facts this.counts
    ∙ ap unseeing_hits (hits_alike d this.listed.facts that.listed.facts this.counts that.counts
    (record { chains = this.listed.true_facts.chains; reached = this.listed.true_facts.reached })
    that.listed.true_facts this.reports that.reports) in
    one_ascending (on_total entry_of entry_cmp-total) (unseeing_hits a.hits) (unseeing_hits b.hits)
    (IsStrictlySortedBy-filter hit_cmp is_free a.hits this.hits.ascending)
    (IsStrictlySortedBy-filter hit_cmp is_free b.hits that.hits.ascending)
    (moved a.hits b.hits _ _ this.hits that.hits same) (moved b.hits a.hits _ _ that.hits this.hits (sym same))
  where
    moved : (xs ys all others : List Hit) → AreHits all xs → AreHits others ys
        → unseeing_hits all ≡ unseeing_hits others → (h : Hit) → Contains (unseeing_hits xs) h
        → Contains (unseeing_hits ys) h
    moved xs ys all others these those same h at =
        let free = passes_filter is_free xs h at in
        let there : Contains (unseeing_hits others) h = subst (λ (hits : List Hit). Contains hits h) same
        (Contains-filter is_free all h (these.sound h (filtered is_free xs h at)) free) in
        Contains-filter is_free ys h (those.whole h (filtered is_free others h there)) free

module _ (laws : ReportLaws) where
  -- ---- reports in the same circumstances

  same_saying : (texts : InputTexts) (a b : cfg.Policy) → IsPolicyOf texts.today texts.policy policy_id a
      → IsPolicyOf texts.today texts.policy policy_id b → saying_of a ≡ saying_of b
  same_saying texts a b this that =
      let policies = laws.policies texts.today texts.policy policy_id a b this that in
      let licences = laws.licences texts.today texts.policy policy_id a b this that in
      let buildings = laws.buildings texts.today texts.policy policy_id a b this that in
      let expired = laws.expired texts.today texts.policy policy_id a b this that in
      let globs = laws.globs texts.today texts.policy policy_id a b this that in
      λ i. record {
        policy = policies i;
        licensing = licences i;
        building = buildings i;
        expired = expired i;
        globs = globs i;
      }

  -- the first report in the circumstances of the second, except for what was seen
  moved : (told other : Option Files) (texts : InputTexts) (view otherwise : View) (packages others : List Package)
      (a b : Report) (this : IsReportBy told texts view packages a) (that : IsReportBy other texts otherwise others b)
      → IsReport (circumstances_of that.said that.graph texts.replacements view packages) a
  moved told other texts view otherwise packages others a b this that =
      subst (λ (said : Saying). IsReport (circumstances_on said that.graph texts.replacements view packages) a)
      (same_saying texts this.said that.said this.is_said that.is_said)
      (subst (λ (g : Graph). IsReport (circumstances_of this.said g texts.replacements view packages) a)
      (one_graph texts.metadata this.graph that.graph this.is_graph that.is_graph) this.is_report)

  pub by_view : (told other : Option Files) (texts : InputTexts) (view : View) (packages : List Package) (a b : Report)
      → IsReportBy told texts view packages a → IsReportBy other texts view packages b → AreReportedAlike a b
  by_view told other texts view packages a b this that =
      let c = circumstances_of that.said that.graph texts.replacements view packages in
      let first : IsReport c a = moved told other texts view view packages packages a b this that in
      reported_alike c a b first that.is_report
      (laws.keys c first.keys that.is_report.keys first.listed that.is_report.listed)

  -- ---- reports by different sights of files

  kept_findings : (c : Circumstances) (keys : List Key)
      → unseeing_findings (map (finding_for c) keys) ≡ map (finding_for c) (unseeing keys)
  kept_findings c keys =
      filter-map (λ (f : Finding). asks_no_file f.diag.key.code) (finding_for c) keys
      ∙ ap (map (finding_for c)) (filter_on (λ (key : Key). asks_no_file (finding_for c key).diag.key.code)
      (λ (key : Key). asks_no_file key.code) keys
      (λ key at. ap (λ (k : Key). asks_no_file k.code) (key_of_finding c key)))

  messages_alike : (c : Circumstances) (view : View) (packages : List Package) (keys : List Key)
      → map (finding_for c) (unseeing keys) ≡ map (finding_for (seen_anew c view packages)) (unseeing keys)
  messages_alike c view packages keys =
      map_on (finding_for c) (finding_for (seen_anew c view packages)) (unseeing keys)
      (λ key at. finding_is c key
      ∙ (ap (finding_by key)
      (sym (laws.words c view packages key (passes_filter (λ (k : Key). asks_no_file k.code) keys key at)))
      ∙ sym (finding_is (seen_anew c view packages) key)))

  unseen_alike : (c : Circumstances) (view : View) (packages : List Package) (a b : Report) → IsReport c a
      → IsReport (seen_anew c view packages) b → AreAlikeUnseen a b
  unseen_alike c view packages a b this that =
      let d = seen_anew c view packages in
      let free : unseeing this.keys ≡ unseeing that.keys =
      laws.unseen c view packages this.keys that.keys this.listed that.listed in
      let hits : unseeing_hits a.hits ≡ unseeing_hits b.hits = free_hits c view packages a b this that in
      record {
        krates = this.graph ∙ sym that.graph;
        findings = ap unseeing_findings this.findings ∙ (kept_findings c this.keys
            ∙ (ap (map (finding_for c)) free ∙ (messages_alike c view packages that.keys
            ∙ (sym (kept_findings d that.keys) ∙ ap unseeing_findings (sym that.findings)))));
        dup_edges = one_dup_edges c this.keys that.keys a.dup_edges b.dup_edges
            (duplicates_seen this.keys ∙ (ap (filter is_of_duplicate) free ∙ sym (duplicates_seen that.keys)))
            this.shown that.shown;
        hits = hits;
        dead = dead_unseen this.keys that.keys a.hits b.hits a.dead b.dead free hits this.dead that.dead;
      }

  pub by_any : (told other : Option Files) (texts : InputTexts) (a b : Report) → IsReportOf told texts a
      → IsReportOf other texts b → AreAlikeUnseen a b
  by_any told other texts a b this that =
      unseen_alike (circumstances_of that.by.said that.by.graph texts.replacements this.view this.packages) that.view
      that.packages a b
      (moved told other texts this.view that.view this.packages that.packages a b this.by that.by) that.by.is_report

  -- ---- reports on a disk that tells its files

  -- what could not be read of packages, and how that failed, determine what was seen of them
  same_packages : (files : Files) (building : Option Building) (home : Option (List ℕ)) (g : Graph)
      (unread : List Unread) (packages others : List Package) → AreSeenBy (Some files) building home g unread packages
      → AreSeenBy (Some files) building home g unread others → failures_in packages ≡ failures_in others
      → packages ≡ others
  same_packages files None home g unread packages others this that failures = this.1 ∙ sym that.1
  same_packages files (Some b) home g unread packages others this that failures =
      laws.sight b g files this.reached that.reached home unread packages others this.reports that.reports this.seen
      that.seen failures

  pub by_files : (files : Files) (texts : InputTexts) (a b : Report) (this : IsReportOf (Some files) texts a)
      (that : IsReportOf (Some files) texts b) → a.unread ≡ b.unread
      → failures_in this.packages ≡ failures_in that.packages → a ≡ b
  by_files files texts a b this that unread failures =
      let graphs : this.by.graph ≡ that.by.graph =
      one_graph texts.metadata this.by.graph that.by.graph this.by.is_graph that.by.is_graph in
      let saying = same_saying texts this.by.said that.by.said this.by.is_said that.by.is_said in
      let first : first_files texts.policy this.by.said this.by.graph
      ≡ first_files texts.policy that.by.said that.by.graph =
      λ i. (policy_file texts.policy ∷ globs_files (saying i).globs) ++ lock_file (graphs i).root (graphs i) ∷ [] in
      let seen : IsSeen (Some files) that.by.graph texts.registries
      (first_files texts.policy that.by.said that.by.graph) a.files (of_manifests b.unread) a.malformed this.view =
      subst₃ (λ (g : Graph) (fs : List File) (us : List Unread). IsSeen (Some files) g texts.registries fs a.files
      (of_manifests us) a.malformed this.view) graphs first unread this.by.seen in
      let same = same_seen files that.by.graph texts.registries
      (ids_apart texts.metadata that.by.graph that.by.is_graph)
      (first_files texts.policy that.by.said that.by.graph) (of_manifests b.unread)
      a.files b.files a.malformed b.malformed this.view that.view seen that.by.seen in
      let scan : AreSeenBy (Some files) (building_of that.by.said.bans) texts.home that.by.graph
      (of_packages b.unread) this.packages =
      subst₃ (λ (g : Graph) (said : Saying) (us : List Unread). AreSeenBy (Some files) said.building texts.home g
      (of_packages us) this.packages) graphs saying unread this.by.packages_seen in
      let packages = same_packages files (building_of that.by.said.bans) texts.home that.by.graph
      (of_packages b.unread) this.packages that.packages scan that.by.packages_seen failures in
      one_of a b
      (by_view (Some files) (Some files) texts that.view that.packages a b
      (subst (λ (ps : List Package). IsReportBy (Some files) texts that.view ps a) packages
      (subst (λ (view : View). IsReportBy (Some files) texts view this.packages a) same.seen this.by)) that.by)
      same.files unread same.paths

-- where the policy says nothing of builds no package is walked, and so no call on it failed
pub nothing_failed : (told : Option Files) (texts : InputTexts) (report : Report) (of : IsReportOf told texts report)
    → building_of of.by.said.bans ≡ None → failures_in of.packages ≡ []
nothing_failed told texts report of none =
    let seen : AreSeenBy told None texts.home of.by.graph (of_packages report.unread) of.packages =
    subst (λ (o : Option Building). AreSeenBy told o texts.home of.by.graph (of_packages report.unread) of.packages)
    none
    of.by.packages_seen in
    ap failures_in seen.1
