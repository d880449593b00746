-- What a text writes as a policy is unique, and so is the reason why it is no policy.
use Rattle.std.proofs.Common.{◌≡◌, ◌⊎◌, ◌+◌, ◌++◌, inl, inr, ℕ, List, [], ◌∷◌, map, refl, sym, ap, subst, ◌∙◌}
use Rattle.std.specs.Prelude.{Contains, Option, None, Some}
use Rattle.std.specs.Cmp.{IsTotalOrder, bool_cmp_total, nat_cmp_total, on_total, then_total}
use Rattle.deny_base_lists.specs.Ascending.{Lists}
use Rattle.deny_base.specs.declared.finding.Diagnostic.{Diagnostic}
use Rattle.deny_base.specs.declared.span.Span.{Span}
use Rattle.deny_base_lists.proofs.Members.{Contains-first}
use Rattle.deny_base_lists.proofs.Sorted.{one_list}
use Rattle.deny_base.proofs.EntryEqual.{entry_cmp-total}
use Rattle.deny_base.proofs.KeyEqual.{span_cmp-total}
use Rattle.deny_base.specs.Entry.{entry_cmp}
use Rattle.deny_base.specs.declared.entry.EntryId.{EntryId}
use Rattle.deny_toml.specs.Calls.{below_name}
use Rattle.deny_toml.specs.Clash.{clash}
use Rattle.deny_toml.specs.Faults.{fault_at}
use Rattle.deny_toml.specs.Parser.{IsDocumentOf, IsFaultOf, IsTreeOf}
use Rattle.deny_toml.specs.error.ConfigFault.{ConfigFault}
use Rattle.deny_toml.specs.error.FaultKind.TheVariants.{Grammar}
use Rattle.deny_toml.specs.declared.error.TomlKind.{TomlKind}
use Rattle.deny_toml.specs.declared.error.TomlKind.TheVariants as toml
use Rattle.deny_toml.specs.TomlExpression.{TomlExpression}
use Rattle.deny_toml.specs.value.Value.{Value}
use Rattle.deny_toml.proofs.ParserLaws.{one_tree}
use Rattle.deny_cfg.specs.Clashes.{clash_cmp, clash_diag, kind_number}
use Rattle.deny_cfg.specs.Current.{expired_id, expired_in}
use Rattle.deny_cfg.specs.Warnings.{expired_warnings, warnings_by}
use Rattle.deny_cfg.specs.LicensingView.{licensing_of}
use Rattle.deny_cfg.specs.PolicyText.{AreFaults, IsPolicyOf, ListsFaults, ReadsBans, ReadsLicensing, Says}
use Rattle.deny_cfg.specs.PolicyText.{ReportsClashes, bans_name, faults_of_tree, kind_of, licenses_name}
use Rattle.deny_cfg.specs.PolicyView.{building_of, builtin_file_of, past_waivers_of, policy_view}
use Rattle.deny_cfg_tables.specs.declared.bans.cfg.config.Config.{Config}
use Rattle.deny_cfg_tables.specs.declared.licenses.config.Config as licenses
use Rattle.deny_cfg.specs.declared.clash.Clash.{Clash}
use Rattle.deny_cfg.specs.declared.policy.Policy.{Policy}
use Rattle.deny_cfg_entries.specs.declared.day.Day.{Day}
use Rattle.deny_cfg_entries.proofs.ReadsLaws.{ReadsAlike, alike_table}
use Rattle.deny_cfg_tables.proofs.ConfigLaws.{BothAlike, ConfigsAlike, configs_alike}
use Rattle.deny_cfg_tables.specs.Config.{ReadsConfig}
use Rattle.deny_cfg.proofs.BuildAlike.{BuiltAlike, built_alike}
use Rattle.deny_cfg.proofs.BuildClashes.{clash_alike, clashes_alike}
use Rattle.deny_cfg.proofs.BuildView.{same_building, same_builtin_file, same_older_key}
use Rattle.deny_cfg.proofs.CurrentLaws.{current_file}
use Rattle.deny_cfg.proofs.ExpiredLaws.{Seen, ids_seen, same_shown, same_views, seen_view}
use Rattle.deny_cfg.proofs.LicensingLaws.{HaveAlike, current_licensing, exceptions_read, licensing_alike}
use Rattle.deny_cfg.proofs.ViewLaws.{same_view}

-- a text has at most one tree
one_document : (text : List ℕ) (es fs : List TomlExpression) → IsDocumentOf text es → IsDocumentOf text fs → es ≡ fs
one_document text es fs one two = two.only es one.written

bans_alike : ReadsAlike ReadsBans ConfigsAlike
bans_alike None a b one two = configs_alike [] a b one two
bans_alike (Some v) a b one two = alike_table ReadsConfig ConfigsAlike configs_alike v a b one two

-- what is read twice from one text is read from one tree, whatever the days
module _ (here there : Option Day) (text : List ℕ) (a b : Config) (l m : Option licenses.Config)
    (one : Says here text a l) (two : Says there text b m) where
  bans_of_one : ReadsBans (below_name bans_name one.tree) b
  bans_of_one =
      subst (λ v. ReadsBans (below_name bans_name v) b) (one_tree text two.tree one.tree two.is_tree one.is_tree)
      two.reads

  licensing_of_one : ReadsLicensing (below_name licenses_name one.tree) m
  licensing_of_one =
      subst (λ v. ReadsLicensing (below_name licenses_name v) m)
      (one_tree text two.tree one.tree two.is_tree one.is_tree) two.reads_licenses

  says_alike : ConfigsAlike a b
  says_alike = bans_alike (below_name bans_name one.tree) a b one.reads bans_of_one

  says_built : BuiltAlike a b
  says_built = built_alike (below_name bans_name one.tree) a b one.reads bans_of_one

  same_licensing : (today : Option Day)
      → licensing_of (current_licensing today l) ≡ licensing_of (current_licensing today m)
  same_licensing today =
      licensing_alike today (below_name licenses_name one.tree) l m one.reads_licenses licensing_of_one

  exceptions_of_one : BothAlike HaveAlike l m
  exceptions_of_one = exceptions_read (below_name licenses_name one.tree) l m one.reads_licenses licensing_of_one

module _ (today : Option Day) (text : List ℕ) (file : ℕ) (a b : Policy) (one : IsPolicyOf today text file a)
    (two : IsPolicyOf today text file b) where
  built : BuiltAlike one.config two.config
  built = says_built today today text one.config two.config one.licensing two.licensing one.says two.says

  pub same_policy : policy_view a.bans ≡ policy_view b.bans
  same_policy =
      ap policy_view one.current.bans
      ∙ same_view today one.config two.config file (file + 1) file (file + 1) one.written two.written
      (says_alike today today text one.config two.config one.licensing two.licensing one.says two.says) one.valid
      two.valid
      ∙ sym (ap policy_view two.current.bans)

  pub same_built : building_of a.bans ≡ building_of b.bans
  same_built =
      ap building_of one.current.bans
      ∙ same_building one.config two.config built today file (file + 1) one.written two.written one.valid two.valid
      ∙ sym (ap building_of two.current.bans)

  pub same_globs_file : builtin_file_of a.bans ≡ builtin_file_of b.bans
  same_globs_file =
      current_file today one.written a.bans one.current.bans
      ∙ same_builtin_file one.config two.config built file (file + 1) one.written two.written one.valid two.valid
      ∙ sym (current_file today two.written b.bans two.current.bans)

  all_seen : map seen_view (expired_in today one.written one.licensing)
      ≡ map seen_view (expired_in today two.written two.licensing)
  all_seen =
      same_views today one.config two.config file (file + 1) one.written two.written
      (says_alike today today text one.config two.config one.licensing two.licensing one.says two.says) built one.valid
      two.valid one.licensing two.licensing
      (exceptions_of_one today today text one.config two.config one.licensing two.licensing one.says two.says)

  same_ids : map expired_id a.expired_waivers ≡ map expired_id b.expired_waivers
  same_ids =
      let ids =
      ids_seen (expired_in today one.written one.licensing)
      ∙ (ap (map (λ (seen : Seen). seen.0)) all_seen ∙ sym (ids_seen (expired_in today two.written two.licensing))) in
      one_list entry_cmp-total (map expired_id a.expired_waivers) (map expired_id b.expired_waivers)
      (subst (λ (all : List EntryId). Lists entry_cmp (Contains all) (map expired_id a.expired_waivers)) ids
      one.current.waivers.ids) two.current.waivers.ids

  pub same_expired : a.expired ≡ b.expired
  same_expired = one.current.expired ∙ (same_ids ∙ sym two.current.expired)

  pub same_waivers : past_waivers_of a ≡ past_waivers_of b
  same_waivers =
      same_shown (expired_in today one.written one.licensing) (expired_in today two.written two.licensing)
      a.expired_waivers b.expired_waivers all_seen one.current.waivers.first two.current.waivers.first same_ids

  pub same_warnings : a.warnings ≡ b.warnings
  same_warnings =
      one.warnings
      ∙ (λ i. warnings_by file (same_older_key one.config two.config built i)
      ++ expired_warnings file (same_waivers i))
      ∙ sym two.warnings

  pub same_licences : licensing_of a.licenses ≡ licensing_of b.licenses
  same_licences =
      ap licensing_of one.current.licenses
      ∙ same_licensing today today text one.config two.config one.licensing two.licensing one.says two.says today
      ∙ sym (ap licensing_of two.current.licenses)

-- the one fault of a text outside the grammar
abbrev pub IsGrammarFault : List ConfigFault → Type 0
IsGrammarFault faults = (span : Span) × (faults ≡ fault_at Grammar [] span ∷ [])

abbrev pub AreOne : List ConfigFault → List ConfigFault → Type 0
AreOne xs ys = (xs ≡ ys) ⊎ (IsGrammarFault xs × IsGrammarFault ys)

-- a text that has a tree is in the grammar, and no keys of it clash
no_toml_fault : (text : List ℕ) (of : TomlKind) (span : Span) (v : Value) → IsFaultOf text of span → IsTreeOf text v → ⊥
no_toml_fault text toml.Grammar span v outside is_tree = outside is_tree.0 is_tree.1.written
no_toml_fault text toml.Clash span v clashes is_tree =
    let found : clash clashes.0 ≡ clash is_tree.0 =
    ap clash (one_document text clashes.0 is_tree.0 clashes.1 is_tree.1) in
    cc (found, clashes.2, is_tree.2)

one_toml_fault : (text : List ℕ) (of too : TomlKind) (span other : Span) → IsFaultOf text of span
    → IsFaultOf text too other
    → AreOne (fault_at (kind_of of) [] span ∷ []) (fault_at (kind_of too) [] other ∷ [])
one_toml_fault text toml.Grammar toml.Grammar span other one two = inr ((span, refl), (other, refl))
one_toml_fault text toml.Grammar toml.Clash span other one two = absurd (one two.0 two.1.written)
one_toml_fault text toml.Clash toml.Grammar span other one two = absurd (two one.0 one.1.written)
one_toml_fault text toml.Clash toml.Clash span other one two =
    let found : clash one.0 ≡ clash two.0 = ap clash (one_document text one.0 two.0 one.1 two.1) in
    let same : span ≡ other = cc (found, one.2, two.2) in
    inl (ap (λ s. fault_at (kind_of toml.Clash) [] s ∷ []) same)

one_faults : (today : Option Day) (text : List ℕ) (xs ys : List ConfigFault) → AreFaults today text xs
    → AreFaults today text ys → AreOne xs ys
one_faults today text xs ys (AreFaults.not_utf8 other) (AreFaults.not_utf8 too) = inl refl
one_faults today text xs ys (AreFaults.not_utf8 other) (AreFaults.no_toml of span utf8 fault within) = absurd (other utf8)
one_faults today text xs ys (AreFaults.not_utf8 other) (AreFaults.of_tree v utf8 is_tree) = absurd (other utf8)
one_faults today text xs ys (AreFaults.no_toml of span utf8 fault within) (AreFaults.not_utf8 other) = absurd (other utf8)
one_faults today text xs ys (AreFaults.no_toml of span utf8 fault within) (AreFaults.no_toml too other also found inside) =
    one_toml_fault text of too span other fault found
one_faults today text xs ys (AreFaults.no_toml of span utf8 fault within) (AreFaults.of_tree v also is_tree) =
    absurd (no_toml_fault text of span v fault is_tree)
one_faults today text xs ys (AreFaults.of_tree v utf8 is_tree) (AreFaults.not_utf8 other) = absurd (other utf8)
one_faults today text xs ys (AreFaults.of_tree v utf8 is_tree) (AreFaults.no_toml of span also fault within) =
    absurd (no_toml_fault text of span v fault is_tree)
one_faults today text xs ys (AreFaults.of_tree v utf8 is_tree) (AreFaults.of_tree w also is_too) =
    inl (ap (faults_of_tree today) (one_tree text v w is_tree is_too))

pub same_faults : (today : Option Day) (text : List ℕ) (xs ys : List ConfigFault) → ListsFaults today text xs
    → ListsFaults today text ys → AreOne xs ys
same_faults today text xs ys one two = one_faults today text xs ys one.are two.are

-- a text whose tables can be read has no fault
no_faults : (today : Option Day) (text : List ℕ) (config : Config) (licensing : Option licenses.Config)
    (xs : List ConfigFault) → Says today text config licensing → AreFaults today text xs → xs ≡ []
no_faults today text config licensing xs says (AreFaults.not_utf8 other) = absurd (other says.utf8)
no_faults today text config licensing xs says (AreFaults.no_toml of span utf8 fault within) =
    absurd (no_toml_fault text of span says.tree fault says.is_tree)
no_faults today text config licensing xs says (AreFaults.of_tree v utf8 is_tree) =
    ap (faults_of_tree today) (one_tree text v says.tree is_tree says.is_tree) ∙ says.faultless

pub says_without_faults : (today : Option Day) (text : List ℕ) (config : Config)
    (licensing : Option licenses.Config) (faults : List ConfigFault)
    → Says today text config licensing → ListsFaults today text faults → ⊥
says_without_faults today text config licensing faults says lists =
    lists.some (no_faults today text config licensing faults says lists.are)

-- the clashes of a text are unique, and so are their diagnostics
clash_cmp-total : IsTotalOrder clash_cmp
clash_cmp-total =
    then_total (on_total (λ (c : Clash). c.kind) (on_total kind_number nat_cmp_total))
    (then_total (on_total (λ (c : Clash). c.first) span_cmp-total)
    (then_total (on_total (λ (c : Clash). c.second) span_cmp-total)
    (then_total (on_total (λ (c : Clash). c.third) span_cmp-total)
    (then_total (on_total (λ (c : Clash). c.number) nat_cmp_total)
    (on_total (λ (c : Clash). c.ascii) bool_cmp_total)))))

pub same_reported : (here there : Option Day) (text : List ℕ) (file : ℕ) (xs ys : List Diagnostic)
    → ReportsClashes here text file xs → ReportsClashes there text file ys → xs ≡ ys
same_reported here there text file xs ys one two =
    let alike = says_alike there here text two.config one.config two.licensing one.licensing two.says one.says in
    let back = says_alike here there text one.config two.config one.licensing two.licensing one.says two.says in
    let built = says_built there here text two.config one.config two.licensing one.licensing two.says one.says in
    let too = says_built here there text one.config two.config one.licensing two.licensing one.says two.says in
    let listed =
    clashes_alike text two.config one.config alike built back too two.are.clashes two.are.listed in
    one.are.is ∙ ap (map (clash_diag file))
    (one_list clash_cmp-total one.are.clashes two.are.clashes one.are.listed listed) ∙ sym two.are.is

none_listed : {P : Clash → Type 0} (clashes : List Clash) → ((found : Clash) → P found → ⊥)
    → Lists clash_cmp P clashes → clashes ≡ []
none_listed [] none listed = refl
none_listed (c ∷ clashes) none listed = absurd (none c (listed.sound c (Contains-first c clashes)))

pub policy_without_clashes : (here there : Option Day) (text : List ℕ) (file number : ℕ) (reported : List Diagnostic)
    (policy : Policy) → ReportsClashes here text file reported → IsPolicyOf there text number policy → ⊥
policy_without_clashes here there text file number reported policy reports is =
    let alike =
    says_alike here there text reports.config is.config reports.licensing is.licensing reports.says is.says in
    let built =
    says_built here there text reports.config is.config reports.licensing is.licensing reports.says is.says in
    reports.some (reports.are.is
    ∙ ap (map (clash_diag file))
    (none_listed reports.are.clashes
    (λ found clashes. is.no_clash found (clash_alike text reports.config is.config alike built found clashes))
    reports.are.listed))
