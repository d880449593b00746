-- An error of builds comes only where its rule is active: of a script where the policy lists the crates that may have
-- one, and of a file where it checks executables.
use Rattle.std.proofs.Common.{◌≡◌, ◌&&◌, ◌||◌, ◌∙◌, ℕ, Bool, true, false, not, List, Contains, Option, None, Some, ap}
use Rattle.std.proofs.Common.{refl, sym}
use Rattle.std.specs.Prelude.{is_none, is_some, if◌then◌else◌}
use Rattle.std.specs.List.{list_any}
use Rattle.std.specs.Option.{option_map_or}
use Rattle.std.proofs.lemmas.Bool.{and_parts, false≢true, not-true}
use Rattle.deny_base_lists.proofs.Members.{any_from}
use Rattle.deny_base.specs.Code.{bans_have_entry, bans_rule}
use Rattle.deny_base.specs.Rule.{Rule}
use Rattle.deny_base.specs.declared.code.Code.{Code}
use Rattle.deny_base.specs.declared.code.Code.TheVariants as code
use Rattle.deny_base.specs.declared.code.DiagnosticCode.TheVariants.{Bans}
use Rattle.deny_base.specs.declared.key.Key.{Key}
use Rattle.deny_base.specs.declared.level.Severity.TheVariants as severity
use Rattle.deny_base.specs.declared.span.Span.{Span}
use Rattle.deny_base.specs.declared.span.Spanned.{Spanned}
use Rattle.deny_spec.specs.Building.{Building}
use Rattle.deny_spec.specs.Graph.{Crate}
use Rattle.deny_spec.specs.Match.{matches}
use Rattle.deny_spec.specs.Policy.{Spec}
use Rattle.deny_spec.specs.Wrappers.{same_span}
use Rattle.deny_spec.proofs.SpanLemmas.{same_span-true}
use Rattle.deny_spec_report.specs.BuildScripts.{is_checked, is_active, is_script_denied, is_script_ok, is_walked}
use Rattle.deny_spec_report.specs.BuildScripts.{may_have_script, passes_by_script, script_of, used, wanted_sum}
use Rattle.deny_spec_report.specs.Circumstances.{Circumstances}
use Rattle.deny_spec_report.specs.EachCode.{message_as}
use Rattle.deny_spec_report.specs.Facts.{Facts}
use Rattle.deny_spec_report.specs.Packages.{Scanning, build_keys_in, scanning, package_of, walks}
use Rattle.deny_spec_report.specs.PackageDiags.{checksum_mismatch_diag, is_script_sum, is_sum_of_script}
use Rattle.deny_spec_report.specs.PackageDiags.{mismatch_severity}
use Rattle.deny_spec_report.specs.MessageParts.{not_built}
use Rattle.deny_spec_report.specs.declared.message.Message.{Message}
use Rattle.deny_spec_removal.proofs.Asking.{used_member}
use Rattle.deny_gate.specs.Report.{is_error}
use Rattle.deny_gate.proofs.BuildOrigins.{Origin, denied, is_mild, is_of_files, is_on_files, mild, of_file, of_script}
use Rattle.deny_gate.proofs.BuildOrigins.{of_sum, origin_of}
use Rattle.deny_gate.proofs.BuildEntries.{sum_if}
use Rattle.deny_gate.proofs.ActiveRules.{lists_scripts, checks_files}

-- ---- crates that are walked, and scripts that are not allowed

active_if : (ok active more : Bool) → ((not ok || active) && more) ≡ true → ok ≡ true → active ≡ true
active_if true true more checked is = refl
active_if true false more checked is = absurd (false≢true checked)
active_if false active more checked is = absurd (false≢true is)

walks_active : (l : Scanning) (c : Crate) → walks l c ≡ true → checks_files l.building ≡ true
unfolding is_walked is_checked
walks_active l c walked =
    let both = and_parts (is_checked l.building l.graph l.reached c)
    (is_script_ok l.building c && not (passes_by_script l.building (package_of l c) c)) walked in
    let ok = and_parts (is_script_ok l.building c) (not (passes_by_script l.building (package_of l c) c)) both.1 in
    active_if (is_script_ok l.building c) (is_active l.building.executables) _ both.0 ok.0

listed_by : (o : Option (List Spec)) (c : Crate) (none : Bool)
    → (none || option_map_or (λ specs. list_any (λ spec. matches spec c) specs) o true) ≡ false → is_some o ≡ true
listed_by None c true is = absurd (false≢true (sym is))
listed_by None c false is = absurd (false≢true (sym is))
listed_by (Some specs) c none is = refl

denied_listed : (l : Scanning) (c : Crate)
    → is_script_denied l.building l.graph l.reached (package_of l c) c ≡ true → lists_scripts l.building ≡ true
unfolding is_script_denied is_script_ok may_have_script
denied_listed l c is =
    let both = and_parts (is_checked l.building l.graph l.reached c)
    (not (is_script_ok l.building c) && not (passes_by_script l.building (package_of l c) c)) is in
    let bad = and_parts (not (is_script_ok l.building c)) (not (passes_by_script l.building (package_of l c) c))
    both.1 in
    listed_by l.building.scripts c (is_none (script_of c)) (not-true (is_script_ok l.building c) bad.0)

-- ---- the checksum of a script, which is reported as a warning

pub script_sum_there : (l : Scanning) (c : Crate) (sum : Spanned (List ℕ)) (span : Span)
    → wanted_sum l.building c ≡ Some sum → span ≡ sum.span → is_script_sum l.building span ≡ true
unfolding wanted_sum is_script_sum
script_sum_there l c sum span wanted same =
    let of = sum_if (is_some (script_of c)) (used l.building c) sum wanted in
    any_from (is_sum_of_script span) l.building.bypass of.0 (used_member l.building c of.0 of.1)
    (ap (λ (o : Option (Spanned (List ℕ))). option_map_or (λ s. same_span s.span span) o false) of.2
    ∙ same_span-true sum.span span (sym same))

mild_script : (l : Scanning) (c : Crate) (sum : Spanned (List ℕ)) (key : Key) → wanted_sum l.building c ≡ Some sum
    → key.entry ≡ sum.span → is_error (mismatch_severity l.building key) ≡ false
unfolding mismatch_severity
mild_script l c sum key wanted same =
    ap (λ (b : Bool). is_error (if b then severity.Warning else severity.Error))
    (script_sum_there l c sum key.entry wanted same)

-- ---- code by code

pub same_code : (key : Key) (d e : Code) → key.code ≡ Bans d → key.code ≡ Bans e → d ≡ e
same_code key d e one other = let both : Bans d ≡ Bans e = sym one ∙ other in cc both

module _ (c : Circumstances) (facts : Facts) (b : Building) (is_said : c.building ≡ Some b) (key : Key)
    (of : Origin (scanning c facts b) key) where
  -- a script that is not allowed is reported where the list of scripts is active
  script_active : key.code ≡ Bans code.BuildScriptNotAllowed → lists_scripts b ≡ true
  script_active is = by of
    where
      by : Origin (scanning c facts b) key → lists_scripts b ≡ true
      by (mild d code_is mine) = absurd (false≢true (ap is_mild
          (same_code key code.BuildScriptNotAllowed d is code_is) ∙ mine))
      by (denied k code_is bad) = denied_listed (scanning c facts b) k bad
      by (of_script k sum known code_is checked wanted same) =
          absurd (cc (same_code key code.ChecksumMismatch code.BuildScriptNotAllowed code_is is))
      by (of_file k d code_is mine walked) = absurd (false≢true (ap is_of_files
          (same_code key code.BuildScriptNotAllowed d is code_is) ∙ mine))
      by (of_sum k sum code_is walked path same) =
          absurd (cc (same_code key code.ChecksumMismatch code.BuildScriptNotAllowed code_is is))

  -- a code of files is reported where the checks of files are active
  file_active : (d : Code) → key.code ≡ Bans d → is_of_files d ≡ true → checks_files b ≡ true
  file_active d is mine = by of
    where
      by : Origin (scanning c facts b) key → checks_files b ≡ true
      by (mild e code_is soft) = absurd (never (bans_rule d) (bans_have_entry d)
          (ap is_mild (same_code key d e is code_is) ∙ soft) mine)
        where
          never : (o : Option Rule) (entry : Bool) → is_none o ≡ true
              → (option_map_or is_on_files o false && not entry) ≡ true → ⊥
          never None entry soft mine = false≢true mine
          never (Some rule) entry soft mine = false≢true soft
      by (denied k code_is bad) = absurd (false≢true (ap is_of_files
          (same_code key code.BuildScriptNotAllowed d code_is is) ∙ mine))
      by (of_script k sum known code_is checked wanted same) = absurd (false≢true (ap is_of_files
          (same_code key code.ChecksumMismatch d code_is is) ∙ mine))
      by (of_file k e code_is too walked) = walks_active (scanning c facts b) k walked
      by (of_sum k sum code_is walked path same) = walks_active (scanning c facts b) k walked

  -- another checksum is an error where the checks of files are active
  sum_active : key.code ≡ Bans code.ChecksumMismatch → is_error (mismatch_severity b key) ≡ true → checks_files b ≡ true
  sum_active is error = by of
    where
      by : Origin (scanning c facts b) key → checks_files b ≡ true
      by (mild d code_is mine) = absurd (false≢true (ap is_mild (same_code key code.ChecksumMismatch d is code_is)
          ∙ mine))
      by (denied k code_is bad) =
          absurd (cc (same_code key code.BuildScriptNotAllowed code.ChecksumMismatch code_is is))
      by (of_script k sum known code_is checked wanted same) =
          absurd (false≢true (sym (mild_script (scanning c facts b) k sum key wanted same) ∙ error))
      by (of_file k d code_is mine walked) = walks_active (scanning c facts b) k walked
      by (of_sum k sum code_is walked path same) = walks_active (scanning c facts b) k walked

-- an error of such a code comes only where its rule is active
module _ (c : Circumstances) (facts : Facts) (key : Key) (at : Contains (build_keys_in c facts) key) where
  active_in : (test : Building → Bool) → ((b : Building) → c.building ≡ Some b → Origin (scanning c facts b) key
      → test b ≡ true) → option_map_or test c.building false ≡ true
  active_in test each =
      let of = origin_of c facts key at in
      ap (λ (o : Option Building). option_map_or test o false) of.is_said ∙ each of.building of.is_said of.origin

  pub denied_active : key.code ≡ Bans code.BuildScriptNotAllowed → option_map_or lists_scripts c.building false ≡ true
  denied_active is = active_in lists_scripts (λ b said of. script_active c facts b said key of is)

  pub files_active : (d : Code) → key.code ≡ Bans d → is_of_files d ≡ true
      → option_map_or checks_files c.building false ≡ true
  files_active d is mine = active_in checks_files (λ b said of. file_active c facts b said key of d is mine)

  mismatch_error : (b : Building) → c.building ≡ Some b
      → is_error (message_as code.ChecksumMismatch c key).severity ≡ true → is_error (mismatch_severity b key) ≡ true
  unfolding message_as checksum_mismatch_diag
  mismatch_error b said error =
      sym (ap (λ (o : Option Building). is_error (build_diag_by o).severity) said) ∙ error
    where
      build_diag_by : Option Building → Message
      build_diag_by o = option_map_or (λ b. checksum_mismatch_diag b c key) o not_built

  pub mismatch_active : key.code ≡ Bans code.ChecksumMismatch
      → is_error (message_as code.ChecksumMismatch c key).severity ≡ true
      → option_map_or checks_files c.building false ≡ true
  mismatch_active is error = active_in checks_files
      (λ b said of. sum_active c facts b said key of is (mismatch_error b said error))
