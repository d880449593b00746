-- The diagnostics of a text that is no policy, and that a text without clashes has none but warnings.
use Rattle.deny_base_lists.proofs.Members.{no_member}
use Rattle.deny_base_lists.proofs.PrefixLemmas.{gains_whole_of}
use Rattle.std.proofs.Common.{◌≡◌, ◌++◌, ◌-◌, ℕ, List, [], ◌∷◌, Contains, append_assoc, length, map, take, Ok, Err, inl}
use Rattle.std.proofs.Common.{inr, refl, sym, ap, ◌∙◌, subst, arith}
use Rattle.std.proofs.lemmas.Bool.{cases_lt}
use Rattle.std.proofs.lemmas.List.{length-append, take-append-le, take_all}
use Rattle.std.proofs.Math.Seq.{take-append_seam}
use Rattle.std.specs.Prelude.{IfErr, IfOk, IsUtf8, OnErr, Option, Result}
use Rattle.deny_base.specs.declared.files.File.{File}
use Rattle.deny_base.specs.declared.finding.Diagnostic.{Diagnostic}
use Rattle.deny_base.specs.declared.span.Span.{Span}
use Rattle.deny_spec.specs.Keys.{no_span}
use Rattle.deny_toml.proofs.FaultLaws.{reports_these, single_ascends}
use Rattle.deny_toml.specs.Faults.{Reports, fault_at}
use Rattle.deny_toml.specs.Parser.{IsFaultOf, IsTreeOf}
use Rattle.deny_toml.specs.Spans.{IsSpan}
use Rattle.deny_toml.specs.error.ConfigFault.{ConfigFault}
use Rattle.deny_toml.specs.error.DeserError.TheVariants as deser
use Rattle.deny_toml.specs.error.FaultKind.TheVariants as kind
use Rattle.deny_toml.specs.declared.error.TomlKind.{TomlKind}
use Rattle.deny_toml.specs.value.Value.{Value}
use Rattle.deny_cfg.specs.Clashes.{AreClashes, IsClash, clash_cmp, clash_diag}
use Rattle.deny_cfg.specs.PolicyText.{AddsFiles, AreFaults, IsNoPolicy, Keeps, KeepsOnError}
use Rattle.deny_cfg.specs.private.PolicyText.{AddsOnError, IsConfig}
use Rattle.deny_cfg.specs.PolicyText.{ListsFaults, faults_of_tree, globs_files, kind_of, policy_file, policy_files}
use Rattle.deny_cfg.specs.PolicyText.AreFaults.{not_utf8, no_toml, of_tree}
use Rattle.deny_base_lists.specs.Ascending.{Lists}
use Rattle.deny_base_lists.specs.Prefix.{Gains, GainsPrefix, GainsPrefixOf}
use Rattle.deny_cfg.specs.Warnings.{warnings_of}
use Rattle.deny_cfg.specs.private.Warnings.{AreReported}
use Rattle.deny_cfg_entries.specs.declared.day.Day.{Day}
use Rattle.deny_cfg_tables.specs.declared.bans.cfg.config.Config.{Config}
use Rattle.deny_cfg.specs.declared.clash.Clash.{Clash}
use Rattle.deny_cfg.specs.PolicyView.{builtin_file_of}
use Rattle.deny_cfg.specs.declared.policy.Policy.{Policy}
use Rattle.deny_cfg.specs.declared.policy.PolicyError.{PolicyError}
use Rattle.deny_cfg.specs.declared.policy.PolicyError.TheVariants as error

pub config_weaker : (P Q : List ConfigFault → Type 0) (e : PolicyError)
    → ((faults : List ConfigFault) → P faults → Q faults) → IsConfig P e → IsConfig Q e
config_weaker P Q (error.Config faults) more is = more faults is
config_weaker P Q (error.Invalid reported) more is = is
config_weaker P Q error.Memory more is = is

-- a fault that is the only one of its text
single_listed : (today : Option Day) (text : List ℕ) (fault : ConfigFault) (faults : List ConfigFault)
    → AreFaults today text (fault ∷ []) → faults ≡ fault ∷ [] → ListsFaults today text faults
single_listed today text fault faults are is =
    subst (ListsFaults today text) (sym is) record { are = are; some = λ none. cc; ascending = single_ascends fault }

pub toml_listed : (today : Option Day) (text : List ℕ) (of : TomlKind) (span : Span) (faults : List ConfigFault)
    → IsUtf8 text → IsFaultOf text of span → IsSpan text span
    → faults ≡ fault_at (kind_of of) [] span ∷ [] → ListsFaults today text faults
toml_listed today text of span faults utf8 fault within is =
    single_listed today text _ faults (no_toml of span utf8 fault within) is

pub utf8_listed : (today : Option Day) (text : List ℕ) (faults : List ConfigFault) → ¬ IsUtf8 text
    → faults ≡ fault_at kind.NotUtf8 [] no_span ∷ [] → ListsFaults today text faults
utf8_listed today text faults other is = single_listed today text _ faults (not_utf8 other) is

pub tree_listed : (today : Option Day) (text : List ℕ) (v : Value) (faults : List ConfigFault) → IsUtf8 text
    → IsTreeOf text v → Reports (faults_of_tree today v) (deser.Faults faults)
    → ListsFaults today text faults
tree_listed today text v faults utf8 tree reported =
    let these = reports_these (faults_of_tree today v) faults reported in
    subst (ListsFaults today text) (sym these.0) record
    { are = of_tree v utf8 tree; some = these.1; ascending = these.2 }

nothing_mapped : {A B : Type 0} (f : A → B) (xs : List A) → map f xs ≡ [] → xs ≡ []
nothing_mapped f [] e = refl
nothing_mapped f (x ∷ xs) e = cc

-- without diagnostics there are no clashes
pub none_reported : (text : List ℕ) (config : Config) (file : ℕ) (reported : List Diagnostic)
    → AreClashes text config file reported → reported ≡ [] → (found : Clash) → IsClash text config found → ⊥
none_reported text config file reported are none found is =
    let empty : are.clashes ≡ [] = nothing_mapped (clash_diag file) are.clashes (sym are.is ∙ none) in
    no_member found (subst (λ (xs : List Clash). Contains xs found) empty (are.listed.whole found is))

-- there are no clashes exactly where there are as many diagnostics as warnings
pub none_before : {T : Type 0} (clashes warnings reported : List T) → reported ≡ clashes ++ warnings
    → length reported ≡ length warnings → clashes ≡ []
none_before [] warnings reported is long = refl
none_before (x ∷ xs) warnings reported is long =
    absurd (omega (arith, ap length is, length-append (x ∷ xs) warnings, long))

-- the diagnostics without the warnings are the clashes
pub first_left : {T : Type 0} (clashes warnings reported : List T) (count : ℕ) → reported ≡ clashes ++ warnings
    → count ≡ length reported - length warnings → take count reported ≡ clashes
first_left clashes warnings reported count is long =
    let same : count ≡ length clashes =
    omega (arith, long, ap length is, length-append clashes warnings) in
    (λ i. take (same i) (is i)) ∙ take-append_seam clashes warnings

-- a list that was empty has what it gains
pub gained : {T : Type 0} (P : List T → Type 0) (old new : List T) → old ≡ [] → Gains P old new → P new
gained P old new none gains = subst P (sym (gains.behind ∙ ap (λ xs. xs ++ gains.more) none)) gains.are

-- ---- the files
kept_policy : (bytes text : List ℕ) (old mid new more : List File) → text ≡ bytes
    → mid ≡ old ++ policy_file text ∷ [] → new ≡ mid ++ more → new ≡ old ++ policy_file bytes ∷ more
kept_policy bytes text old mid new more same put added =
    added ∙ (ap (λ fs. fs ++ more) (put ∙ ap (λ t. old ++ policy_file t ∷ []) same)
    ∙ append_assoc old (policy_file bytes ∷ []) more)

pub kept_policies : (r : Result Policy PolicyError) (bytes text : List ℕ) (old mid new : List File) → text ≡ bytes
    → mid ≡ old ++ policy_file text ∷ []
    → IfOk r (λ policy. new ≡ mid ++ globs_files (builtin_file_of policy.bans))
    → IfOk r (λ policy. new ≡ old ++ policy_files bytes policy.bans)
kept_policies (Ok policy) bytes text old mid new same put added =
    kept_policy bytes text old mid new (globs_files (builtin_file_of policy.bans)) same put added
kept_policies (Err e) bytes text old mid new same put added = tt

-- a text that is UTF-8 is added behind the files
kept_text : (bytes : List ℕ) (old mid : List File) → IsUtf8 bytes → mid ≡ old ++ policy_file bytes ∷ []
    → Keeps bytes old mid
kept_text bytes old mid utf8 put = record { utf8 = λ _. put; other = λ not. absurd (not utf8) }

kept_at : (today : Option Day) (e : PolicyError) (bytes : List ℕ) (old mid new : List File) → IsUtf8 bytes
    → mid ≡ old ++ policy_file bytes ∷ [] → AddsOnError today e bytes mid new → KeepsOnError today e bytes old new
kept_at today (error.Config faults) bytes old mid new utf8 put adds =
    subst (Keeps bytes old) (sym adds) (kept_text bytes old mid utf8 put)
kept_at today (error.Invalid reported) bytes old mid new utf8 put adds =
    subst (λ files. AddsFiles today bytes files new) put adds
kept_at today error.Memory bytes old mid new utf8 put (inl same) =
    inr (inl (subst (Keeps bytes old) (sym same) (kept_text bytes old mid utf8 put)))
kept_at today error.Memory bytes old mid new utf8 put (inr adds) =
    inr (inr (subst (λ files. AddsFiles today bytes files new) put adds))

pub kept_on_error : {T : Type 0} (today : Option Day) (r : Result T PolicyError) (bytes text : List ℕ)
    (old mid new : List File)
    → IsUtf8 bytes → text ≡ bytes → mid ≡ old ++ policy_file text ∷ []
    → IfErr r (λ e. AddsOnError today e text mid new) → IfErr r (λ e. KeepsOnError today e bytes old new)
kept_on_error today (Ok x) bytes text old mid new utf8 same put adds = tt
kept_on_error today (Err e) bytes text old mid new utf8 same put adds =
    kept_at today e bytes old mid new utf8 (put ∙ ap (λ t. old ++ policy_file t ∷ []) same)
    (subst (λ t. AddsOnError today e t mid new) same adds)

pub on_error : {T E : Type 0} (r : Result T E) (P : Type 0) → P → OnErr r P
on_error (Ok x) P is = tt
on_error (Err e) P is = is

pub on_error_more : {T E : Type 0} (r : Result T E) (P Q : Type 0) → (P → Q) → OnErr r P → OnErr r Q
on_error_more (Ok x) P Q more is = tt
on_error_more (Err e) P Q more is = more is

pub no_policy_of : (today : Option Day) (text : List ℕ) (file : ℕ) (e : PolicyError)
    → IsConfig (ListsFaults today text) e → IsNoPolicy today text file e
no_policy_of today text file (error.Config faults) is = is
no_policy_of today text file (error.Invalid reported) is = absurd is
no_policy_of today text file error.Memory is = tt

-- nothing is added where the text has faults, or perhaps when out of memory
pub none_added : (today : Option Day) (e : PolicyError) (P : List ConfigFault → Type 0) (text : List ℕ)
    (files : List File) → IsConfig P e → AddsOnError today e text files files
none_added today (error.Config faults) P text files is = refl
none_added today (error.Invalid reported) P text files is = absurd is
none_added today error.Memory P text files is = inl refl

-- the diagnostics of a configuration: its clashes, and then its warnings
reported_of : (source : List ℕ) (config : Config) (file : ℕ) (clashes : List Clash)
    → Lists clash_cmp (IsClash source config) clashes
    → AreReported source config file (map (clash_diag file) clashes ++ warnings_of file config)
reported_of source config file clashes listed = record {
  clashes = map (clash_diag file) clashes;
  are = record { clashes = clashes; listed = listed; is = refl };
  is = refl;
}

-- a prefix of the first part is a prefix of both parts
gains_first : {T : Type 0} (first second old new : List T) → GainsPrefix first old new
    → GainsPrefix (first ++ second) old new
gains_first first second old new gains = elim (cases_lt gains.count (length first)) [
  | inl short ↦ record {
    count = gains.count;
    behind = gains.behind
        ∙ ap (λ xs. old ++ xs) (sym (take-append-le gains.count first second (omega (arith, short))));
  }
  | inr long ↦ record {
    count = length first;
    behind = gains.behind
        ∙ ap (λ xs. old ++ xs)
        (take_all gains.count first (omega (arith, long)) ∙ sym (take-append_seam first second));
  }
]

pub reported_first : (source : List ℕ) (config : Config) (file : ℕ) (clashes given : List Clash)
    (old new : List Diagnostic) → Lists clash_cmp (IsClash source config) clashes → given ≡ clashes
    → GainsPrefix (map (clash_diag file) given) old new
    → GainsPrefixOf (AreReported source config file) old new
reported_first source config file clashes given old new listed same gains =
    let reported = map (clash_diag file) clashes in
    inr (
      reported ++ warnings_of file config,
      reported_of source config file clashes listed,
      gains_first reported (warnings_of file config) old new
          (subst (λ cs. GainsPrefix (map (clash_diag file) cs) old new) same gains),
    )

-- all diagnostics are reported
pub reported_whole : (source given : List ℕ) (config : Config) (file : ℕ) (old new : List Diagnostic) → given ≡ source
    → Gains (AreReported given config file) old new → GainsPrefixOf (AreReported source config file) old new
reported_whole source given config file old new same gains =
    gains_whole_of (AreReported source config file) gains.more old new
    (subst (λ text. AreReported text config file gains.more) same gains.are) gains.behind
