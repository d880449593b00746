-- A text as a policy: its faults, its clashes, and the policy where it has neither.
use Rattle.std.specs.Prelude.{◌≡◌, ◌≢◌, ◌+◌, ◌++◌, ◌⊎◌, ⊤, ℕ, All, List, [], ◌∷◌, Option, None, Some, codes, IsUtf8}
use Rattle.std.specs.List.Sorted.{IsStrictlySortedBy}
use Rattle.deny_base.specs.declared.files.File.{File}
use Rattle.deny_base.specs.declared.finding.Diagnostic.{Diagnostic}
use Rattle.deny_base.specs.declared.span.Span.{Span}
use Rattle.deny_spec.specs.Keys.{no_span}
use Rattle.deny_toml.specs.Calls.{below_name}
use Rattle.deny_toml.specs.Faults.{fault_at, fault_cmp, in_order}
use Rattle.deny_toml.specs.Parser.{IsFaultOf, IsTreeOf}
use Rattle.deny_toml.specs.Spans.{IsSpan}
use Rattle.deny_toml.specs.TableHelper.{optional_faults}
use Rattle.deny_toml.specs.error.ConfigFault.{ConfigFault}
use Rattle.deny_toml.specs.error.FaultKind.{FaultKind}
use Rattle.deny_toml.specs.error.FaultKind.TheVariants as kind
use Rattle.deny_toml.specs.declared.error.TomlKind.{TomlKind}
use Rattle.deny_toml.specs.declared.error.TomlKind.TheVariants as toml
use Rattle.deny_toml.specs.value.Value.{Value}
use Rattle.deny_cfg_entries.specs.declared.day.Day.{Day}
use Rattle.deny_cfg.specs.Clashes.{AreClashes, IsClash}
use Rattle.deny_cfg.specs.Current.{IsCurrent}
use Rattle.deny_cfg.specs.Warnings.{expired_warnings, warnings_of}
use Rattle.deny_cfg_tables.specs.Config.{ReadsConfig, faults_of_config}
use Rattle.deny_cfg_tables.specs.Licenses.{ReadsLicenses, faults_of_licenses}
use Rattle.deny_cfg.specs.LabelSpans.{reported_spans}
use Rattle.deny_cfg.specs.Marks.{IsClashSpan}
use Rattle.deny_cfg.specs.PolicyView.{builtin_file_of, past_waivers_of}
use Rattle.deny_cfg.specs.declared.bans.cfg.valid.ValidConfig.{ValidConfig}
use Rattle.deny_cfg_build.specs.Builtin.{builtin_file}
use Rattle.deny_cfg_entries.specs.Table.{ReadsIfThere, ReadsTable}
use Rattle.deny_cfg.specs.Valid.{IsValidOf, files_asked}
use Rattle.deny_cfg.specs.Waiting.{no_today}
use Rattle.deny_cfg.specs.declared.clash.Clash.{Clash}
use Rattle.deny_cfg_tables.specs.declared.bans.cfg.config.Config.{Config}
use Rattle.deny_cfg_tables.specs.declared.licenses.config.Config as licenses
use Rattle.deny_cfg.specs.declared.policy.Policy.{Policy}
use Rattle.deny_cfg.specs.declared.policy.PolicyError.{PolicyError}
use Rattle.deny_cfg.specs.declared.policy.PolicyError.TheVariants as error

abbrev pub bans_name : List ℕ
bans_name = codes "bans"

abbrev pub licenses_name : List ℕ
licenses_name = codes "licenses"

-- the faults of a tree as the policy of a day: those of its tables `bans` and `licenses`, and where no day is given
-- each day until which an entry counts, in ascending order, each once; other keys of the root are not read
unfoldable pub faults_of_tree : Option Day → Value → List ConfigFault
faults_of_tree today v = in_order (
    no_today today v
    ++ (optional_faults faults_of_config bans_name (below_name bans_name v)
    ++ optional_faults faults_of_licenses licenses_name (below_name licenses_name v))
    )

abbrev pub kind_of : TomlKind → FaultKind
kind_of toml.Grammar = kind.Grammar
kind_of toml.Clash = kind.Clash

-- These are the faults of a text as the policy of a day. A text that is not UTF-8, or no TOML, has that fault alone.
pub data AreFaults (today : Option Day) (text : List ℕ) : List ConfigFault → Type 0 where
  not_utf8 : ¬ IsUtf8 text → AreFaults today text (fault_at kind.NotUtf8 [] no_span ∷ [])
  no_toml : (of : TomlKind) (span : Span) → IsUtf8 text → IsFaultOf text of span → IsSpan text span
      → AreFaults today text (fault_at (kind_of of) [] span ∷ [])
  of_tree : (v : Value) → IsUtf8 text → IsTreeOf text v → AreFaults today text (faults_of_tree today v)

-- A text has these faults, at least one, in ascending order, each once.
pub record ListsFaults (today : Option Day) (text : List ℕ) (faults : List ConfigFault) : Type 0 where
  pub are : AreFaults today text faults
  pub some : faults ≢ []
  pub ascending : IsStrictlySortedBy fault_cmp faults

-- what is read from the table `bans`; without it, all its defaults
abbrev pub ReadsBans : Option Value → Config → Type 0
ReadsBans None config = ReadsConfig [] config
ReadsBans (Some v) config = ReadsTable ReadsConfig v config

-- what is read from the table `licenses`: nothing exactly where there is no such table
abbrev pub ReadsLicensing : Option Value → Option licenses.Config → Type 0
ReadsLicensing = ReadsIfThere (ReadsTable ReadsLicenses)

-- A text is TOML, its tree has no fault on that day, and this is read from its tables `bans` and `licenses`.
pub record Says (today : Option Day) (text : List ℕ) (config : Config) (licensing : Option licenses.Config)
    : Type 0 where
  pub utf8 : IsUtf8 text
  pub tree : Value
  pub is_tree : IsTreeOf text tree
  pub faultless : faults_of_tree today tree ≡ []
  pub reads : ReadsBans (below_name bans_name tree) config
  pub reads_licenses : ReadsLicensing (below_name licenses_name tree) licensing

-- This is the policy of a day of a text that is the last file: the text is TOML without faults and without clashes,
-- and of what it writes the policy has what counts on that day.
pub record IsPolicyOf (today : Option Day) (text : List ℕ) (file : ℕ) (policy : Policy) : Type 0 where
  pub config : Config
  pub licensing : Option licenses.Config
  pub says : Says today text config licensing
  pub no_clash : (found : Clash) → IsClash text config found → ⊥
  pub written : ValidConfig
  pub valid : IsValidOf config file (file + 1) written
  pub current : IsCurrent today written licensing policy
  pub warnings : policy.warnings ≡ warnings_of file config ++ expired_warnings file (past_waivers_of policy)

-- These diagnostics report the clashes of a text without faults. All labels lie in the text, at values of its tree, at
-- names in them, or at the byte of an extension that is not allowed.
pub record ReportsClashes (today : Option Day) (text : List ℕ) (file : ℕ) (reported : List Diagnostic)
    : Type 0 where
  pub config : Config
  pub licensing : Option licenses.Config
  pub says : Says today text config licensing
  pub some : reported ≢ []
  pub are : AreClashes text config file reported
  pub located : All (IsClashSpan text) (reported_spans reported)

-- A text is no policy for this reason. An error for lack of memory says nothing of the text.
abbrev pub IsNoPolicy : Option Day → List ℕ → ℕ → PolicyError → Type 0
IsNoPolicy today text file (error.Config faults) = ListsFaults today text faults
IsNoPolicy today text file (error.Invalid reported) = ReportsClashes today text file reported
IsNoPolicy today text file error.Memory = ⊤

-- the file of a policy's text
abbrev pub policy_file : List ℕ → File
policy_file text = record { path = codes "deny.toml"; source = text }

-- A text is added behind the other files where it is UTF-8.
pub record Keeps (text : List ℕ) (old new : List File) : Type 0 where
  pub utf8 : IsUtf8 text → new ≡ old ++ policy_file text ∷ []
  pub other : ¬ IsUtf8 text → new ≡ old

-- the file of the built-in globs, where it has a number
abbrev pub globs_files : Option ℕ → List File
globs_files None = []
globs_files (Some number) = builtin_file ∷ []

-- the file of the policy's text, and behind it that of the built-in globs, if any
abbrev pub policy_files : List ℕ → ValidConfig → List File
policy_files text cfg = policy_file text ∷ globs_files (builtin_file_of cfg)

-- A text without faults adds the file of the built-in globs, exactly where it asks for them.
pub record AddsFiles (today : Option Day) (text : List ℕ) (old new : List File) : Type 0 where
  pub config : Config
  pub licensing : Option licenses.Config
  pub says : Says today text config licensing
  pub is : new ≡ old ++ files_asked config

-- the text is added behind the other files, and behind it the file that it asks for
abbrev pub KeepsAll : Option Day → List ℕ → List File → List File → Type 0
KeepsAll today text old new = AddsFiles today text (old ++ policy_file text ∷ []) new

-- the files after an error: when out of memory, they may also be unchanged
abbrev pub KeepsOnError : Option Day → PolicyError → List ℕ → List File → List File → Type 0
KeepsOnError today (error.Config faults) text old new = Keeps text old new
KeepsOnError today (error.Invalid reported) text old new = KeepsAll today text old new
KeepsOnError today error.Memory text old new = (new ≡ old) ⊎ (Keeps text old new ⊎ KeepsAll today text old new)
