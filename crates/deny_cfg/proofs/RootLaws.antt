-- What is read from a root, whose tables are taken out one after the other.
use Rattle.std.proofs.Common.{◌≡◌, ◌++◌, ℕ, false, List, [], Option, None, Some, Bor, append-nil, append_assoc, refl, sym}
use Rattle.std.proofs.Common.{ap}
use Rattle.std.proofs.Common.{Ok, Err, subst, ◌∙◌}
use Rattle.std.specs.Prelude.{IfOk, Result, is_some, option_and_then, option_copied, unwrap_or}
use Rattle.deny_toml.proofs.FaultLaws.{in_order-empty}
use Rattle.deny_toml.specs.Calls.{below_name, table_in, value_at, without}
use Rattle.deny_toml.specs.Faults.{in_order}
use Rattle.deny_toml.specs.TableHelper.{optional_faults}
use Rattle.deny_toml.specs.TableHelper as helper
use Rattle.deny_toml.specs.Value.{entries_in, table_with}
use Rattle.deny_toml.specs.error.ConfigFault.{ConfigFault}
use Rattle.deny_toml.specs.value.Table.{Table}
use Rattle.deny_toml.specs.value.Value.{Value}
use Rattle.deny_cfg_entries.proofs.TableLaws.{none_first, none_rest, optional_read, read_in, value_at-without}
use Rattle.deny_cfg_entries.specs.Table.{Entries, ReadsIn, ReadsIfThere, ReadsTable}
use Rattle.deny_cfg_entries.specs.declared.day.Day.{Day}
use Rattle.deny_cfg_tables.specs.Config.{ReadsConfig, faults_of_config}
use Rattle.deny_cfg_tables.specs.Licenses.{ReadsLicenses, faults_of_licenses}
use Rattle.deny_cfg_tables.specs.declared.bans.cfg.config.Config.{Config}
use Rattle.deny_cfg_tables.specs.declared.licenses.config.Config as licenses
use Rattle.deny_cfg.specs.PolicyText.{ReadsBans, ReadsLicensing, bans_name, faults_of_tree, licenses_name}
use Rattle.deny_cfg.specs.Waiting.{no_today}

named_in : (name : List ℕ) (t : Option Table) (o : Option Value)
    → ReadsIn (λ entries found. value_at name entries ≡ found) t o
    → option_and_then (λ u. value_at name (entries_in u)) t ≡ o
named_in name None o reads = absurd reads
named_in name (Some t) o reads = reads

-- the value of this table at a name
below_with : (name : List ℕ) (v : Value) (entries : Entries) → table_in v ≡ Some (table_with entries)
    → below_name name v ≡ value_at name entries
below_with name v entries table =
    named_in name (table_in v) (value_at name entries)
    (read_in (λ es found. value_at name es ≡ found) v entries (value_at name entries) table refl)

-- the faults of the two tables, by the values of the root at their names
faults_at : Option Value → Option Value → List ConfigFault
faults_at bans licensing =
    optional_faults faults_of_config bans_name bans ++ optional_faults faults_of_licenses licenses_name licensing

of_root : (today : Option Day) (v : Value) → faults_of_tree today v
    ≡ in_order (no_today today v ++ faults_at (below_name bans_name v) (below_name licenses_name v))
unfolding faults_of_tree faults_at
of_root today v = refl

-- a value that is no table has no other fault than for want of a day
no_table : (today : Option Day) (v : Value) → table_in v ≡ None → in_order (no_today today v) ≡ faults_of_tree today v
unfolding faults_at
no_table today v none =
    ap in_order (sym (append-nil (no_today today v)))
    ∙ (λ i. in_order (no_today today v
    ++ faults_at (option_and_then (λ t. value_at bans_name (entries_in t)) (sym none i))
    (option_and_then (λ t. value_at licenses_name (entries_in t)) (sym none i))))
    ∙ sym (of_root today v)

pub no_root : (today : Option Day) (v : Value) (table : Option (Bor Table)) (waiting : List ConfigFault)
    → option_copied table ≡ table_in v → is_some table ≡ false → waiting ≡ no_today today v
    → in_order waiting ≡ faults_of_tree today v
no_root today v None waiting copied none is = ap in_order is ∙ no_table today v (sym copied)
no_root today v (Some t) waiting copied none is = cc none

-- a value that is no table has neither of the tables
no_table_at : (v : Value) (table : Option (Bor Table)) → option_copied table ≡ table_in v → is_some table ≡ false
    → table_in v ≡ None
no_table_at v None copied none = sym copied
no_table_at v (Some t) copied none = cc none

pub bans_without : (v : Value) (table : Option (Bor Table)) (config : Config) → option_copied table ≡ table_in v
    → is_some table ≡ false → ReadsBans None config → ReadsBans (below_name bans_name v) config
bans_without v table config copied none reads =
    subst (λ t. ReadsBans (option_and_then (λ u. value_at bans_name (entries_in u)) t) config)
    (sym (no_table_at v table copied none)) reads

pub licensing_without : (v : Value) (table : Option (Bor Table)) (licensing : Option licenses.Config)
    → option_copied table ≡ table_in v → is_some table ≡ false → licensing ≡ None
    → ReadsLicensing (below_name licenses_name v) licensing
licensing_without v table licensing copied none reads =
    subst (λ t. ReadsLicensing (option_and_then (λ u. value_at licenses_name (entries_in u)) t) licensing)
    (sym (no_table_at v table copied none)) reads

-- a table that is left out has its defaults
bans_or : (o : Option Value) (read : Option Config) (default x : Config) → ReadsIfThere (ReadsTable ReadsConfig) o read
    → ReadsConfig [] default → x ≡ unwrap_or read default → ReadsBans o x
bans_or None read default x reads defaults is =
    subst (ReadsConfig []) (sym (is ∙ ap (λ o. unwrap_or o default) reads)) defaults
bans_or (Some v) None default x reads defaults is = absurd reads
bans_or (Some v) (Some y) default x reads defaults is = subst (ReadsTable ReadsConfig v) (sym is) reads

-- a table that is left out has its defaults, as the helper reads it
pub bans_given : (o : Option Value) (read : Option Config) (default x : Config)
    → helper.ReadsOptional faults_of_config (ReadsTable ReadsConfig) o read
    → ReadsConfig [] default → x ≡ unwrap_or read default
    → optional_faults faults_of_config bans_name o ≡ [] → ReadsBans o x
bans_given o read default x says defaults is none =
    bans_or o read default x (optional_read faults_of_config (ReadsTable ReadsConfig) bans_name o read says none)
    defaults is

-- `bans` is taken out of the root first
module _ (entries rest : Entries) (left : rest ≡ without bans_name entries) where
  licensing_left : value_at licenses_name rest ≡ value_at licenses_name entries
  licensing_left =
      ap (λ es. value_at licenses_name es) left ∙ value_at-without licenses_name bans_name entries refl

  pub licensing_given : (read : Option licenses.Config)
      → helper.ReadsOptional faults_of_licenses (ReadsTable ReadsLicenses) (value_at licenses_name rest) read
      → optional_faults faults_of_licenses licenses_name (value_at licenses_name entries) ≡ []
      → ReadsLicensing (value_at licenses_name entries) read
  licensing_given read says none =
      optional_read faults_of_licenses (ReadsTable ReadsLicenses) licenses_name (value_at licenses_name entries) read
      (subst (λ o. helper.ReadsOptional faults_of_licenses (ReadsTable ReadsLicenses) o read) licensing_left says) none

  -- the faults of both tables are kept
  pub both_kept : (kept found end : List ConfigFault)
      → found ≡ kept ++ optional_faults faults_of_config bans_name (value_at bans_name entries)
      → end ≡ found ++ optional_faults faults_of_licenses licenses_name (value_at licenses_name rest)
      → end ≡ kept
      ++ (optional_faults faults_of_config bans_name (value_at bans_name entries)
      ++ optional_faults faults_of_licenses licenses_name (value_at licenses_name entries))
  both_kept kept found end bans licensing =
      licensing
      ∙ ((λ i. bans i ++ optional_faults faults_of_licenses licenses_name (licensing_left i))
      ∙ append_assoc kept (optional_faults faults_of_config bans_name (value_at bans_name entries))
      (optional_faults faults_of_licenses licenses_name (value_at licenses_name entries)))

-- a stronger property of the same value
pub ok_given : {T E : Type 0} (r : Result T E) (x : T) (Holds : Type 0) (P : T → Type 0) → IfOk r (λ y. Holds)
    → IfOk r (λ y. y ≡ x) → (Holds → P x) → IfOk r P
ok_given (Ok y) x Holds P holds same more = subst P (sym same) (more holds)
ok_given (Err e) x Holds P holds same more = tt

-- what is read from a root of these entries
module _ (v : Value) (entries : Entries) (table : table_in v ≡ Some (table_with entries)) where
  bans_at : below_name bans_name v ≡ value_at bans_name entries
  bans_at = below_with bans_name v entries table

  licensing_at : below_name licenses_name v ≡ value_at licenses_name entries
  licensing_at = below_with licenses_name v entries table

  -- the faults that the root keeps are those of its tables
  pub root_faults : (today : Option Day) (kept found : List ConfigFault) → kept ≡ no_today today v
      → found ≡ kept
      ++ (optional_faults faults_of_config bans_name (value_at bans_name entries)
      ++ optional_faults faults_of_licenses licenses_name (value_at licenses_name entries))
      → in_order found ≡ faults_of_tree today v
  unfolding faults_at
  root_faults today kept found waiting both =
      ap in_order (both
      ∙ (ap (λ fs. fs ++ faults_at (value_at bans_name entries) (value_at licenses_name entries)) waiting
      ∙ λ i. no_today today v ++ faults_at (sym bans_at i) (sym licensing_at i)))
      ∙ sym (of_root today v)

  none_at : (today : Option Day) → faults_of_tree today v ≡ []
      → faults_at (value_at bans_name entries) (value_at licenses_name entries) ≡ []
  none_at today none =
      (λ i. faults_at (sym bans_at i) (sym licensing_at i))
      ∙ none_rest (no_today today v) (faults_at (below_name bans_name v) (below_name licenses_name v))
      (in_order-empty (no_today today v ++ faults_at (below_name bans_name v) (below_name licenses_name v))
      (sym (of_root today v) ∙ none))

  -- what is read from its tables where there are no faults
  pub root_bans : (today : Option Day) (x : Config) → faults_of_tree today v ≡ []
      → (optional_faults faults_of_config bans_name (value_at bans_name entries) ≡ []
      → ReadsBans (value_at bans_name entries) x)
      → ReadsBans (below_name bans_name v) x
  unfolding faults_at
  root_bans today x none reads =
      subst (λ o. ReadsBans o x) (sym bans_at)
      (reads (none_first (optional_faults faults_of_config bans_name (value_at bans_name entries))
      (optional_faults faults_of_licenses licenses_name (value_at licenses_name entries)) (none_at today none)))

  pub root_licensing : (today : Option Day) (read : Option licenses.Config) → faults_of_tree today v ≡ []
      → (optional_faults faults_of_licenses licenses_name (value_at licenses_name entries) ≡ []
      → ReadsLicensing (value_at licenses_name entries) read)
      → ReadsLicensing (below_name licenses_name v) read
  unfolding faults_at
  root_licensing today read none reads =
      subst (λ o. ReadsLicensing o read) (sym licensing_at)
      (reads (none_rest (optional_faults faults_of_config bans_name (value_at bans_name entries))
      (optional_faults faults_of_licenses licenses_name (value_at licenses_name entries)) (none_at today none)))
