-- Entries of `deny` and of `skip-tree`.
use Rattle.std.specs.Prelude.{Bool, ◌&&◌, is_none, List, [], ◌∷◌}
use Rattle.deny_toml.specs.error.ConfigFault.{ConfigFault}
use Rattle.deny_toml.specs.value.Value.{Value}
use Rattle.deny_cfg_entries.specs.declared.policy_key.PolicyKey.TheVariants as key
use Rattle.deny_cfg_entries.specs.declared.spec_or_extended.PackageSpecOrExtended.{PackageSpecOrExtended}
use Rattle.deny_cfg_entries.specs.Entry.{ReadsSome, ReadsEntry, faults_of_entry}
use Rattle.deny_cfg_entries.specs.Reasons.{a_reason}
use Rattle.deny_cfg_entries.specs.Table.{Entries, Field, ReadsKeys, TableKey, fields_of, may_hold}
use Rattle.deny_cfg_entries.specs.Waivers.{an_expiry}
use Rattle.deny_cfg_entries.specs.Words.{Kind, a_count, a_flag, a_text, some_texts, spanned}
use Rattle.deny_cfg_tables.specs.declared.bans.cfg.ban.CrateBanExtended.{CrateBanExtended}
use Rattle.deny_cfg_tables.specs.declared.bans.cfg.tree_skip.TreeSkipExtended.{TreeSkipExtended}

-- what an entry of `deny` gives beside its spec
abbrev pub ban_keys : List (TableKey CrateBanExtended)
ban_keys =
    may_hold key.Wrappers (spanned some_texts) (λ ban. ban.wrappers)
    ∷ may_hold key.DenyMultipleVersions (spanned a_flag) (λ ban. ban.deny_multiple_versions)
    ∷ may_hold key.Reason a_reason (λ ban. ban.reason)
    ∷ may_hold key.UseInstead (spanned a_text) (λ ban. ban.use_instead)
    ∷ []

abbrev pub ban_fields : List Field
ban_fields = fields_of ban_keys

abbrev pub ReadsBan : Entries → CrateBanExtended → Type 0
ReadsBan = ReadsKeys ban_keys

abbrev pub says_nothing : CrateBanExtended → Bool
says_nothing ban =
    is_none ban.wrappers && (is_none ban.deny_multiple_versions && (is_none ban.reason && is_none ban.use_instead))

-- what an entry of `skip-tree` gives beside its spec
abbrev pub tree_skip_keys : List (TableKey TreeSkipExtended)
tree_skip_keys =
    may_hold key.Depth a_count (λ skip. skip.depth)
    ∷ may_hold key.Reason a_reason (λ skip. skip.reason)
    ∷ may_hold key.Expires (spanned an_expiry) (λ skip. skip.expires)
    ∷ []

abbrev pub tree_skip_fields : List Field
tree_skip_fields = fields_of tree_skip_keys

abbrev pub ReadsTreeSkip : Entries → TreeSkipExtended → Type 0
ReadsTreeSkip = ReadsKeys tree_skip_keys

abbrev pub says_no_tree : TreeSkipExtended → Bool
says_no_tree skip = is_none skip.depth && (is_none skip.reason && is_none skip.expires)

-- ---- entries of `deny`, and of `skip-tree`
abbrev pub faults_of_ban : Value → List ConfigFault
faults_of_ban = faults_of_entry ban_fields

abbrev pub ReadsBanEntry : Value → PackageSpecOrExtended CrateBanExtended → Type 0
ReadsBanEntry v entry = ReadsEntry (ReadsSome ban_fields ReadsBan) v entry.spec entry.inner

abbrev pub faults_of_tree_skip : Value → List ConfigFault
faults_of_tree_skip = faults_of_entry tree_skip_fields

abbrev pub ReadsTreeSkipEntry : Value → PackageSpecOrExtended TreeSkipExtended → Type 0
ReadsTreeSkipEntry v entry = ReadsEntry (ReadsSome tree_skip_fields ReadsTreeSkip) v entry.spec entry.inner

abbrev pub a_ban_entry : Kind (PackageSpecOrExtended CrateBanExtended)
a_ban_entry = record { faults_of = faults_of_ban; Reads = ReadsBanEntry }

abbrev pub a_tree_skip_entry : Kind (PackageSpecOrExtended TreeSkipExtended)
a_tree_skip_entry = record { faults_of = faults_of_tree_skip; Reads = ReadsTreeSkipEntry }
