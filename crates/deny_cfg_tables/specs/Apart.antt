-- No two keys of a table have the same name.
use Rattle.std.proofs.Common.{◌≡◌, true, refl}
use Rattle.deny_cfg_entries.specs.PolicyKey.{name_of}
use Rattle.deny_cfg_entries.specs.Table.{Entries, are_apart}
use Rattle.deny_cfg_entries.specs.Apart.{entry-apart}
use Rattle.deny_cfg_entries.specs.Entry.{entry_fields}
use Rattle.deny_cfg_tables.specs.Bans.{ban_fields, tree_skip_fields}
use Rattle.deny_cfg_tables.specs.Features.{feature_fields}
use Rattle.deny_cfg_tables.specs.Build.{bypass_path_fields, bypass_fields, build_fields}
use Rattle.deny_cfg_tables.specs.StdReplacements.{std_fields}
use Rattle.deny_cfg_tables.specs.Config.{bans_fields}
use Rattle.deny_cfg_tables.specs.Licenses.{exception_fields, licenses_fields, private_fields}
use Rattle.deny_cfg_tables.specs.Workspace.{workspace_fields}

pub ban-apart : are_apart ban_fields ≡ true
unfolding name_of
ban-apart = refl

pub ban_entry-apart : (entries : Entries) → are_apart (entry_fields ban_fields entries) ≡ true
unfolding name_of
ban_entry-apart = entry-apart ban_fields refl refl

pub tree_skip-apart : are_apart tree_skip_fields ≡ true
unfolding name_of
tree_skip-apart = refl

pub tree_skip_entry-apart : (entries : Entries) → are_apart (entry_fields tree_skip_fields entries) ≡ true
unfolding name_of
tree_skip_entry-apart = entry-apart tree_skip_fields refl refl

pub workspace-apart : are_apart workspace_fields ≡ true
unfolding name_of
workspace-apart = refl

pub feature-apart : are_apart feature_fields ≡ true
unfolding name_of
feature-apart = refl

pub feature_entry-apart : (entries : Entries) → are_apart (entry_fields feature_fields entries) ≡ true
unfolding name_of
feature_entry-apart = entry-apart feature_fields refl refl

pub bypass_path-apart : are_apart bypass_path_fields ≡ true
unfolding name_of
bypass_path-apart = refl

pub build-apart : are_apart build_fields ≡ true
unfolding name_of
build-apart = refl

pub std-apart : are_apart std_fields ≡ true
unfolding name_of
std-apart = refl

pub bans-apart : are_apart bans_fields ≡ true
unfolding name_of
bans-apart = refl

pub bypass-apart : are_apart bypass_fields ≡ true
unfolding name_of
bypass-apart = refl

pub bypass_entry-apart : (entries : Entries) → are_apart (entry_fields bypass_fields entries) ≡ true
unfolding name_of
bypass_entry-apart = entry-apart bypass_fields refl refl

pub exception-apart : are_apart exception_fields ≡ true
unfolding name_of
exception-apart = refl

pub exception_entry-apart : (entries : Entries) → are_apart (entry_fields exception_fields entries) ≡ true
unfolding name_of
exception_entry-apart = entry-apart exception_fields refl refl

pub private-apart : are_apart private_fields ≡ true
unfolding name_of
private-apart = refl

pub licenses-apart : are_apart licenses_fields ≡ true
unfolding name_of
licenses-apart = refl
