use Rattle.deny_cfg_entries.specs.Table.{state_of}
use Rattle.deny_cfg_entries.proofs.KeyLaws.{◌▷◌, all_read, read_table_keys}
use Rattle.deny_cfg_tables.specs.Apart.{build-apart}
use Rattle.deny_cfg_tables.specs.Build.{build_fields, build_keys}
use Rattle.deny_cfg_tables.proofs.Chain.{◌▸◌, ended, ends}
use Rattle.deny_cfg_tables.proofs.bans.cfg.build.BuildConfigFromTable.read_keys.Goals as goal

pub returns-clause-read : goal.returns-clause-read
returns-clause-read c = read_table_keys build_keys build-apart (state_of c.args.helper.now) (
    (c.in_ok-allow_build_scripts.ensures.next, c.in_ok-allow_build_scripts.ensures.read)
    ▷ (c.in_ok-executables.ensures.next, c.in_ok-executables.ensures.read)
    ▷ (c.in_ok-interpreted.ensures.next, c.in_ok-interpreted.ensures.read)
    ▷ (c.in_ok-script_extensions.ensures.next, c.in_ok-script_extensions.ensures.read)
    ▷ (c.in_ok-bypass.ensures.next, c.in_ok-bypass.ensures.read)
    ▷ (c.in_ok-enable_builtin_globs.ensures.next, c.in_ok-enable_builtin_globs.ensures.read)
    ▷ (c.in_ok-include_dependencies.ensures.next, c.in_ok-include_dependencies.ensures.read)
    ▷ (c.in_ok-include_workspace.ensures.next, c.in_ok-include_workspace.ensures.read)
    ▷ (c.in_ok-include_archives.ensures.next, c.in_ok-include_archives.ensures.read)
    ▷ all_read)

pub returns-clause-next : goal.returns-clause-next
returns-clause-next c = ends build_fields (state_of c.args.helper.now) _ (
    c.in_ok-allow_build_scripts.ensures.next
    ▸ c.in_ok-executables.ensures.next
    ▸ c.in_ok-interpreted.ensures.next
    ▸ c.in_ok-script_extensions.ensures.next
    ▸ c.in_ok-bypass.ensures.next
    ▸ c.in_ok-enable_builtin_globs.ensures.next
    ▸ c.in_ok-include_dependencies.ensures.next
    ▸ c.in_ok-include_workspace.ensures.next
    ▸ c.in_ok-include_archives.ensures.next
    ▸ ended)
