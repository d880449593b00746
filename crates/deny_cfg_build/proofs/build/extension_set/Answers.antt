use Rattle.std.proofs.Common.{◌++◌, map}
use Rattle.deny_cfg_build.specs.Build.{builtin_if}
use Rattle.deny_cfg_build.specs.Globs.{extension_text}
use Rattle.deny_cfg_build.specs.declared.pattern.GlobPattern.TheVariants.{User}
use Rattle.deny_cfg_build.proofs.BuildLaws.{as_many}
use Rattle.deny_cfg_build.proofs.build.extension_set.Goals as goal

pub set_of-requires : goal.set_of-requires
set_of-requires c =
    let own = map User c.args.extensions in
    as_many extension_text (own ++ builtin_if c.args.file) c.gather_builtin_if.new.all.patterns
    c.gather_builtin_if.new.all.set (c.in_ok-gather_builtin_if.ensures own c.in_ok-all.ensures)
