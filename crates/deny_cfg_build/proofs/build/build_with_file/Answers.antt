use Rattle.deny_cfg_build.specs.Globs.{extension_text}
use Rattle.deny_cfg_build.proofs.BuildLaws.{characters_read}
use Rattle.deny_cfg_build.proofs.build.build_with_file.Goals as goal

pub invariant_of-result : goal.invariant_of-result
invariant_of-result c =
    let set = c.in_ok-extension_set.field-0 in
    record { extensions_written = characters_read extension_text _ set.patterns set.set c.in_ok-extension_set.ensures }
