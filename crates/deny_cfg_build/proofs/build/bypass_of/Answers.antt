use Rattle.std.proofs.Common.{map}
use Rattle.deny_cfg_build.specs.declared.pattern.GlobPattern.TheVariants.{User}
use Rattle.deny_cfg_build.proofs.BuildLaws.{own_written}
use Rattle.deny_cfg_build.proofs.build.bypass_of.Goals as goal

pub invariant_of-result : goal.invariant_of-result
invariant_of-result c = record {
  globs_written = own_written (map User) c.args.bypass.allow_globs c.in_ok-own_set_if.field-0 c.in_ok-own_set_if.ensures;
}
