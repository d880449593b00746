-- The globs of a bypass.
use Rattle.std.specs.Prelude.{Option, None, Some}
use Rattle.deny_cfg_build.specs.declared.glob_set.ValidGlobSet.{ValidGlobSet}
use Rattle.deny_cfg_build.specs.declared.valid.ValidBypass.{ValidBypass}

-- the globs of a bypass, if it has some
abbrev pub own_globs : Option ValidBypass → Option ValidGlobSet
own_globs None = None
own_globs (Some bypass) = bypass.allow_globs
