use Rattle.std.proofs.Common.{◌∙◌, subst}
use Rattle.deny_cfg_build.specs.Globs.{extension_text}
use Rattle.deny_cfg_build.specs.private.Globs.{Gathers}
use Rattle.deny_cfg_build.specs.declared.pattern.GlobPattern.TheVariants.{User}
use Rattle.deny_cfg_build.proofs.GlobLaws.{mapped_next, none_wanted}
use Rattle.deny_cfg_build.proofs.gathered.extension_globs.Goals as goal

pub extensions-init : goal.extensions-init
extensions-init c = none_wanted extension_text _ _ c.new-all.ensures.patterns c.new-all.ensures.set

pub extensions-preserved : goal.extensions-preserved
extensions-preserved c =
    mapped_next extension_text User c.extensions.yielded c.in-Some.extension c.extensions.all.patterns
    c.extensions.all.set c.gather.new.self.patterns c.gather.new.self.set c.extensions.invariant
    (subst (λ text. Gathers text (User c.in-Some.extension) c.extensions.all.patterns c.extensions.all.set
    c.gather.new.self.patterns c.gather.new.self.set)
    (c.as_str.ensures ∙ c.in_ok-text.ensures) c.in_ok-gather.ensures)
