use Rattle.std.proofs.Common.{◌∙◌, subst}
use Rattle.deny_cfg_build.specs.Globs.{own_text}
use Rattle.deny_cfg_build.specs.private.Globs.{Gathers}
use Rattle.deny_cfg_build.specs.declared.pattern.GlobPattern.TheVariants.{User}
use Rattle.deny_cfg_build.proofs.GlobLaws.{mapped_next, none_wanted}
use Rattle.deny_cfg_build.proofs.gathered.own_globs.Goals as goal

pub globs-init : goal.globs-init
globs-init c = none_wanted own_text _ _ c.new-all.ensures.patterns c.new-all.ensures.set

pub globs-preserved : goal.globs-preserved
globs-preserved c =
    mapped_next own_text User c.globs.yielded c.in-Some.glob c.globs.all.patterns c.globs.all.set
    c.gather.new.self.patterns c.gather.new.self.set c.globs.invariant
    (subst (λ text. Gathers text (User c.in-Some.glob) c.globs.all.patterns c.globs.all.set c.gather.new.self.patterns
    c.gather.new.self.set) (c.as_str.ensures ∙ c.in_ok-text.ensures.cases) c.in_ok-gather.ensures)
