use Rattle.std.proofs.Common.{subst, ◌∙◌}
use Rattle.deny_globs.specs.Sets.{KeepsBound}
use Rattle.deny_globs.proofs.set.GlobSet.matches_counted.Goals as goal

pub returns-clause-steps : goal.returns-clause-steps
returns-clause-steps g c =
    subst (λ p. KeepsBound c.args.self.now p c.args.steps.now c.find_fitting.new.steps) (c.deref.ensures.value
    ∙ c.in_ok-characters.ensures) c.find_fitting.ensures.steps
