use Rattle.std.proofs.Common.{subst}
use Rattle.deny_cfg_index.specs.Names.{KeepsBound}
use Rattle.deny_cfg_index.proofs.spec_index.SpecIndex.find.Goals as goal

pub returns-clause-steps : goal.returns-clause-steps
returns-clause-steps g c =
    subst (λ name. KeepsBound c.args.self.now name c.args.steps.now c.find_numbers.new.steps) c.as_bytes.ensures.value
    c.find_numbers.ensures.steps
