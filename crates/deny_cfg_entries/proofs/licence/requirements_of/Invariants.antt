use Rattle.std.proofs.Common.{◌≡◌, map}
use Rattle.deny_cfg_entries.specs.Licence.{licence_requirement}
use Rattle.deny_cfg_entries.proofs.licence.requirements_of.Given as goal

abbrev pub invariant-licences : goal.invariant-licences
invariant-licences l = l.all ≡ map licence_requirement l.yielded
