use Rattle.std.proofs.Common.{◌≡◌, map}
use Rattle.deny_cfg.specs.Valid.{features_of}
use Rattle.deny_cfg.proofs.bans.cfg.valid.all_features.Given as goal

abbrev pub invariant-entries : goal.invariant-entries
invariant-entries l = l.all ≡ map features_of l.yielded
