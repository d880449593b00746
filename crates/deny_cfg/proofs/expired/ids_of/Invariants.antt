use Rattle.std.proofs.Common.{◌≡◌, map, take}
use Rattle.deny_cfg.specs.Current.{expired_id}
use Rattle.deny_cfg.proofs.expired.ids_of.Given as goal

abbrev pub invariant-loop-waiver : goal.invariant-loop-waiver
invariant-loop-waiver l = l.ids ≡ map expired_id (take l.waiver-index l.expired)
