use Rattle.std.proofs.Common.{◌≡◌, map}
use Rattle.std.specs.Prelude.{filter}
use Rattle.deny_cfg.specs.Clashes.{is_ban}
use Rattle.deny_cfg.specs.Valid.{ban_of, is_multiple}
use Rattle.deny_cfg.proofs.bans.cfg.valid.divided.Given as goal

abbrev pub invariant-deny : goal.invariant-deny
invariant-deny l = record {
  bans : l.parts.bans ≡ map ban_of (filter is_ban l.yielded);
  others : l.parts.others ≡ map (λ e. e.spec) (filter is_multiple l.yielded);
}
