use Rattle.std.proofs.Common.{◌≡◌, ◌++◌}
use Rattle.std.specs.Prelude.{filter, filter_map, option_map}
use Rattle.deny_cfg.specs.Current.{counts, expired_as, passed}
use Rattle.deny_cfg.proofs.expired.take_expired.Given as goal

abbrev pub invariant-all : goal.invariant-all
invariant-all g l = record {
  counting : l.entries ≡ filter (λ e. counts l.today (g.T.Expiring.last_day e)) l.yielded;
  expired : l.expired ≡ l.fn.expired
      ++ filter_map
      (λ e. option_map (expired_as l.kind (g.T.Expiring.spec e) (g.T.Expiring.reason_of e))
      (passed l.today (g.T.Expiring.last_day e))) l.yielded;
}
