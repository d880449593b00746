use Rattle.std.proofs.Common.{◌≡◌, ◌++◌, None, drop}
use Rattle.std.specs.Prelude.{cond, filter_map}
use Rattle.deny_cfg.specs.Clashes.{clash_with, is_ban, specs_of}
use Rattle.deny_cfg.proofs.clashes.put_ban_clashes.Given as goal

abbrev pub invariant-loop-entry : goal.invariant-loop-entry
invariant-loop-entry g l =
    l.clashes ++ filter_map (λ e. cond (is_ban e) (clash_with l.kind (specs_of l.fn.others) e.spec) None)
    (drop l.entry-index l.deny)
    ≡ l.fn.clashes ++ filter_map (λ e. cond (is_ban e) (clash_with l.kind (specs_of l.fn.others) e.spec) None) l.deny
