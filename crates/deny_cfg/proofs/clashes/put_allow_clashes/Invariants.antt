use Rattle.std.proofs.Common.{◌≡◌, ◌++◌, drop}
use Rattle.std.specs.Prelude.{filter_map}
use Rattle.deny_cfg.specs.Clashes.{clash_with, specs_of}
use Rattle.deny_cfg.specs.declared.clash.ClashKind.TheVariants as clash
use Rattle.deny_cfg.proofs.clashes.put_allow_clashes.Given as goal

abbrev pub invariant-loop-entry : goal.invariant-loop-entry
invariant-loop-entry l =
    l.clashes ++ filter_map (λ e. clash_with clash.AllowAndSkip (specs_of l.fn.skip) e.spec)
    (drop l.entry-index l.allow)
    ≡ l.fn.clashes ++ filter_map (λ e. clash_with clash.AllowAndSkip (specs_of l.fn.skip) e.spec) l.allow
