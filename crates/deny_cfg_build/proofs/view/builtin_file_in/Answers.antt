use Rattle.std.proofs.Common.{arith, sym, ◌∙◌}
use Rattle.deny_cfg_build.proofs.BuiltinLaws.{file_here, file_next}
use Rattle.deny_cfg_build.proofs.view.builtin_file_in.Goals as goal

pub returns-then-is_some : goal.returns-then-is_some
returns-then-is_some c =
    file_here c.args.patterns.now c.loop-pattern.pattern-index c.pattern-item.result c.file_of-file.result
    (omega (arith, c.loop-pattern-test.true)) c.pattern-item.is c.file_of-file.ensures
    (sym c.is_some.ensures ∙ c.if-is_some.true) _ c.loop-pattern.invariant

pub loop-pattern-preserved : goal.loop-pattern-preserved
loop-pattern-preserved c =
    file_next c.args.patterns.now c.loop-pattern.pattern-index c.pattern-item.result c.file_of-file.result
    (omega (arith, c.loop-pattern-test.true)) c.pattern-item.is c.file_of-file.ensures
    (sym c.is_some.ensures ∙ c.if-is_some.false) _ c.loop-pattern.invariant
