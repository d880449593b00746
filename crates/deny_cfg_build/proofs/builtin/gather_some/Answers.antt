use Rattle.std.proofs.Common.{append-nil, arith, subst, sym}
use Rattle.deny_cfg_build.specs.private.Builtin.{builtin_of}
use Rattle.deny_cfg_build.specs.Globs.{AreGlobsOf, extension_text}
use Rattle.deny_cfg_build.proofs.GlobLaws.{more_all, more_next, same_gathered}
use Rattle.deny_cfg_build.proofs.builtin.gather_some.Goals as goal

pub loop-glob-init : goal.loop-glob-init
loop-glob-init c wanted all =
    subst (λ ws. AreGlobsOf extension_text ws c.args.all.now.patterns c.args.all.now.set) (sym (append-nil wanted)) all

pub loop-glob-preserved : goal.loop-glob-preserved
loop-glob-preserved c =
    more_next extension_text (builtin_of c.args.file) c.args.globs.now c.loop-glob.glob-index _ _ _ _ _
    _ _ (omega (arith, c.loop-glob-test.true)) c.loop-glob.invariant
    (same_gathered c.in_ok-builtin_of.ensures c.in_ok-gather.ensures)

pub returns : goal.returns
returns c =
    more_all extension_text (builtin_of c.args.file) c.args.globs.now c.loop-glob.glob-index _ _ _ _
    (omega (arith, c.loop-glob-test.false)) c.loop-glob.invariant
