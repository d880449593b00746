use Rattle.std.proofs.Common.{sym, subst}
use Rattle.deny_globs.specs.Index.{IsIndexed, AreCompiled}
use Rattle.deny_globs.specs.declared.set.GlobSet.TheInside.{Inside}
use Rattle.deny_globs.proofs.SetLemmas.{index_kept}
use Rattle.deny_globs.proofs.set.GlobSet.add.Goals as goal

pub invariant_of-self-in-Break-branch-2 : goal.invariant_of-self-in-Break-branch-2
invariant_of-self-in-Break-branch-2 c =
    let e = c.in_err-index_glob.ensures in
    let held = subst
    (λ (i : Inside). IsIndexed i.globs i.extensions.items × AreCompiled i.globs i.states.items i.starts)
    (sym c.self-inside.view_is) c.self.invariant in
    index_kept held c.in_ok-reserve.ensures.items e.extensions e.states e.starts
