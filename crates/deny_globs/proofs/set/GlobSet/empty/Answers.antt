use Rattle.std.proofs.Common.{sym, subst}
use Rattle.deny_globs.specs.Index.{IsIndexed, AreCompiled}
use Rattle.deny_globs.proofs.IndexLemmas.{indexed_none}
use Rattle.deny_globs.proofs.SetLemmas.{compiled_none}
use Rattle.deny_globs.proofs.set.GlobSet.empty.Goals as goal

pub invariant_of-result : goal.invariant_of-result
invariant_of-result c = (
  subst (λ gs. IsIndexed gs c.new-2.result.items) (sym c.new.ensures) (indexed_none c.new-2.ensures.items),
  subst (λ gs. AreCompiled gs c.new-3.result.items
      (record { beginnings = c.new-4.result; endings = c.new-5.result })) (sym c.new.ensures)
      (compiled_none c.new-3.ensures.items c.new-4.ensures.items c.new-5.ensures.items),
)
