use Rattle.std.proofs.Common.{sym, arith}
use Rattle.deny_krates_sources.proofs.VersionsLemmas.{no_dot, cut_at}
use Rattle.deny_krates_sources.proofs.versions.cut.Goals as goal

pub returns-in-Some : goal.returns-in-Some
returns-in-Some c =
    let at = c.in-Some.ensures.byte (omega arith) (λ text found is. is) in
    cut_at c.args.text.now c.in-Some.piece.now c.in-Some.rest.now at.0 at.1 at.2

pub returns-in-None : goal.returns-in-None
returns-in-None c = sym (no_dot c.args.text.now (c.in-None.ensures.byte (omega arith) (λ text found is. is)))
