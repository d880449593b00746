use Rattle.std.proofs.Common.{arith}
use Rattle.deny_build.specs.private.FileMatch.{matches_path, number_at}
use Rattle.deny_build.proofs.MatchLemmas.{firsts_more}
use Rattle.deny_build.proofs.matched.firsts_by_path.Goals as goal

pub loop-number-preserved : goal.loop-number-preserved
loop-number-preserved c =
    λ span. firsts_more c.args.all.now c.loop-number.number c.index-all-number.result (matches_path span)
    (number_at c.loop-number.firsts span) (number_at c.note_path.new.firsts span) (omega arith) c.index-all-number.is
    (c.loop-number.invariant span) (c.in_ok-note_path.ensures span)
