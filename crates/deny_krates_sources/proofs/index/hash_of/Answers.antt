use Rattle.std.proofs.Common.{◌∙◌, ap, arith, rules, take_all}
use Rattle.std.proofs.lemmas.List.Sums.{fold_more}
use Rattle.deny_krates_sources.specs.private.Index.{hash_of, mixed}
use Rattle.deny_krates_sources.proofs.index.hash_of.Goals as goal

pub loop-byte-preserved : goal.loop-byte-preserved
loop-byte-preserved c =
    rw (fold_more mixed 0 c.args.text.now c.loop-byte.byte-index 0 c.loop-byte-test.true) (search rules)

pub returns : goal.returns
returns c =
    c.loop-byte.invariant ∙ ap hash_of (take_all c.loop-byte.byte-index c.args.text.now (omega arith))
