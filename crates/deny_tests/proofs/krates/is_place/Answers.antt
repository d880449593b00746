use Rattle.std.proofs.Common.{◌<◌, ◌∙◌, ap, length, subst, sym}
use borrow.Author.Tests.{ltb-true}
use Rattle.deny_krates.proofs.CratesLemmas.{length-crates_from}
use Rattle.deny_tests.proofs.krates.is_place.Goals as goal

pub returns : goal.returns
returns c is =
    subst (λ n. c.args.place < n) (sym (length-crates_from 0 c.krates.result.now) ∙ ap length c.krates.ensures.crates)
    (ltb-true c.args.place (length c.krates.result.now) is)
