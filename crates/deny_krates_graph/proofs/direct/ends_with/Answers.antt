use Rattle.std.proofs.Common.{◌-◌, ◌<◌, sym, length, arith}
use Rattle.std.proofs.lemmas.Option.{slice_get_within}
use Rattle.deny_krates_graph.proofs.GraphLemmas.{last_is}
use Rattle.deny_krates_graph.proofs.direct.ends_with.Goals as goal

pub returns-in-Some : goal.returns-in-Some
returns-in-Some c =
    let row = c.args.row.now in
    let inside : length row - 1 < length row = slice_get_within row (length row - 1) c.in-Some.last.now
    (sym c.in-Some.ensures.value) in
    sym (last_is row (length row - 1) c.args.place c.in-Some.last.now (omega (arith, inside))
    (sym c.in-Some.ensures.value))
