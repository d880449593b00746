use Rattle.std.proofs.Common.{false, arith, refl, ◌∙◌, get_or, ◌<◌, length}
use Rattle.std.proofs.lemmas.List.{length-set}
use Rattle.std.proofs.lemmas.List.Elements.{Contains-get_or}
use Rattle.deny_globs.proofs.MarkedLemmas.{listed_from_start, clears_more, none_left}
use Rattle.deny_globs.proofs.marked.clear_marks.Goals as goal

pub loop-state-init : goal.loop-state-init
loop-state-init c = record { listed = λ i e. listed_from_start (c.requires.listed i e); room = refl }

pub index_mut-requires : goal.index_mut-requires
index_mut-requires c =
    omega (
      arith,
      c.requires.within _ (Contains-get_or c.args.order.now c.loop-state.state-index 0 (omega arith)),
      c.loop-state.invariant.room,
    )

pub loop-state-preserved : goal.loop-state-preserved
loop-state-preserved c =
    let marks = c.loop-state.marks.items in
    let n = get_or c.args.order.now c.loop-state.state-index 0 in
    let inside : n < length marks =
    omega (
      arith,
      c.requires.within _ (Contains-get_or c.args.order.now c.loop-state.state-index 0 (omega arith)),
      c.loop-state.invariant.room,
    ) in
    record {
      listed = clears_more marks c.loop-state.state-index n (omega arith) refl inside c.loop-state.invariant.listed;
      room = length-set marks n false ∙ c.loop-state.invariant.room;
    }

pub returns-clause-none : goal.returns-clause-none
returns-clause-none c = none_left c.loop-state.marks.items c.loop-state.state-index (omega arith)
    c.loop-state.invariant.listed
