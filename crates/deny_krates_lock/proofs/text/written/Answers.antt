use Rattle.std.proofs.Common.{◌≡◌, ℕ, ◌∙◌, ◌+◌, ◌++◌, List, length, slice_set, ap, subst, sym, arith}
use Rattle.deny_krates.proofs.CratesLemmas.{length-crates_from}
use Rattle.deny_krates_lock.proofs.WritingLemmas.{AreOwn, IsWriting, are_own, line_here, place_within, room_at}
use Rattle.deny_krates_lock.proofs.WritingLemmas.{writing_done}
use Rattle.deny_krates_lock.proofs.WritingLemmas.{all_written, writing_more, writing_none}
use Rattle.deny_krates_lock.specs.Line.{line_span}
use Rattle.deny_krates_lock.specs.Text.{ended_line}
use Rattle.deny_krates_lock.specs.declared.line.LockSpan.{LockSpan}
use Rattle.deny_krates_lock.specs.private.Placed.{placed_view}
use Rattle.deny_krates_lock.proofs.text.written.Goals as goal

pub loop-line-init : goal.loop-line-init
loop-line-init c =
    let crates = c.args.krates.now.crates in
    let long : length c.in_ok-spans.spans.items ≡ length crates =
    c.in_ok-spans.ensures ∙ sym (ap length (sym c.krates.ensures.crates) ∙ length-crates_from 0 c.krates.result.now) in
    subst (λ (text : List ℕ). IsWriting crates 0 text c.in_ok-spans.spans.items) (sym c.new-text.ensures)
    (writing_none crates c.in_ok-spans.spans.items long)

pub put_line-requires : goal.put_line-requires
put_line-requires c =
    let crates = c.args.krates.now.crates in
    let own : AreOwn crates = are_own c.krates.result.now crates c.krates.ensures.crates c.krates.ensures.orderly.ids in
    let here = line_here c.args.placed.now crates c.loop-line.line-index c.line-item.result c.requires
    c.loop-line-test.true c.line-item.is in
    omega (
      arith,
      c.krates.ensures.lock,
      room_at crates own c.loop-line.line-index (placed_view c.line-item.result)
          c.loop-line.text c.loop-line.spans.items here c.loop-line.invariant,
    )

pub index_mut-requires : goal.index_mut-requires
index_mut-requires c =
    let crates = c.args.krates.now.crates in
    let own : AreOwn crates = are_own c.krates.result.now crates c.krates.ensures.crates c.krates.ensures.orderly.ids in
    let here = line_here c.args.placed.now crates c.loop-line.line-index c.line-item.result c.requires
    c.loop-line-test.true c.line-item.is in
    omega (
      arith,
      c.loop-line.invariant.long,
      place_within crates own c.loop-line.line-index
          (placed_view c.line-item.result) here,
    )

pub loop-line-preserved : goal.loop-line-preserved
unfolding line_span
loop-line-preserved c =
    let crates = c.args.krates.now.crates in
    let own : AreOwn crates = are_own c.krates.result.now crates c.krates.ensures.crates c.krates.ensures.orderly.ids in
    let i : ℕ = c.loop-line.line-index in
    let line = placed_view c.line-item.result in
    let text = c.loop-line.text in
    let spans = c.loop-line.spans.items in
    let here = line_here c.args.placed.now crates i c.line-item.result c.requires c.loop-line-test.true
    c.line-item.is in
    let longer : List ℕ = text ++ ended_line line in
    let written : List ℕ → LockSpan → Type 0 = λ after span. IsWriting crates (i + 1) after
    (slice_set spans c.line-item.result.place span) in
    subst (λ (after : List ℕ). written after c.in_ok-span.span) {x = longer} (sym c.in_ok-span.ensures.text)
    (subst (λ (span : LockSpan). written longer span) {x = line_span (length text) line} (sym c.in_ok-span.ensures.span)
    (writing_more crates own i line text spans here c.loop-line.invariant))

pub returns-clause-text : goal.returns-clause-text
returns-clause-text c =
    let crates = c.args.krates.now.crates in
    let own : AreOwn crates = are_own c.krates.result.now crates c.krates.ensures.crates c.krates.ensures.orderly.ids in
    (writing_done crates own c.loop-line.line-index c.loop-line.text c.loop-line.spans.items
    (all_written c.args.placed.now crates c.loop-line.line-index c.requires c.loop-line-test.false)
    c.loop-line.invariant).0

pub returns-clause-spans : goal.returns-clause-spans
returns-clause-spans c =
    let crates = c.args.krates.now.crates in
    let own : AreOwn crates = are_own c.krates.result.now crates c.krates.ensures.crates c.krates.ensures.orderly.ids in
    c.from_vec.ensures
    ∙ (writing_done crates own c.loop-line.line-index c.loop-line.text c.loop-line.spans.items
    (all_written c.args.placed.now crates c.loop-line.line-index c.requires c.loop-line-test.false)
    c.loop-line.invariant).1
