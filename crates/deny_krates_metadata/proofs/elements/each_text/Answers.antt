use Rattle.std.proofs.Common.{◌∙◌, ap, arith, Ok, append-nil}
use Rattle.std.specs.Fmt.{decimal}
use Rattle.deny_krates_metadata.specs.private.Borrowed.{view}
use Rattle.deny_krates_metadata.specs.Elements.{part_of, text_at}
use Rattle.deny_krates_metadata.proofs.ElementsLemmas.{next_element, no_more_elements}
use Rattle.deny_krates_metadata.specs.declared.fault.MetadataFault.TheVariants.{Memory}
use Rattle.deny_base_lists.proofs.ReaderLemmas.{with_prefix, goes_on, fails_here, handed_on}
use Rattle.deny_krates_metadata.proofs.elements.each_text.Goals as goal

pub returns-in_err-element_text : goal.returns-in_err-element_text
returns-in_err-element_text c =
    let array = part_of c.args.path.now c.args.name.now in
    let value = view c.index-items-index.result in
    let fault = c.in_err-element_text.field-0.0 in
    let step = next_element text_at array c.args.items.now c.loop-index.index c.index-items-index.result
    (omega (arith, c.loop-index-test.true)) c.index-items-index.is in
    handed_on Memory _ _ _ fault c.from_residual.ensures.1
    (fails_here Memory _ _ _ (text_at (part_of array (decimal c.loop-index.index)) value) c.loop-index.list fault
    c.loop-index.invariant step c.in_err-element_text.ensures)

pub loop-index-preserved : goal.loop-index-preserved
loop-index-preserved c =
    let array = part_of c.args.path.now c.args.name.now in
    let value = view c.index-items-index.result in
    let x = c.in_ok-element_text.field-0 in
    let step = next_element text_at array c.args.items.now c.loop-index.index c.index-items-index.result
    (omega (arith, c.loop-index-test.true)) c.index-items-index.is in
    rw c.in_ok-push.ensures.ok (goes_on _ _ _ (text_at (part_of array (decimal c.loop-index.index)) value)
    c.loop-index.list x c.loop-index.invariant step c.in_ok-element_text.ensures)

pub returns : goal.returns
returns c =
    let last = no_more_elements text_at (part_of c.args.path.now c.args.name.now) c.args.items.now c.loop-index.index
    (omega (arith, c.loop-index-test.false, c.loop-index.auto.index-end)) in
    c.loop-index.invariant ∙ (ap (with_prefix c.loop-index.list) last ∙ ap (λ xs. Ok xs) (append-nil c.loop-index.list))
