use Rattle.std.proofs.Common.{◌≡◌, ◌∙◌, ap, arith, List, ℕ, Ok, subst, append-nil}
use Rattle.std.specs.Fmt.{decimal}
use Rattle.deny_krates_metadata.specs.private.Borrowed.{view}
use Rattle.deny_krates_metadata.specs.Elements.{part_of}
use Rattle.deny_krates_metadata.specs.declared.fault.MetadataFault.TheVariants.{Memory}
use Rattle.deny_krates_metadata.proofs.ElementsLemmas.{next_element, no_more_elements}
use Rattle.deny_base_lists.specs.Reader.{Fails, IsFault}
use Rattle.deny_base_lists.proofs.ReaderLemmas.{with_prefix, goes_on, fails_here, handed_on}
use Rattle.deny_krates_metadata.proofs.elements.elements.Goals as goal

pub returns-in_err-from_value : goal.returns-in_err-from_value
returns-in_err-from_value g c =
    let read = g.T.Element.read_at in
    let path = c.args.path.now in
    let value = view c.index-items-index.result in
    let fault = c.in_err-from_value.field-0.0 in
    let step = next_element read path c.args.items.now c.loop-index.index c.index-items-index.result
    (omega (arith, c.loop-index-test.true)) c.index-items-index.is in
    let here = part_of path (decimal c.loop-index.index) in
    let fails : Fails Memory (IsFault (read here value)) fault = subst
    (λ (p : List ℕ). Fails Memory (IsFault (read p value)) fault)
    (c.as_str.ensures ∙ c.in_ok-write_element_path.ensures) c.in_err-from_value.ensures in
    handed_on Memory _ _ _ fault c.from_residual-in_err-from_value.ensures.1
    (fails_here Memory _ _ _ (read here value) c.loop-index.list fault c.loop-index.invariant step fails)

pub loop-index-preserved : goal.loop-index-preserved
loop-index-preserved g c =
    let read = g.T.Element.read_at in
    let path = c.args.path.now in
    let value = view c.index-items-index.result in
    let x = c.in_ok-from_value.field-0 in
    let step = next_element read path c.args.items.now c.loop-index.index c.index-items-index.result
    (omega (arith, c.loop-index-test.true)) c.index-items-index.is in
    let here = part_of path (decimal c.loop-index.index) in
    let reads : read here value ≡ Ok x = subst (λ (p : List ℕ). read p value ≡ Ok x)
    (c.as_str.ensures ∙ c.in_ok-write_element_path.ensures) c.in_ok-from_value.ensures in
    rw c.in_ok-push.ensures.ok (goes_on _ _ _ (read here value) c.loop-index.list x c.loop-index.invariant step reads)

pub returns : goal.returns
returns g c =
    let last = no_more_elements g.T.Element.read_at c.args.path.now c.args.items.now c.loop-index.index
    (omega (arith, c.loop-index-test.false, c.loop-index.auto.index-end)) in
    c.loop-index.invariant ∙ (ap (with_prefix c.loop-index.list) last ∙ ap (λ xs. Ok xs) (append-nil c.loop-index.list))
