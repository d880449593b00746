use Rattle.std.proofs.Common.{◌≡◌, ℕ, List, Ok, subst, arith}
use Rattle.deny_krates_sources.specs.Checked.{known}
use Rattle.deny_krates_sources.specs.private.Index.{number_by}
use Rattle.deny_base_lists.specs.Reader.{Fails, IsFault}
use Rattle.deny_krates_metadata.specs.declared.fault.MetadataFault.TheVariants.{Memory}
use Rattle.deny_base_lists.proofs.ReaderLemmas.{goes_on, fails_here, handed_on, next_each, no_more_each, all_read}
use Rattle.deny_krates_sources.proofs.checked.numbers.Goals as goal

pub returns-in_err-known_number : goal.returns-in_err-known_number
returns-in_err-known_number c =
    let read = known (number_by c.args.indexes.now.packages) (number_by c.args.indexes.now.nodes) in
    let step = next_each read c.args.members.now c.loop-member.member-index c.member-item.result
    (omega (arith, c.loop-member-test.true)) c.member-item.is in
    let fault = c.in_err-known_number.field-0.0 in
    let fails : Fails Memory (IsFault (read c.member-item.result)) fault = subst
    (λ (t : List ℕ). Fails Memory (IsFault (read t)) fault) c.as_str.ensures c.in_err-known_number.ensures in
    handed_on Memory _ _ _ fault c.from_residual.ensures.1
    (fails_here Memory _ _ _ (read c.member-item.result) c.loop-member.numbers fault c.loop-member.invariant step fails)

pub loop-member-preserved : goal.loop-member-preserved
loop-member-preserved c =
    let read = known (number_by c.args.indexes.now.packages) (number_by c.args.indexes.now.nodes) in
    let step = next_each read c.args.members.now c.loop-member.member-index c.member-item.result
    (omega (arith, c.loop-member-test.true)) c.member-item.is in
    rw c.in_ok-push.ensures.ok (goes_on _ _ _ (read c.member-item.result) c.loop-member.numbers
    c.in_ok-known_number.field-0 c.loop-member.invariant step
    (subst (λ (t : List ℕ). read t ≡ Ok c.in_ok-known_number.field-0) c.as_str.ensures c.in_ok-known_number.ensures))

pub returns : goal.returns
returns c = all_read _ _ c.loop-member.numbers c.loop-member.invariant
    (no_more_each _ c.args.members.now c.loop-member.member-index (omega (arith, c.loop-member-test.false)))
