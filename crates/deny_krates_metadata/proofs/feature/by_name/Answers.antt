use Rattle.std.proofs.Common.{◌∙◌, ◌+◌, ap, sym, drop, arith}
use Rattle.json.specs.Value as borrowed
use Rattle.deny_krates_metadata.specs.private.Borrowed.{members_after, sorted_view}
use Rattle.deny_krates_metadata.proofs.FeaturesLemmas.{next_member, sorted_insert}
use Rattle.deny_krates_metadata.proofs.feature.by_name.Goals as goal

pub loop-member-preserved : goal.loop-member-preserved
loop-member-preserved c =
    let ms = c.args.members.now in
    let i = c.loop-member.member-index in
    let es = c.loop-member.sorted.entries in
    let step = next_member ms i c.member-item.result (sorted_view es) (omega (arith, c.loop-member-test.true))
    c.member-item.is in
    let put_in = ap sorted_view c.in_ok-insert.ensures.entries ∙ sorted_insert es _ _ in
    c.loop-member.invariant
    ∙ (step ∙ ap (λ found. members_after found (borrowed.members_view (drop (i + 1) ms))) (sym put_in))
