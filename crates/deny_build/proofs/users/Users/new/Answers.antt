use Rattle.std.proofs.Common.{◌∙◌, ◌++◌, ◌∷◌, [], List, ap, filter, sym, take}
use Rattle.std.proofs.lemmas.List.{take_all, take_more}
use Rattle.std.proofs.lemmas.List.Elements.{filter-append}
use Rattle.deny_build.specs.declared.scanned_krate.ScannedKrate.{ScannedKrate}
use Rattle.deny_build.specs.private.UsersOf.{uses_span}
use Rattle.deny_build.proofs.users.Users.new.Goals as goal

pub loop-at-preserved : goal.loop-at-preserved
loop-at-preserved c = λ span.
    let all = c.args.all.now in
    let i = c.loop-at.at-index in
    let at = c.at-item.result in
    let p = uses_span span in
    c.in_ok-add.ensures span
    ∙ (ap (λ (us : List ScannedKrate). us ++ filter p (at ∷ [])) (c.loop-at.invariant span)
    ∙ sym (ap (filter p) (take_more all i at c.loop-at-test.true
    ∙ ap (λ (u : ScannedKrate). take i all ++ u ∷ []) (sym c.at-item.is))
    ∙ filter-append p (take i all) (at ∷ [])))

pub returns : goal.returns
returns c = λ span. c.loop-at.invariant span
    ∙ ap (filter (uses_span span)) (take_all c.loop-at.at-index c.args.all.now c.loop-at-test.false)
