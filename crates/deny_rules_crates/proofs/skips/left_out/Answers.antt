use Rattle.std.proofs.Common.{◌≡◌, ◌++◌, [], ◌∷◌, Bool, cond, filter, sym, ap, ◌∙◌, arith}
use Rattle.std.proofs.lemmas.List.{append-nil}
use Rattle.deny_rules_crates.specs.private.Skipping.{is_left_out}
use Rattle.deny_rules_match.proofs.RunLemmas.{kept-run}
use Rattle.deny_rules_crates.proofs.skips.left_out.Goals as goal
use Rattle.deny_rules_crates.proofs.skips.left_out.Goals.{then-is_left_out+in_ok-push, else-is_left_out}

pub loop-place-preserved : goal.loop-place-preserved
loop-place-preserved c =
    let test = is_left_out c.args.counts.now c.args.skipped.now c.args.tree.now in
    let place = c.loop-place.place in
    let old = c.loop-place.places in
    let kept = λ (b : Bool). old ++ cond b (place ∷ []) [] in
    let added : c.if-is_left_out.places ≡ old ++ filter test (place ∷ []) =
    elim c.if-is_left_out.branch as (λ _. c.if-is_left_out.places ≡ old ++ filter test (place ∷ [])) [
      | then-is_left_out+in_ok-push w ↦ w.places-is ∙ (w.in_ok-push.ensures.ok ∙ ap kept (sym (sym c.is_left_out.ensures
          ∙ w.if-is_left_out.true)))
      | else-is_left_out w ↦ w.places-is ∙ (sym (append-nil old) ∙ ap kept (sym (sym c.is_left_out.ensures
          ∙ w.if-is_left_out.false)))
    ] in
    kept-run test old c.if-is_left_out.places _ place c.args.end (omega arith) added c.loop-place.invariant
