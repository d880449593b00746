use Rattle.std.proofs.Common.{◌≡◌, ◌++◌, [], List, ℕ, Bool, cond, length, sym, ap, refl, ◌∙◌, append-nil, arith}
use Rattle.std.proofs.lemmas.Option.{get_or_from_slice_get, slice_get_read}
use Rattle.std.specs.Prelude.{slice_index_or}
use Rattle.deny_base_lists.proofs.Loops.{flat-run}
use Rattle.deny_rules_match.specs.Marks.{mark_at}
use Rattle.deny_rules_features.specs.private.Reached.{led_to_by}
use Rattle.deny_rules_features.specs.private.Steps.{plain_of}
use Rattle.deny_rules_features.proofs.reached.led_to.Goals as goal
use Rattle.deny_rules_features.proofs.reached.led_to.Goals.{then-mark_at+in_ok-add_plain, else-mark_at}

pub loop-number-preserved : goal.loop-number-preserved
unfolding led_to_by
loop-number-preserved c =
    let features = c.args.features.now in
    let names = c.args.names.now in
    let f = led_to_by features names c.args.marks.now in
    let n = c.loop-number.number in
    let old = c.loop-number.texts in
    let by = λ (b : Bool) (name : List ℕ). old ++ cond b (plain_of features name) [] in
    let added : c.if-mark_at.texts ≡ old ++ f n = elim c.if-mark_at.branch as (λ _. c.if-mark_at.texts ≡ old ++ f n) [
      | then-mark_at+in_ok-add_plain w ↦
          let name = w.index-names-number.result in
          let at = slice_get_read names (length names) n name refl (omega arith) w.index-names-number.is in
          w.texts-is
          ∙ (w.in_ok-add_plain.ensures
          ∙ (ap (λ b. by b name) (sym (sym c.mark_at.ensures ∙ w.if-mark_at.true))
          ∙ ap (λ (t : List ℕ). by (mark_at c.args.marks.now n) t) (sym (get_or_from_slice_get names n name [] at))))
      | else-mark_at w ↦ w.texts-is
          ∙ (sym (append-nil old) ∙ ap (λ b. by b (slice_index_or names n []))
          (sym (sym c.mark_at.ensures ∙ w.if-mark_at.false)))
    ] in
    flat-run f old c.if-mark_at.texts _ n (length names) (omega arith) added c.loop-number.invariant
