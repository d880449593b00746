use Rattle.std.proofs.Common.{◌≡◌, List, ℕ, Bool, length, ap, ◌∙◌, subst}
use Rattle.std.specs.List.{flat_map, range_with_len}
use Rattle.std.proofs.lemmas.Result.{IfOk-weaker}
use Rattle.deny_rules_features.specs.private.Reached.{AreReachedByTable, IsSetOf, led_to_by}
use Rattle.deny_rules_features.proofs.ReachedLemmas.{are_reached}
use Rattle.deny_rules_features.proofs.reached.reached_by_names.Goals as goal

pub returns : goal.returns
returns c =
    let features = c.args.features.now in
    let names = c.args.names.now in
    let listed = c.args.listed.now in
    let marks = c.in_ok-marks.marks in
    let texts : c.as_slice-2.result.now ≡ flat_map (led_to_by features names marks) (range_with_len 0 (length names)) =
    c.as_slice-2.ensures ∙ (c.in_ok-texts.ensures
    ∙ ap (λ (ms : List Bool). flat_map (led_to_by features names ms) (range_with_len 0 (length names)))
    c.as_slice.ensures) in
    IfOk-weaker c.set_of.result (IsSetOf c.as_slice-2.result.now) (AreReachedByTable features listed)
    (λ set held. are_reached features names c.in_ok-numbers.numbers c.requires.named c.in_ok-numbers.ensures listed
    marks set c.in_ok-marks.ensures (subst (λ (ts : List (List ℕ)). IsSetOf ts set) texts held)) c.set_of.ensures
