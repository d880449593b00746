use Rattle.std.proofs.Common.{◌++◌, ◌+◌, ◌∷◌, ℕ, [], ap, drop, get_or, map, ◌∙◌}
use Rattle.std.proofs.lemmas.List.{drop_more}
use Rattle.deny_base.specs.declared.key.Key.{Key}
use Rattle.deny_base_lists.proofs.Loops.{appended}
use Rattle.deny_spec.specs.Keys.{crate_key}
use Rattle.deny_rules_match.proofs.crate_keys.add_crate_keys.Goals as goal

pub loop-place-preserved : goal.loop-place-preserved
loop-place-preserved c =
    let key : ℕ → Key = λ place. crate_key c.args.code place c.args.entry in
    let places = c.args.places.now in
    let i = c.loop-place.place-index in
    let old = c.loop-place.keys in
    appended (map key) (drop i places) (drop (i + 1) places) (key (get_or places i 0) ∷ []) old c.push.new.self
    (c.args.keys.now ++ map key places) (ap (map key) (drop_more places i 0 c.loop-place-test.true))
    (c.in_ok-push.ensures.ok ∙ ap (λ (made : Key). old ++ made ∷ []) c.crate_key.ensures) c.loop-place.invariant
