use Rattle.std.proofs.Common.{◌∙◌, ◌++◌, Bor, List, ap, append_assoc, map, refl}
use Rattle.std.proofs.lemmas.Result.{on_ok_weaker}
use Rattle.deny_base.specs.declared.code.Code.TheVariants.{UnknownFeature}
use Rattle.deny_base.specs.declared.key.Key.{Key}
use Rattle.deny_spec.specs.Keys.{crate_key}
use Rattle.deny_spec.specs.Policy.{SpannedText}
use Rattle.deny_build.specs.private.ScannedKrates.{krate_of, scanning_at}
use Rattle.deny_build.proofs.KeyLemmas.{right_are}
use Rattle.deny_build.proofs.script_keys.add_right_keys.Goals as goal

pub returns : goal.returns
returns c =
    let at = c.args.at.now in
    let old = c.args.keys.now in
    let features = c.as_slice.result.now in
    let unknown = map (λ (w : Bor SpannedText). crate_key UnknownFeature at.place w.now.span) features in
    on_ok_weaker c.add_feature_keys.result
    (λ added. added
    ∙ (ap (λ (keys : List Key). keys ++ unknown)
    c.in_ok-add_shown_key.ensures
    ∙ (append_assoc old _ unknown
    ∙ ap (λ (keys : List Key). old ++ keys)
    (right_are (scanning_at at)
    (krate_of at) c.args.sum.now.span _ at.contents.now features refl
    at.seen (ap (map (λ (w : Bor SpannedText). w.now)) c.as_slice.ensures.value ∙ c.in_ok-unknown.ensures at.place)))))
    c.add_feature_keys.ensures
