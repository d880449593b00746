use Rattle.std.proofs.Common.{◌∙◌, ℕ, Bor, List, ap, map, refl}
use Rattle.std.specs.Cmp.Lexicographic.{pointwise}
use Rattle.deny_spec.specs.Text.{same_text}
use Rattle.deny_build_bypass.proofs.ViewLemmas.{pointwise_viewed}
use Rattle.deny_build_bypass.proofs.paths.has_components.Goals as goal

pub returns : goal.returns
returns c =
    let text : Bor (List ℕ) → List ℕ = λ name. name.now in
    c.eq.ensures
    ∙ (pointwise_viewed _ same_text text (λ a b. refl) c.as_slice.result.now c.args.names.now
    ∙ ap (λ (own : List (List ℕ)). pointwise same_text own (map text c.args.names.now))
    (ap (map text) c.as_slice.ensures.value ∙ c.in_ok-own.ensures))
