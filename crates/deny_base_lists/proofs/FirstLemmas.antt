-- A map finds the first of entries with equal keys, also after one more entry.
use Rattle.std.proofs.Common.{◌≡◌, ◌++◌, Bool, true, false, List, [], ◌∷◌, Option, Some, None, cond, refl, sym}
use Rattle.std.proofs.Common.{ap, ◌∙◌}
use Rattle.std.specs.Map.{lookup}
use Rattle.std.specs.Option.{option_or}
use Rattle.deny_base_lists.specs.First.{FindsFirst, GainsEntry}

module _ {K V : Type 0} (same : K → K → Bool) where
  lookup-push : (entries : List (K × V)) (key : K) (value : V) (asked : K)
      → lookup (same asked) (entries ++ (key, value) ∷ []) ≡ option_or (lookup (same asked) entries)
      (cond (same asked key) (Some value) None)
  lookup-push [] key value asked = refl
  lookup-push (e ∷ es) key value asked = elim (same asked e.0)
      as (λ b. cond b (Some e.1) (lookup (same asked) (es ++ (key, value) ∷ []))
      ≡ option_or (cond b (Some e.1) (lookup (same asked) es)) (cond (same asked key) (Some value) None)) [
        | true ↦ refl
        | false ↦ lookup-push es key value asked
      ]

  pub finds_more : (entries : List (K × V)) (key : K) (value : V) (old new : K → Option V)
      → FindsFirst same entries old → GainsEntry same key value old new
      → FindsFirst same (entries ++ (key, value) ∷ []) new
  finds_more entries key value old new first gains = record {
    at = λ asked. gains.at asked
        ∙ (ap (λ o. option_or o (cond (same asked key) (Some value) None)) (first.at asked)
        ∙ sym (lookup-push entries key value asked));
  }
