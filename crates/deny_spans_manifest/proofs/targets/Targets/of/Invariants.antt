use Rattle.std.proofs.Common.{◌≡◌, ℕ, Bool, List, map, take}
use Rattle.std.specs.List.{position_from}
use Rattle.deny_spans_manifest.specs.Agreement.{ReportsAgreement}
use Rattle.deny_spans_manifest.specs.private.Firsts.{first_at}
use Rattle.deny_spans_manifest.specs.private.Targets.{IsForm, form_cmp}
use Rattle.deny_spans_manifest.proofs.targets.Targets.of.Given as goal

abbrev pub invariant-loop-number : goal.invariant-loop-number
invariant-loop-number l = (agrees : List ℕ → List ℕ → Bool) → ReportsAgreement agrees
    → (key : List ℕ) (form : List (List ℕ)) → IsForm key form
    → first_at form_cmp l.numbers form
    ≡ position_from (λ other. agrees other key) 0 (map (λ e. e.0.name) (take l.number l.entries))
