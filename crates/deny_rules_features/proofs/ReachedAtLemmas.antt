-- The features that a table reaches are those that are reached at the place of its crate.
use Rattle.std.proofs.Common.{◌≡◌, ℕ, Bool, false, true, List, Some, None, is_some, refl, sym, ap, ◌∙◌, subst}
use Rattle.std.specs.FinMap as finite
use Rattle.std.specs.Cmp.Lexicographic.{slice_cmp}
use Rattle.std.specs.Ordering.{nat_cmp}
use Rattle.std.proofs.lemmas.Option.{none-some}
use Rattle.deny_base_lists.specs.TextMap.{TextFinMap}
use Rattle.deny_spec.specs.Graph.{Crate, Graph}
use Rattle.deny_spec.specs.Policy.{SpannedText}
use Rattle.deny_spec.specs.DiagParts.{crate_at}
use Rattle.deny_spec_report.specs.Features.{Reaches}
use Rattle.deny_rules_features.specs.private.Reached.{AreReachedByTable, AreReachedAt}

same_crate : (c d : Crate) → Some c ≡ Some d → c ≡ d
same_crate c d same = cc

never : false ≡ true → ⊥
never is = (cc)

pub reached_there : (g : Graph) (place : ℕ) (listed : List SpannedText) (set : TextFinMap Bool) (c : Crate)
    → crate_at g place ≡ Some c → AreReachedByTable c.features listed set → AreReachedAt g place listed set
reached_there g place listed set c at are = record {
  each = λ feature. (
    (λ held. let by = are.sound feature held in
        record { krate = c; at = at; name = by.name; one = by.one; reaches = by.reaches c refl }),
    (λ reached. are.whole c feature reached.name refl reached.one
        (subst (λ (k : Crate). Reaches k reached.name.value feature) (same_crate reached.krate c (sym reached.at ∙ at))
        reached.reaches)),
  );
}

pub reached_nowhere : (g : Graph) (place : ℕ) (listed : List SpannedText) → crate_at g place ≡ None
    → AreReachedAt g place listed finite.empty
reached_nowhere g place listed at = record {
  each = λ feature. (
    (λ held. absurd (never (ap is_some (sym (finite.get-empty (slice_cmp nat_cmp) feature)) ∙ held))),
    (λ reached. absurd (none-some reached.krate (sym at ∙ reached.at))),
  );
}
