-- The truth of a tree, by its cases.
use Rattle.std.proofs.Common.{◌≡◌, ℕ, Bool, false, List, [], ◌∷◌, refl, ap, ◌∙◌, sym, map, unwrap_or, slice_get, ◌||◌}
use Rattle.std.specs.List.{list_any, list_all}
use Rattle.deny_base_lists.proofs.Filters.{list_all-map}
use Rattle.deny_spdx.specs.declared.expression.Tree.{Tree, fold-roll-Tree}
use Rattle.deny_spdx.specs.declared.expression.Tree.TheVariants.{Requirement, All, Any, rolls-Requirement, rolls-All}
use Rattle.deny_spdx.specs.declared.expression.Tree.TheVariants.{rolls-Any}
use Rattle.deny_spdx.specs.declared.expression.Tree.TheOpen as open_tree
use Rattle.deny_spdx.specs.Truth.{truth, truth_step}

list_any-map : {A : Type 0} (p : A → Bool) (xs : List A) → list_any (λ t. t) (map p xs) ≡ list_any p xs
list_any-map p [] = refl
list_any-map p (x ∷ xs) = ap (λ b. p x || b) (list_any-map p xs)

pub truth-requirement : (allowed : List Bool) (number : ℕ)
    → truth allowed (Requirement number) ≡ unwrap_or (slice_get allowed number) false
truth-requirement allowed number = ap (truth allowed) (sym (rolls-Requirement number))
    ∙ fold-roll-Tree Bool (truth_step allowed) (open_tree.Requirement number)

pub truth-all : (allowed : List Bool) (parts : List Tree) → truth allowed (All parts) ≡ list_all (truth allowed) parts
truth-all allowed parts = ap (truth allowed) (sym (rolls-All parts))
    ∙ (fold-roll-Tree Bool (truth_step allowed) (open_tree.All parts) ∙ list_all-map (truth allowed) parts)

pub truth-any : (allowed : List Bool) (parts : List Tree) → truth allowed (Any parts) ≡ list_any (truth allowed) parts
truth-any allowed parts = ap (truth allowed) (sym (rolls-Any parts))
    ∙ (fold-roll-Tree Bool (truth_step allowed) (open_tree.Any parts) ∙ list_any-map (truth allowed) parts)
