-- Items that are found by their texts.
use Rattle.std.proofs.Common.{◌≡◌, ℕ, Bool, true, false, List, Option, Some, Bor, cond, is_some, option_map, refl, sym}
use Rattle.std.proofs.Common.{ap, ◌∙◌}
use Rattle.std.specs.Prelude.{find}
use Rattle.std.specs.List.{list_any}
use Rattle.std.specs.Cmp.Lexicographic.{nat_list_eq_equiv}
use Rattle.deny_base_lists.proofs.Agreement.{list_any_on}
use Rattle.deny_base_lists.proofs.Filters.{find-any}
use Rattle.deny_base_lists.proofs.Options.{is_some-option_map}
use Rattle.deny_spec.specs.Text.{same_text}

-- an item in the place of another one, as plain data
pub seen_first : {X Y : Type 0} (f : X → Y) (b : Bool) (x : X) (o : Option X)
    → option_map f (cond b (Some x) o) ≡ cond b (Some (f x)) (option_map f o)
seen_first f true x o = refl
seen_first f false x o = refl

-- a text is found exactly where it is in the list
pub some_found : (texts : List (List ℕ)) (text : List ℕ) (r : Option (Bor (List ℕ)))
    → option_map (λ t. t.now) r ≡ find (λ t. same_text t text) texts → is_some r ≡ list_any (same_text text) texts
some_found texts text r is =
    sym (is_some-option_map (λ (t : Bor (List ℕ)). t.now) r)
    ∙ (ap is_some is
    ∙ (sym (find-any (λ t. same_text t text) texts)
    ∙ list_any_on (λ t. same_text t text) (same_text text) texts (λ t among. nat_list_eq_equiv.symm t text)))
