-- Items that were found, as plain data.
use Rattle.std.proofs.Common.{◌≡◌, Bool, List, Option, Some, None, Bor, map, option_map, refl, sym, ap, ◌∙◌}
use Rattle.std.specs.Prelude.{find}
use Rattle.deny_base_lists.proofs.Filters.{find-map}

option_map-map : {X Y Z : Type 0} (f : Y → Z) (g : X → Y) (o : Option X)
    → option_map f (option_map g o) ≡ option_map (λ x. f (g x)) o
option_map-map f g None = refl
option_map-map f g (Some x) = refl

-- an item that was found passes the test in a list of views
pub seen : {X Y : Type 0} (p : Y → Bool) (f : X → Y) (xs : List X) (r : Option (Bor X))
    → option_map (λ x. x.now) r ≡ find (λ x. p (f x)) xs → option_map (λ x. f x.now) r ≡ find p (map f xs)
seen p f xs r is = sym (option_map-map f (λ x. x.now) r) ∙ (ap (option_map f) is ∙ sym (find-map p f xs))
