-- The marks of exempt crates.
use Rattle.std.proofs.Common.{◌≡◌, ℕ, Bool, true, false, List, map, refl, sym, ap, ◌∙◌}
use Rattle.std.specs.Prelude.{◌&&◌, ◌==◌}
use Rattle.std.specs.List.{list_any}
use Rattle.deny_spec.specs.Bans.{is_exempt}
use Rattle.deny_spec.specs.Graph.{Crate, Graph}
use Rattle.deny_spec.specs.Policy.{Policy}
use Rattle.deny_base_lists.proofs.Agreement.{map_on}
use Rattle.deny_rules_match.specs.Marks.{HaveBesides}
use Rattle.deny_rules_match.specs.Placed.{ArePlaced}
use Rattle.deny_rules_match.proofs.MarkLemmas.{adds_marks, more_marks}

pub none_exempt : (p : Policy) (g : Graph) (marks : List Bool) → p.allow_workspace ≡ false
    → marks ≡ map (λ c. false) g.crates → marks ≡ map (is_exempt p g) g.crates
unfolding is_exempt
none_exempt p g marks denied are = are ∙ map_on (λ c. false) (is_exempt p g) g.crates
    (λ c _. ap (λ b. b && list_any (λ place. place == c.place) g.members) (sym denied))

pub members_exempt : (p : Policy) (g : Graph) (marks new : List Bool) (members : List ℕ) → ArePlaced g.crates
    → p.allow_workspace ≡ true → marks ≡ map (λ c. false) g.crates → members ≡ g.members
    → HaveBesides (λ n. list_any (λ place. place == n) members) marks new → new ≡ map (is_exempt p g) g.crates
unfolding is_exempt
members_exempt p g marks new members placed allowed are same so =
    let is_member = λ (c : Crate). list_any (λ place. place == c.place) members in
    more_marks g.crates (λ c. false) (is_exempt p g) is_member marks new are
    (adds_marks g.crates placed (λ n. list_any (λ place. place == n) members) is_member marks new so (λ c _. refl))
    (λ c. ap (λ b. b && list_any (λ place. place == c.place) g.members) allowed
    ∙ ap (list_any (λ place. place == c.place)) (sym same))
