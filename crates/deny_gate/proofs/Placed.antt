-- Each crate of a graph is at its place.
use Rattle.std.proofs.Common.{◌≡◌, ◌+◌, ℕ, zero, suc, List, [], ◌∷◌, Contains, Option, Some, refl, sym, ap, ◌∙◌, subst}
use Rattle.std.proofs.Common.{arith}
use Rattle.std.specs.Prelude.{filter_map, map, slice_get}
use Rattle.std.specs.List.{cons_option}
use Rattle.std.proofs.lemmas.Option.{none-some, same_Some}
use Rattle.deny_base_lists.proofs.Members.{Contains-first, Contains-rest, there}
use Rattle.deny_krates.specs.Listed.{AreCratesAt}
use Rattle.deny_krates.specs.Read.{IsGraphOf}
use Rattle.deny_krates.specs.document.Document.{Document}
use Rattle.deny_krates.specs.package.MetadataPackage.{MetadataPackage}
use Rattle.deny_spec.specs.Graph.{Crate, Graph}
use Rattle.deny_spec.specs.DiagParts.{crate_at}

-- crates are at their places in the graph
abbrev pub ArePlaced : Graph → List Crate → Type 0
ArePlaced g crates = (c : Crate) → Contains crates c → slice_get g.crates c.place ≡ Some c

place_at : (doc : Document) (place : ℕ) (ps : List MetadataPackage) (cs : List Crate) (k : ℕ) (c : Crate)
    → AreCratesAt doc place ps cs → slice_get cs k ≡ Some c → c.place ≡ place + k
place_at doc place [] [] k c are is = absurd (none-some c is)
place_at doc place [] (d ∷ cs) k c are is = absurd are
place_at doc place (p ∷ ps) [] k c are is = absurd are
place_at doc place (p ∷ ps) (d ∷ cs) zero c are is =
    let same : d ≡ c = same_Some d c is in
    let first : place ≡ place + zero = omega arith in
    sym (ap (λ (e : Crate). e.place) same) ∙ (ap (λ (e : Crate). e.place) are.0.is ∙ first)
place_at doc place (p ∷ ps) (d ∷ cs) (suc k) c are is =
    let later : place + 1 + k ≡ place + suc k = omega arith in
    place_at doc (place + 1) ps cs k c are.1 is ∙ later

pub are_placed : (bytes : List ℕ) (g : Graph) → IsGraphOf bytes g → ArePlaced g g.crates
are_placed bytes g of = λ c is.
    let at = there g.crates c is in
    let place : c.place ≡ 0 + at.0 = place_at of.read.document 0 of.graph.packages g.crates at.0 c of.graph.crates at.1
    in
    let same : at.0 ≡ c.place = omega (arith, place) in
    subst (λ (n : ℕ). slice_get g.crates n ≡ Some c) same at.1

-- each crate of a graph bears the number of its place
abbrev pub AreInPlace : Graph → Type 0
AreInPlace g = (k : ℕ) (c : Crate) → slice_get g.crates k ≡ Some c → c.place ≡ k

pub in_place : (bytes : List ℕ) (g : Graph) → IsGraphOf bytes g → AreInPlace g
in_place bytes g of = λ k c at.
    let place : c.place ≡ 0 + k = place_at of.read.document 0 of.graph.packages g.crates k c of.graph.crates at in
    omega (arith, place)

-- the crates at the places of some crates
pub at_places : (g : Graph) (crates : List Crate) → ArePlaced g crates
    → filter_map (crate_at g) (map (λ c. c.place) crates) ≡ crates
at_places g [] placed = refl
at_places g (c ∷ crates) placed =
    ap (λ (o : Option Crate). cons_option o (filter_map (crate_at g) (map (λ c. c.place) crates)))
    (placed c (Contains-first c crates))
    ∙ ap (λ (cs : List Crate). c ∷ cs) (at_places g crates (λ d is. placed d (Contains-rest c crates d is)))
