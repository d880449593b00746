-- The direct dependents of a crate, as the graph keeps them and as the rules name them.
use Rattle.std.proofs.Common.{◌≡◌, ◌<◌, ℕ, Bool, false, List, Contains, Option, Some, None, is_some, length, map}
use Rattle.std.proofs.Common.{slice_get, refl, sym, ap, ◌∙◌}
use Rattle.std.specs.Prelude.{option_and_then, option_map}
use Rattle.std.specs.FinMap as finite
use Rattle.std.specs.List.{list_all}
use Rattle.std.specs.Option.{option_map_or}
use Rattle.std.proofs.lemmas.List.Elements.{All-contains}
use Rattle.std.proofs.lemmas.Option.{slice_get_within}
use Rattle.deny_base_lists.specs.TextMap.{TextFinMap}
use Rattle.deny_base.specs.declared.span.Span.{Span}
use Rattle.deny_krates.specs.Crates.{crate_view, crates_from}
use Rattle.deny_krates.specs.Dependents.{AreDirectDependents}
use Rattle.deny_krates.specs.krate.DirectDependent.{DirectDependent}
use Rattle.deny_krates.specs.krate.Krate.{Krate}
use Rattle.deny_spec.specs.Graph.{Crate, Graph, dependents}
use Rattle.deny_spec.specs.Groups.{has_name}
use Rattle.deny_spec.specs.DiagParts.{crate_at}
use Rattle.deny_rules_match.specs.Wrappers.{has_span, span_at, span_of}
use Rattle.deny_rules_match.specs.private.Groups.{all_have_name, has_name_at}
use Rattle.deny_rules_match.specs.Placed.{ArePlaced}
use Rattle.deny_base_lists.proofs.Members.{Contains-from_map, all_at, all_from}
use Rattle.deny_base_lists.proofs.Booleans.{tests_agree}
use Rattle.deny_krates.proofs.PlaceLemmas.{at_place}
use Rattle.deny_krates.proofs.NeighbourLemmas.{dependent_holds}

pub span-there : (g : Graph) (spans : TextFinMap Span) (n : ℕ) (c : Crate) → slice_get g.crates n ≡ Some c
    → span_at g spans n ≡ span_of spans c
unfolding span_at
span-there g spans n c is = ap (option_and_then (span_of spans)) is

pub test-there : (g : Graph) (spans : TextFinMap Span) (n : ℕ) (c : Crate) → slice_get g.crates n ≡ Some c
    → is_some (span_at g spans n) ≡ has_span spans c
unfolding has_span
test-there g spans n c is = ap is_some (span-there g spans n c is)

-- whether the crate at a place has a name
has_name_at-viewed : (name : List ℕ) (n : ℕ) (k : Option Krate) → option_map_or (λ (k : Krate). has_name name
    (crate_view n k)) k false ≡ option_map_or (has_name name) (option_map (crate_view n) k) false
has_name_at-viewed name n None = refl
has_name_at-viewed name n (Some k) = refl

has_name_at-there : (ks : List Krate) (g : Graph) (name : List ℕ) → crates_from 0 ks ≡ g.crates → (n : ℕ) (c : Crate)
    → slice_get g.crates n ≡ Some c → has_name_at ks name n ≡ has_name name c
unfolding has_name_at has_name
has_name_at-there ks g name crates n c is =
    has_name_at-viewed name n (slice_get ks n) ∙ ap (λ (o : Option Crate). option_map_or (has_name name) o false)
    (sym (at_place ks g.crates n crates) ∙ is)

-- a direct dependent is a crate with an edge
pub record IsParent (g : Graph) (place n : ℕ) : Type 0 where
  pub parent : Crate
  pub member : Contains (dependents g place) parent
  pub at : slice_get g.crates n ≡ Some parent

module _ (g : Graph) (place : ℕ) (ds : List DirectDependent) (placed : ArePlaced g.crates)
    (direct : AreDirectDependents g place ds) where
  pub parent_of : (d : DirectDependent) → Contains ds d → IsParent g place d.place
  parent_of d is =
      let listed = All-contains (λ (d : DirectDependent). Contains
      (map (λ c. c.place) (dependents g place)) d.place) ds d direct.sound is in
      let of = Contains-from_map (λ (c : Crate). c.place) (dependents g place) d.place listed in
      record {
        parent = of.from;
        member = of.member;
        at = ap (slice_get g.crates) (sym of.is)
            ∙ placed.at of.from (dependent_holds g place of.from of.member);
      }

  -- each crate with an edge to this one is a direct dependent
  pub kept_of : (c : Crate) → Contains (dependents g place) c
      → (d : DirectDependent) × Contains ds d × (slice_get g.crates d.place ≡ Some c)
  kept_of c is =
      let listed = All-contains (λ (c : Crate). Contains (map (λ d. d.place) ds) c.place)
      (dependents g place) c direct.whole is in
      let of = Contains-from_map (λ (d : DirectDependent). d.place) ds c.place listed in
      (of.from, of.member, ap (slice_get g.crates) of.is ∙ placed.at c (dependent_holds g place c is))

  -- a test of the places of all direct dependents is one of their crates
  pub all-tested : (at : ℕ → Bool) (test : Crate → Bool) → ((n : ℕ) (c : Crate) → slice_get g.crates n ≡ Some c
      → at n ≡ test c) → list_all (λ (d : DirectDependent). at d.place) ds ≡ list_all test (dependents g place)
  all-tested at test same = tests_agree _ _
      (λ all. all_from test (dependents g place) (λ c is.
      let kept = kept_of c is in
      sym (same kept.0.place c kept.2) ∙ all_at (λ (d : DirectDependent). at d.place) ds kept.0 all kept.1))
      (λ all. all_from (λ (d : DirectDependent). at d.place) ds (λ d is.
      let of = parent_of d is in
      same d.place of.parent of.at ∙ all_at test (dependents g place) of.parent all of.member))

  pub all_have_name-dependents : (ks : List Krate) (name : List ℕ) → crates_from 0 ks ≡ g.crates
      → all_have_name ks name ds ≡ list_all (has_name name) (dependents g place)
  unfolding all_have_name
  all_have_name-dependents ks name crates = all-tested (has_name_at ks name) (has_name name)
      (has_name_at-there ks g name crates)

  pub dependent_within : (d : DirectDependent) → Contains ds d → d.place < length g.crates
  dependent_within d is = let of = parent_of d is in slice_get_within g.crates d.place of.parent of.at

-- the span at a place, by the crate at that place
span-viewed : (spans : TextFinMap Span) (n : ℕ) (k : Option Krate)
    → option_and_then (span_of spans) (option_map (crate_view n) k) ≡ option_and_then
    (λ (k : Krate). finite.get spans k.name) k
unfolding span_of
span-viewed spans n None = refl
span-viewed spans n (Some k) = refl

pub span-got : (g : Graph) (spans : TextFinMap Span) (n : ℕ) (k : Option Krate)
    → option_map (crate_view n) k ≡ crate_at g n → span_at g spans n ≡ option_and_then
    (λ (k : Krate). finite.get spans k.name) k
unfolding span_at
span-got g spans n k is = ap (option_and_then (span_of spans)) (sym is) ∙ span-viewed spans n k
