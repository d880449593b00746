-- The crates from which chains lead to places are those that a search against the edges reaches.
use Rattle.std.proofs.Common.{◌≡◌, ◌<◌, ℕ, List, Option, Some, None, length, filter, refl, sym, subst}
use Rattle.std.specs.Prelude.{IsTrue, All, Contains, is_some, nat_lt}
use Rattle.std.proofs.lemmas.Bool.{false≢true, lt-ltb}
use Rattle.std.proofs.lemmas.List.Elements.{All-weaker, All-contains_itself}
use Rattle.deny_base_lists.specs.Walk as walk
use Rattle.deny_base_lists.specs.Walk.{AreThose}
use Rattle.deny_base_lists.proofs.Members.{Contains-filter, Contains-from_filter}
use Rattle.deny_base_lists.proofs.TakeBackLemmas.{those_inside}
use Rattle.deny_krates.specs.Dependents.{AreDirectDependents}
use Rattle.deny_krates.specs.Orderly.{IsOrderly}
use Rattle.deny_krates.specs.krate.DirectDependent.{DirectDependent}
use Rattle.deny_spec.specs.Graph.{Graph}
use Rattle.deny_rules_match.specs.Placed.{ArePlaced}
use Rattle.deny_krates.specs.Steps.{HasEdgeFrom}
use Rattle.deny_rules_match.proofs.DependentLemmas.{dependent_within}
use Rattle.deny_krates.proofs.ChainLemmas.{chain_of_steps_back, chain_stays, steps_back_of_chain}
use Rattle.deny_rules_dup_edges.specs.private.Above.{AreAbove, LeadsToOne}

pub each_dependent_holds : (g : Graph) (place : ℕ) (ds : List DirectDependent) → ArePlaced g.crates
    → AreDirectDependents g place ds → All (λ d. d.place < length g.crates) ds
each_dependent_holds g place ds placed are =
    All-weaker (Contains ds) (λ d. d.place < length g.crates) (dependent_within g place ds placed are) ds
    (All-contains_itself ds)

-- ---- the crates that have a distance are those that a chain leads from to one of the places

module _ (g : Graph) (places known : List ℕ) (orderly : IsOrderly g)
    (are : known ≡ filter (λ place. nat_lt place (length g.crates)) places) where
  of_known : (place : ℕ) → Contains known place → Contains places place
  of_known place is =
      (Contains-from_filter (λ place. nat_lt place (length g.crates)) places place
      (subst (λ (xs : List ℕ). Contains xs place) are is)).0

  known_of : (place : ℕ) → Contains places place → place < length g.crates → Contains known place
  known_of place is inside =
      subst (λ (xs : List ℕ). Contains xs place) (sym are)
      (Contains-filter (λ place. nat_lt place (length g.crates)) places place is
      (lt-ltb place (length g.crates) inside))

  leads_by : (n : ℕ) (d : Option ℕ) → walk.IsDistance (HasEdgeFrom g) known n d → IsTrue (is_some d)
      → LeadsToOne g places n
  leads_by n None is marked = absurd (false≢true marked)
  leads_by n (Some d) is marked =
      let led = is.0 in
      record {
        place = led.root;
        is_one = of_known led.root led.is_root;
        leads = record { length = d; chain = chain_of_steps_back g n led.root d led.chain };
      }

  led_by : (n : ℕ) (d : Option ℕ) → n < length g.crates → walk.IsDistance (HasEdgeFrom g) known n d
      → LeadsToOne g places n → IsTrue (is_some d)
  led_by n (Some d) inside is leads = refl
  led_by n None inside is leads =
      let chain = leads.leads.chain in
      let holds = chain_stays g n leads.place leads.leads.length orderly inside chain in
      absurd (is leads.leads.length (record {
        root = leads.place;
        is_root = known_of leads.place leads.is_one holds;
        chain = steps_back_of_chain g n leads.place leads.leads.length chain;
      }))

  pub are_above : (ds : List (Option ℕ)) (reached : List ℕ)
      → walk.AreDistances (HasEdgeFrom g) (length g.crates) known ds → AreThose ds reached
      → AreAbove g places ds reached
  are_above ds reached distances those = record {
    long = distances.long;
    those = those;
    each = λ n inside. (
      λ marked. leads_by n (walk.distance_at ds n) (distances.each n inside) marked,
      λ leads. led_by n (walk.distance_at ds n) inside (distances.each n inside) leads,
    );
  }

-- the list of reached places names crates
pub above_inside : (g : Graph) (places : List ℕ) (ds : List (Option ℕ)) (reached : List ℕ)
    → AreAbove g places ds reached → All (λ place. place < length g.crates) reached
above_inside g places ds reached above =
    subst (λ (n : ℕ). All (λ place. place < n) reached) above.long (those_inside ds reached above.those)
