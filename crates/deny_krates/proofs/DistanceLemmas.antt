-- Distances by steps along edges, or against them, are distances by chains of edges.
use Rattle.std.proofs.Common.{ℕ, List, Option, None, Some, length}
use Rattle.deny_base_lists.specs.Walk as walk
use Rattle.deny_spec.specs.Graph.{Graph}
use Rattle.deny_krates.specs.Distances.{AreCrateDistances, AreDependentDistances, IsCrateDistance, IsDependentDistance}
use Rattle.deny_krates.specs.Distances.{IsLedFromRoot, LeadsToTarget}
use Rattle.deny_krates.specs.Steps.{HasEdge, HasEdgeFrom}
use Rattle.deny_krates.proofs.ChainLemmas.{chain_of_steps, chain_of_steps_back, steps_back_of_chain, steps_of_chain}

led_of_steps : (g : Graph) (roots : List ℕ) (place n : ℕ) → walk.IsLed (HasEdge g) roots place n
    → IsLedFromRoot g roots place n
led_of_steps g roots place n led = record {
  root = led.root;
  is_root = led.is_root;
  chain = chain_of_steps g led.root place n led.chain;
}

steps_of_led : (g : Graph) (roots : List ℕ) (place n : ℕ) → IsLedFromRoot g roots place n
    → walk.IsLed (HasEdge g) roots place n
steps_of_led g roots place n led = record {
  root = led.root;
  is_root = led.is_root;
  chain = steps_of_chain g led.root place n led.chain;
}

distance_by_steps : (g : Graph) (roots : List ℕ) (place : ℕ) (d : Option ℕ) → walk.IsDistance (HasEdge g) roots place d
    → IsCrateDistance g roots place d
distance_by_steps g roots place None none = λ n led. none n (steps_of_led g roots place n led)
distance_by_steps g roots place (Some d) is = (
  led_of_steps g roots place d is.0,
  λ n led. is.1 n (steps_of_led g roots place n led),
)

pub distances_by_steps : (g : Graph) (roots : List ℕ) (ds : List (Option ℕ))
    → walk.AreDistances (HasEdge g) (length g.crates) roots ds → AreCrateDistances g roots ds
distances_by_steps g roots ds are = record {
  long = are.long;
  each = λ place inside. distance_by_steps g roots place (walk.distance_at ds place) (are.each place inside);
}

-- ---- against the edges

leads_by_steps : (g : Graph) (targets : List ℕ) (place n : ℕ) → walk.IsLed (HasEdgeFrom g) targets place n
    → LeadsToTarget g targets place n
leads_by_steps g targets place n led = record {
  target = led.root;
  is_target = led.is_root;
  chain = chain_of_steps_back g place led.root n led.chain;
}

steps_of_leading : (g : Graph) (targets : List ℕ) (place n : ℕ) → LeadsToTarget g targets place n
    → walk.IsLed (HasEdgeFrom g) targets place n
steps_of_leading g targets place n leads = record {
  root = leads.target;
  is_root = leads.is_target;
  chain = steps_back_of_chain g place leads.target n leads.chain;
}

dependent_by_steps : (g : Graph) (targets : List ℕ) (place : ℕ) (d : Option ℕ)
    → walk.IsDistance (HasEdgeFrom g) targets place d → IsDependentDistance g targets place d
dependent_by_steps g targets place None none = λ n leads. none n (steps_of_leading g targets place n leads)
dependent_by_steps g targets place (Some d) is = (
  leads_by_steps g targets place d is.0,
  λ n leads. is.1 n (steps_of_leading g targets place n leads),
)

pub dependents_by_steps : (g : Graph) (targets : List ℕ) (ds : List (Option ℕ))
    → walk.AreDistances (HasEdgeFrom g) (length g.crates) targets ds → AreDependentDistances g targets ds
dependents_by_steps g targets ds are = record {
  long = are.long;
  each = λ place inside. dependent_by_steps g targets place (walk.distance_at ds place) (are.each place inside);
}
