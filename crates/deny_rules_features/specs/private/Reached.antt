-- The features that others reach by a table, in one step or more.
use Rattle.std.specs.Prelude.{◌≡◌, ◌↔◌, ℕ, Bool, IsTrue, is_some, List, [], Contains, slice_index_or, if◌then◌else◌}
use Rattle.std.specs.FinMap as finite
use Rattle.deny_base_lists.specs.TextMap.{TextFinMap}
use Rattle.deny_spec.specs.Graph.{Crate, Graph}
use Rattle.deny_spec.specs.Policy as policy
pub use Rattle.deny_spec.specs.TextSets.{IsSetOf}
use Rattle.deny_spec_report.specs.Features.{Reaches}
use Rattle.deny_rules_match.specs.Marks.{mark_at}
use Rattle.deny_rules_features.specs.private.Keys.{IsReachedAt}
use Rattle.deny_rules_features.specs.private.Steps.{plain_of}

-- the features that a marked one leads to in one step, by its number
unfoldable pub led_to_by : TextFinMap (List (List ℕ)) → List (List ℕ) → List Bool → ℕ → List (List ℕ)
led_to_by features names marks number =
    if mark_at marks number then plain_of features (slice_index_or names number []) else []

-- a listed feature reaches another one, by the table of any crate that has these features
pub record IsReachedBy (features : TextFinMap (List (List ℕ))) (listed : List policy.SpannedText)
    (feature : List ℕ) : Type 0 where
  pub name : policy.SpannedText
  pub one : Contains listed name
  pub reaches : (c : Crate) → c.features ≡ features → Reaches c name.value feature

pub record AreReachedByTable (features : TextFinMap (List (List ℕ))) (listed : List policy.SpannedText)
    (set : TextFinMap Bool) : Type 0 where
  pub whole : (c : Crate) (feature : List ℕ) (w : policy.SpannedText) → c.features ≡ features → Contains listed w
      → Reaches c w.value feature → IsTrue (is_some (finite.get set feature))
  pub sound : (feature : List ℕ) → IsTrue (is_some (finite.get set feature)) → IsReachedBy features listed feature

-- the set has exactly the features that are reached by the table of the crate at a place
pub record AreReachedAt (g : Graph) (place : ℕ) (listed : List policy.SpannedText)
    (set : TextFinMap Bool) : Type 0 where
  pub each : (feature : List ℕ) → IsTrue (is_some (finite.get set feature)) ↔ IsReachedAt g place listed feature
