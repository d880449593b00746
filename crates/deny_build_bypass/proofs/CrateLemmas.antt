-- A crate of a graph, and with it its enabled features, is found by its id.
use Rattle.std.proofs.Common.{◌≡◌, Some, ap, option_map}
use Rattle.std.specs.Prelude.{Contains}
use Rattle.deny_krates.specs.Ids.{crate_of}
use Rattle.deny_krates.specs.Orderly.{IsOrderly}
use Rattle.deny_base_lists.proofs.Members.{there}
use Rattle.deny_spec.specs.Graph.{Crate, Graph}
use Rattle.deny_spec.proofs.IdLemmas.{found_by_id}

pub enabled_there : (g : Graph) (c : Crate) → IsOrderly g → Contains g.crates c
    → option_map (λ (d : Crate). d.enabled) (crate_of g c.id) ≡ Some c.enabled
enabled_there g c orderly is =
    let at = there g.crates c is in
    ap (option_map (λ (d : Crate). d.enabled)) (found_by_id g.crates at.0 c orderly.ids at.1)
