-- The members of the workspace.
use Rattle.std.specs.Prelude.{◌==◌, Bool}
use Rattle.std.specs.List.{list_any}
use Rattle.deny_spec.specs.Graph.{Crate, Graph}

unfoldable pub is_member : Graph → Crate → Bool
is_member g c = list_any (λ place. place == c.place) g.members
