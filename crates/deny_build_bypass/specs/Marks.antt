-- Marks for crates, by their places.
use Rattle.std.specs.Prelude.{Bool, List}
use Rattle.deny_base_lists.specs.Walk.{is_marked}
use Rattle.deny_spec.specs.Graph.{Crate}

-- the test that the marked crates pass
abbrev pub reached_by : List Bool → Crate → Bool
reached_by marks c = is_marked marks c.place
