-- Crates of one id.
use Rattle.std.specs.Prelude.{Bool}
use Rattle.std.specs.Str.{bytes_eq}
use Rattle.deny_spec.specs.Graph.{Crate}

abbrev pub same_id : Crate → Crate → Bool
same_id a b = bytes_eq a.id b.id
