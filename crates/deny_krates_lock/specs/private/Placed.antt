-- A crate with its place, as contracts see it.
use Rattle.deny_krates.specs.Crates.{crate_view}
use Rattle.deny_krates_lock.specs.declared.order.Placed.{Placed}
use Rattle.deny_spec.specs.Graph.{Crate}

abbrev pub placed_view : Placed → Crate
placed_view p = crate_view p.place p.krate.now
