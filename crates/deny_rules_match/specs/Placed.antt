-- The crates of a graph at their places.
pub use Rattle.deny_krates.specs.Placed.{ArePlaced}
