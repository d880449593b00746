-- The package of which nothing was scanned, and what was scanned of the package at a place.
use Rattle.std.specs.Prelude.{ℕ, List, [], None, slice_get}
use Rattle.std.specs.Option.{option_map_or}
use Rattle.deny_spec.specs.declared.package.Package.{Package}

abbrev pub unseen_package : Package
unseen_package = record { script = None; unlisted = []; files = [] }

abbrev pub package_at : List Package → ℕ → Package
package_at packages place = option_map_or (λ p. p) (slice_get packages place) unseen_package
