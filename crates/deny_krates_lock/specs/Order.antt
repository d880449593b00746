-- The order of the lines of a lock text.
use Rattle.std.specs.Prelude.{List, [], ◌∷◌, if◌then◌else◌}
use Rattle.std.specs.Cmp.Lexicographic.{slice_cmp}
use Rattle.std.specs.Ordering.{is_lt, nat_cmp, on, then_cmp}
use Rattle.std.specs.declared.cmp.Ordering.{Ordering}
use Rattle.deny_spec.specs.Graph.{Crate}
use Rattle.deny_spec.specs.VersionOrder.{version_cmp}

-- the order of lines: by name, then by the precedence of versions, and then by id
abbrev pub lock_cmp : Crate → Crate → Ordering
lock_cmp = then_cmp (on (λ c. c.name) (slice_cmp nat_cmp)) version_cmp

-- a list in order with a crate put in before the first that it is below
unfoldable pub with_crate : List Crate → Crate → List Crate
with_crate [] c = c ∷ []
with_crate (d ∷ ds) c = if is_lt (lock_cmp c d) then c ∷ (d ∷ ds) else d ∷ with_crate ds c

-- crates in the order of their lines
unfoldable pub in_lock_order : List Crate → List Crate
in_lock_order [] = []
in_lock_order (c ∷ cs) = with_crate (in_lock_order cs) c
