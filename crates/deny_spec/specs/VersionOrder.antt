-- The order in which crates of one name are reported.
use Rattle.std.specs.Ordering.{nat_cmp, on, then_cmp}
use Rattle.std.specs.Cmp.Lexicographic.{slice_cmp}
use Rattle.std.specs.declared.cmp.Ordering.{Ordering}
use Rattle.semver.specs.Order.{pre_cmp}
use Rattle.semver.specs.Parse.{Parts}
use Rattle.deny_spec.specs.Graph.{Crate}

-- versions by precedence (Semantic Versioning 2.0, section 11), crates of one precedence by id
abbrev pub precedence : Parts → Parts → Ordering
precedence = then_cmp (on (λ v. v.0) nat_cmp)
    (then_cmp (on (λ v. v.1) nat_cmp) (then_cmp (on (λ v. v.2) nat_cmp) (on (λ v. v.3) pre_cmp)))

abbrev pub version_cmp : Crate → Crate → Ordering
version_cmp = then_cmp (on (λ c. c.version) precedence) (on (λ c. c.id) (slice_cmp nat_cmp))
