-- The crates that an entry matches are those of its name that meet its requirement.
use Rattle.std.proofs.Common.{◌≡◌, ℕ, List, filter, refl, ap, ◌∙◌}
use Rattle.std.specs.Prelude.{◌&&◌}
use Rattle.std.proofs.lemmas.List.Elements.{filter_agree}
use Rattle.std.proofs.lemmas.Cmp.{nat_list_eq_equiv}
use Rattle.semver.specs.Identifiers.{parts_of}
use Rattle.deny_krates.specs.Crates.{crate_view}
use Rattle.deny_krates.specs.krate.Krate.{Krate}
use Rattle.deny_spec.specs.Graph.{Crate}
use Rattle.deny_spec.specs.Groups.{has_name}
use Rattle.deny_spec.specs.Match.{matches, meets}
use Rattle.deny_spec.specs.Policy.{Spec}
use Rattle.deny_rules_match.specs.private.Matching.{is_met_by}
use Rattle.deny_base_lists.proofs.Filters.{filter-filter}

pub named-matches : (spec : Spec) (crates : List Crate) → filter (is_met_by spec) (filter
    (has_name spec.name) crates) ≡ filter (matches spec) crates
unfolding has_name matches is_met_by
named-matches spec crates =
    filter-filter (has_name spec.name) (is_met_by spec) crates
    ∙ filter_agree (λ c. has_name spec.name c && is_met_by spec c) (matches spec)
    (λ c. ap (λ b. b && meets spec.requirement c.version) (nat_list_eq_equiv.symm c.name spec.name)) crates

pub met_is : (spec : Spec) (place : ℕ) (krate : Krate)
    → is_met_by spec (crate_view place krate) ≡ meets spec.requirement (parts_of krate.version)
unfolding is_met_by
met_is spec place krate = refl
