-- The first crate to which each entry grants a licence: which entries are hit, and which are unused.
use Rattle.std.specs.Prelude.{◌∷◌, ℕ, Bool, List, [], Option, if◌then◌else◌, is_none, map, option_and_then, option_map}
use Rattle.std.specs.BTreeMap as tree
use Rattle.std.specs.List.{cons_option}
use Rattle.std.specs.Ordering.{eq_by_cmp}
use Rattle.deny_base.specs.declared.entry.Hit.{Hit}
use Rattle.deny_base.specs.declared.entry.Witness.TheVariants.{Krate}
use Rattle.deny_spec.specs.Graph.{Graph, kid_of}
use Rattle.deny_spec.specs.Hits.{hit_of}
use Rattle.deny_spec.specs.DiagParts.{crate_at}
use Rattle.deny_gate_licenses.specs.declared.granter.Granter.{Granter}
use Rattle.deny_gate_licenses.specs.declared.witnesses.Witnesses.{Witnesses}
use Rattle.deny_gate_licenses.specs.private.Granters.{granter_cmp, granter_kind, granter_span}

abbrev pub same_granter : Granter → Granter → Bool
same_granter = eq_by_cmp granter_cmp

abbrev pub place_in : Witnesses → Granter → Option ℕ
place_in witnesses by = tree.get granter_cmp witnesses.places by

-- the entries that grant a licence to the crate at a place
abbrev pub witnessed : List Granter → ℕ → List (Granter × ℕ)
witnessed granters place = map (λ by. (by, place)) granters

-- the hit of an entry by its first crate
abbrev pub hit_at : Graph → Witnesses → Granter → Option Hit
hit_at g witnesses by = option_and_then
    (λ place. option_map (λ c. hit_of (granter_kind by) (granter_span by) (Krate (kid_of c))) (crate_at g place))
    (place_in witnesses by)

abbrev pub is_unused : Witnesses → Granter → Bool
is_unused witnesses by = is_none (place_in witnesses by)

abbrev pub hits_at : Graph → Witnesses → Granter → List Hit
hits_at g witnesses by = cons_option (hit_at g witnesses by) []

abbrev pub unused_at : Witnesses → Granter → List Granter
unused_at witnesses by = if is_unused witnesses by then by ∷ [] else []
