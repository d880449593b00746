-- The packs of the crates at places, and the entries that grant them a licence.
use Rattle.std.specs.Prelude.{◌≡◌, ◌∷◌, ℕ, Bool, List, []}
use Rattle.std.specs.List.{flat_map}
use Rattle.std.specs.Option.{option_map_or}
use Rattle.deny_base_lists.specs.First.{FindsFirst}
use Rattle.deny_base.specs.declared.finding.Pack.{Pack}
use Rattle.deny_spec.specs.Graph.{Crate, Graph}
use Rattle.deny_spec.specs.Licensing.{Licensing}
use Rattle.deny_spec.specs.DiagParts.{crate_at}
use Rattle.deny_gate_licenses.specs.declared.judged.JudgedCrates.{JudgedCrates}
use Rattle.deny_gate_licenses.specs.declared.granter.Granter.{Granter}
use Rattle.deny_gate_licenses.specs.private.Counted.{AreCountedPlaces}
use Rattle.deny_gate_licenses.specs.private.Judgements.{granters_in, judgement_of}
use Rattle.deny_gate_licenses.specs.private.Reported.{judged_pack}
use Rattle.deny_gate_licenses.specs.private.Witnesses.{place_in, same_granter, witnessed}

abbrev pub crate_pack : Licensing → Crate → Pack
crate_pack l c = judged_pack c (judgement_of l c)

abbrev pub crate_granters : Licensing → Crate → List Granter
crate_granters l c = granters_in (judgement_of l c)

abbrev pub packs_at : Licensing → Graph → ℕ → List Pack
packs_at l g place = option_map_or (λ c. crate_pack l c ∷ []) (crate_at g place) []

abbrev pub witnessed_at : Licensing → Graph → ℕ → List (Granter × ℕ)
witnessed_at l g place = option_map_or (λ c. witnessed (crate_granters l c) place) (crate_at g place) []

-- the packs of the crates that count, and the first of them to which each entry grants a licence
pub record AreJudgedCrates (include_dev : Bool) (l : Licensing) (g : Graph) (judged : JudgedCrates) : Type 0 where
  pub places : List ℕ
  pub counted : AreCountedPlaces include_dev g places
  pub packs : judged.packs ≡ flat_map (packs_at l g) places
  pub witnesses : FindsFirst same_granter (flat_map (witnessed_at l g) places) (place_in judged.witnesses)
