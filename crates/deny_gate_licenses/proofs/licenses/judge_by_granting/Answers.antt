use Rattle.std.proofs.Common.{◌≡◌, ℕ, Bool, IfOk, List, sym, subst}
use Rattle.std.specs.Prelude.{Result, Ok, Err}
use Rattle.std.specs.List.{flat_map}
use Rattle.deny_base_lists.specs.First.{FindsFirst}
use Rattle.deny_base_lists.specs.declared.memory.NoMemory.{NoMemory}
use Rattle.deny_spec.specs.Graph.{Graph}
use Rattle.deny_spec.specs.Licensing.{Licensing}
use Rattle.deny_cfg.specs.LicensingView.{licensing_view}
use Rattle.deny_gate_licenses.specs.declared.judged.JudgedCrates.{JudgedCrates}
use Rattle.deny_gate_licenses.specs.private.Counted.{AreCountedPlaces}
use Rattle.deny_gate_licenses.specs.private.JudgedCrates.{AreJudgedCrates, packs_at, witnessed_at}
use Rattle.deny_gate_licenses.specs.private.Witnesses.{place_in, same_granter}
use Rattle.deny_gate_licenses.proofs.licenses.judge_by_granting.Goals as goal

is-judged : (include_dev : Bool) (l : Licensing) (g : Graph) (places : List ℕ) (result : Result JudgedCrates NoMemory)
    → AreCountedPlaces include_dev g places → IfOk result (λ judged. judged.packs ≡ flat_map (packs_at l g) places)
    → IfOk result (λ judged. FindsFirst same_granter (flat_map (witnessed_at l g) places) (place_in judged.witnesses))
    → IfOk result (AreJudgedCrates include_dev l g)
is-judged include_dev l g places (Ok judged) counted packs witnesses = record {
  places = places;
  counted = counted;
  packs = packs;
  witnesses = witnesses;
}
is-judged include_dev l g places (Err error) counted packs witnesses = tt

pub returns : goal.returns
returns c =
    let cfg = c.args.granting.now.cfg.now in
    let g = c.args.krates.now in
    is-judged cfg.include_dev (licensing_view cfg) g c.as_slice.result.now c.judge_places.result
    (subst (λ (places : List ℕ). AreCountedPlaces cfg.include_dev g places) (sym c.as_slice.ensures)
    c.in_ok-places.ensures)
    c.judge_places.ensures.packs c.judge_places.ensures.witnesses
