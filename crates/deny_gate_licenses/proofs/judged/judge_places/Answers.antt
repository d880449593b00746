use Rattle.std.proofs.Common.{◌++◌, ℕ, List, arith, get_or, refl, subst, take}
use Rattle.std.specs.List.{flat_map}
use Rattle.deny_base_lists.specs.First.{FindsFirst}
use Rattle.deny_cfg.specs.LicensingView.{licensing_view}
use Rattle.deny_gate_licenses.specs.declared.granter.Granter.{Granter}
use Rattle.deny_gate_licenses.specs.private.JudgedCrates.{packs_at, witnessed_at}
use Rattle.deny_gate_licenses.specs.private.Witnesses.{place_in, same_granter}
use Rattle.deny_gate_licenses.proofs.MapLemmas.{flat-more-at}
use Rattle.deny_gate_licenses.proofs.judged.judge_places.Goals as goal

pub loop-place-preserved : goal.loop-place-preserved
loop-place-preserved c =
    let l = licensing_view c.args.granting.now.cfg.now in
    let g = c.args.krates.now in
    let places = c.args.places.now in
    let i = c.loop-place.place-index in
    let before = flat_map (witnessed_at l g) (take i places) in
    record {
      packs = flat-more-at (packs_at l g) places i 0 c.loop-place.judged.packs c.add_at.new.self.packs
          (omega (arith, c.loop-place-test.true)) c.loop-place.invariant.packs c.in_ok-add_at.ensures.packs;
      witnesses = subst (λ (ws : List (Granter × ℕ)). FindsFirst same_granter ws (place_in c.add_at.new.self.witnesses))
          (flat-more-at (witnessed_at l g) places i 0 before (before ++ witnessed_at l g (get_or places i 0))
          (omega (arith, c.loop-place-test.true)) refl refl)
          (c.in_ok-add_at.ensures.witnesses before c.loop-place.invariant.witnesses);
    }
