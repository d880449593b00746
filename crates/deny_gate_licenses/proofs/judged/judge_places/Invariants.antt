use Rattle.std.proofs.Common.{◌≡◌, take}
use Rattle.std.specs.List.{flat_map}
use Rattle.deny_base_lists.specs.First.{FindsFirst}
use Rattle.deny_cfg.specs.LicensingView.{licensing_view}
use Rattle.deny_gate_licenses.specs.private.JudgedCrates.{packs_at, witnessed_at}
use Rattle.deny_gate_licenses.specs.private.Witnesses.{place_in, same_granter}
use Rattle.deny_gate_licenses.proofs.judged.judge_places.Given as goal

abbrev pub invariant-loop-place : goal.invariant-loop-place
invariant-loop-place l =
    record {
      packs : l.judged.packs ≡ flat_map (packs_at (licensing_view l.granting.cfg.now) l.krates)
          (take l.place-index l.places);
      witnesses : FindsFirst same_granter (flat_map (witnessed_at (licensing_view l.granting.cfg.now) l.krates)
          (take l.place-index l.places)) (place_in l.judged.witnesses);
    }
