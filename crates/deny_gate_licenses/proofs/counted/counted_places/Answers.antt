use Rattle.std.proofs.Common.{◌≡◌, Bool, List, length, ap, ◌∙◌}
use Rattle.std.specs.List.{flat_map, range_with_len}
use Rattle.std.proofs.lemmas.Result.{IfOk-weaker}
use Rattle.deny_gate_licenses.specs.private.Counted.{AreCountedPlaces, place_if}
use Rattle.deny_gate_licenses.proofs.JudgedLemmas.{places-are}
use Rattle.deny_gate_licenses.proofs.counted.counted_places.Goals as goal

pub returns : goal.returns
returns c =
    let g = c.args.krates.now in
    let marks = c.in_ok-marks.marks.items in
    IfOk-weaker c.places_of.result
    (λ places. places ≡ flat_map (place_if c.as_slice.result.now) (range_with_len 0 (length g.crates)))
    (AreCountedPlaces c.args.include_dev g)
    (λ places are. record {
      marks = marks;
      counted = c.in_ok-marks.ensures;
      are = are
          ∙ (ap (λ (ms : List Bool). flat_map (place_if ms) (range_with_len 0 (length g.crates)))
          c.as_slice.ensures.value
          ∙ places-are marks g.crates c.are_placed.ensures);
    }) c.places_of.ensures
