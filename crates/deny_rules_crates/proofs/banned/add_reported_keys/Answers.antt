use Rattle.std.proofs.Common.{◌<◌, get_or, length, arith}
use Rattle.std.proofs.lemmas.List.{get_or_default}
use Rattle.deny_rules_crates.specs.private.Banned.{reported_keys_at}
use Rattle.deny_base_lists.proofs.Adding.{adds_each_more}
use Rattle.deny_rules_crates.proofs.banned.add_reported_keys.Goals as goal

pub loop-place-preserved : goal.loop-place-preserved
loop-place-preserved c =
    let places = c.args.places.now in
    let i = c.loop-place.place-index in
    let inside : i < length places = omega arith in
    adds_each_more (reported_keys_at c.args.krates.now c.args.spans.now c.args.entry) places
    (get_or places i 0) i c.args.keys.now c.loop-place.keys c.add_reported_keys_at.new.keys inside
    (get_or_default places i 0 (get_or places i 0) inside)
    c.loop-place.invariant c.in_ok-add_reported_keys_at.ensures
