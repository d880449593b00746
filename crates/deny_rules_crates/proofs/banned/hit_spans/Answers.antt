use Rattle.std.proofs.Common.{◌<◌, [], Contains, get_or, length, arith}
use Rattle.std.specs.List.{flat_map}
use Rattle.std.proofs.lemmas.List.{get_or_default}
use Rattle.deny_base.specs.KeyOrder.{span_cmp}
use Rattle.deny_rules_crates.specs.private.Banned.{hits_at}
use Rattle.deny_base_lists.proofs.Adding.{adds_each_all, adds_each_more, lists_added}
use Rattle.deny_rules_crates.proofs.banned.hit_spans.Goals as goal

pub loop-place-preserved : goal.loop-place-preserved
loop-place-preserved c =
    let places = c.args.places.now in
    let i = c.loop-place.place-index in
    let inside : i < length places = omega arith in
    adds_each_more (hits_at c.args.krates.now c.args.spans.now) places
    (get_or places i 0) i [] c.loop-place.hits c.add_hits_at.new.hits inside
    (get_or_default places i 0 (get_or places i 0) inside)
    c.loop-place.invariant c.in_ok-add_hits_at.ensures

pub returns : goal.returns
returns c =
    let places = c.args.places.now in
    let hits = hits_at c.args.krates.now c.args.spans.now in
    lists_added span_cmp (Contains (flat_map hits places)) c.loop-place.hits c.put_in_order.new.list
    (adds_each_all hits places c.loop-place.place-index [] c.loop-place.hits
    (omega arith) c.loop-place.invariant) c.in_ok-put_in_order.ensures.ok
