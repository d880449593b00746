use Rattle.std.proofs.Common.{◌≡◌, List, filter, length, map, arith, ap, sym, ◌∙◌}
use Rattle.std.proofs.lemmas.List.{take_all}
use Rattle.deny_cfg.specs.PolicyView.{replacing_view}
use Rattle.deny_spec_report.specs.Saying.{said_in}
use Rattle.deny_spec_report.specs.StdReplacements.{is_replaced}
use Rattle.deny_krates.proofs.CratesLemmas.{length-crates_from}
use Rattle.deny_spec.specs.Graph.{Crate}
use Rattle.deny_std.proofs.PlaceLemmas.{places-more}
use Rattle.deny_std.proofs.replaced.replaced_places.Goals as goal

pub add_replaced-requires : goal.add_replaced-requires
add_replaced-requires c =
    let g = c.args.scoped.now.krates.now in
    let long : length c.krates.result.now ≡ length g.crates =
    sym (length-crates_from 0 c.krates.result.now) ∙ ap length c.krates.ensures.crates in
    omega (arith, long, c.loop-place-test.true)

pub loop-place-preserved : goal.loop-place-preserved
loop-place-preserved c =
    let scoped = c.args.scoped.now in
    let g = scoped.krates.now in
    let long : length c.krates.result.now ≡ length g.crates =
    sym (length-crates_from 0 c.krates.result.now) ∙ ap length c.krates.ensures.crates in
    places-more (is_replaced (replacing_view scoped.cfg.now) g (said_in c.args.table.now)) g.crates c.loop-place.place
    c.loop-place.places c.add_replaced.new.places c.are_placed.ensures (omega (arith, long, c.loop-place-test.true))
    c.loop-place.invariant c.in_ok-add_replaced.ensures

pub returns : goal.returns
returns c =
    let scoped = c.args.scoped.now in
    let g = scoped.krates.now in
    let long : length c.krates.result.now ≡ length g.crates =
    sym (length-crates_from 0 c.krates.result.now) ∙ ap length c.krates.ensures.crates in
    c.loop-place.invariant
    ∙ ap (λ (crates : List Crate). map (λ (d : Crate). d.place)
    (filter (is_replaced (replacing_view scoped.cfg.now) g (said_in c.args.table.now)) crates))
    (take_all c.loop-place.place g.crates (omega (arith, long, c.loop-place-test.false)))
