use Rattle.std.proofs.Common.{◌+◌, ◌++◌, ◌<◌, List, length, map, take, refl, ap, ◌∙◌, arith}
use Rattle.std.proofs.lemmas.List.{length-map}
use Rattle.deny_base.specs.declared.key.Key.{Key}
use Rattle.deny_cfg.specs.PolicyView.{allow_view}
use Rattle.deny_cfg.specs.SpecView.{spec_view}
use Rattle.deny_spec.specs.Bans.{allowed_keys_of}
use Rattle.deny_spec.specs.Match.{matches}
use Rattle.deny_rules_crates.specs.private.Allowed.{allows}
use Rattle.deny_base_lists.proofs.Loops.{flat-step}
use Rattle.deny_rules_crates.proofs.AllowedLemmas.{allowed_are, allows-more, no_entry}
use Rattle.deny_rules_match.proofs.MarkLemmas.{adds_matched, more_marks, places_within}
use Rattle.deny_rules_crates.proofs.allowed.allow_each.Goals as goal

pub loop-entry-init : goal.loop-entry-init
loop-entry-init c = record { reported = refl; marks = c.in_ok-marks.ensures ∙ no_entry c.args.krates.now.crates }

pub mark_each-requires : goal.mark_each-requires
mark_each-requires c =
    let crates = c.args.krates.now.crates in
    let entries = take c.loop-entry.entry-index c.args.entries.now in
    places_within crates c.are_placed.ensures
    (matches (spec_view c.entry-item.result.spec)) c.as_slice-in-loop-entry.result.now (length c.loop-entry.marks)
    (c.as_slice-in-loop-entry.ensures ∙ c.in_ok-places.ensures)
    (ap length c.loop-entry.invariant.marks ∙ length-map crates (allows (map allow_view entries)))

pub loop-entry-preserved : goal.loop-entry-preserved
loop-entry-preserved c =
    let g = c.args.krates.now in
    let entry = c.entry-item.result in
    let i = c.loop-entry.entry-index in
    let entries = c.args.entries.now in
    let test = matches (spec_view entry.spec) in
    let inside : i < length entries = omega arith in
    let allowed = allowed_are g (allow_view entry) c.as_slice.result.now
    (c.as_slice.ensures ∙ c.in_ok-places.ensures) in
    record {
      reported = flat-step (allowed_keys_of g) allow_view entries entry i c.loop-entry.keys c.add_crate_keys.new.keys _
          inside c.entry-item.is
          (c.in_ok-add_crate_keys.ensures ∙ ap
          (λ (keys : List Key). c.loop-entry.keys ++ keys) allowed) c.loop-entry.invariant.reported;
      marks = more_marks g.crates (allows (map allow_view (take i entries)))
          (allows (map allow_view
          (take (i + 1) entries))) test c.loop-entry.marks c.mark_each.new.marks c.loop-entry.invariant.marks
          (adds_matched g.crates c.are_placed.ensures test c.as_slice-in-loop-entry.result.now c.loop-entry.marks
          c.mark_each.new.marks (c.as_slice-in-loop-entry.ensures ∙ c.in_ok-places.ensures) c.mark_each.ensures)
          (allows-more allow_view entries entry i inside c.entry-item.is);
    }
