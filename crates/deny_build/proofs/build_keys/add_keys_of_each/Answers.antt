use Rattle.std.proofs.Common.{◌∙◌, ◌++◌, List, ap, map, refl, subst, sym}
use Rattle.std.specs.List.{flat_map}
use Rattle.deny_base.specs.declared.key.Key.{Key}
use Rattle.deny_spec_report.specs.Packages.{Scanning, package_keys}
use Rattle.deny_base_lists.proofs.Loops.{pushed_all}
use Rattle.deny_build.specs.ScanningOf.{scanning_of}
use Rattle.deny_build.specs.declared.scanned_krate.ScannedKrate.{ScannedKrate}
use Rattle.deny_build.specs.private.Globs.{IsSetOf, script_texts}
use Rattle.deny_build.specs.private.ScannedKrates.{at_each, scanned_view}
use Rattle.deny_build.proofs.ScanLemmas.{flat_of_each, scanned_as}
use Rattle.deny_build.proofs.build_keys.add_keys_of_each.Goals as goal

pub add_package_keys-requires : goal.add_package_keys-requires
add_package_keys-requires c =
    subst (λ (l : Scanning). IsSetOf (script_texts l.building) c.in_ok-scripts.scripts)
    (sym (scanned_as (scanning_of c.args.ctx.now) c.args.all.now c.requires c.loop-at.at-index c.at-item.result
    c.loop-at-test.true
    c.at-item.is)) c.in_ok-scripts.ensures

pub returns : goal.returns
returns c =
    let l = scanning_of c.args.ctx.now in
    let all = c.args.all.now in
    pushed_all (λ (ats : List ScannedKrate). flat_map (at_each package_keys)
    (map scanned_view ats)) all c.loop-at.at-index
    c.loop-at.keys
    (c.args.keys.now ++ flat_map (at_each package_keys) (map scanned_view all)) refl c.loop-at-test.false
    c.loop-at.invariant
    ∙ ap (λ (keys : List Key). c.args.keys.now ++ keys) (flat_of_each l all c.requires (at_each package_keys))
