use Rattle.std.proofs.Common.{◌∙◌, ◌++◌, List, ap, append_assoc}
use Rattle.std.specs.List.{flat_map}
use Rattle.std.proofs.lemmas.Result.{on_ok_weaker}
use Rattle.deny_base.specs.declared.key.Key.{Key}
use Rattle.deny_spec_report.specs.Packages.{build_keys, package_keys, unmatched_bypass_keys}
use Rattle.deny_base_lists.proofs.Adding.{adds_list}
use Rattle.deny_build.specs.ScanningOf.{scanning_of}
use Rattle.deny_build.proofs.build_keys.add_keys_of_scanned.Goals as goal

pub returns : goal.returns
returns c =
    let l = scanning_of c.args.ctx.now in
    let old = c.args.keys.now in
    on_ok_weaker c.add_unmatched_bypass_keys.result
    (λ last. adds_list old c.add_unmatched_bypass_keys.new.keys (build_keys l)
    (last ∙ (ap (λ (keys : List Key). keys ++ unmatched_bypass_keys l) c.in_ok-add_keys_of_each.ensures
    ∙ append_assoc old (flat_map (package_keys l) l.graph.crates) (unmatched_bypass_keys l))))
    c.add_unmatched_bypass_keys.ensures
