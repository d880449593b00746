use Rattle.std.proofs.Common.{◌∙◌, arith}
use Rattle.deny_krates_sources.specs.Checked.{manifest_path_reads}
use Rattle.deny_krates_metadata.specs.declared.fault.MetadataFault.TheVariants.{Memory}
use Rattle.deny_base_lists.proofs.ReaderLemmas.{passes_on, stops_here, handed_on, next_passes, no_more_passes}
use Rattle.deny_krates_sources.proofs.checked.check_manifest_paths.Goals as goal

pub returns-in_err-check_manifest_path : goal.returns-in_err-check_manifest_path
returns-in_err-check_manifest_path c =
    let listed = c.listed-item.result in
    let step = next_passes manifest_path_reads c.args.packages.now c.loop-listed.listed-index listed
    (omega (arith, c.loop-listed-test.true)) c.listed-item.is in
    let fault = c.in_err-check_manifest_path.field-0.0 in
    handed_on Memory _ _ _ fault c.from_residual.ensures.1
    (stops_here Memory _ _ _ (manifest_path_reads listed) fault c.loop-listed.invariant step
    c.in_err-check_manifest_path.ensures)

pub loop-listed-preserved : goal.loop-listed-preserved
loop-listed-preserved c =
    let listed = c.listed-item.result in
    let step = next_passes manifest_path_reads c.args.packages.now c.loop-listed.listed-index listed
    (omega (arith, c.loop-listed-test.true)) c.listed-item.is in
    passes_on _ _ _ (manifest_path_reads listed) c.loop-listed.invariant step c.in_ok-check_manifest_path.ensures

pub returns : goal.returns
returns c = c.loop-listed.invariant ∙ no_more_passes manifest_path_reads c.args.packages.now c.loop-listed.listed-index
    (omega (arith, c.loop-listed-test.false))
