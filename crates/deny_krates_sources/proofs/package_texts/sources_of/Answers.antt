use Rattle.std.proofs.Common.{◌∙◌, arith}
use Rattle.deny_krates_sources.specs.Checked.{source_reads}
use Rattle.deny_krates_sources.specs.PackageTexts.{parsed_source}
use Rattle.deny_krates_sources.proofs.PackageTextsLemmas.{read_pushed}
use Rattle.deny_krates_metadata.specs.declared.fault.MetadataFault.TheVariants.{Memory}
use Rattle.deny_base_lists.proofs.ReaderLemmas.{handed_on, next_passes, no_more_passes, passes_on, stops_here}
use Rattle.deny_krates_sources.proofs.package_texts.sources_of.Goals as goal

pub returns-in_err-read_source-clause-faults : goal.returns-in_err-read_source-clause-faults
returns-in_err-read_source-clause-faults c =
    let listed = c.listed-item.result in
    let step = next_passes source_reads c.args.packages.now c.loop-listed.listed-index listed
    (omega (arith, c.loop-listed-test.true)) c.listed-item.is in
    let fault = c.in_err-read_source.field-0.0 in
    handed_on Memory _ _ _ fault c.from_residual.ensures.1
    (stops_here Memory _ _ _ (source_reads listed) fault c.loop-listed.invariant.passes step
    c.in_err-read_source.ensures.faults)

pub loop-listed-preserved : goal.loop-listed-preserved
loop-listed-preserved c =
    let listed = c.listed-item.result in
    let i = c.loop-listed.listed-index in
    let step = next_passes source_reads c.args.packages.now i listed (omega (arith, c.loop-listed-test.true))
    c.listed-item.is in
    record {
      passes = passes_on _ _ _ (source_reads listed) c.loop-listed.invariant.passes step
          c.in_ok-read_source.ensures.faults;
      read = read_pushed parsed_source _ c.loop-listed.read _ c.args.packages.now i listed c.loop-listed-test.true
          c.listed-item.is c.in_ok-push.ensures.ok c.loop-listed.invariant.read c.in_ok-read_source.ensures.read;
    }

pub returns-clause-faults : goal.returns-clause-faults
returns-clause-faults c =
    c.loop-listed.invariant.passes
    ∙ no_more_passes source_reads c.args.packages.now c.loop-listed.listed-index
    (omega (arith, c.loop-listed-test.false))
