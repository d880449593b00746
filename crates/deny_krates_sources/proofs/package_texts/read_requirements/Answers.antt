use Rattle.std.proofs.Common.{◌∙◌, arith}
use Rattle.deny_krates_sources.specs.Checked.{requirement_reads}
use Rattle.deny_krates_sources.specs.PackageTexts.{parsed_requirement, requirement_view}
use Rattle.deny_krates_sources.proofs.PackageTextsLemmas.{read_more}
use Rattle.deny_krates_metadata.specs.declared.fault.MetadataFault.TheVariants.{Memory}
use Rattle.deny_base_lists.proofs.ReaderLemmas.{handed_on, next_passes, no_more_passes, passes_on, stops_here}
use Rattle.deny_krates_sources.proofs.package_texts.read_requirements.Goals as goal

pub returns-in_err-read_requirement-clause-faults : goal.returns-in_err-read_requirement-clause-faults
returns-in_err-read_requirement-clause-faults c =
    let declaration = c.declaration-item.result in
    let step = next_passes (requirement_reads c.args.id.now) c.args.declarations.now
    c.loop-declaration.declaration-index declaration
    (omega (arith, c.loop-declaration-test.true)) c.declaration-item.is in
    let fault = c.in_err-read_requirement.field-0.0 in
    handed_on Memory _ _ _ fault c.from_residual.ensures.1
    (stops_here Memory _ _ _ (requirement_reads c.args.id.now declaration) fault c.loop-declaration.invariant.passes
    step c.in_err-read_requirement.ensures.faults)

pub loop-declaration-preserved : goal.loop-declaration-preserved
loop-declaration-preserved c =
    let declaration = c.declaration-item.result in
    let i = c.loop-declaration.declaration-index in
    let step = next_passes (requirement_reads c.args.id.now) c.args.declarations.now i declaration
    (omega (arith, c.loop-declaration-test.true))
    c.declaration-item.is in
    record {
      passes = passes_on _ _ _ (requirement_reads c.args.id.now declaration) c.loop-declaration.invariant.passes step
          c.in_ok-read_requirement.ensures.faults;
      read = read_more requirement_view parsed_requirement c.loop-declaration.read _
          c.in_ok-read_requirement.field-0 c.args.declarations.now i declaration c.loop-declaration-test.true
          c.declaration-item.is
          c.in_ok-push.ensures.ok c.loop-declaration.invariant.read c.in_ok-read_requirement.ensures.read;
    }

pub returns-clause-faults : goal.returns-clause-faults
returns-clause-faults c =
    c.loop-declaration.invariant.passes
    ∙ no_more_passes (requirement_reads c.args.id.now) c.args.declarations.now c.loop-declaration.declaration-index
    (omega (arith, c.loop-declaration-test.false))
