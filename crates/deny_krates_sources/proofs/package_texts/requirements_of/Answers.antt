use Rattle.std.proofs.Common.{◌∙◌, arith, List, ap, map}
use Rattle.deny_krates_sources.specs.Checked.{requirements_read}
use Rattle.deny_krates_sources.specs.PackageTexts.{parsed_requirement, requirement_view, parsed_requirements}
use Rattle.deny_krates_metadata.specs.declared.declaration.Declaration.{Declaration}
use Rattle.deny_krates_sources.proofs.PackageTextsLemmas.{read_more, requirements_fail, requirements_pass}
use Rattle.deny_krates_metadata.specs.declared.fault.MetadataFault.TheVariants.{Memory}
use Rattle.deny_base_lists.proofs.ReaderLemmas.{handed_on, next_passes, no_more_passes, passes_on, stops_here}
use Rattle.deny_krates_sources.proofs.package_texts.requirements_of.Goals as goal

pub returns-in_err-read_requirements-clause-faults : goal.returns-in_err-read_requirements-clause-faults
returns-in_err-read_requirements-clause-faults c =
    let listed = c.listed-item.result in
    let step = next_passes requirements_read c.args.packages.now c.loop-listed.listed-index listed
    (omega (arith, c.loop-listed-test.true)) c.listed-item.is in
    let fault = c.in_err-read_requirements.field-0.0 in
    handed_on Memory _ _ _ fault c.from_residual.ensures.1
    (stops_here Memory _ _ _ (requirements_read listed) fault c.loop-listed.invariant.passes step
    (requirements_fail listed _ fault c.as_slice.ensures c.in_err-read_requirements.ensures.faults))

pub loop-listed-preserved : goal.loop-listed-preserved
loop-listed-preserved c =
    let listed = c.listed-item.result in
    let i = c.loop-listed.listed-index in
    let step = next_passes requirements_read c.args.packages.now i listed (omega (arith, c.loop-listed-test.true))
    c.listed-item.is in
    record {
      passes = passes_on _ _ _ (requirements_read listed) c.loop-listed.invariant.passes step
          (requirements_pass listed _ c.as_slice.ensures c.in_ok-read_requirements.ensures.faults);
      read = read_more (map requirement_view) parsed_requirements c.loop-listed.read _
          c.in_ok-read_requirements.field-0 c.args.packages.now i listed c.loop-listed-test.true c.listed-item.is
          c.in_ok-push.ensures.ok c.loop-listed.invariant.read
          (c.in_ok-read_requirements.ensures.read ∙ ap (λ (ds : List Declaration). map parsed_requirement ds)
          c.as_slice.ensures);
    }

pub returns-clause-faults : goal.returns-clause-faults
returns-clause-faults c =
    c.loop-listed.invariant.passes
    ∙ no_more_passes requirements_read c.args.packages.now c.loop-listed.listed-index
    (omega (arith, c.loop-listed-test.false))
