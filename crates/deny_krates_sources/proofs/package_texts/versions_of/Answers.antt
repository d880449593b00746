use Rattle.std.proofs.Common.{◌∙◌, arith, Some}
use Rattle.std.specs.Prelude.{option_map}
use Rattle.semver.specs.Identifiers.{parts_of}
use Rattle.deny_krates_sources.specs.Checked.{version_reads}
use Rattle.deny_krates_sources.specs.PackageTexts.{parsed_rust_version, parsed_version}
use Rattle.deny_krates_sources.specs.declared.package_texts.PackageVersions.{PackageVersions}
use Rattle.deny_krates_sources.proofs.PackageTextsLemmas.{read_more}
use Rattle.deny_krates_metadata.specs.declared.fault.MetadataFault.TheVariants.{Memory}
use Rattle.deny_base_lists.proofs.ReaderLemmas.{handed_on, next_passes, no_more_passes, passes_on, stops_here}
use Rattle.deny_krates_sources.proofs.package_texts.versions_of.Goals as goal

pub returns-in_err-read_versions-clause-faults : goal.returns-in_err-read_versions-clause-faults
returns-in_err-read_versions-clause-faults c =
    let listed = c.listed-item.result in
    let step = next_passes version_reads c.args.packages.now c.loop-listed.listed-index listed
    (omega (arith, c.loop-listed-test.true)) c.listed-item.is in
    let fault = c.in_err-read_versions.field-0.0 in
    handed_on Memory _ _ _ fault c.from_residual.ensures.1
    (stops_here Memory _ _ _ (version_reads listed) fault c.loop-listed.invariant.passes step
    c.in_err-read_versions.ensures.faults)

pub loop-listed-preserved : goal.loop-listed-preserved
loop-listed-preserved c =
    let listed = c.listed-item.result in
    let i = c.loop-listed.listed-index in
    let step = next_passes version_reads c.args.packages.now i listed (omega (arith, c.loop-listed-test.true))
    c.listed-item.is in
    record {
      passes = passes_on _ _ _ (version_reads listed) c.loop-listed.invariant.passes step
          c.in_ok-read_versions.ensures.faults;
      versions = read_more (λ (p : PackageVersions). Some (parts_of p.version)) parsed_version c.loop-listed.read _
          c.in_ok-read_versions.field-0 c.args.packages.now i listed c.loop-listed-test.true c.listed-item.is
          c.in_ok-push.ensures.ok c.loop-listed.invariant.versions c.in_ok-read_versions.ensures.version;
      rust_versions = read_more (λ (p : PackageVersions). option_map parts_of p.rust_version) parsed_rust_version
          c.loop-listed.read _
          c.in_ok-read_versions.field-0 c.args.packages.now i listed c.loop-listed-test.true c.listed-item.is
          c.in_ok-push.ensures.ok c.loop-listed.invariant.rust_versions c.in_ok-read_versions.ensures.rust_version;
    }

pub returns-clause-faults : goal.returns-clause-faults
returns-clause-faults c =
    c.loop-listed.invariant.passes
    ∙ no_more_passes version_reads c.args.packages.now c.loop-listed.listed-index
    (omega (arith, c.loop-listed-test.false))
