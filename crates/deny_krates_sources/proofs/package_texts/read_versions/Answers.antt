use Rattle.std.proofs.Common.{◌∙◌, Result, rules, subst, sym}
use Rattle.semver.specs.Identifiers.{parts_of}
use Rattle.deny_base_lists.specs.Reader.{Fails, IsFault}
use Rattle.deny_krates_metadata.specs.declared.fault.MetadataFault.{MetadataFault}
use Rattle.deny_krates_metadata.specs.declared.fault.MetadataFault.TheVariants.{Memory}
use Rattle.deny_krates_sources.proofs.PackageTextsLemmas.{version_left}
use Rattle.deny_base_lists.proofs.ReaderLemmas.{handed_on}
use Rattle.deny_krates_sources.proofs.package_texts.read_versions.Goals as goal

pub returns-in_err-rust_version-clause-faults : goal.returns-in_err-rust_version-clause-faults
returns-in_err-rust_version-clause-faults c =
    let listed = c.args.listed.now in
    let fault = c.in_err-rust_version.field-0.0 in
    let left = version_left listed (parts_of c.in-Some.version) (search rules) in
    handed_on Memory _ _ _ fault c.from_residual-in_err-rust_version.ensures.1
    (subst (λ (check : Result (Unit {0}) MetadataFault). Fails Memory (IsFault check) fault) (sym left)
    c.in_err-rust_version.ensures.faults)

pub returns-clause-faults : goal.returns-clause-faults
returns-clause-faults c =
    version_left c.args.listed.now (parts_of c.in-Some.version) (search rules)
    ∙ c.in_ok-rust_version.ensures.faults
