-- A check that all packages pass holds for each of them.
use Rattle.std.proofs.Common.{◌≡◌, List, [], ◌∷◌, Result, Ok, Err, refl, subst}
use Rattle.std.specs.Prelude.{Contains}
use Rattle.std.specs.Result.{result_ok}
use Rattle.semver.specs.Parse.{Parts, version_parts}
use Rattle.semver.specs.declared.error.Error.{Error}
use Rattle.deny_base_lists.proofs.Members.{Contains-by_cases, no_member}
use Rattle.deny_krates_graph.specs.private.Numbered.{HasVersion}
use Rattle.deny_base_lists.proofs.ReaderLemmas.{bound}
use Rattle.deny_base_lists.proofs.Results.{err_is_no_ok}
use Rattle.deny_krates_sources.specs.Checked.{packages_read, read_or, version_reads}
use Rattle.deny_base_lists.specs.Reader.{each_passes}
use Rattle.deny_krates_metadata.specs.declared.package.MetadataPackage.{MetadataPackage}
use Rattle.deny_krates_metadata.specs.declared.fault.MetadataFault.{MetadataFault}
use Rattle.deny_krates_metadata.specs.declared.fault.MetadataFault.TheVariants.{Version}

each_passed : {A : Type 0} (check : A → Result (Unit {0}) MetadataFault) (xs : List A)
    → each_passes check xs ≡ Ok tt → (x : A) → Contains xs x → check x ≡ Ok tt
unfolding each_passes
each_passed check [] passed x holds = absurd (no_member x holds)
each_passed {A} check (y ∷ ys) passed x holds =
    let first = bound (check y) (λ _. each_passes check ys) tt passed in
    Contains-by_cases y ys x holds (λ same. subst (λ (z : A). check z ≡ Ok tt) same first.1)
    (λ rest. each_passed check ys first.2 x rest)

pub versions_read : (packages : List MetadataPackage) → packages_read packages ≡ Ok tt
    → (p : MetadataPackage) → Contains packages p → HasVersion p
unfolding packages_read version_reads read_or
versions_read packages passed p holds =
    let all = bound (each_passes version_reads packages) _ tt passed in
    let one = each_passed version_reads packages all.1 p holds in
    let first = bound (read_or (Version p.id) (result_ok (version_parts p.version))) _ tt one in
    by_case (version_parts p.version) refl first.1
  where
    by_case : (read : Result Parts Error) → version_parts p.version ≡ read
        → read_or (Version p.id) (result_ok read) ≡ Ok tt → HasVersion p
    by_case (Ok version) reads passes = (version, reads)
    by_case (Err error) reads passes = err_is_no_ok passes
