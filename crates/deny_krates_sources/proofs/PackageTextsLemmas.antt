-- Steps of the loops that parse the texts of packages.
use Rattle.std.proofs.Common.{◌≡◌, ◌<◌, ◌+◌, ◌++◌, ◌∷◌, ℕ, List, [], Some, Ok, length, map, refl}
use Rattle.std.proofs.Common.{add-one, subst, take}
use Rattle.std.specs.Prelude.{slice_index_or}
use Rattle.std.proofs.Math.Seq.{take-suc}
use Rattle.std.proofs.lemmas.List.{map_push}
use Rattle.semver.specs.Parse.{Parts}
use Rattle.deny_krates_sources.specs.Checked.{optional_reads, read_or, requirement_reads, requirements_read}
use Rattle.deny_krates_sources.specs.Checked.{version_reads}
use Rattle.deny_krates_sources.specs.PackageTexts.{parsed_version}
use Rattle.deny_krates_sources.specs.Versions.{rust_version_of}
use Rattle.deny_base_lists.specs.Reader.{Fails, IsFault, each_passes}
use Rattle.deny_krates_metadata.specs.declared.declaration.Declaration.{Declaration}
use Rattle.deny_krates_metadata.specs.declared.package.MetadataPackage.{MetadataPackage}
use Rattle.deny_krates_metadata.specs.declared.fault.MetadataFault.{MetadataFault}
use Rattle.deny_krates_metadata.specs.declared.fault.MetadataFault.TheVariants.{Memory, Version}

-- one item more is parsed
pub read_more : {A B C : Type 0} (view : B → C) (parsed : A → C) (read new : List B) (y : B) (xs : List A) (i : ℕ)
    (x : A)
    → i < length xs → x ≡ slice_index_or xs i x → new ≡ read ++ y ∷ [] → map view read ≡ map parsed (take i xs)
    → view y ≡ parsed x → map view new ≡ map parsed (take (i + 1) xs)
read_more view parsed read new y xs i x inside is pushed so_far same =
    rw (
      pushed,
      add-one,
      take-suc xs i x inside,
      ← is,
      map_push view read y,
      map_push parsed (take i xs) x,
      so_far,
      same,
    )
    refl

-- one item more is parsed, and is compared as it is
pub read_pushed : {A C : Type 0} (parsed : A → C) (new read : List C) (y : C) (xs : List A) (i : ℕ) (x : A)
    → i < length xs → x ≡ slice_index_or xs i x → new ≡ read ++ y ∷ [] → read ≡ map parsed (take i xs) → y ≡ parsed x
    → new ≡ map parsed (take (i + 1) xs)
read_pushed parsed new read y xs i x inside is pushed so_far same =
    rw (pushed, add-one, take-suc xs i x inside, ← is, map_push parsed (take i xs) x, so_far, same) refl

-- where the version of a package parses, the fault of its versions is that of its version of Rust
pub version_left : (p : MetadataPackage) (parts : Parts) → Some parts ≡ parsed_version p
    → version_reads p ≡ optional_reads (Version p.id) rust_version_of p.rust_version
unfolding version_reads read_or
version_left p parts reads = rw (← reads) refl

-- the requirements of a package parse where those of its declarations do
pub requirements_pass : (p : MetadataPackage) (declarations : List Declaration) → declarations ≡ p.dependencies
    → each_passes (requirement_reads p.id) declarations ≡ Ok tt → requirements_read p ≡ Ok tt
unfolding requirements_read
requirements_pass p declarations same passes =
    subst (λ (ds : List Declaration). each_passes (requirement_reads p.id) ds ≡ Ok tt) same passes

pub requirements_fail : (p : MetadataPackage) (declarations : List Declaration) (e : MetadataFault)
    → declarations ≡ p.dependencies → Fails Memory (IsFault (each_passes (requirement_reads p.id) declarations)) e
    → Fails Memory (IsFault (requirements_read p)) e
unfolding requirements_read
requirements_fail p declarations e same fails =
    subst (λ (ds : List Declaration). Fails Memory (IsFault (each_passes (requirement_reads p.id) ds)) e)
    same fails
