use Rattle.std.proofs.Common.{◌≡◌, Some, drop, map, take}
use Rattle.std.specs.Prelude.{option_map}
use Rattle.semver.specs.Identifiers.{parts_of}
use Rattle.deny_krates_sources.specs.Checked.{version_reads}
use Rattle.deny_krates_sources.specs.PackageTexts.{parsed_rust_version, parsed_version}
use Rattle.deny_base_lists.specs.Reader.{each_passes}
use Rattle.deny_krates_sources.proofs.package_texts.versions_of.Given as goal

abbrev pub invariant-loop-listed : goal.invariant-loop-listed
invariant-loop-listed l = record {
  passes : each_passes version_reads l.packages ≡ each_passes version_reads (drop l.listed-index l.packages);
  versions : map (λ v. Some (parts_of v.version)) l.read ≡ map parsed_version (take l.listed-index l.packages);
  rust_versions : map (λ v. option_map parts_of v.rust_version) l.read
      ≡ map parsed_rust_version (take l.listed-index l.packages);
}
