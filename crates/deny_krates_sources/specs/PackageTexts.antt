-- The texts of packages, parsed: their versions, requirements and sources.
use Rattle.std.specs.Prelude.{◌≡◌, List, Option, Some, map, option_map}
use Rattle.std.specs.Option.{option_and_then}
use Rattle.std.specs.Result.{result_ok}
use Rattle.semver.specs.Identifiers.{comparator_view, parts_of}
use Rattle.semver.specs.Parse.{Held, Parts, req_of, version_parts}
use Rattle.semver.specs.declared.VersionReq.{VersionReq}
use Rattle.deny_krates_sources.specs.Source.{source_of}
use Rattle.deny_krates_sources.specs.Versions.{rust_version_of}
use Rattle.deny_krates_metadata.specs.declared.declaration.Declaration.{Declaration}
use Rattle.deny_krates_metadata.specs.declared.package.MetadataPackage.{MetadataPackage}
use Rattle.deny_krates_sources.specs.declared.package_texts.PackageTexts.{PackageTexts}
use Rattle.deny_krates_sources.specs.declared.source.Source.{Source}

abbrev pub parsed_version : MetadataPackage → Option Parts
parsed_version p = result_ok (version_parts p.version)

abbrev pub parsed_rust_version : MetadataPackage → Option Parts
parsed_rust_version p = option_and_then rust_version_of p.rust_version

abbrev pub parsed_requirement : Declaration → Option (List Held)
parsed_requirement d = result_ok (req_of d.req)

abbrev pub parsed_requirements : MetadataPackage → List (Option (List Held))
parsed_requirements p = map parsed_requirement p.dependencies

abbrev pub parsed_source : MetadataPackage → Option Source
parsed_source p = option_and_then source_of p.source

abbrev pub requirement_view : VersionReq → Option (List Held)
requirement_view req = Some (map comparator_view req.comparators.items)

-- the parsed texts are those of the packages
pub record AreTextsOf (packages : List MetadataPackage) (texts : PackageTexts) : Type 0 where
  pub versions : map (λ v. Some (parts_of v.version)) texts.versions ≡ map parsed_version packages
  pub rust_versions : map (λ v. option_map parts_of v.rust_version) texts.versions ≡ map parsed_rust_version packages
  pub requirements : map (map requirement_view) texts.requirements ≡ map parsed_requirements packages
  pub sources : texts.sources ≡ map parsed_source packages
