-- The keys of build scripts and packages, by marks of the crates that lead to something that is executed at build
-- time.
use Rattle.std.specs.Prelude.{Bool, List, [], Option, Contains}
use Rattle.std.specs.Option.{option_map_or}
use Rattle.deny_base.specs.declared.entry.Hit.{Hit}
use Rattle.deny_base.specs.declared.key.Key.{Key}
use Rattle.deny_spec.specs.Building.{Building}
use Rattle.deny_spec.specs.declared.package.Package.{Package}
use Rattle.deny_build_bypass.specs.Marks.{reached_by}
use Rattle.deny_spec_report.specs.Facts.{Facts}
use Rattle.deny_spec_report.specs.Packages.{Scanning, build_keys, bypass_hits}
use Rattle.deny_rules_match.specs.Marks.{facts_of}
use Rattle.deny_rules_match.specs.declared.facts.Marks.{Marks}
use Rattle.deny_spec.specs.Graph.{Graph}

-- the facts of chains, and of the crates that lead to something that is executed
abbrev pub facts_by : Marks → List Bool → Facts
facts_by marks reached = record { chains = facts_of marks; reached = reached_by reached }

abbrev pub scanning_by : Graph → List Bool → List Package → Building → Scanning
scanning_by g reached packages b = record {
  building = b;
  graph = g;
  packages = packages;
  reached = reached_by reached;
}

-- the keys of packages, by the build configuration of a policy
abbrev pub IsOfPackages : Option Building → Graph → List Bool → List Package → Key → Type 0
IsOfPackages building g reached packages key =
    Contains (option_map_or (λ b. build_keys (scanning_by g reached packages b)) building []) key

abbrev pub bypass_hits_by : Option Building → Graph → List Bool → List Package → List Hit
bypass_hits_by building g reached packages =
    option_map_or (λ b. bypass_hits (scanning_by g reached packages b)) building []
