-- The context of the build check as definitions take it.
use Rattle.std.specs.Prelude.{ℕ, ◌++◌, List, Option, None, Some, option_to_list, replicate, slice_get}
use Rattle.deny_cfg_build.specs.BuildingView.{building_view}
use Rattle.deny_build_bypass.specs.Marks.{reached_by}
use Rattle.deny_spec.specs.Graph.{Graph}
use Rattle.deny_spec.specs.Unseen.{unseen_package}
use Rattle.deny_spec.specs.declared.package.Package.{Package}
use Rattle.deny_spec_report.specs.Packages.{Scanning}
use Rattle.deny_build.specs.declared.ctx.BuildCtx.{BuildCtx}

-- the graph with the crates that are judged: all of them, or the one at a place
abbrev pub graph_judged : Option ℕ → Graph → Graph
graph_judged None g = g
graph_judged (Some place) g = record g { crates = option_to_list (slice_get g.crates place) }

-- the packages by their places, where those of all crates are given, or those from a place on
abbrev pub packages_judged : Option ℕ → List Package → List Package
packages_judged None packages = packages
packages_judged (Some place) packages = replicate place unseen_package ++ packages

abbrev pub scanning_of : BuildCtx → Scanning
scanning_of ctx = record {
  building = building_view ctx.config.now;
  graph = graph_judged ctx.alone ctx.krates.now;
  packages = packages_judged ctx.alone ctx.packages.now;
  reached = reached_by ctx.marks.now;
}
