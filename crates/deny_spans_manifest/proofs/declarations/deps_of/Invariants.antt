use Rattle.std.proofs.Common.{◌≡◌, ◌++◌, ℕ, Bool, List, drop, map}
use Rattle.std.specs.Prelude.{All, filter_map}
use Rattle.std.specs.List.{enumerate_from}
use Rattle.deny_krates.specs.Crates.{crate_view, dependency_view}
use Rattle.deny_spans_manifest.specs.Agreement.{ReportsAgreement}
use Rattle.deny_spans_manifest.specs.Declarations.{declared_at, declared_in}
use Rattle.deny_spans_manifest.specs.Manifest.{IsOfGraph, dep_view}
use Rattle.deny_spans_manifest.specs.private.Sections.{IsIndexOf}
use Rattle.deny_spans_manifest.proofs.declarations.deps_of.Given as goal
use Rattle.deny_toml.specs.value.Value.{Value}

abbrev pub invariant-loop-index : goal.invariant-loop-index
invariant-loop-index l = record {
  declared : (agrees : List ℕ → List ℕ → Bool) → ReportsAgreement agrees
      → (tree : Value) → IsIndexOf tree l.sections
      → map dep_view l.deps
      ++ filter_map (declared_at agrees l.krates l.place tree)
      (enumerate_from l.index (drop l.index (map dependency_view l.krate.deps)))
      ≡ declared_in agrees l.krates (crate_view l.place l.krate) tree;
  krates : All (IsOfGraph l.krates) l.deps;
}
