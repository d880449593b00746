use Rattle.std.proofs.Common.{ap, map, ◌++◌}
use Rattle.std.specs.Prelude.{filter_map}
use Rattle.std.specs.List.{enumerate_from}
use Rattle.deny_krates.specs.Crates.{crate_view, dependency_view}
use Rattle.deny_spans_manifest.proofs.DeclarationLemmas.{all_of_none, all_with, declaration_numbered, gathered}
use Rattle.deny_spans_manifest.proofs.DeclarationLemmas.{own_item}
use Rattle.deny_spans_manifest.specs.Declarations.{declared_at, declared_in}
use Rattle.deny_spans_manifest.specs.Manifest.{IsOfGraph, dep_view}
use Rattle.deny_spans_manifest.proofs.declarations.deps_of.Goals as goal

pub loop-index-init : goal.loop-index-init
unfolding declared_in
loop-index-init c = record {
  declared = λ agrees reports tree index. ap (λ ms. map dep_view ms
      ++ filter_map (declared_at agrees c.args.krates.now c.args.place tree)
      (enumerate_from 0 (map dependency_view c.args.krate.now.deps))) c.new-deps.ensures;
  krates = all_of_none (IsOfGraph c.args.krates.now) c.new-deps.result c.new-deps.ensures;
}

pub dep_at-requires : goal.dep_at-requires
dep_at-requires c = record {
  numbered = declaration_numbered c.args.krates.now c.args.place c.loop-index.index c.args.krate.now
      c.as_slice-dep-items.result.now c.dep-item.result c.requires.at_place c.as_slice-dep-items.ensures
      c.loop-index-test.true c.dep-item.is;
}

pub loop-index-preserved : goal.loop-index-preserved
loop-index-preserved c = record {
  declared = λ agrees reports tree index. gathered (declared_at agrees c.args.krates.now c.args.place tree) dep_view
      (map dependency_view c.args.krate.now.deps) c.loop-index.index (dependency_view c.dep-item.result)
      c.loop-index.deps c.push_found.new.deps c.in_ok-found.found
      (declared_in agrees c.args.krates.now (crate_view c.args.place c.args.krate.now) tree)
      (own_item c.args.krate.now c.as_slice-dep-items.result.now c.loop-index.index c.dep-item.result
      c.as_slice-dep-items.ensures c.loop-index-test.true c.dep-item.is)
      (c.in_ok-found.ensures.declared agrees reports tree index) c.in_ok-push_found.ensures
      (c.loop-index.invariant.declared agrees reports tree index);
  krates = all_with (IsOfGraph c.args.krates.now) c.loop-index.deps c.push_found.new.deps c.in_ok-found.found
      c.loop-index.invariant.krates c.in_ok-found.ensures.krates c.in_ok-push_found.ensures;
}
