use Rattle.std.proofs.Common.{◌≡◌, ◌<◌, ◌∙◌, ℕ, List, [], length, sym, subst, arith}
use Rattle.std.specs.List.{AllZip}
use Rattle.deny_base_lists.proofs.Indices.{slice_get-read}
use Rattle.deny_krates_graph.specs.private.Graph.{IsKrateAs, IsKrateOf, features_at, listed}
use Rattle.deny_krates_metadata.specs.declared.package.MetadataPackage.{MetadataPackage}
use Rattle.deny_krates_graph.specs.declared.graph.KeptPackage.{KeptPackage}
use Rattle.deny_krates_graph.specs.declared.krate.Krate.{Krate}
use Rattle.deny_krates_graph.proofs.GraphLemmas.{features_are, listed_is, zip_more}
use Rattle.deny_krates_graph.proofs.TakenLemmas.{all_left, left_after, taken_reads, texts_long}
use Rattle.deny_krates_graph.proofs.crates.krates_of.Goals as goal

pub loop-each-init : goal.loop-each-init
loop-each-init c = record {
  made = subst (λ (ks : List Krate). AllZip (IsKrateOf c.args.packages.now c.args.nodes.now) [] ks)
      (sym c.new-krates.ensures) tt;
  packages = all_left c.args.packages.now c.args.kept.now;
  versions = all_left c.args.texts.now.versions c.args.kept.now;
  requirements = all_left c.args.texts.now.requirements c.args.kept.now;
  sources = all_left c.args.texts.now.sources c.args.kept.now;
}

pub take_read-read-requires-clause-packages : goal.take_read-read-requires-clause-packages
take_read-read-requires-clause-packages c =
    let i = c.loop-each.each-index in
    let k = c.each-item.result in
    subst (λ (n : ℕ). k.owner < n) (sym c.loop-each.invariant.packages.long)
    (subst (λ (x : KeptPackage). x.owner < length c.args.packages.now) (sym c.each-item.is)
    (c.requires.packages i k c.loop-each-test.true))

pub take_read-read-requires-clause-versions : goal.take_read-read-requires-clause-versions
take_read-read-requires-clause-versions c =
    let i = c.loop-each.each-index in
    let k = c.each-item.result in
    subst (λ (n : ℕ). k.owner < n) (sym (c.loop-each.invariant.versions.long
    ∙ (texts_long c.args.packages.now c.args.texts.now c.requires.texts).versions))
    (subst (λ (x : KeptPackage). x.owner < length c.args.packages.now) (sym c.each-item.is)
    (c.requires.packages i k c.loop-each-test.true))

pub take_read-read-requires-clause-requirements : goal.take_read-read-requires-clause-requirements
take_read-read-requires-clause-requirements c =
    let i = c.loop-each.each-index in
    let k = c.each-item.result in
    subst (λ (n : ℕ). k.owner < n) (sym (c.loop-each.invariant.requirements.long
    ∙ (texts_long c.args.packages.now c.args.texts.now c.requires.texts).requirements))
    (subst (λ (x : KeptPackage). x.owner < length c.args.packages.now) (sym c.each-item.is)
    (c.requires.packages i k c.loop-each-test.true))

pub take_read-read-requires-clause-sources : goal.take_read-read-requires-clause-sources
take_read-read-requires-clause-sources c =
    let i = c.loop-each.each-index in
    let k = c.each-item.result in
    subst (λ (n : ℕ). k.owner < n) (sym (c.loop-each.invariant.sources.long
    ∙ (texts_long c.args.packages.now c.args.texts.now c.requires.texts).sources))
    (subst (λ (x : KeptPackage). x.owner < length c.args.packages.now) (sym c.each-item.is)
    (c.requires.packages i k c.loop-each-test.true))

pub krate_of-requires : goal.krate_of-requires
krate_of-requires c =
    let i = c.loop-each.each-index in
    let k = c.each-item.result in
    let kept = c.args.kept.now in
    let at = slice_get-read kept i k c.loop-each-test.true c.each-item.is in
    taken_reads c.args.packages.now c.args.texts.now k.owner _ c.requires.texts
    (sym (c.loop-each.invariant.packages.each i k (omega arith) at) ∙ c.take_read-read.ensures.listed)
    (sym (c.loop-each.invariant.versions.each i k (omega arith) at) ∙ c.take_read-read.ensures.versions)
    (sym (c.loop-each.invariant.requirements.each i k (omega arith) at) ∙ c.take_read-read.ensures.requirements)
    (sym (c.loop-each.invariant.sources.each i k (omega arith) at) ∙ c.take_read-read.ensures.source)

pub loop-each-preserved : goal.loop-each-preserved
loop-each-preserved c =
    let packages = c.args.packages.now in
    let nodes = c.args.nodes.now in
    let kept = c.args.kept.now in
    let i = c.loop-each.each-index in
    let k = c.each-item.result in
    let node_there = c.index-nodes-each.result in
    let krate = c.in_ok-krate_of.field-0 in
    let at = slice_get-read kept i k c.loop-each-test.true c.each-item.is in
    let node : k.node < length nodes = subst (λ (x : KeptPackage). x.node < length nodes) (sym c.each-item.is)
    (c.requires.nodes i k c.loop-each-test.true) in
    let of : listed packages k ≡ c.take_read-read.result.listed = listed_is packages k c.take_read-read.result.listed
    (sym (c.loop-each.invariant.packages.each i k (omega arith) at) ∙ c.take_read-read.ensures.listed) in
    let features : features_at nodes k.node ≡ node_there.features = features_are nodes k.node node_there
    (slice_get-read nodes k.node node_there node c.index-nodes-each.is) in
    let made : IsKrateOf packages nodes k krate =
    subst (λ (p : MetadataPackage). IsKrateAs p (features_at nodes k.node) krate) (sym of)
    (subst (λ (fs : List (List ℕ)). IsKrateAs c.take_read-read.result.listed fs krate) (sym features)
    c.in_ok-krate_of.ensures) in
    record {
      made = rw c.in_ok-push.ensures.ok (zip_more (IsKrateOf packages nodes) kept c.loop-each.krates i k krate
          c.loop-each-test.true c.each-item.is c.loop-each.invariant.made made);
      packages = left_after packages kept i c.loop-each.packages _ k c.loop-each.invariant.packages at
          c.take_read-read.ensures.other_packages c.requires.apart;
      versions = left_after c.args.texts.now.versions kept i c.loop-each.texts.versions _ k
          c.loop-each.invariant.versions at
          c.take_read-read.ensures.other_versions c.requires.apart;
      requirements = left_after c.args.texts.now.requirements kept i c.loop-each.texts.requirements _ k
          c.loop-each.invariant.requirements at c.take_read-read.ensures.other_requirements c.requires.apart;
      sources = left_after c.args.texts.now.sources kept i c.loop-each.texts.sources _ k
          c.loop-each.invariant.sources at c.take_read-read.ensures.other_sources c.requires.apart;
    }
