-- Metadata has one graph.
use Rattle.std.proofs.Common.{◌≡◌, ◌∙◌, ◌+◌, ℕ, List, [], ◌∷◌, Ok, ap, refl, sym, subst}
use Rattle.std.specs.Cmp.{nat_cmp_total, on_total}
use Rattle.std.specs.Cmp.Lexicographic.{nat_list_cmp_total}
use Rattle.std.specs.Ordering.{nat_cmp}
use Rattle.deny_base_lists.specs.Ascending.{Lists}
use Rattle.deny_base.specs.Edge.{edge_cmp}
use Rattle.deny_base_lists.proofs.Sorted.{one_list}
use Rattle.deny_base.proofs.EdgeEqual.{edge_cmp-total}
use Rattle.deny_krates.specs.Listed.{AreCratesAt, IsCrateAt, crate_at}
use Rattle.deny_krates.specs.Packages.{rank_of}
use Rattle.deny_krates.specs.Read.{IsEdge, IsGraph, IsGraphOf, IsMember, IsTargetEdge}
use Rattle.deny_krates.specs.document.Document.{Document}
use Rattle.deny_krates.specs.package.MetadataPackage.{MetadataPackage}
use Rattle.deny_krates.proofs.OrderLemmas.{rank_cmp-total}
use Rattle.deny_spec.proofs.TargetEdgeLemmas.{target_edge_cmp-total}
use Rattle.deny_spec.specs.Graph.{Crate, Graph}
use Rattle.deny_spec.specs.TargetEdge.{target_edge_cmp}

one_crate : (doc : Document) (place : ℕ) (p : MetadataPackage) (c d : Crate) → IsCrateAt doc place p c
    → IsCrateAt doc place p d
    → c ≡ d
one_crate doc place p c d this that =
    this.is ∙ (ap (crate_at place p) (one_list nat_list_cmp_total c.enabled d.enabled this.enabled that.enabled)
    ∙ sym that.is)

same_crates : (doc : Document) (place : ℕ) (ps : List MetadataPackage) (cs ds : List Crate)
    → AreCratesAt doc place ps cs
    → AreCratesAt doc place ps ds → cs ≡ ds
same_crates doc place [] [] [] these those = refl
same_crates doc place [] [] (d ∷ ds) these those = absurd those
same_crates doc place [] (c ∷ cs) ds these those = absurd these
same_crates doc place (p ∷ ps) [] ds these those = absurd these
same_crates doc place (p ∷ ps) (c ∷ cs) [] these those = absurd those
same_crates doc place (p ∷ ps) (c ∷ cs) (d ∷ ds) these those =
    let first : c ≡ d = one_crate doc place p c d these.0 those.0 in
    let rest : cs ≡ ds = same_crates doc (place + 1) ps cs ds these.1 those.1 in
    cc

of_document : (doc : Document) (g h : Graph) → IsGraph doc g → IsGraph doc h → g ≡ h
of_document doc g h this that =
    let packages : this.packages ≡ that.packages = one_list (on_total rank_of rank_cmp-total) this.packages
    that.packages this.kept that.kept in
    let root : g.root ≡ h.root = this.root ∙ sym that.root in
    let crates : g.crates ≡ h.crates =
    same_crates doc 0 that.packages g.crates h.crates
    (subst (λ (ps : List MetadataPackage). AreCratesAt doc 0 ps g.crates) packages this.crates) that.crates in
    let members : g.members ≡ h.members =
    one_list nat_cmp_total g.members h.members
    (subst (λ (ps : List MetadataPackage). Lists nat_cmp (IsMember doc ps) g.members) packages this.members)
    that.members in
    let edges : g.edges ≡ h.edges =
    one_list edge_cmp-total g.edges h.edges
    (subst (λ (ps : List MetadataPackage). Lists edge_cmp (IsEdge doc ps) g.edges) packages this.edges) that.edges in
    let target_edges : g.target_edges ≡ h.target_edges =
    one_list target_edge_cmp-total g.target_edges h.target_edges
    (subst (λ (ps : List MetadataPackage). Lists target_edge_cmp (IsTargetEdge doc ps) g.target_edges) packages
    this.target_edges) that.target_edges in
    λ i. record {
      root = root i;
      crates = crates i;
      members = members i;
      edges = edges i;
      target_edges = target_edges i;
    }

pub one_graph : (bytes : List ℕ) (g h : Graph) → IsGraphOf bytes g → IsGraphOf bytes h → g ≡ h
one_graph bytes g h this that =
    let read : Ok this.read ≡ Ok that.read = sym this.is_read ∙ that.is_read in
    let documents : this.read.document ≡ that.read.document = cc read in
    of_document that.read.document g h (subst (λ (doc : Document). IsGraph doc g) documents this.graph) that.graph
