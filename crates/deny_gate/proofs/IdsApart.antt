-- No two crates of a graph have one id.
use Rattle.std.proofs.Common.{◌≡◌, ◌≢◌, ◌∙◌, ◌<◌, ℕ, List, Result, Ok, Err, Some, arith, length, refl, subst, sym}
use Rattle.std.specs.Prelude.{AllPairs, Contains, slice_get, slice_index_or}
use Rattle.std.specs.Cmp.{on_total}
use Rattle.std.proofs.lemmas.Option.{slice_get-get_or}
use Rattle.serde_json.specs.Data.{Data}
use Rattle.deny_base_lists.proofs.Members.{from_there, map_at, one_there, there}
use Rattle.deny_base_lists.proofs.Orders.{not_below_itself}
use Rattle.deny_base_lists.proofs.Sorted.{ascends_at}
use Rattle.deny_krates.specs.Checked.{Resolved, checked, package_ids, resolved}
use Rattle.deny_krates.specs.Document.{document_of, value_at}
use Rattle.deny_krates.specs.Packages.{package_cmp, rank_of}
use Rattle.deny_krates.specs.Read.{IsGraphOf}
use Rattle.deny_krates.specs.document.Document.{Document}
use Rattle.deny_krates.specs.package.MetadataPackage.{MetadataPackage}
use Rattle.deny_krates.specs.fault.MetadataFault.{MetadataFault}
use Rattle.deny_krates.proofs.OrderLemmas.{rank_cmp-total}
use Rattle.deny_krates.proofs.OrderlyLemmas.{crate_of}
use Rattle.deny_krates.proofs.ResolvedLemmas.{apart, resolved_is}
use Rattle.deny_spec.specs.Graph.{Graph}

-- metadata without a fault, and what was read of it
record IsRead (read : Resolved) : Type 0 where
  document : Document
  is : resolved document ≡ Ok read

no_value : (bytes : List ℕ) (e : MetadataFault) → value_at bytes ≡ Err e → checked bytes ≡ Err e
unfolding checked
no_value bytes e is = rw is refl

no_document : (bytes : List ℕ) (value : Data) (e : MetadataFault) → value_at bytes ≡ Ok value
    → document_of value ≡ Err e → checked bytes ≡ Err e
unfolding checked
no_document bytes value e is fails = rw (is, fails) refl

document_reads : (bytes : List ℕ) (value : Data) (doc : Document) → value_at bytes ≡ Ok value
    → document_of value ≡ Ok doc → checked bytes ≡ resolved doc
unfolding checked
document_reads bytes value doc is reads = rw (is, reads) refl

module _ (bytes : List ℕ) (read : Resolved) (is_read : checked bytes ≡ Ok read) where
  of_document : (value : Data) → value_at bytes ≡ Ok value → (d : Result Document MetadataFault) → document_of value ≡ d
      → IsRead read
  of_document value is (Ok doc) reads =
      record { document = doc; is = sym (document_reads bytes value doc is reads) ∙ is_read }
  of_document value is (Err e) fails =
      let both : Err e ≡ Ok read = sym (no_document bytes value e is fails) ∙ is_read in absurd (cc both)

  of_value : (v : Result Data MetadataFault) → value_at bytes ≡ v → IsRead read
  of_value (Ok value) is = of_document value is (document_of value) refl
  of_value (Err e) is = let both : Err e ≡ Ok read = sym (no_value bytes e is) ∙ is_read in absurd (cc both)

  -- two packages with the same id are equal
  one_package : (p q : MetadataPackage) → Contains read.document.packages p → Contains read.document.packages q
      → p.id ≡ q.id
      → p ≡ q
  one_package p q this that same =
      let of = of_value (value_at bytes) refl in
      let facts = resolved_is of.document read of.is in
      let packages : List MetadataPackage = of.document.packages in
      let here : Contains packages p = subst (λ (d : Document). Contains d.packages p) facts.2 this in
      let other : Contains packages q = subst (λ (d : Document). Contains d.packages q) facts.2 that in
      let m = there packages p here in
      let n = there packages q other in
      let places : m.0 ≡ n.0 = apart (package_ids of.document) m.0 n.0 p.id facts.0.packages
      (map_at (λ (x : MetadataPackage). x.id) packages m.0 p m.1)
      (subst (λ (id : List ℕ). slice_get (package_ids of.document) n.0 ≡ Some id) (sym same)
      (map_at (λ (x : MetadataPackage). x.id) packages n.0 q n.1)) in
      one_there packages n.0 p q (subst (λ (k : ℕ). slice_get packages k ≡ Some p) places m.1) n.1

pub ids_apart : (bytes : List ℕ) (g : Graph) → IsGraphOf bytes g → AllPairs (λ c d. c.id ≢ d.id) g.crates
ids_apart bytes g of = λ i j d below inside same.
    let doc = of.read.document in
    let packages : List MetadataPackage = of.graph.packages in
    let at : (k : ℕ) → k < length g.crates → slice_get g.crates k ≡ Some (slice_index_or g.crates k d) =
    λ k within. slice_get-get_or g.crates k d within in
    let one = crate_of doc 0 packages g.crates i (slice_index_or g.crates i d) of.graph.crates
    (at i (omega (arith, below, inside))) in
    let other = crate_of doc 0 packages g.crates j (slice_index_or g.crates j d) of.graph.crates (at j inside) in
    let declared_at : (k : ℕ) (p : MetadataPackage) → slice_get packages k ≡ Some p → Contains doc.packages p =
    λ k p is. (of.graph.kept.sound p (from_there packages k p is)).holds in
    let same_package : one.0 ≡ other.0 = one_package bytes of.read of.is_read one.0 other.0
    (declared_at i one.0 one.1) (declared_at j other.0 other.1) (sym one.3 ∙ (same ∙ other.3)) in
    not_below_itself package_cmp (on_total rank_of rank_cmp-total) one.0 other.0 same_package
    (ascends_at package_cmp packages i j one.0 other.0 of.graph.kept.ascending below one.1 other.1)
