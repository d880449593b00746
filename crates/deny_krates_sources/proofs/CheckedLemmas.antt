-- What a document resolves to, by the indexes of its packages and nodes.
use Rattle.std.proofs.Common.{◌≡◌, ◌<◌, ◌≤◌, ◌+◌, ◌++◌, ℕ, List, [], Result, Ok, Err, length, drop, refl, sym, ap, ◌∙◌}
use Rattle.std.proofs.Common.{add-one}
use Rattle.std.specs.Prelude.{slice_index_or}
use Rattle.std.specs.BTreeMap.{BTreeMap}
use mathlib.Core.Path.{fun_ext}
use Rattle.std.proofs.Math.ListN.{drop_of_length-le}
use Rattle.std.proofs.Math.Seq.{drop-cons}
use Rattle.deny_krates_sources.specs.Checked.{Numbering, Resolved, distinct, known, links_of, links_to, node_ids}
use Rattle.deny_krates_sources.specs.Checked.{package_ids}
use Rattle.deny_krates_sources.specs.Checked.{number_or, resolved, resolved_by, resolved_node}
use Rattle.deny_krates_sources.specs.private.Index.{IsIndex, number_by}
use Rattle.deny_base_lists.specs.Reader.{◌>>=◌, Gives, IsFault}
use Rattle.deny_krates_sources.specs.declared.checked.Resolution.{Resolution}
use Rattle.deny_krates_metadata.specs.declared.node.MetadataNode.{MetadataNode}
use Rattle.deny_krates_metadata.specs.declared.node.NodeDependency.{NodeDependency}
use Rattle.deny_krates_metadata.specs.declared.document.Document.{Document}
use Rattle.deny_krates_metadata.specs.declared.fault.MetadataFault.{MetadataFault}
use Rattle.deny_krates_metadata.specs.declared.fault.MetadataFault.TheVariants.{Memory}
use Rattle.deny_krates_sources.specs.declared.index.HashedId.{HashedId}
use Rattle.deny_base_lists.proofs.ReaderLemmas.{fails_through}

pub next_links : (packages nodes : Numbering) (deps : List NodeDependency) (i : ℕ) (dep : NodeDependency)
    → i < length deps → dep ≡ slice_index_or deps i dep
    → links_of packages nodes (drop i deps)
    ≡ known packages nodes dep.pkg
    >>= (λ node. links_of packages nodes (drop (i + 1) deps) >>= (λ links. Ok (links_to node dep.kinds ++ links)))
unfolding links_of
next_links packages nodes deps i dep inside is = rw (drop-cons deps i dep inside, ← is, add-one) refl

pub no_more_links : (packages nodes : Numbering) (deps : List NodeDependency) (i : ℕ) → length deps ≤ i
    → links_of packages nodes (drop i deps) ≡ Ok []
unfolding links_of
no_more_links packages nodes deps i past = rw (drop_of_length-le deps past) refl

same_numbering : (packages packages' nodes nodes' : Numbering) (doc : Document)
    → ((id : List ℕ) → packages id ≡ packages' id) → ((id : List ℕ) → nodes id ≡ nodes' id)
    → resolved_by packages nodes doc ≡ resolved_by packages' nodes' doc
same_numbering packages packages' nodes nodes' doc p n = ap (λ (f : Numbering). resolved_by f nodes doc) (fun_ext p)
    ∙ ap (λ (g : Numbering). resolved_by packages' g doc) (fun_ext n)

-- where its ids differ, a document resolves by the indexes of its packages and nodes
pub resolved_by_indexes : (packages nodes : BTreeMap HashedId ℕ) (doc : Document)
    → distinct (package_ids doc) ≡ Ok tt → distinct (node_ids doc) ≡ Ok tt → IsIndex packages (package_ids doc)
    → IsIndex nodes (node_ids doc)
    → resolved doc ≡ resolved_by (number_by packages) (number_by nodes) doc
unfolding resolved
resolved_by_indexes packages nodes doc apart apart' p n =
    rw (apart, apart') (same_numbering _ _ _ _ doc (λ id. sym (p.at id)) (λ id. sym (n.at id)))

pub first_fails : (doc : Document) (e : MetadataFault) → distinct (package_ids doc) ≡ Err e → resolved doc ≡ Err e
unfolding resolved
first_fails doc e is = rw is refl

pub second_fails : (doc : Document) (e : MetadataFault) → distinct (package_ids doc) ≡ Ok tt
    → distinct (node_ids doc) ≡ Err e → resolved doc ≡ Err e
unfolding resolved
second_fails doc e apart is = rw (apart, is) refl

-- the fault of a node whose own id no package has
pub owner_fails : (packages nodes : Numbering) (node : MetadataNode) (e : MetadataFault)
    → number_or node.id (packages node.id) ≡ Err e → resolved_node packages nodes node ≡ Err e
unfolding resolved_node
owner_fails packages nodes node e is = rw is refl

-- a result by the indexes is a result of the document
pub resolves : (doc : Document) (by : Result Resolved MetadataFault) (result : Result Resolution MetadataFault)
    → resolved doc ≡ by
    → Gives Memory (λ r. by ≡ Ok (record { document = doc; starts = r.starts; rows = r.rows })) (IsFault by) result
    → Gives Memory (λ r. resolved doc ≡ Ok (record { document = doc; starts = r.starts; rows = r.rows }))
    (IsFault (resolved doc)) result
resolves doc by (Ok r) same h = same ∙ h
resolves doc by (Err e) same h = fails_through Memory e by (resolved doc) (λ f is. same ∙ is) h
