-- Steps of reading a graph.
use Rattle.std.proofs.Common.{◌≡◌, ◌∙◌, sym, ℕ, List, Result, Ok, Err, refl, subst}
use Rattle.std.specs.Prelude.{IfErr, IfOk}
use Rattle.deny_spec.specs.Graph.{Graph}
use Rattle.deny_krates_sources.specs.Checked.{Resolved, checked, resolved}
use Rattle.deny_krates_metadata.specs.Document.{document_at, document_of, value_at}
use Rattle.deny_base_lists.specs.Reader.{◌>>=◌, Answers, Fails, IsFault}
use Rattle.deny_krates_graph.specs.Read.{IsGraph, IsGraphOf}
use Rattle.deny_krates_metadata.specs.declared.document.Document.{Document}
use Rattle.deny_krates_metadata.specs.declared.fault.MetadataFault.{MetadataFault}
use Rattle.deny_krates_metadata.specs.declared.fault.MetadataFault.TheVariants.{Memory}
use Rattle.deny_base_lists.proofs.Results.{err_is_no_ok}
use Rattle.deny_base_lists.proofs.ReaderLemmas.{fails_through}
use Rattle.deny_krates_graph.proofs.ResolvedLemmas.{resolved_is}

-- a step after two others
then_ok : {A B C : Type 0} (m : Result A MetadataFault) (f : A → Result B MetadataFault)
    (g : B → Result C MetadataFault) (y : B)
    → m >>= f ≡ Ok y → m >>= (λ x. f x >>= g) ≡ g y
then_ok (Ok x) f g y is = rw is refl
then_ok (Err e) f g y is = err_is_no_ok is

then_err : {A B C : Type 0} (m : Result A MetadataFault) (f : A → Result B MetadataFault)
    (g : B → Result C MetadataFault) (e : MetadataFault)
    → m >>= f ≡ Err e → m >>= (λ x. f x >>= g) ≡ Err e
then_err (Ok x) f g e is = rw is refl
then_err (Err d) f g e is = cc

document_reads : (bytes : List ℕ) (doc : Document) → document_at bytes ≡ Ok doc → checked bytes ≡ resolved doc
unfolding checked document_at
document_reads bytes doc is = then_ok (value_at bytes) document_of resolved doc is

no_document : (bytes : List ℕ) (e : MetadataFault) → document_at bytes ≡ Err e → checked bytes ≡ Err e
unfolding checked document_at
no_document bytes e is = then_err (value_at bytes) document_of resolved e is

pub document_holds : (bytes : List ℕ) (r : Result Document MetadataFault) → Answers Memory (document_at bytes) r
    → IfOk r (λ d. checked bytes ≡ resolved d)
document_holds bytes (Ok d) gives = document_reads bytes d gives
document_holds bytes (Err e) gives = tt

pub document_fails : (bytes : List ℕ) (r : Result Document MetadataFault) → Answers Memory (document_at bytes) r
    → IfErr r (Fails Memory (IsFault (checked bytes)))
document_fails bytes (Ok d) gives = tt
document_fails bytes (Err e) gives = fails_through Memory e (document_at bytes) (checked bytes)
    (λ f is. no_document bytes f is) gives

pub graph_is : (bytes : List ℕ) (doc : Document) (g : Graph) → checked bytes ≡ resolved doc
    → (r : Resolved) × (resolved doc ≡ Ok r) × IsGraph doc g → IsGraphOf bytes g
graph_is bytes doc g same is = record {
  read = is.0;
  is_read = same ∙ is.1;
  graph = subst (λ (d : Document). IsGraph d g) (sym (resolved_is doc is.0 is.1).2) is.2;
}
