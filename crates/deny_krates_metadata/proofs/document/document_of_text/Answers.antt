use Rattle.std.proofs.Common.{Result, subst, sym}
use Rattle.json.specs.Value.{value_view}
use Rattle.deny_base_lists.specs.Reader.{Answers}
use Rattle.deny_krates_metadata.specs.declared.document.Document.{Document}
use Rattle.deny_krates_metadata.specs.declared.fault.MetadataFault.{MetadataFault}
use Rattle.deny_krates_metadata.specs.declared.fault.MetadataFault.TheVariants.{Memory}
use Rattle.deny_krates_metadata.proofs.SelectionLemmas.{read_pruned}
use Rattle.deny_krates_metadata.proofs.document.document_of_text.Goals as goal

pub returns-in-Some : goal.returns-in-Some
returns-in-Some c =
    subst (λ (r : Result Document MetadataFault). Answers Memory r c.document_of_root.result)
    (sym (read_pruned c.args.bytes.now c.args.text.now (value_view c.in-Some.value) c.requires.text c.requires.same
    c.in-Some.ensures)) c.document_of_root.ensures
