use Rattle.std.proofs.Common.{inr}
use Rattle.std.proofs.lemmas.Str.{is_utf8-from_IsUtf8}
use Rattle.deny_krates_metadata.proofs.WholeLemmas.{no_text}
use Rattle.deny_base_lists.proofs.Texts.{is_utf8-false}
use Rattle.deny_krates_metadata.proofs.document.document_at.Goals as goal

pub returns-in-Err : goal.returns-in-Err
returns-in-Err c = inr (no_text c.args.bytes.now (is_utf8-false c.args.bytes.now c.in-Err.ensures.cases.0))

pub document_of_text-requires-clause-text : goal.document_of_text-requires-clause-text
document_of_text-requires-clause-text c = is_utf8-from_IsUtf8 c.args.bytes.now c.in-Ok.ensures.cases.1
