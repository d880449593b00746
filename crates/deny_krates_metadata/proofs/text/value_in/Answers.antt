use Rattle.std.proofs.Common.{◌≡◌, None, List, ℕ, subst}
use Rattle.deny_base_lists.specs.Reader.{Fails}
use Rattle.deny_krates_metadata.specs.private.Borrowed.{parsed}
use Rattle.deny_krates_metadata.specs.declared.fault.MetadataFault.TheVariants.{Json, Memory}
use Rattle.deny_krates_metadata.proofs.WholeLemmas.{parse_fails}
use Rattle.deny_krates_metadata.proofs.text.value_in.Goals as goal

pub returns-in-Err : goal.returns-in-Err
returns-in-Err c =
    let fault = c.in-Err.fault in
    parse_fails c.args.bytes.now fault c.requires.text
    (subst (λ (t : List ℕ). Fails Memory (λ e. (e ≡ Json) × (parsed t ≡ None)) fault) c.requires.same c.in-Err.ensures)
