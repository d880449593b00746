use Rattle.std.proofs.Common.{Ok}
use Rattle.deny_krates_metadata.specs.Document.{declaration_at}
use Rattle.deny_krates_metadata.specs.private.Borrowed.{view}
use Rattle.deny_krates_metadata.specs.private.Parts.{requested_at, usage_at}
use Rattle.deny_krates_metadata.proofs.PartsLemmas.{declaration_after, declaration_in_parts, declaration_of}
use Rattle.deny_krates_metadata.proofs.PartsLemmas.{fails_first}
use Rattle.deny_krates_metadata.proofs.PartsLemmas.{steps_on}
use Rattle.deny_krates_metadata.specs.declared.fault.MetadataFault.TheVariants.{Memory}
use Rattle.deny_base_lists.proofs.ReaderLemmas.{handed_on}
use Rattle.deny_krates_metadata.proofs.declaration.DeclarationElement.from_value.Goals as goal

pub returns-in_err-requested : goal.returns-in_err-requested
returns-in_err-requested c =
    let path = c.args.path.now in
    let d = view c.args.value.now in
    let fault = c.in_err-requested.field-0.0 in
    handed_on Memory _ _ _ fault c.from_residual.ensures.1
    (fails_first (declaration_at path d) (requested_at path d) (declaration_after path d) fault
    (declaration_in_parts path d) c.in_err-requested.ensures)

pub returns-in_err-usage : goal.returns-in_err-usage
returns-in_err-usage c =
    let path = c.args.path.now in
    let d = view c.args.value.now in
    let fault = c.in_err-usage.field-0.0 in
    let requested = c.in_ok-requested.requested in
    handed_on Memory _ _ _ fault c.from_residual-in_err-usage.ensures.1
    (fails_first (declaration_at path d) (usage_at path d) (λ usage. Ok (declaration_of requested usage)) fault
    (steps_on (declaration_at path d) (requested_at path d) (declaration_after path d) requested
    (declaration_in_parts path d) c.in_ok-requested.ensures) c.in_err-usage.ensures)

pub returns : goal.returns
returns c =
    let path = c.args.path.now in
    let d = view c.args.value.now in
    let requested = c.in_ok-requested.requested in
    steps_on (declaration_at path d) (usage_at path d) (λ usage. Ok (declaration_of requested usage))
    c.in_ok-usage.usage (steps_on (declaration_at path d) (requested_at path d) (declaration_after path d) requested
    (declaration_in_parts path d) c.in_ok-requested.ensures) c.in_ok-usage.ensures
