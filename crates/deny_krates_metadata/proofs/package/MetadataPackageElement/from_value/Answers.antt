use Rattle.std.proofs.Common.{Ok}
use Rattle.deny_krates_metadata.specs.Document.{package_at}
use Rattle.deny_krates_metadata.specs.private.Borrowed.{view}
use Rattle.deny_krates_metadata.specs.private.Parts.{contents_at, identity_at, terms_at}
use Rattle.deny_krates_metadata.proofs.PartsLemmas.{fails_first, package_after, package_in_parts, package_of}
use Rattle.deny_krates_metadata.proofs.PartsLemmas.{package_with}
use Rattle.deny_krates_metadata.proofs.PartsLemmas.{steps_on}
use Rattle.deny_krates_metadata.specs.declared.fault.MetadataFault.TheVariants.{Memory}
use Rattle.deny_base_lists.proofs.ReaderLemmas.{handed_on}
use Rattle.deny_krates_metadata.proofs.package.MetadataPackageElement.from_value.Goals as goal

pub returns-in_err-identity : goal.returns-in_err-identity
returns-in_err-identity c =
    let path = c.args.path.now in
    let d = view c.args.value.now in
    let fault = c.in_err-identity.field-0.0 in
    handed_on Memory _ _ _ fault c.from_residual.ensures.1
    (fails_first (package_at path d) (identity_at path d) (package_after path d) fault (package_in_parts path d)
    c.in_err-identity.ensures)

pub returns-in_err-terms : goal.returns-in_err-terms
returns-in_err-terms c =
    let path = c.args.path.now in
    let d = view c.args.value.now in
    let fault = c.in_err-terms.field-0.0 in
    let identity = c.in_ok-identity.identity in
    handed_on Memory _ _ _ fault c.from_residual-in_err-terms.ensures.1
    (fails_first (package_at path d) (terms_at path d) (package_with path d identity) fault
    (steps_on (package_at path d) (identity_at path d) (package_after path d) identity (package_in_parts path d)
    c.in_ok-identity.ensures) c.in_err-terms.ensures)

pub returns-in_err-contents : goal.returns-in_err-contents
returns-in_err-contents c =
    let path = c.args.path.now in
    let d = view c.args.value.now in
    let fault = c.in_err-contents.field-0.0 in
    let identity = c.in_ok-identity.identity in
    let terms = c.in_ok-terms.terms in
    handed_on Memory _ _ _ fault c.from_residual-in_err-contents.ensures.1
    (fails_first (package_at path d) (contents_at path d) (λ contents. Ok (package_of identity terms contents)) fault
    (steps_on (package_at path d) (terms_at path d) (package_with path d identity) terms
    (steps_on (package_at path d) (identity_at path d) (package_after path d) identity (package_in_parts path d)
    c.in_ok-identity.ensures) c.in_ok-terms.ensures) c.in_err-contents.ensures)

pub returns : goal.returns
returns c =
    let path = c.args.path.now in
    let d = view c.args.value.now in
    let identity = c.in_ok-identity.identity in
    let terms = c.in_ok-terms.terms in
    steps_on (package_at path d) (contents_at path d) (λ contents. Ok (package_of identity terms contents))
    c.in_ok-contents.contents (steps_on (package_at path d) (terms_at path d) (package_with path d identity) terms
    (steps_on (package_at path d) (identity_at path d) (package_after path d) identity (package_in_parts path d)
    c.in_ok-identity.ensures) c.in_ok-terms.ensures) c.in_ok-contents.ensures
