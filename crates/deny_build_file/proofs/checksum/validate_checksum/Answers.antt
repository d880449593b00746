use Rattle.std.proofs.Common.{Err, refl}
use Rattle.deny_base_disk.proofs.PieceLemmas.{faults_handed}
use Rattle.deny_build_file.proofs.EndLemmas.{end_handed}
use Rattle.deny_build_file.specs.CheckEnd.{failed_calls}
use Rattle.deny_build_file.proofs.checksum.validate_checksum.Goals as goal

-- the checksum was not computed
pub returns-in_err-checksum-clause-fault : goal.returns-in_err-checksum-clause-fault
returns-in_err-checksum-clause-fault g c = λ is.
    let handed = end_handed _ c.in_err-checksum.field-0.0 _ c.from_residual.ensures.1 is in
    c.in_err-checksum.ensures.fault (λ i. Err (handed i))

pub returns-in_err-checksum-clause-faults : goal.returns-in_err-checksum-clause-faults
returns-in_err-checksum-clause-faults g c = faults_handed failed_calls c.from_residual.result c.in_err-checksum.field-0.0
    _ _ _ c.from_residual.ensures.1 refl c.in_err-checksum.ensures.faults

pub returns-in_err-checksum-clause-long_by_count : goal.returns-in_err-checksum-clause-long_by_count
returns-in_err-checksum-clause-long_by_count g c = λ is.
    let handed = end_handed _ c.in_err-checksum.field-0.0 _ c.from_residual.ensures.1 is in
    c.in_err-checksum.ensures.long_by_count (λ i. Err (handed i))

pub returns-in_err-checksum-clause-long_by_text : goal.returns-in_err-checksum-clause-long_by_text
returns-in_err-checksum-clause-long_by_text g c = λ is.
    let handed = end_handed _ c.in_err-checksum.field-0.0 _ c.from_residual.ensures.1 is in
    c.in_err-checksum.ensures.long_by_text (λ i. Err (handed i))
