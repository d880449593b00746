use Rattle.std.proofs.Common.{Err, refl}
use Rattle.deny_base_disk.proofs.PieceLemmas.{faults_handed}
use Rattle.deny_build_file.proofs.EndLemmas.{end_handed}
use Rattle.deny_build_file.specs.CheckEnd.{failed_calls}
use Rattle.deny_build_file.proofs.checksum.checksum_file.Goals as goal

-- the checksum was not computed
pub returns-in_err-sum-clause-fault : goal.returns-in_err-sum-clause-fault
returns-in_err-sum-clause-fault g c = λ is.
    let handed = end_handed _ c.in_err-sum.field-0.0 _ c.from_residual.ensures.1 is in
    c.in_err-sum.ensures.fault (λ i. Err (handed i))

pub returns-in_err-sum-clause-faults : goal.returns-in_err-sum-clause-faults
returns-in_err-sum-clause-faults g c = faults_handed failed_calls c.from_residual.result c.in_err-sum.field-0.0
    _ _ _ c.from_residual.ensures.1 refl c.in_err-sum.ensures.faults

pub returns-in_err-sum-clause-long_by_count : goal.returns-in_err-sum-clause-long_by_count
returns-in_err-sum-clause-long_by_count g c = λ is.
    let handed = end_handed _ c.in_err-sum.field-0.0 _ c.from_residual.ensures.1 is in
    c.in_err-sum.ensures.long_by_count (λ i. Err (handed i))

pub returns-in_err-sum-clause-long_by_text : goal.returns-in_err-sum-clause-long_by_text
returns-in_err-sum-clause-long_by_text g c = λ is.
    let handed = end_handed _ c.in_err-sum.field-0.0 _ c.from_residual.ensures.1 is in
    c.in_err-sum.ensures.long_by_text (λ i. Err (handed i))
