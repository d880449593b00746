use Rattle.std.proofs.Common.{Err, arith, refl}
use Rattle.deny_base_disk.proofs.PieceLemmas.{faults_handed, gave_as, gave_once, one_failed}
use Rattle.deny_build_file.proofs.EndLemmas.{disk_failed, disk_not_long}
use Rattle.deny_build_file.proofs.HashingLemmas.{hashing_more, hashing_ended, none_left}
use Rattle.deny_build_file.specs.CheckEnd.{check_end_of, failed_calls}
use Rattle.deny_build_file.proofs.checksum.read_part.Goals as goal

-- the disk failed
pub returns-in_err-n-clause-fault : goal.returns-in_err-n-clause-fault
returns-in_err-n-clause-fault g c = λ is.
    let failed = disk_failed c.from_residual.result c.in_err-n.field-0.0 c.from_residual.ensures.1 is in
    c.in_err-n.ensures.failed (λ i. Err (failed i))

pub returns-in_err-n-clause-faults : goal.returns-in_err-n-clause-faults
returns-in_err-n-clause-faults g c = faults_handed failed_calls c.from_residual.result _ _ _ _
    c.from_residual.ensures.1 refl
    (one_failed (λ error. failed_calls (check_end_of error)) refl c.in_err-n.field-0.0 _ _
    (λ is. c.in_err-n.ensures.no_memory (λ i. Err (is i))) c.in_err-n.ensures.faults)

pub returns-in_err-n-clause-never_long : goal.returns-in_err-n-clause-never_long
returns-in_err-n-clause-never_long g c =
    disk_not_long c.from_residual.result c.in_err-n.field-0.0 c.from_residual.ensures.1

pub returns-in_err-n-clause-once : goal.returns-in_err-n-clause-once
returns-in_err-n-clause-once g c = λ start hashing.
    gave_as start (g.D.PackageFiles.seen c.args.disk.now) (g.D.PackageFiles.seen c.read_at.new.self) _
    c.in_err-n.ensures.given (gave_once start _ _ _ hashing.reading)

-- the piece was hashed
pub returns-clause-once : goal.returns-clause-once
returns-clause-once g c = λ start hashing.
    let read = c.in_ok-n.ensures in
    gave_once start _ _ _ (hashing_more start (g.D.PackageFiles.seen c.args.disk.now)
    (g.D.PackageFiles.seen c.read_at.new.self)
    c.args.path.now c.read_at.new.buf c.args.hasher.now c.update.new.self c.args.count.now c.in_ok-n.n read.bound
    hashing read.later read.given read.faults read.bytes c.update.ensures).reading

pub returns-clause-hashing : goal.returns-clause-hashing
returns-clause-hashing g c = λ start hashing _.
    let read = c.in_ok-n.ensures in
    hashing_more start (g.D.PackageFiles.seen c.args.disk.now) (g.D.PackageFiles.seen c.read_at.new.self)
    c.args.path.now c.read_at.new.buf c.args.hasher.now c.update.new.self c.args.count.now c.in_ok-n.n read.bound
    hashing read.later read.given read.faults read.bytes c.update.ensures

pub returns-clause-ended : goal.returns-clause-ended
returns-clause-ended g c = λ start hashing last.
    let read = c.in_ok-n.ensures in
    hashing_ended start (g.D.PackageFiles.seen c.args.disk.now) c.args.path.now c.read_at.new.buf c.args.hasher.now
    c.update.new.self c.args.count.now c.in_ok-n.n (none_left c.in_ok-n.n last)
    (omega arith) hashing read.bytes c.update.ensures

pub returns-clause-later : goal.returns-clause-later
returns-clause-later g c = c.read_at.ensures.later

pub returns-clause-fault : goal.returns-clause-fault
returns-clause-fault g c = λ is. absurd (cc is)

pub returns-clause-never_long : goal.returns-clause-never_long
returns-clause-never_long g c = λ is. absurd (cc is)

pub returns-clause-faults : goal.returns-clause-faults
returns-clause-faults g c = c.in_ok-n.ensures.faults
