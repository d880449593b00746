use Rattle.std.proofs.Common.{◌≡◌, ◌+◌, ◌≤◌, Err, arith, refl}
use Rattle.deny_base_disk.proofs.PieceLemmas.{faults_handed, one_failed}
use Rattle.deny_build_file.proofs.EndLemmas.{disk_failed, disk_not_long, ended_so}
use Rattle.deny_build_file.proofs.PrefixLemmas.{reading_in_place}
use Rattle.deny_build_file.specs.CheckEnd.{check_end_of, failed_calls}
use Rattle.deny_build_file.proofs.prefix.read_piece.Goals as goal

-- the disk failed
pub returns-in_err-read_at-clause-fault : goal.returns-in_err-read_at-clause-fault
returns-in_err-read_at-clause-fault g c = λ is.
    let failed = disk_failed c.from_residual.result c.in_err-read_at.field-0.0 c.from_residual.ensures.1 is in
    c.in_err-read_at.ensures.failed (λ i. Err (failed i))

pub returns-in_err-read_at-clause-faults : goal.returns-in_err-read_at-clause-faults
returns-in_err-read_at-clause-faults g c = faults_handed failed_calls c.from_residual.result _ _ _ _
    c.from_residual.ensures.1 refl
    (one_failed (λ error. failed_calls (check_end_of error)) refl c.in_err-read_at.field-0.0 _ _
    (λ is. c.in_err-read_at.ensures.no_memory (λ i. Err (is i))) c.in_err-read_at.ensures.faults)

pub returns-in_err-read_at-clause-never_long : goal.returns-in_err-read_at-clause-never_long
returns-in_err-read_at-clause-never_long g c =
    disk_not_long c.from_residual.result c.in_err-read_at.field-0.0 c.from_residual.ensures.1

pub returns-in_err-read_at-clause-given : goal.returns-in_err-read_at-clause-given
returns-in_err-read_at-clause-given g c =
    let old = g.D.PackageFiles.seen c.args.disk.now in
    let new = g.D.PackageFiles.seen c.read_at.new.self in
    ended_so (λ n. new.given ≤ old.given + n) (new.given ≡ old.given) c.from_residual.result _
    c.from_residual.ensures.1 c.in_err-read_at.ensures.given

-- the piece was read
pub returns-clause-faults : goal.returns-clause-faults
returns-clause-faults g c = c.in_ok-read_at.ensures.faults

pub returns-clause-reading : goal.returns-clause-reading
returns-clause-reading g c = λ start reading.
    let read = c.in_ok-read_at.ensures in
    reading_in_place start _ (g.D.PackageFiles.seen c.read_at.new.self) _ _ _ _ _ _ (omega (arith, c.requires))
    read.bound reading read.later read.given read.faults read.bytes

pub returns-clause-later : goal.returns-clause-later
returns-clause-later g c = c.read_at.ensures.later
