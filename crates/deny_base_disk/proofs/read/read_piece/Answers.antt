use Rattle.std.proofs.Common.{◌++◌, ◌<◌, ℕ, List, Err, length, take, refl, sym, ap, arith, subst}
use Rattle.std.specs.Prelude.{IfSome}
use Rattle.deny_base_disk.specs.Disk.{IsPieceOf, bytes_at}
use Rattle.deny_base_disk.specs.Read.{IsReading, failed_calls, read_end_of}
use Rattle.deny_base_disk.proofs.PieceLemmas.{disk_failed, disk_not_long, gave_as, gave_once, longer_by, memory_no_fault}
use Rattle.deny_base_disk.proofs.PieceLemmas.{faults_handed, memory_not_long, none_read, one_failed, reading_more}
use Rattle.deny_base_disk.proofs.PieceLemmas.{same_by, some_read, whole_at_end}
use Rattle.deny_base_disk.specs.declared.read.ReadEnd.TheVariants.{Memory as OutOfMemory}
use Rattle.deny_base_disk.proofs.read.read_piece.Goals as goal

-- the disk did not answer
pub returns-in_err-n-clause-once : goal.returns-in_err-n-clause-once
returns-in_err-n-clause-once g c = λ start reading.
    gave_as start (g.D.PackageFiles.seen c.args.disk.now) (g.D.PackageFiles.seen c.read_at.new.self) _
    c.in_err-n.ensures.given (gave_once start _ _ _ reading)

pub returns-in_err-n-clause-fault : goal.returns-in_err-n-clause-fault
returns-in_err-n-clause-fault g c = λ is.
    let failed = disk_failed c.from_residual.result c.in_err-n.field-0.0 c.from_residual.ensures.1 is in
    c.in_err-n.ensures.failed (λ i. Err (failed i))

pub returns-in_err-n-clause-faults : goal.returns-in_err-n-clause-faults
returns-in_err-n-clause-faults g c = faults_handed failed_calls c.from_residual.result _ _ _ _
    c.from_residual.ensures.1 refl
    (one_failed (λ error. failed_calls (read_end_of error)) refl c.in_err-n.field-0.0 _ _
    (λ is. c.in_err-n.ensures.no_memory (λ i. Err (is i))) c.in_err-n.ensures.faults)

pub returns-in_err-n-clause-never_long : goal.returns-in_err-n-clause-never_long
returns-in_err-n-clause-never_long g c =
    disk_not_long c.from_residual.result c.in_err-n.field-0.0 c.from_residual.ensures.1

-- memory for the piece ran out
pub returns-in_err-extend_from_slice-clause-once : goal.returns-in_err-extend_from_slice-clause-once
returns-in_err-extend_from_slice-clause-once g c = λ start reading.
    let read = c.in_ok-n.ensures in
    gave_once start _ c.args.path.now (c.args.bytes.now.items ++ take c.in_ok-n.n c.read_at.new.buf)
    (reading_more start _ (g.D.PackageFiles.seen c.read_at.new.self) _ _ _ _ _ read.bound
    (ap length c.as_slice.ensures.value) reading read.later read.given read.faults read.bytes)

pub returns-in_err-extend_from_slice-clause-fault : goal.returns-in_err-extend_from_slice-clause-fault
returns-in_err-extend_from_slice-clause-fault g c = λ is.
    absurd (memory_no_fault _ c.from_residual-in_err-extend_from_slice.ensures.1 is)

pub returns-in_err-extend_from_slice-clause-faults : goal.returns-in_err-extend_from_slice-clause-faults
returns-in_err-extend_from_slice-clause-faults g c =
    faults_handed failed_calls c.from_residual-in_err-extend_from_slice.result OutOfMemory _ _ _
    c.from_residual-in_err-extend_from_slice.ensures.1 refl (omega (arith, c.in_ok-n.ensures.faults))

pub returns-in_err-extend_from_slice-clause-never_long : goal.returns-in_err-extend_from_slice-clause-never_long
returns-in_err-extend_from_slice-clause-never_long g c =
    memory_not_long _ c.from_residual-in_err-extend_from_slice.ensures.1

-- the piece was appended
pub returns-clause-reading : goal.returns-clause-reading
returns-clause-reading g c = λ start reading _.
    let now = g.D.PackageFiles.seen c.read_at.new.self in
    let P : List ℕ → Type 0 = λ bytes. IsReading start now c.args.path.now bytes in
    let read = c.in_ok-n.ensures in
    subst P {x = c.args.bytes.now.items ++ take c.in_ok-n.n c.read_at.new.buf}
    (sym {A = List ℕ} c.in_ok-extend_from_slice.ensures.items)
    (reading_more start _ now _ _ _ _ _ read.bound (ap length c.as_slice.ensures.value) reading read.later read.given
    read.faults read.bytes)

pub returns-clause-more : goal.returns-clause-more
returns-clause-more g c = λ is.
    longer_by c.args.bytes.now.items c.read_at.new.buf _ c.in_ok-n.n c.in_ok-n.ensures.bound
    c.in_ok-extend_from_slice.ensures.items (some_read c.in_ok-n.n _ refl is)

pub returns-clause-last : goal.returns-clause-last
returns-clause-last g c = λ is.
    same_by c.args.bytes.now.items c.read_at.new.buf _ c.in_ok-n.n
    c.in_ok-extend_from_slice.ensures.items (none_read c.in_ok-n.n _ refl is)

pub returns-clause-ended : goal.returns-clause-ended
returns-clause-ended g c = λ start reading is.
    let none = none_read c.in_ok-n.n _ refl is in
    let room : 0 < length c.read_at.new.buf = omega (arith, c.requires.room, c.read_at.auto.buf) in
    whole_at_end start.files c.args.path.now c.args.bytes.now.items c.read_at.new.buf _
    (length c.as_slice.result.now) c.in_ok-n.n
    (ap length c.as_slice.ensures.value) none room
    (same_by c.args.bytes.now.items c.read_at.new.buf _ c.in_ok-n.n c.in_ok-extend_from_slice.ensures.items none)
    reading.text
    (subst (λ told. IfSome told
    (λ files. IsPieceOf (bytes_at files c.args.path.now) (length c.as_slice.result.now) c.in_ok-n.n c.read_at.new.buf))
    reading.later.files c.in_ok-n.ensures.bytes)

pub returns-clause-once : goal.returns-clause-once
returns-clause-once g c = λ start reading.
    let read = c.in_ok-n.ensures in
    gave_once start _ c.args.path.now (c.args.bytes.now.items ++ take c.in_ok-n.n c.read_at.new.buf)
    (reading_more start _ (g.D.PackageFiles.seen c.read_at.new.self) _ _ _ _ _ read.bound
    (ap length c.as_slice.ensures.value) reading read.later read.given read.faults read.bytes)
