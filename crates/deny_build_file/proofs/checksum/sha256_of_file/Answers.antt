use Rattle.std.proofs.Common.{[], Err, arith, refl, rules}
use Rattle.deny_base_disk.proofs.PieceLemmas.{failed_then, faults_handed, gave_nothing, later_same, later_then}
use Rattle.deny_build_file.proofs.EndLemmas.{end_handed, memory_no_fault, memory_not_long, no_value, rose_by_less}
use Rattle.deny_build_file.proofs.PrefixLemmas.{nothing_read}
use Rattle.deny_build_file.proofs.HashingLemmas.{long_told, short_told}
use Rattle.deny_build_file.specs.CheckEnd.{failed_calls}
use Rattle.deny_build_file.specs.declared.check_end.CheckEnd.TheVariants.{Memory}
use Rattle.deny_build_file.proofs.checksum.sha256_of_file.Goals as goal

-- out of memory for the buffer
pub returns-in_err-buffer-clause-sum : goal.returns-in_err-buffer-clause-sum
returns-in_err-buffer-clause-sum g c = no_value _ c.from_residual.result _ c.from_residual.ensures.1

pub returns-in_err-buffer-clause-short : goal.returns-in_err-buffer-clause-short
returns-in_err-buffer-clause-short g c = no_value _ c.from_residual.result _ c.from_residual.ensures.1

pub returns-in_err-buffer-clause-later : goal.returns-in_err-buffer-clause-later
returns-in_err-buffer-clause-later g c = later_same (g.D.PackageFiles.seen c.args.disk.now)

pub returns-in_err-buffer-clause-once : goal.returns-in_err-buffer-clause-once
returns-in_err-buffer-clause-once g c = gave_nothing (g.D.PackageFiles.seen c.args.disk.now) c.args.path.now

pub returns-in_err-buffer-clause-faults : goal.returns-in_err-buffer-clause-faults
returns-in_err-buffer-clause-faults g c =
    faults_handed failed_calls c.from_residual.result Memory _ _ _ c.from_residual.ensures.1 refl (omega arith)

pub returns-in_err-buffer-clause-fault : goal.returns-in_err-buffer-clause-fault
returns-in_err-buffer-clause-fault g c = λ is. absurd (memory_no_fault _ c.from_residual.ensures.1 is)

pub returns-in_err-buffer-clause-long_by_count : goal.returns-in_err-buffer-clause-long_by_count
returns-in_err-buffer-clause-long_by_count g c = λ is. absurd (memory_not_long _ c.from_residual.ensures.1 is)

pub returns-in_err-buffer-clause-long_by_text : goal.returns-in_err-buffer-clause-long_by_text
returns-in_err-buffer-clause-long_by_text g c = λ is. absurd (memory_not_long _ c.from_residual.ensures.1 is)

-- a piece was not read
pub returns-in_err-read_part-clause-sum : goal.returns-in_err-read_part-clause-sum
returns-in_err-read_part-clause-sum g c =
    no_value _ c.from_residual-in_err-read_part.result _
    c.from_residual-in_err-read_part.ensures.1

pub returns-in_err-read_part-clause-short : goal.returns-in_err-read_part-clause-short
returns-in_err-read_part-clause-short g c =
    no_value _ c.from_residual-in_err-read_part.result _
    c.from_residual-in_err-read_part.ensures.1

pub returns-in_err-read_part-clause-later : goal.returns-in_err-read_part-clause-later
returns-in_err-read_part-clause-later g c =
    later_then _ _ _ c.loop-buffer.invariant.0.reading.later c.read_part.ensures.later

pub returns-in_err-read_part-clause-once : goal.returns-in_err-read_part-clause-once
returns-in_err-read_part-clause-once g c = c.read_part.ensures.once _ c.loop-buffer.invariant.0

pub returns-in_err-read_part-clause-faults : goal.returns-in_err-read_part-clause-faults
returns-in_err-read_part-clause-faults g c =
    faults_handed failed_calls c.from_residual-in_err-read_part.result c.in_err-read_part.field-0.0 _ _ _
    c.from_residual-in_err-read_part.ensures.1 c.loop-buffer.invariant.0.reading.faults
    c.in_err-read_part.ensures.faults

pub returns-in_err-read_part-clause-fault : goal.returns-in_err-read_part-clause-fault
returns-in_err-read_part-clause-fault g c = λ is.
    let handed = end_handed _ c.in_err-read_part.field-0.0 _ c.from_residual-in_err-read_part.ensures.1 is in
    failed_then _ _ _ _ _ c.loop-buffer.invariant.0.reading.later
    (c.in_err-read_part.ensures.fault (λ i. Err (handed i)))

pub returns-in_err-read_part-clause-long_by_count : goal.returns-in_err-read_part-clause-long_by_count
returns-in_err-read_part-clause-long_by_count g c = λ is.
    let handed = end_handed _ c.in_err-read_part.field-0.0 _ c.from_residual-in_err-read_part.ensures.1 is in
    absurd (c.in_err-read_part.ensures.never_long (λ i. Err (handed i)))

pub returns-in_err-read_part-clause-long_by_text : goal.returns-in_err-read_part-clause-long_by_text
returns-in_err-read_part-clause-long_by_text g c = λ is.
    let handed = end_handed _ c.in_err-read_part.field-0.0 _ c.from_residual-in_err-read_part.ensures.1 is in
    absurd (c.in_err-read_part.ensures.never_long (λ i. Err (handed i)))

-- the file is too long
pub returns-then-count-ge-LIMIT-clause-later : goal.returns-then-count-ge-LIMIT-clause-later
returns-then-count-ge-LIMIT-clause-later g c =
    later_then _ _ _ c.loop-buffer.invariant.0.reading.later c.read_part.ensures.later

pub returns-then-count-ge-LIMIT-clause-once : goal.returns-then-count-ge-LIMIT-clause-once
returns-then-count-ge-LIMIT-clause-once g c = c.read_part.ensures.once _ c.loop-buffer.invariant.0

pub returns-then-count-ge-LIMIT-clause-faults : goal.returns-then-count-ge-LIMIT-clause-faults
returns-then-count-ge-LIMIT-clause-faults g c =
    omega (arith, c.loop-buffer.invariant.0.reading.faults, c.in_ok-read_part.ensures.faults)

pub returns-then-count-ge-LIMIT-clause-fault : goal.returns-then-count-ge-LIMIT-clause-fault
returns-then-count-ge-LIMIT-clause-fault g c = λ is. absurd (cc is)

pub returns-then-count-ge-LIMIT-clause-long_by_count : goal.returns-then-count-ge-LIMIT-clause-long_by_count
returns-then-count-ge-LIMIT-clause-long_by_count g c = λ _.
    let start = g.D.PackageFiles.seen c.args.disk.now in
    let hashing = c.in_ok-read_part.ensures.hashing start c.loop-buffer.invariant.0 refl in
    rose_by_less _ _ _ _ (omega (arith, hashing.long, c.if-count-ge-LIMIT.true)) hashing.reading.given

pub returns-then-count-ge-LIMIT-clause-long_by_text : goal.returns-then-count-ge-LIMIT-clause-long_by_text
returns-then-count-ge-LIMIT-clause-long_by_text g c = λ _.
    let start = g.D.PackageFiles.seen c.args.disk.now in
    let hashing = c.in_ok-read_part.ensures.hashing start c.loop-buffer.invariant.0 refl in
    long_told start.files c.args.path.now hashing.message (omega (arith, hashing.long, c.if-count-ge-LIMIT.true))
    hashing.reading.text

pub loop-buffer-init : goal.loop-buffer-init
loop-buffer-init g c =
    let reading = nothing_read (g.D.PackageFiles.seen c.args.disk.now) c.args.path.now in
    (record { message = []; holds = c.new-hasher.ensures; long = refl; reading = reading }, omega arith)

pub loop-buffer-preserved : goal.loop-buffer-preserved
loop-buffer-preserved g c = (
  c.in_ok-read_part.ensures.hashing (g.D.PackageFiles.seen c.args.disk.now) c.loop-buffer.invariant.0 refl,
  omega (arith, c.if-count-ge-LIMIT.false),
)

-- the file ended
pub returns-clause-short : goal.returns-clause-short
returns-clause-short g c =
    short_told _ _ _ _ (omega (arith, c.read_part.ensures.last (search rules)))
    (c.read_part.ensures.ended _ c.loop-buffer.invariant.0 (search rules))

pub returns-clause-later : goal.returns-clause-later
returns-clause-later g c = later_then _ _ _ c.loop-buffer.invariant.0.reading.later c.read_part.ensures.later

pub returns-clause-once : goal.returns-clause-once
returns-clause-once g c = c.read_part.ensures.once _ c.loop-buffer.invariant.0

pub returns-clause-faults : goal.returns-clause-faults
returns-clause-faults g c = omega (arith, c.loop-buffer.invariant.0.reading.faults, c.in_ok-read_part.ensures.faults)

pub returns-clause-fault : goal.returns-clause-fault
returns-clause-fault g c = λ is. absurd (cc is)

pub returns-clause-long_by_count : goal.returns-clause-long_by_count
returns-clause-long_by_count g c = λ is. absurd (cc is)

pub returns-clause-long_by_text : goal.returns-clause-long_by_text
returns-clause-long_by_text g c = λ is. absurd (cc is)
