use Rattle.std.proofs.Common.{Err, arith, rules}
use Rattle.deny_base_disk.proofs.PieceLemmas.{end_handed, failed_then, gave_nothing, later_same, later_then, long_text}
use Rattle.deny_base_disk.proofs.PieceLemmas.{faults_handed, memory_no_fault, memory_not_long}
use Rattle.deny_base_disk.specs.Read.{failed_calls}
use Rattle.deny_base_disk.proofs.read.read_whole.Goals as goal

-- memory for the buffer ran out
pub returns-in_err-buffer-clause-once : goal.returns-in_err-buffer-clause-once
returns-in_err-buffer-clause-once g c = gave_nothing (g.D.PackageFiles.seen c.args.disk.now) c.args.path.now

pub returns-in_err-buffer-clause-later : goal.returns-in_err-buffer-clause-later
returns-in_err-buffer-clause-later g c = later_same (g.D.PackageFiles.seen c.args.disk.now)

pub returns-in_err-buffer-clause-fault : goal.returns-in_err-buffer-clause-fault
returns-in_err-buffer-clause-fault g c = λ is. absurd (memory_no_fault _ c.from_residual.ensures.1 is)

pub returns-in_err-buffer-clause-long_by_count : goal.returns-in_err-buffer-clause-long_by_count
returns-in_err-buffer-clause-long_by_count g c = λ is. absurd (memory_not_long _ c.from_residual.ensures.1 is)

pub returns-in_err-buffer-clause-long_by_text : goal.returns-in_err-buffer-clause-long_by_text
returns-in_err-buffer-clause-long_by_text g c = λ is. absurd (memory_not_long _ c.from_residual.ensures.1 is)

-- a piece was not read
pub returns-in_err-read_piece-clause-once : goal.returns-in_err-read_piece-clause-once
returns-in_err-read_piece-clause-once g c = c.read_piece.ensures.once _ c.loop-bytes.invariant.0

pub returns-in_err-read_piece-clause-later : goal.returns-in_err-read_piece-clause-later
returns-in_err-read_piece-clause-later g c =
    later_then _ _ _ c.loop-bytes.invariant.0.later c.read_piece.ensures.later

pub returns-in_err-read_piece-clause-fault : goal.returns-in_err-read_piece-clause-fault
returns-in_err-read_piece-clause-fault g c = λ is.
    let handed = end_handed _ c.in_err-read_piece.field-0.0 _ c.from_residual-in_err-read_piece.ensures.1 is in
    failed_then _ _ _ _ _ c.loop-bytes.invariant.0.later (c.in_err-read_piece.ensures.fault (λ i. Err (handed i)))

pub returns-in_err-read_piece-clause-faults : goal.returns-in_err-read_piece-clause-faults
returns-in_err-read_piece-clause-faults g c =
    faults_handed failed_calls c.from_residual-in_err-read_piece.result c.in_err-read_piece.field-0.0 _ _ _
    c.from_residual-in_err-read_piece.ensures.1 c.loop-bytes.invariant.0.faults c.in_err-read_piece.ensures.faults

pub returns-in_err-read_piece-clause-long_by_count : goal.returns-in_err-read_piece-clause-long_by_count
returns-in_err-read_piece-clause-long_by_count g c = λ is.
    let handed = end_handed _ c.in_err-read_piece.field-0.0 _ c.from_residual-in_err-read_piece.ensures.1 is in
    absurd (c.in_err-read_piece.ensures.never_long (λ i. Err (handed i)))

pub returns-in_err-read_piece-clause-long_by_text : goal.returns-in_err-read_piece-clause-long_by_text
returns-in_err-read_piece-clause-long_by_text g c = λ is.
    let handed = end_handed _ c.in_err-read_piece.field-0.0 _ c.from_residual-in_err-read_piece.ensures.1 is in
    absurd (c.in_err-read_piece.ensures.never_long (λ i. Err (handed i)))

-- the text is too long
pub returns-then-as_slice-ge-LIMIT-clause-once : goal.returns-then-as_slice-ge-LIMIT-clause-once
returns-then-as_slice-ge-LIMIT-clause-once g c = c.read_piece.ensures.once _ c.loop-bytes.invariant.0

pub returns-then-as_slice-ge-LIMIT-clause-later : goal.returns-then-as_slice-ge-LIMIT-clause-later
returns-then-as_slice-ge-LIMIT-clause-later g c =
    later_then _ _ _ c.loop-bytes.invariant.0.later c.read_piece.ensures.later

pub returns-then-as_slice-ge-LIMIT-clause-long_by_text : goal.returns-then-as_slice-ge-LIMIT-clause-long_by_text
returns-then-as_slice-ge-LIMIT-clause-long_by_text g c = λ _.
    long_text _ _ c.read_piece.new.bytes.items _ (grind (arith))
    (c.read_piece.ensures.reading _ c.loop-bytes.invariant.0 (search rules)).text

-- the text ended
pub returns-clause-bytes : goal.returns-clause-bytes
returns-clause-bytes g c = c.read_piece.ensures.ended _ c.loop-bytes.invariant.0 (search rules)

pub returns-clause-given : goal.returns-clause-given
returns-clause-given g c = (c.read_piece.ensures.reading _ c.loop-bytes.invariant.0 (search rules)).given

pub returns-clause-once : goal.returns-clause-once
returns-clause-once g c = c.read_piece.ensures.once _ c.loop-bytes.invariant.0

pub returns-clause-later : goal.returns-clause-later
returns-clause-later g c = later_then _ _ _ c.loop-bytes.invariant.0.later c.read_piece.ensures.later
