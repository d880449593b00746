use Rattle.std.proofs.Common.{Err, arith, rules}
use Rattle.deny_base_disk.proofs.PieceLemmas.{failed_then, faults_handed, gave_as, gave_once, later_then}
use Rattle.deny_build_file.proofs.EndLemmas.{end_handed}
use Rattle.deny_build_file.proofs.PrefixLemmas.{nothing_read}
use Rattle.deny_build_file.specs.CheckEnd.{failed_calls}
use Rattle.deny_build_file.proofs.prefix.prefix_of.Goals as goal

pub loop-disk-init : goal.loop-disk-init
loop-disk-init g c = (
  nothing_read (g.D.PackageFiles.seen c.args.disk.now) c.args.path.now,
  omega arith,
  omega arith,
)

pub loop-disk-preserved : goal.loop-disk-preserved
loop-disk-preserved g c =
    let read = c.in_ok-n.ensures in (
      read.reading (g.D.PackageFiles.seen c.args.disk.now) c.loop-disk.invariant.0,
      search rules,
      omega (arith, read.given, c.loop-disk.invariant.2),
    )

-- a piece was not read
pub returns-in_err-n-clause-later : goal.returns-in_err-n-clause-later
returns-in_err-n-clause-later g c = later_then _ _ _ c.loop-disk.invariant.0.later c.read_piece.ensures.later

pub returns-in_err-n-clause-fault : goal.returns-in_err-n-clause-fault
returns-in_err-n-clause-fault g c = λ is.
    let handed = end_handed _ c.in_err-n.field-0.0 _ c.from_residual.ensures.1 is in
    failed_then _ _ _ _ _ c.loop-disk.invariant.0.later (c.in_err-n.ensures.fault (λ i. Err (handed i)))

pub returns-in_err-n-clause-few : goal.returns-in_err-n-clause-few
returns-in_err-n-clause-few g c = omega (
  arith,
  c.in_err-n.ensures.given,
  c.loop-disk.invariant.1,
  c.loop-disk.invariant.2,
)

pub returns-in_err-n-clause-once : goal.returns-in_err-n-clause-once
returns-in_err-n-clause-once g c =
    let seen = g.D.PackageFiles.seen in
    gave_as (seen c.args.disk.now) (seen c.loop-disk.disk) (seen c.read_piece.new.disk) c.args.path.now
    c.in_err-n.ensures.given (gave_once _ _ _ _ c.loop-disk.invariant.0)

pub returns-in_err-n-clause-faults : goal.returns-in_err-n-clause-faults
returns-in_err-n-clause-faults g c = faults_handed failed_calls c.from_residual.result c.in_err-n.field-0.0 _ _ _
    c.from_residual.ensures.1 c.loop-disk.invariant.0.faults c.in_err-n.ensures.faults

pub returns-in_err-n-clause-never_long : goal.returns-in_err-n-clause-never_long
returns-in_err-n-clause-never_long g c = λ is.
    let handed = end_handed _ c.in_err-n.field-0.0 _ c.from_residual.ensures.1 is in
    c.in_err-n.ensures.never_long (λ i. Err (handed i))

pub returns-then-n-eq0-clause-later : goal.returns-then-n-eq0-clause-later
returns-then-n-eq0-clause-later g c = later_then _ _ _ c.loop-disk.invariant.0.later c.read_piece.ensures.later

pub returns-clause-later : goal.returns-clause-later
returns-clause-later g c = c.loop-disk.invariant.0.later

pub returns-then-n-eq0-clause-once : goal.returns-then-n-eq0-clause-once
returns-then-n-eq0-clause-once g c = gave_once _ _ _ _
    (c.in_ok-n.ensures.reading (g.D.PackageFiles.seen c.args.disk.now) c.loop-disk.invariant.0)

pub returns-then-n-eq0-clause-faults : goal.returns-then-n-eq0-clause-faults
returns-then-n-eq0-clause-faults g c =
    (c.in_ok-n.ensures.reading (g.D.PackageFiles.seen c.args.disk.now) c.loop-disk.invariant.0).faults

pub returns-clause-once : goal.returns-clause-once
returns-clause-once g c = gave_once _ _ _ _ c.loop-disk.invariant.0

pub returns-clause-faults : goal.returns-clause-faults
returns-clause-faults g c = c.loop-disk.invariant.0.faults
