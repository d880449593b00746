use Rattle.std.proofs.Common.{◌∷◌, [], Err, Some, ap, append-nil, refl, sym}
use Rattle.deny_build_file.specs.CheckEnd.{failed_calls}
use Rattle.deny_spec.specs.declared.package.Failure.TheVariants.{Unreadable}
use Rattle.deny_base_lists.proofs.Results.{if_ok_then}
use Rattle.deny_build_scan.proofs.ReadLemmas.{failure_counted, failure_noted, kind_unreadable}
use Rattle.deny_build_scan.proofs.read.read_header.Goals as goal
use Rattle.deny_build_scan.specs.Seen.IsKindSeen.{known}
use Rattle.deny_base_unread.proofs.CauseLemmas.{caused_by_call, caused_none}
use Rattle.deny_base_unread.proofs.ManifestLemmas.{caused_added}
use Rattle.deny_base.specs.Unread.{asked}
use Rattle.deny_base.specs.declared.purpose.Purpose.TheVariants as purpose

pub returns-in-Ok-clause-seen : goal.returns-in-Ok-clause-seen
returns-in-Ok-clause-seen g c = λ folder. known refl c.in-Ok.kind c.in-Ok.ensures.kind

pub returns-in-Err-Fault-clause-seen : goal.returns-in-Err-Fault-clause-seen
returns-in-Err-Fault-clause-seen g c = if_ok_then c.failed.result c.failed.ensures.found (λ found is folder.
    let seen = g.D.PackageFiles.seen in
    kind_unreadable folder (seen c.args.disk.now) (seen c.check_is_executable.new.disk) (Some c.args.krate.now)
    c.args.path.now (seen c.args.disk.now).files c.args.no_archives found
    (c.in-Err-Fault.ensures.fault (λ i. Err (c.in-Err-Fault.field-0-is i))) is)

pub returns-in-Ok-clause-noted : goal.returns-in-Ok-clause-noted
returns-in-Ok-clause-noted g c = sym (append-nil c.args.unread.now)

pub returns-in-Ok-clause-caused : goal.returns-in-Ok-clause-caused
returns-in-Ok-clause-caused g c = λ folder. caused_added folder _ _ c.args.unread.now c.args.unread.now []
    (sym (append-nil c.args.unread.now)) (caused_none folder _ _ c.check_is_executable.ensures.later)

pub returns-in-Err-Fault-clause-noted : goal.returns-in-Err-Fault-clause-noted
returns-in-Err-Fault-clause-noted g c =
    failure_noted (asked (Some c.args.krate.now) purpose.Header c.args.path.now) c.args.unread.now c.failed.new.unread
    Unreadable c.failed.result c.failed.ensures.found c.failed.ensures.unread

pub returns-in-Err-Fault-clause-caused : goal.returns-in-Err-Fault-clause-caused
returns-in-Err-Fault-clause-caused g c = if_ok_then c.failed.result c.failed.ensures.unread (λ found is folder.
    let entry = asked (Some c.args.krate.now) purpose.Header c.args.path.now in
    caused_added folder _ _ c.args.unread.now c.failed.new.unread (entry ∷ []) is
    (caused_by_call folder _ _ entry (c.in-Err-Fault.ensures.fault (λ i. Err (c.in-Err-Fault.field-0-is i)))))

pub returns-in-Err-Fault-clause-later : goal.returns-in-Err-Fault-clause-later
returns-in-Err-Fault-clause-later g c = c.check_is_executable.ensures.later

pub returns-in-Err-Fault-clause-faults : goal.returns-in-Err-Fault-clause-faults
returns-in-Err-Fault-clause-faults g c =
    failure_counted _ _ _ Unreadable c.failed.result (ap failed_calls c.in-Err-Fault.field-0-is)
    c.in-Err-Fault.ensures.faults c.failed.ensures.found
