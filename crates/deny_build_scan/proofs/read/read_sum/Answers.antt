use Rattle.std.proofs.Common.{[], Err, Some, ap, append-nil, refl, sym}
use Rattle.deny_build_file.specs.CheckEnd.{failed_calls}
use Rattle.deny_spec.specs.declared.package.Failure.TheVariants.{Long, Unreadable}
use Rattle.deny_base_lists.proofs.Results.{if_ok_then}
use Rattle.deny_build_scan.proofs.ReadLemmas.{caused_long, caused_unreadable, failure_counted, failure_noted, sum_long}
use Rattle.deny_build_scan.proofs.ReadLemmas.{sum_unreadable}
use Rattle.deny_build_scan.proofs.read.read_sum.Goals as goal
use Rattle.deny_build_scan.specs.Seen.IsSumSeen.{taken}
use Rattle.deny_base_unread.proofs.CauseLemmas.{caused_none}
use Rattle.deny_base_unread.proofs.ManifestLemmas.{caused_added}
use Rattle.deny_base.specs.Unread.{asked}

pub returns-in-Ok-clause-seen : goal.returns-in-Ok-clause-seen
returns-in-Ok-clause-seen g c = λ folder. taken refl c.in-Ok.sum c.in-Ok.ensures.sum c.in-Ok.ensures.short

pub returns-in-Err-Fault-clause-seen : goal.returns-in-Err-Fault-clause-seen
returns-in-Err-Fault-clause-seen g c = if_ok_then c.failed.result c.failed.ensures.found (λ found is folder.
    let seen = g.D.PackageFiles.seen in
    sum_unreadable folder (seen c.args.disk.now) (seen c.sha256_of_file.new.disk) (Some c.args.krate.now)
    c.args.path.now c.args.purpose (seen c.args.disk.now).files found c.requires
    (c.in-Err-Fault.ensures.fault (λ i. Err (c.in-Err-Fault.field-0-is i))) is)

pub returns-in-Err-Long-clause-seen : goal.returns-in-Err-Long-clause-seen
returns-in-Err-Long-clause-seen g c = if_ok_then c.failed-in-Err-Long.result
    c.failed-in-Err-Long.ensures.found (λ found is folder.
    let seen = g.D.PackageFiles.seen in
    sum_long folder (seen c.args.disk.now) (seen c.sha256_of_file.new.disk) (Some c.args.krate.now)
    c.args.path.now c.args.purpose (seen c.args.disk.now).files found c.requires
    (c.in-Err-Long.ensures.long_by_count (λ i. Err (c.in-Err-Long.field-0-is i)))
    (c.in-Err-Long.ensures.long_by_text (λ i. Err (c.in-Err-Long.field-0-is i))) is)

pub returns-in-Err-Long-clause-caused : goal.returns-in-Err-Long-clause-caused
returns-in-Err-Long-clause-caused g c = if_ok_then c.failed-in-Err-Long.result
    c.failed-in-Err-Long.ensures.unread (λ found is folder.
    let seen = g.D.PackageFiles.seen in
    caused_long folder (seen c.args.disk.now) (seen c.sha256_of_file.new.disk) (Some c.args.krate.now)
    c.args.path.now c.args.purpose c.args.unread.now c.failed-in-Err-Long.new.unread c.requires
    c.sha256_of_file.ensures.later
    (c.in-Err-Long.ensures.long_by_count (λ i. Err (c.in-Err-Long.field-0-is i)))
    (c.in-Err-Long.ensures.long_by_text (λ i. Err (c.in-Err-Long.field-0-is i))) is)

pub returns-in-Ok-clause-noted : goal.returns-in-Ok-clause-noted
returns-in-Ok-clause-noted g c = sym (append-nil c.args.unread.now)

pub returns-in-Ok-clause-caused : goal.returns-in-Ok-clause-caused
returns-in-Ok-clause-caused g c = λ folder. caused_added folder _ _ c.args.unread.now c.args.unread.now []
    (sym (append-nil c.args.unread.now)) (caused_none folder _ _ c.sha256_of_file.ensures.later)

pub returns-in-Err-Fault-clause-noted : goal.returns-in-Err-Fault-clause-noted
returns-in-Err-Fault-clause-noted g c =
    failure_noted (asked (Some c.args.krate.now) c.args.purpose c.args.path.now) c.args.unread.now c.failed.new.unread
    Unreadable c.failed.result c.failed.ensures.found c.failed.ensures.unread

pub returns-in-Err-Fault-clause-later : goal.returns-in-Err-Fault-clause-later
returns-in-Err-Fault-clause-later g c = c.sha256_of_file.ensures.later

pub returns-in-Err-Long-clause-noted : goal.returns-in-Err-Long-clause-noted
returns-in-Err-Long-clause-noted g c =
    failure_noted (asked (Some c.args.krate.now) c.args.purpose c.args.path.now) c.args.unread.now
    c.failed-in-Err-Long.new.unread Long c.failed-in-Err-Long.result c.failed-in-Err-Long.ensures.found
    c.failed-in-Err-Long.ensures.unread

pub returns-in-Err-Long-clause-later : goal.returns-in-Err-Long-clause-later
returns-in-Err-Long-clause-later g c = c.sha256_of_file.ensures.later

pub returns-in-Err-Fault-clause-caused : goal.returns-in-Err-Fault-clause-caused
returns-in-Err-Fault-clause-caused g c = if_ok_then c.failed.result c.failed.ensures.unread (λ found is folder.
    let seen = g.D.PackageFiles.seen in
    caused_unreadable folder (seen c.args.disk.now) (seen c.sha256_of_file.new.disk) (Some c.args.krate.now)
    c.args.path.now c.args.purpose c.args.unread.now c.failed.new.unread c.requires
    (c.in-Err-Fault.ensures.fault (λ i. Err (c.in-Err-Fault.field-0-is i))) is)

pub returns-in-Ok-clause-later : goal.returns-in-Ok-clause-later
returns-in-Ok-clause-later g c = c.sha256_of_file.ensures.later

pub returns-in-Err-Memory-clause-later : goal.returns-in-Err-Memory-clause-later
returns-in-Err-Memory-clause-later g c = c.sha256_of_file.ensures.later

pub returns-in-Err-Fault-clause-faults : goal.returns-in-Err-Fault-clause-faults
returns-in-Err-Fault-clause-faults g c =
    failure_counted _ _ _ Unreadable c.failed.result (ap failed_calls c.in-Err-Fault.field-0-is)
    c.in-Err-Fault.ensures.faults c.failed.ensures.found

pub returns-in-Err-Long-clause-faults : goal.returns-in-Err-Long-clause-faults
returns-in-Err-Long-clause-faults g c =
    failure_counted _ _ _ Long c.failed-in-Err-Long.result (ap failed_calls c.in-Err-Long.field-0-is)
    c.in-Err-Long.ensures.faults c.failed-in-Err-Long.ensures.found
