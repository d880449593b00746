use Rattle.std.proofs.Common.{◌≡◌, ◌+◌, ◌-◌, ◌^◌, ◌≤◌, true, length, sym, ap, subst, arith}
use Rattle.deny_build_walk.proofs.MovedLemmas.{walking_moved}
use Rattle.deny_build_walk.proofs.TakingLemmas.{length_pending}
use Rattle.deny_build_walk.proofs.WalkingLemmas.{noted_listed, noted_unlisted, walking_taken, walking_unlisted}
use Rattle.deny_build_walk.specs.private.Taking.{path_taken}
use Rattle.deny_build_walk.proofs.walk.visit.Goals as goal

pub returns-in_ok-take_folder-in-Ok-clause-work : goal.returns-in_ok-take_folder-in-Ok-clause-work
returns-in_ok-take_folder-in-Ok-clause-work g c =
    let a = c.args in
    let es = c.as_slice.result.now in
    let taken = c.in_ok-take_folder-in-Ok.ensures in
    let fits : length c.in-Ok.entries ≤ 2 ^ 24 - a.walk.now.count =
    rw c.in-Ok.is at c.in_ok-listed.ensures.fits in
    let same : length es ≡ length c.in-Ok.entries = ap length c.as_slice.ensures in
    let keys : length c.take_folder.new.walk.pending.keys ≤ length a.walk.now.pending.keys + length es =
    subst (λ ks. length ks ≤ length a.walk.now.pending.keys + length es) (sym taken.pending)
    (length_pending a.walk.now.pending.keys (path_taken a.by_git a.root.now a.folder.now true) es) in
    omega (arith, fits, same, keys, taken.count, c.requires.count)

-- the folder was listed
pub returns-in_ok-take_folder-in-Ok-clause-walking : goal.returns-in_ok-take_folder-in-Ok-clause-walking
returns-in_ok-take_folder-in-Ok-clause-walking g c = λ start first walk.
    let a = c.args in
    let seen = g.D.PackageFiles.seen in
    let told = c.in_ok-listed.ensures in
    let taken = c.in_ok-take_folder-in-Ok.ensures in
    walking_moved a.krate.now a.root.now a.by_git c.take_folder.new.walk.pending.keys c.take_folder.new.walk.files
    c.move_behind.new.files c.take_folder.new.walk.count c.move_behind.ensures start first (seen c.list_folder.new.disk)
    c.list_folder.new.unread
    (walking_taken a.krate.now a.root.now a.by_git start first (seen a.disk.now) a.unread.now a.folder.now
    a.walk.now.pending.keys a.walk.now.files a.walk.now.count walk c.requires.least (seen c.list_folder.new.disk)
    c.list_folder.ensures.later c.in-Ok.entries c.as_slice.result.now c.list_folder.new.unread
    c.take_folder.new.walk.pending.keys c.take_folder.new.walk.files c.take_folder.new.walk.count
    (rw c.in-Ok.is at told.names) (rw c.in-Ok.is at told.entries) (rw c.in-Ok.is at told.listed)
    c.as_slice.ensures (rw c.in-Ok.is at told.unread) taken.pending taken.files taken.count)

pub returns-in_ok-take_folder-in-Ok-clause-noted : goal.returns-in_ok-take_folder-in-Ok-clause-noted
returns-in_ok-take_folder-in-Ok-clause-noted g c = λ start first walk noted.
    let a = c.args in
    let seen = g.D.PackageFiles.seen in
    noted_listed a.krate.now a.root.now a.by_git start first (seen a.disk.now) a.unread.now a.folder.now
    a.walk.now.pending.keys a.walk.now.files a.walk.now.count walk c.requires.least (seen c.list_folder.new.disk)
    c.list_folder.ensures.later a.walk.now.unlisted c.take_folder.new.walk.unlisted c.list_folder.new.unread
    (rw c.in-Ok.is at c.in_ok-listed.ensures.unread) c.in_ok-take_folder-in-Ok.ensures.unlisted
    (rw c.in-Ok.is at c.in_ok-listed.ensures.faults) noted

-- the folder was not listed
pub returns-in_ok-note-in-Err-clause-walking : goal.returns-in_ok-note-in-Err-clause-walking
returns-in_ok-note-in-Err-clause-walking g c = λ start first walk.
    let a = c.args in
    let seen = g.D.PackageFiles.seen in
    let told = c.in_ok-listed.ensures in
    walking_unlisted a.krate.now a.root.now a.by_git start first (seen a.disk.now) a.unread.now a.folder.now
    a.walk.now.pending.keys a.walk.now.files a.walk.now.count walk c.requires.least (seen c.list_folder.new.disk)
    c.list_folder.ensures.later c.in-Err.why (2 ^ 24 - a.walk.now.count) c.list_folder.new.unread
    (omega (arith, c.requires.count)) (rw c.in-Err.is at told.unread) c.list_folder.ensures.once
    (rw c.in-Err.is at told.unlisted)

pub returns-in_ok-note-in-Err-clause-noted : goal.returns-in_ok-note-in-Err-clause-noted
returns-in_ok-note-in-Err-clause-noted g c = λ start first walk noted.
    let a = c.args in
    let seen = g.D.PackageFiles.seen in
    let told = c.in_ok-listed.ensures in
    noted_unlisted a.krate.now a.root.now a.by_git start first (seen a.disk.now) a.unread.now a.folder.now
    a.walk.now.pending.keys a.walk.now.files a.walk.now.count walk c.requires.least (seen c.list_folder.new.disk)
    c.list_folder.ensures.later c.in-Err.why (2 ^ 24 - a.walk.now.count) a.walk.now.unlisted c.note.new.unlisted
    c.list_folder.new.unread (omega (arith, c.requires.count)) (rw c.in-Err.is at told.unread)
    (rw c.in-Err.is at told.unlisted) (rw c.in-Err.is at told.faults) c.in_ok-note-in-Err.ensures noted
