use Rattle.std.proofs.Common.{[], append-nil, sym}
use Rattle.deny_base_disk.proofs.PieceLemmas.{later_same}
use Rattle.deny_build_scan.proofs.script.see_script.Goals as goal
use Rattle.deny_base_unread.proofs.CauseLemmas.{caused_none}
use Rattle.deny_base_unread.proofs.ManifestLemmas.{caused_added}

pub returns-in-None-clause-caused : goal.returns-in-None-clause-caused
returns-in-None-clause-caused g c = λ folder.
    let start = g.D.PackageFiles.seen c.args.disk.now in
    caused_added folder start start c.args.unread.now c.args.unread.now [] (sym (append-nil c.args.unread.now))
    (caused_none folder start start (later_same start))

pub returns-in-None-clause-later : goal.returns-in-None-clause-later
returns-in-None-clause-later g c = later_same (g.D.PackageFiles.seen c.args.disk.now)
