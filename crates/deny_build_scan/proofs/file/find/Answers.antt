use Rattle.std.proofs.Common.{not, subst, sym}
use Rattle.deny_krates.specs.Crates.{crate_view}
use Rattle.deny_base_lists.proofs.Results.{if_ok_then}
use Rattle.deny_build_scan.proofs.file.find.Goals as goal
use Rattle.deny_build_scan.specs.Seen.{of_crate}
use Rattle.deny_build_scan.specs.Why.{IsBecause}
use Rattle.deny_build_scan.specs.declared.decide.Asks.{Asks}
use Rattle.deny_build_scan.specs.private.Entries.{IsFoundFor}

pub returns-in-Sum-clause-found : goal.returns-in-Sum-clause-found
returns-in-Sum-clause-found g c = if_ok_then c.read_sum.result c.read_sum.ensures.seen (λ found is place folder.
    let seen = g.D.PackageFiles.seen in
    subst (λ (a : Asks). IsFoundFor (of_crate (IsBecause folder (seen c.args.disk.now) (seen c.read_sum.new.disk))
    (crate_view place c.args.krate.now)) (seen c.args.disk.now).files (not c.args.config.now.include_archives)
    c.args.path.now a found) (sym c.in-Sum.is) (is folder))

pub returns-in-Header-clause-found : goal.returns-in-Header-clause-found
returns-in-Header-clause-found g c = if_ok_then c.read_header.result
    c.read_header.ensures.seen (λ found is place folder.
    let seen = g.D.PackageFiles.seen in
    subst (λ (a : Asks). IsFoundFor (of_crate (IsBecause folder (seen c.args.disk.now) (seen c.read_header.new.disk))
    (crate_view place c.args.krate.now)) (seen c.args.disk.now).files (not c.args.config.now.include_archives)
    c.args.path.now a found) (sym c.in-Header.is) (is folder))
