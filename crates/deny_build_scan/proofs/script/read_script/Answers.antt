use Rattle.std.proofs.Common.{◌≡◌, ◌∙◌, ℕ, List, subst}
use Rattle.std.specs.Option.{option_copied}
use Rattle.deny_build_file.specs.Home.{home_path}
use Rattle.deny_krates.specs.Crates.{crate_view}
use Rattle.deny_spec.specs.Crates as crates
use Rattle.deny_build_scan.proofs.script.read_script.Goals as goal
use Rattle.deny_build_scan.specs.Seen.{IsSumSeen, of_crate}
use Rattle.deny_build_scan.specs.Why.{IsBecause}
use Rattle.deny_build_scan.specs.private.Entries.{is_failed}
use Rattle.deny_base.specs.declared.purpose.Purpose.TheVariants as purpose

pub returns-clause-seen : goal.returns-clause-seen
returns-clause-seen g c = λ place folder.
    let seen = g.D.PackageFiles.seen in
    let path : c.as_str-path.result.now ≡ c.args.target.now.src_path = c.as_str-path.ensures in
    let root : c.folder.result.now ≡ crates.folder (crate_view place c.args.krate.now) = c.folder.ensures in
    let found = c.in_ok-found.found in
    record {
      shown = c.in_ok-home_path.ensures ∙ (λ i. home_path (path i) (root i) (option_copied c.args.home));
      found = subst (λ (p : List ℕ). IsSumSeen (of_crate (IsBecause folder (seen c.args.disk.now)
          (seen c.read_sum.new.disk)) (crate_view place c.args.krate.now) purpose.Script p)
          (seen c.args.disk.now).files p (is_failed found) found) path (c.in_ok-found.ensures.seen folder);
    }
