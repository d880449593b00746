use Rattle.std.proofs.Common.{List, Option, ℕ, length-append, subst, sym, ◌++◌, ◌∷◌, []}
use Rattle.std.specs.Option.{option_copied}
use Rattle.deny_cfg.specs.PolicyView.{building_of}
use Rattle.deny_base_disk.specs.Disk.{Files}
use Rattle.deny_rules.specs.Packages.{AreSeenBy}
use Rattle.deny_spans.specs.Seen.{IsSeen, lock_file}
use Rattle.deny_spans.specs.Spans.{ViewLies}
use Rattle.deny_spans.specs.SpansView.{spans_view}
use Rattle.deny_spans.specs.Wanted.{AreWanted}
use Rattle.deny_base.specs.declared.unread.Unread.{Unread}
use Rattle.deny_gate.specs.Unread.{of_packages}
use Rattle.deny_gate.proofs.JoinedUnread.{all_for_manifest, caused_by_joined, causes_by_joined, manifests_are}
use Rattle.deny_gate.proofs.JoinedUnread.{none_for_manifest, seen_by_joined}
use Rattle.deny_gate.proofs.LockLabels.{lines_of_spans}
use Rattle.deny_gate.proofs.checks.check_graph.Goals as goal

pub returns-clause-results : goal.returns-clause-results
returns-clause-results g c =
    let krates = c.args.krates.now in
    let extras = c.args.extras.now in
    let policy = c.args.policy.now in
    let old = g.D.PackageFiles.seen c.args.disk.now in
    let between = g.D.PackageFiles.seen c.synthesize.new.disk in
    let new = g.D.PackageFiles.seen c.run_checks.new.disk in
    let spans = c.in_ok-spans.spans in
    let checked = c.in_ok-checked.ensures.checked in
    let home = option_copied extras.home in
    let building = building_of policy.bans in
    let joined = c.in_ok-unread.unread in
    let listed = c.in_ok-unread.ensures in
    let others = c.in_ok-checked.checked.unread in
    let mine = all_for_manifest krates spans.unread c.in_ok-spans.ensures.wanted in
    let none = none_for_manifest between.files building home krates others checked.packages checked.packages_seen in
    record {
      view = spans_view spans;
      packages = checked.packages;
      ascending = listed.ascending;
      seen = subst (λ (us : List Unread). IsSeen old.files krates extras.registries.now
          (c.args.files.now ++ lock_file krates.root krates ∷ []) c.synthesize.new.files us spans.malformed
          (spans_view spans))
          (sym (manifests_are spans.unread others joined listed mine none c.in_ok-spans.ensures.seen.missing.ascending))
          (subst (λ (name : List ℕ). IsSeen old.files krates extras.registries.now
          (c.args.files.now ++ lock_file name krates ∷ []) c.synthesize.new.files spans.unread spans.malformed
          (spans_view spans)) c.workspace_root-root.ensures c.in_ok-spans.ensures.seen);
      packages_seen = subst (λ (told : Option Files). AreSeenBy told building home krates
          (of_packages joined) checked.packages)
          c.synthesize.ensures.later.files
          (seen_by_joined spans.unread others joined listed mine none between.files building home krates
          checked.packages checked.packages_seen);
      causes = causes_by_joined spans.unread others joined listed mine none old between new building home krates
          checked.packages c.synthesize.ensures.later checked.causes;
      spans = subst (λ (n : ℕ). ViewLies n c.synthesize.new.files (spans_view spans))
          (sym (length-append c.args.files.now (lock_file krates.root krates ∷ []))) c.in_ok-spans.ensures.lies;
      lines = lines_of_spans krates spans c.in_ok-spans.ensures.spans c.lines_ascend.ensures;
      results = checked.results;
    }

pub returns-clause-wanted : goal.returns-clause-wanted
returns-clause-wanted g c =
    let krates = c.args.krates.now in
    let spans = c.in_ok-spans.spans in
    let checked = c.in_ok-checked.ensures.checked in
    let between = g.D.PackageFiles.seen c.synthesize.new.disk in
    let mine = all_for_manifest krates spans.unread c.in_ok-spans.ensures.wanted in
    let none = none_for_manifest between.files (building_of c.args.policy.now.bans)
    (option_copied c.args.extras.now.home) krates c.in_ok-checked.checked.unread checked.packages
    checked.packages_seen in
    subst (λ (us : List Unread). AreWanted krates us)
    (sym (manifests_are spans.unread c.in_ok-checked.checked.unread c.in_ok-unread.unread c.in_ok-unread.ensures mine
    none
    c.in_ok-spans.ensures.seen.missing.ascending))
    c.in_ok-spans.ensures.wanted

pub returns-clause-caused : goal.returns-clause-caused
returns-clause-caused g c = λ folder are.
    let krates = c.args.krates.now in
    let checked = c.in_ok-checked.ensures.checked in
    let old = g.D.PackageFiles.seen c.args.disk.now in
    let between = g.D.PackageFiles.seen c.synthesize.new.disk in
    let new = g.D.PackageFiles.seen c.run_checks.new.disk in
    let mine = all_for_manifest krates c.in_ok-spans.spans.unread c.in_ok-spans.ensures.wanted in
    let none = none_for_manifest between.files (building_of c.args.policy.now.bans)
    (option_copied c.args.extras.now.home) krates c.in_ok-checked.checked.unread checked.packages
    checked.packages_seen in
    caused_by_joined c.in_ok-spans.spans.unread c.in_ok-checked.checked.unread c.in_ok-unread.unread
    c.in_ok-unread.ensures mine none folder old between new c.synthesize.ensures.later c.run_checks.ensures.later
    (c.in_ok-spans.ensures.caused folder) (c.in_ok-checked.ensures.caused folder are)
