use Rattle.std.proofs.Common.{◌∷◌, arith, rules}
use Rattle.deny_base_lists.proofs.Orders.{text_cmp-exact}
use Rattle.deny_base_unread.proofs.AddedLemmas.{longer_is}
use Rattle.deny_build_walk.proofs.CrowdedLemmas.{walked_past}
use Rattle.deny_build_walk.proofs.WalkedLemmas.{none_pending, walk_ended}
use Rattle.deny_build_walk.proofs.WalkedLemmas.{walked_caused, walked_files, walked_lists, walked_ordered}
use Rattle.deny_build_walk.proofs.WalkedLemmas.{walked_few, walked_once, walked_wanted}
use Rattle.deny_build_walk.proofs.WalkingLemmas.{noted_none, walking_start}
use Rattle.deny_build_walk.specs.private.Walking.{Walking}
use Rattle.deny_build_walk.proofs.walk.walk_package.Goals as goal

pub loop-folder-init : goal.loop-folder-init
loop-folder-init g c =
    let a = c.args in
    let begun = c.in_ok-walk.ensures in
    let walk = c.in_ok-walk.walk in record {
      walking = walking_start a.krate.now a.root.now a.by_git (g.D.PackageFiles.seen a.disk.now) a.unread.now
          walk.pending.keys walk.files walk.count begun.pending begun.files begun.count;
      noted = noted_none a.krate.now a.root.now a.by_git (g.D.PackageFiles.seen a.disk.now) a.unread.now walk.unlisted
          begun.unlisted;
      few = omega (arith, begun.count);
    }

pub loop-folder-preserved : goal.loop-folder-preserved
loop-folder-preserved g c =
    let a = c.args in
    let seen = g.D.PackageFiles.seen in
    let before = c.loop-folder.invariant in
    let walking : Walking a.krate.now a.root.now a.by_git (seen a.disk.now) a.unread.now (seen c.loop-folder.disk)
    c.loop-folder.unread (c.as_str.result.now ∷ c.pop_first.new.self.keys) c.loop-folder.walk.files
    c.loop-folder.walk.count = search rules in
    record {
      walking = c.in_ok-visit.ensures.walking (seen a.disk.now) a.unread.now walking;
      noted = c.in_ok-visit.ensures.noted (seen a.disk.now) a.unread.now walking before.noted;
      few = c.in_ok-visit.ensures.count;
    }

pub put_in_order-requires : goal.put_in_order-requires
put_in_order-requires g c = text_cmp-exact

-- nothing is pending, and what was found is complete
pub returns : goal.returns
returns g c =
    let a = c.args in
    let l = c.loop-folder in
    let start = g.D.PackageFiles.seen a.disk.now in
    let now = g.D.PackageFiles.seen l.disk in
    let none = none_pending l.walk.pending.keys (λ some. c.in_default.ensures.variant.1 some) in
    let walk = walk_ended a.krate.now a.root.now a.by_git start a.unread.now now l.unread l.walk.pending.keys
    l.walk.files l.walk.count none l.invariant.walking in
    let inner = l.walk.files in
    let all = c.in_ok-put_in_order.ensures.ok in
    record {
      files = walked_files a.krate.now a.root.now a.by_git start a.unread.now now l.unread inner l.walk.count walk
          c.put_in_order.new.list all;
      ascending = all.ascending;
      unlisted = l.invariant.noted.paths;
      why = l.invariant.noted.causes;
      lists = walked_lists a.krate.now a.root.now a.by_git start a.unread.now now l.unread inner l.walk.count walk;
      ordered = walked_ordered a.krate.now a.root.now a.by_git start a.unread.now now l.unread inner l.walk.count walk;
      longer = longer_is a.unread.now walk.own l.unread walk.longer;
      caused = walked_caused a.krate.now a.root.now a.by_git start a.unread.now now l.unread inner l.walk.count walk;
      wanted = walked_wanted a.krate.now a.root.now a.by_git start a.unread.now now l.unread inner l.walk.count walk;
      faults = l.invariant.noted.faults;
      once = walked_once a.krate.now a.root.now a.by_git start a.unread.now now l.unread inner l.walk.count walk
          l.invariant.few;
      few = walked_few a.krate.now a.root.now a.by_git start a.unread.now now l.unread inner l.walk.count walk
          l.invariant.few c.put_in_order.new.list all;
      past = walked_past a.krate.now a.root.now a.by_git start a.unread.now now l.unread l.walk.unlisted
          l.invariant.noted;
      below = λ path there. walk.below path (all.sound path there);
      later = walk.later;
    }
