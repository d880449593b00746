use Rattle.std.proofs.Common.{◌≡◌, ◌++◌, ◌<◌, List, length, sym, ap, ◌∙◌, subst}
use Rattle.std.specs.Prelude.{All}
use Rattle.std.proofs.lemmas.List.Elements.{All-rest}
use Rattle.deny_cfg.specs.PolicyView.{sharing_view}
use Rattle.deny_spec_report.specs.Sharing.{Use}
use Rattle.deny_spans_manifest.specs.Manifest.{deps_in, deps_left, ignored_by, without}
use Rattle.deny_spans_manifest.specs.declared.declarations.ManifestDep.{ManifestDep}
use Rattle.deny_rules_manifests.specs.private.Rows.{counted_in}
use Rattle.deny_rules_manifests.proofs.RowLemmas.{all_put, one_more}
use Rattle.deny_rules_manifests.proofs.UseLemmas.{counted_are, left_inside}
use Rattle.deny_rules_manifests.proofs.uses.put_manifest_uses.Goals as goal

pub loop-dep-init : goal.loop-dep-init
loop-dep-init c =
    let m = c.args.manifest.now in
    let s = sharing_view c.args.sharing.now in
    let left : deps_left c.into_iter-dep-iterator.result ≡ without (ignored_by m) (deps_in m) =
    ap deps_left c.into_iter-dep-iterator.ensures.into_iter_gives ∙ c.deps-dep-items.ensures in
    record {
      inside = subst (All (λ (d : ManifestDep). d.place < length c.args.rows.now.items)) (sym left)
          (left_inside (ignored_by m) (length c.args.rows.now.items) (deps_in m) c.requires);
      put = λ uses crates are. record {
        done = uses;
        split = ap (λ (us : List Use). uses ++ us) (ap (counted_in m.id s) left ∙ counted_are s m);
        are = are;
      };
    }

pub loop-dep-preserved : goal.loop-dep-preserved
loop-dep-preserved c =
    let before = c.loop-dep.invariant in
    let left = deps_left c.loop-dep.dep-iterator in
    let rest = deps_left c.next.new.self in
    let long = c.in_ok-put_counted.ensures.long in
    record {
      inside = subst (λ size. All (λ (d : ManifestDep). d.place < size) rest) (sym long)
          (All-rest (λ (d : ManifestDep). d.place < length c.loop-dep.rows.items) c.in-Some.dep.now rest left
          c.in-Some.ensures.steps before.inside);
      put = λ uses crates are. one_more c.args.manifest.now.id (sharing_view c.args.sharing.now) c.in-Some.dep.now
          rest left
          crates _ c.loop-dep.rows.items c.put_counted.new.rows.items c.in-Some.ensures.steps
          (before.put uses crates are)
          (λ us held. c.in_ok-put_counted.ensures.put us crates held);
    }

pub returns : goal.returns
returns c = λ uses crates are.
    all_put c.args.manifest.now.id (sharing_view c.args.sharing.now) (deps_left c.loop-dep.dep-iterator) crates _
    c.loop-dep.rows.items c.in-None.ensures.steps.0 (c.loop-dep.invariant.put uses crates are)
