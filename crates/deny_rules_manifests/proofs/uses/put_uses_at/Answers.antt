use Rattle.std.proofs.Common.{◌++◌, List, length, subst, sym, ap, ◌∙◌, append-nil}
use Rattle.std.proofs.lemmas.Result.{on_ok_weaker}
use Rattle.deny_cfg.specs.PolicyView.{sharing_view}
use Rattle.deny_spec_report.specs.Sharing.{Use}
use Rattle.deny_spans_manifest.specs.Manifest.{deps_in}
use Rattle.deny_spans.specs.SpansView.{spans_view}
use Rattle.deny_rules_manifests.specs.private.Rows.{AreRowsOf}
use Rattle.deny_rules_manifests.proofs.UseLemmas.{member_uses, no_uses, of_graph}
use Rattle.deny_rules_manifests.proofs.uses.put_uses_at.Goals as goal

pub put_manifest_uses-requires : goal.put_manifest_uses-requires
put_manifest_uses-requires c =
    let g = c.args.krates.now in
    of_graph g (length c.args.rows.now.items) (deps_in c.in-Some.manifest.now) c.requires.long
    (c.in-Some.ensures.of g c.requires.spans).krates

pub returns-in-Some : goal.returns-in-Some
returns-in-Some c =
    let g = c.args.krates.now in
    let s = sharing_view c.args.sharing.now in
    let view = spans_view c.args.spans.now in
    let crates = length g.crates in
    let is = member_uses s g view c.args.member c.in-Some.manifest.now (c.in-Some.ensures.of g c.requires.spans).crate
    c.in-Some.ensures.is in
    on_ok_weaker c.put_manifest_uses.result
    (λ puts uses are. subst (λ (us : List Use). AreRowsOf crates (uses ++ us) c.put_manifest_uses.new.rows.items)
    (sym is) (puts uses crates are)) c.put_manifest_uses.ensures

pub returns-in-None : goal.returns-in-None
returns-in-None c =
    let g = c.args.krates.now in
    let s = sharing_view c.args.sharing.now in
    let view = spans_view c.args.spans.now in
    let none = no_uses s g view c.args.member c.are_placed.ensures c.in-None.ensures.is in
    λ uses are. subst (λ (us : List Use). AreRowsOf (length g.crates) us c.args.rows.now.items)
    (sym (append-nil uses) ∙ ap (λ (us : List Use). uses ++ us) (sym none)) are
