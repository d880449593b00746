use Rattle.std.proofs.Common.{[], ap, cond, sym, ◌∙◌}
use Rattle.deny_spans_manifest.proofs.ManifestLemmas.{deps_by}
use Rattle.deny_spans_manifest.proofs.manifest.Manifest.deps.Goals as goal
use Rattle.deny_spans_manifest.proofs.manifest.Manifest.deps.Goals.{else-filter, then-filter}

pub returns : goal.returns
returns c =
    let ignored = c.args.self.now.ignored in
    deps_by c.args.filter ignored c.if-filter.result.now c.as_slice.result.now c.args.self.now.deps c.as_slice.ensures
    (elim c.if-filter.branch [
      | then-filter w ↦ ap (λ r. r.now) w.result-is ∙ (w.as_slice-then-filter.ensures
          ∙ ap (λ b. cond b ignored []) (sym w.if-filter.true))
      | else-filter w ↦ ap (λ r. r.now) w.result-is ∙ ap (λ b. cond b ignored []) (sym w.if-filter.false)
    ])
