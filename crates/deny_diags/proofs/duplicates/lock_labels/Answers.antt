use Rattle.std.proofs.Common.{◌≡◌, ◌∙◌}
use Rattle.std.proofs.lemmas.Result.{IfOk-weaker}
use Rattle.deny_spec_report.specs.Duplicates.{lock_label, lock_labels}
use Rattle.deny_spec.specs.DiagParts.{crate_at}
use Rattle.deny_diags.proofs.LockLemmas.{lines_reported, no_lines}
use Rattle.deny_diags.proofs.duplicates.lock_labels.Goals as goal

pub returns-in_default : goal.returns-in_default
returns-in_default c =
    let writer = c.args.writer.now in
    c.new.ensures
    ∙ no_lines writer.ctx.krates.now writer.ctx.spans.now.lock_id c.args.places.now c.in_default.ensures.value

pub returns : goal.returns
returns c =
    let g = c.args.writer.now.ctx.krates.now in
    let lock = c.args.writer.now.ctx.spans.now.lock_id in
    let first = c.in-Some.first.now in
    let last = c.in-Some-last.last.now in
    IfOk-weaker c.lock_label.result
    (λ labels. labels ≡ lock_label g lock (crate_at g first) (crate_at g last))
    (λ labels. labels ≡ lock_labels g lock c.args.places.now)
    (λ labels is. is ∙ lines_reported g lock c.args.places.now first last c.in-Some.ensures.value
    c.in-Some-last.ensures.value) c.lock_label.ensures
