use Rattle.std.proofs.Common.{◌∙◌, ◌+◌, sym}
use Rattle.std.specs.Prelude.{option_map}
use Rattle.deny_spans_manifest.specs.Found.{requirement_read}
use Rattle.deny_spans_workspace.specs.Agreement.{fits}
use Rattle.deny_spans_workspace.proofs.AgreementLemmas.{passed, stopped, wherever}
use Rattle.deny_spans_workspace.proofs.agreement.first_fitting.Goals as goal

pub returns-then-branch : goal.returns-then-branch
returns-then-branch c =
    let requirement = option_map (λ r. requirement_read r.now) c.args.requirement in
    let k = c.index-krates-index.result in
    let place = c.args.start + c.loop-index.index in
    stopped (fits c.args.home.now requirement) c.args.start c.loop-index.index c.args.krates.now k
    c.loop-index-test.true
    c.index-krates-index.is
    (wherever c.args.home.now requirement place 0 k ∙ sym c.in_ok-fits.ensures
    ∙ c.if-branch.true) c.loop-index.invariant

pub loop-index-preserved : goal.loop-index-preserved
loop-index-preserved c =
    let requirement = option_map (λ r. requirement_read r.now) c.args.requirement in
    let k = c.index-krates-index.result in
    let place = c.args.start + c.loop-index.index in
    passed (fits c.args.home.now requirement) c.args.start c.loop-index.index c.args.krates.now k c.loop-index-test.true
    c.index-krates-index.is
    (wherever c.args.home.now requirement place 0 k ∙ sym c.in_ok-fits.ensures
    ∙ c.if-branch.false) c.loop-index.invariant
