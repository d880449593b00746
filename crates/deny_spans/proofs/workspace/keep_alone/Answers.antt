use Rattle.deny_base_lists.proofs.Results.{on_err_always}
use Rattle.deny_spans.proofs.BegunLemmas.{have_text}
use Rattle.deny_spans.proofs.KeepLemmas.{alone_is, alone_none}
use Rattle.deny_spans.proofs.workspace.keep_alone.Goals as goal

pub returns-in_ok-deps-in-Ok-clause-kept : goal.returns-in_ok-deps-in-Ok-clause-kept
returns-in_ok-deps-in-Ok-clause-kept c =
    let text = c.in-Ok.ensures.cases in
    alone_is c.args.krates.now c.args.registries.now c.args.path.now c.args.bytes.now c.args.files.now
    c.in-Ok.text.now c.add.new.self c.in_ok-id-in-Ok.id c.in_ok-deps-in-Ok.deps text.1 text.0
    c.in_ok-id-in-Ok.ensures.id c.in_ok-id-in-Ok.ensures.ok c.in_ok-deps-in-Ok.ensures

pub returns-in-Err-clause-kept : goal.returns-in-Err-clause-kept
returns-in-Err-clause-kept c =
    alone_none c.args.krates.now c.args.registries.now c.args.path.now c.args.bytes.now c.args.files.now
    c.in-Err.ensures.cases.0

pub returns-in_err-deps-in-Ok-clause-begun : goal.returns-in_err-deps-in-Ok-clause-begun
returns-in_err-deps-in-Ok-clause-begun c =
    let text = c.in-Ok.ensures.cases in
    on_err_always c.from_residual-in_err-deps-in-Ok.result
    (have_text c.args.path.now c.args.bytes.now c.in-Ok.text.now c.args.files.now c.add.new.self text.1 text.0
    c.in_ok-id-in-Ok.ensures.ok)
