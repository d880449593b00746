use Rattle.std.proofs.Common.{◌∙◌, ◌++◌, ◌∷◌, [], ap}
use Rattle.deny_krates.specs.Crates.{crate_view}
use Rattle.deny_spans.proofs.ManifestScanLemmas.{file_of}
use Rattle.deny_base_lists.proofs.Results.{on_err_always}
use Rattle.deny_spans.proofs.BegunLemmas.{have_text}
use Rattle.deny_spans.proofs.KeepLemmas.{kept_is, kept_none}
use Rattle.deny_spans.proofs.gathered.keep.Goals as goal

pub returns-in_ok-manifest-in-Ok-clause-kept : goal.returns-in_ok-manifest-in-Ok-clause-kept
returns-in_ok-manifest-in-Ok-clause-kept c =
    let text = c.in-Ok.ensures.cases in
    kept_is c.args.krates.now (crate_view c.args.place c.args.krate.now) c.args.bytes.now c.args.files.now
    c.in-Ok.text.now c.add.new.self c.in_ok-number-in-Ok.number c.in_ok-manifest-in-Ok.manifest text.1 text.0
    c.in_ok-number-in-Ok.ensures.id
    (c.in_ok-number-in-Ok.ensures.ok
    ∙ ap (λ path. c.args.files.now ++ file_of path c.in-Ok.text.now ∷ []) c.as_str.ensures)
    c.in_ok-manifest-in-Ok.ensures

pub returns-in-Err-clause-kept : goal.returns-in-Err-clause-kept
returns-in-Err-clause-kept c =
    kept_none c.args.krates.now (crate_view c.args.place c.args.krate.now) c.args.bytes.now c.args.files.now
    c.in-Err.ensures.cases.0

pub returns-in_err-manifest-in-Ok-clause-begun : goal.returns-in_err-manifest-in-Ok-clause-begun
returns-in_err-manifest-in-Ok-clause-begun c =
    let text = c.in-Ok.ensures.cases in
    on_err_always c.from_residual-in_err-manifest-in-Ok.result
    (have_text c.args.krate.now.manifest_path c.args.bytes.now c.in-Ok.text.now c.args.files.now c.add.new.self text.1
    text.0 (c.in_ok-number-in-Ok.ensures.ok
    ∙ ap (λ path. c.args.files.now ++ file_of path c.in-Ok.text.now ∷ []) c.as_str.ensures))
