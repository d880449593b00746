use Rattle.std.proofs.Common.{◌≡◌, List, filter, map, ap, ◌∙◌}
use Rattle.std.proofs.lemmas.Result.{IfOk-weaker}
use Rattle.deny_cfg_build.specs.BuildingView.{building_view}
use Rattle.deny_cfg_build.specs.Globs.{extension_text}
use Rattle.deny_cfg_build.specs.declared.pattern.GlobPattern.{GlobPattern}
use Rattle.deny_spec.specs.declared.package.PackageFile.{PackageFile}
use Rattle.deny_spec_report.specs.PackageFiles.{is_decided_by}
use Rattle.deny_spec_report.specs.PackageDiags.{extension_labels}
use Rattle.deny_diags_parts.specs.Context.{circumstances_from}
use Rattle.deny_diags_build.specs.private.Globs.{script_label}
use Rattle.deny_diags_build.proofs.GlobLemmas.{labels_seen, number_of}
use Rattle.deny_diags_build.proofs.globs.extension_labels.Goals as goal

pub returns : goal.returns
returns c =
    let circumstances = circumstances_from c.args.ctx.now in
    let build = c.args.build.now in
    let file = c.args.file.now in
    let number = c.unwrap_or-globs.result in
    let deciding = c.in_ok-deciding.deciding in
    let is = number_of build c.args.ctx.now.cfg.now.build c.globs_file.result number c.requires c.globs_file.ensures
    c.unwrap_or-globs.ensures in
    IfOk-weaker c.labels_of_extensions.result
    (λ labels. labels ≡ map (script_label circumstances.files.policy number)
    (filter (λ pattern. is_decided_by deciding.file.now (extension_text pattern)) c.as_slice-patterns.result.now))
    (λ labels. labels ≡ extension_labels (building_view build) circumstances file)
    (λ labels are. are
    ∙ (ap (λ (f : PackageFile). map (script_label circumstances.files.policy number)
    (filter (λ pattern. is_decided_by f (extension_text pattern)) c.as_slice-patterns.result.now))
    c.in_ok-deciding.ensures
    ∙ (ap (λ (patterns : List GlobPattern). map (script_label circumstances.files.policy number)
    (filter (λ pattern. is_decided_by file (extension_text pattern)) patterns)) c.as_slice-patterns.ensures
    ∙ labels_seen circumstances.files number file is build.script_extensions.patterns))) c.labels_of_extensions.ensures
