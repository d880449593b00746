use Rattle.std.proofs.Common.{◌∙◌}
use Rattle.deny_spec_report.specs.PackageFiles.{is_decided_by}
use Rattle.deny_diags_build.proofs.FoundLemmas.{some_found}
use Rattle.deny_diags_build.proofs.globs.Deciding.has.Goals as goal

pub returns : goal.returns
unfolding is_decided_by
returns c =
    let self = c.args.self.now in
    c.is_some.ensures
    ∙ some_found self.file.now.globs c.args.glob.now c.at.result (c.at.ensures ∙ self.found.at c.args.glob.now)
