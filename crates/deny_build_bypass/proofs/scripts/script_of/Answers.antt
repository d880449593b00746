use Rattle.std.proofs.Common.{◌∙◌, ap}
use Rattle.std.specs.Prelude.{find}
use Rattle.deny_spec_report.specs.BuildScripts.{is_script}
use Rattle.deny_krates.specs.Crates.{target_view}
use Rattle.deny_build_bypass.proofs.ViewLemmas.{script_viewed}
use Rattle.deny_build_bypass.proofs.scripts.script_of.Goals as goal

pub returns : goal.returns
returns c = λ place. script_viewed place c.args.krate.now c.first_script.result
    (c.first_script.ensures ∙ ap (find (λ t. is_script (target_view t))) c.as_slice.ensures)
