use Rattle.std.proofs.Common.{[]}
use Rattle.std.specs.Prelude.{Contains}
use Rattle.deny_base_lists.proofs.Adding.{adds_list, adds_then}
use Rattle.deny_cfg_build.specs.Build.{listed}
use Rattle.deny_cfg_build.specs.Wrong.{IsGlobFault, IsOfAny, faults_by_text}
use Rattle.deny_cfg_build.proofs.WrongLaws.{of_same}
use Rattle.deny_cfg_build.proofs.wrong.wrong_in.Goals as goal

pub returns : goal.returns
returns c =
    let build = c.args.build.now in
    adds_then (Contains (faults_by_text c.args.source.now build)) (IsOfAny IsGlobFault (listed build.bypass)) []
    c.in_ok-faults.faults c.put_bypass_faults.new.faults
    (adds_list [] c.in_ok-faults.faults (faults_by_text c.args.source.now build) c.in_ok-faults.ensures)
    (of_same IsGlobFault c.listed.ensures c.in_ok-put_bypass_faults.ensures)
