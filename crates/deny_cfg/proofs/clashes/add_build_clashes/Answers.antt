use Rattle.deny_cfg.proofs.ClashLaws.{adds_wrong, on_ok_more}
use Rattle.deny_cfg.proofs.clashes.add_build_clashes.Goals as goal

pub returns-in_ok-wrong_in-in-Some : goal.returns-in_ok-wrong_in-in-Some
returns-in_ok-wrong_in-in-Some c =
    on_ok_more c.put_faults.result _ _
    (adds_wrong c.args.source.now c.args.build.now c.in-Some.build c.in_ok-wrong_in-in-Some.field-0
    c.as_slice-in-Some.result.now c.args.clashes.now c.put_faults.new.clashes c.in-Some.is
    c.in_ok-wrong_in-in-Some.ensures c.as_slice-in-Some.ensures)
    c.put_faults.ensures
