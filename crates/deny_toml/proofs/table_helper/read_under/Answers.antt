use Rattle.deny_toml_tree.proofs.FaultLaws.{reports_under}
use Rattle.deny_toml.proofs.table_helper.read_under.Goals as goal

pub returns-in_ok-put_under-in-Err-Faults-clause-faults :
    goal.returns-in_ok-put_under-in-Err-Faults-clause-faults
returns-in_ok-put_under-in-Err-Faults-clause-faults g c =
    reports_under c.args.name.now _ _ _ c.in-Err-Faults.field-0 c.in-Err-Faults.ensures.faults
    c.in-Err-Faults.field-0-is c.in_ok-put_under-in-Err-Faults.ensures
