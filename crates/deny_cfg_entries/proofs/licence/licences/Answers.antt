use Rattle.deny_cfg_entries.specs.Table.{state_of}
use Rattle.deny_cfg_entries.proofs.LicenceLaws.{read_there}
use Rattle.deny_cfg_entries.proofs.licence.licences.Goals as goal

pub returns-clause-read : goal.returns-clause-read
returns-clause-read c =
    read_there _ (state_of c.args.helper.now) c.in_ok-licences.field-0 c.in-Some.licences
    c.in_ok-requirements.requirements c.in-Some.is c.in_ok-requirements.ensures c.in_ok-licences.ensures.read
