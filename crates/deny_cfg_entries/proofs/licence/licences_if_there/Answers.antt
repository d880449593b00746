use Rattle.deny_cfg_entries.specs.Table.{state_of}
use Rattle.deny_cfg_entries.proofs.LicenceLaws.{read_if_there}
use Rattle.deny_cfg_entries.proofs.licence.licences_if_there.Goals as goal

pub returns-clause-read : goal.returns-clause-read
returns-clause-read c =
    read_if_there _ (state_of c.args.helper.now) c.in_ok-licences.licences c.in_ok-requirements.requirements
    c.in_ok-requirements.ensures c.in_ok-licences.ensures.read
