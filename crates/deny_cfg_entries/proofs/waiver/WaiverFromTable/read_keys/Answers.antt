use Rattle.deny_cfg_entries.specs.Apart.{waiver-apart}
use Rattle.deny_cfg_entries.specs.Table.{state_of}
use Rattle.deny_cfg_entries.specs.Waivers.{waiver_keys}
use Rattle.deny_cfg_entries.proofs.KeyLaws.{◌▷◌, all_read, read_table_keys}
use Rattle.deny_cfg_entries.proofs.waiver.WaiverFromTable.read_keys.Goals as goal

pub returns-clause-read : goal.returns-clause-read
returns-clause-read c = read_table_keys waiver_keys waiver-apart (state_of c.args.helper.now) (
    (c.in_ok-reason.ensures.next, c.in_ok-reason.ensures.read)
    ▷ (c.in_ok-expires.ensures.next, c.in_ok-expires.ensures.read)
    ▷ all_read)
