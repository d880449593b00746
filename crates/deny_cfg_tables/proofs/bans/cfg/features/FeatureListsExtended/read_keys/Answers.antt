use Rattle.deny_cfg_entries.specs.Table.{state_of}
use Rattle.deny_cfg_entries.proofs.KeyLaws.{◌▷◌, all_read, read_table_keys}
use Rattle.deny_cfg_tables.specs.Apart.{feature-apart}
use Rattle.deny_cfg_tables.specs.Features.{feature_keys}
use Rattle.deny_cfg_tables.proofs.bans.cfg.features.FeatureListsExtended.read_keys.Goals as goal

pub returns-clause-read : goal.returns-clause-read
returns-clause-read c = read_table_keys feature_keys feature-apart (state_of c.args.helper.now) (
    (c.in_ok-allow.ensures.next, c.in_ok-allow.ensures.read)
    ▷ (c.in_ok-deny.ensures.next, c.in_ok-deny.ensures.read)
    ▷ (c.in_ok-exact.ensures.next, c.in_ok-exact.ensures.read)
    ▷ (c.in_ok-reason.ensures.next, c.in_ok-reason.ensures.read)
    ▷ all_read)
