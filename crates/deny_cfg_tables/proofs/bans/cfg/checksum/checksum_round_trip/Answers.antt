use Rattle.deny_cfg_tables.proofs.ChecksumLaws.{round_trip}
use Rattle.deny_cfg_tables.proofs.bans.cfg.checksum.checksum_round_trip.Goals as goal

pub returns : goal.returns
returns c = round_trip
