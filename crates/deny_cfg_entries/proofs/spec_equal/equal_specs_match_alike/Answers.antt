use Rattle.deny_cfg_entries.proofs.SpecLaws.{equal_match}
use Rattle.deny_cfg_entries.proofs.spec_equal.equal_specs_match_alike.Goals as goal

pub returns : goal.returns
returns c = equal_match
