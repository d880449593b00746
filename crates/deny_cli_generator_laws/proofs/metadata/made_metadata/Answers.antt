use Rattle.deny_cli_generator_laws.proofs.MetadataFaultLemmas.{metadata-no_fault}
use Rattle.deny_cli_generator_laws.proofs.metadata.made_metadata.Goals as goal

pub returns : goal.returns
returns c = metadata-no_fault
