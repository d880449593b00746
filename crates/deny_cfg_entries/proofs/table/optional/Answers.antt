use Rattle.deny_cfg_entries.specs.Table.{state_of}
use Rattle.deny_cfg_entries.proofs.TableLaws.{read_result}
use Rattle.deny_cfg_entries.proofs.table.optional.Goals as goal

pub returns-clause-read : goal.returns-clause-read
returns-clause-read g c =
    read_result g.T.Deserialize.faults_of g.T.Deserialize.reads c.name.result.now c.optional.result c.args.key
    (state_of c.args.helper.now) c.name.ensures c.optional.ensures.ok
