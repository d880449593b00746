use Rattle.deny_toml_tree.proofs.SlotsLaws.{occupant_at-put}
use Rattle.deny_toml_tree.proofs.clash.Slots.put.Goals as goal

pub returns-clause-each : goal.returns-clause-each
returns-clause-each c =
    occupant_at-put c.args.self.now.occupants c.insert.new.self c.args.self.now.segments c.args.self.now.segments
    c.args.slot c.args.occupant c.in_ok-insert.ensures.updates.0
