use Rattle.deny_spdx.proofs.RunLemmas.{close_step_is}
use Rattle.deny_spdx.proofs.reader.Reader.take_close.Goals as goal

pub returns : goal.returns
returns c =
    close_step_is c.args.self c.requirements.inside.vec.items c.outer.inside.vec.items c.pop.new.self.items
    c.in-Some.enclosing c.in_ok-into_alternatives.field-0 c.any_of-group.result c.in_ok-with_part.field-0
    c.in-Operator.is c.requirements.view_is c.outer.view_is c.in-Some.ensures.items c.in_ok-into_alternatives.ensures
    c.any_of-group.ensures c.in_ok-with_part.ensures
