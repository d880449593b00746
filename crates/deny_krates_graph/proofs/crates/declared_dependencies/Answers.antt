use Rattle.std.proofs.Common.{◌∙◌}
use Rattle.std.proofs.lemmas.Iterator.{YieldsList-from_zip}
use Rattle.std.proofs.lemmas.Iterator.Adapters.{YieldsList-from_vec}
use Rattle.std.proofs.lemmas.Iterator.Consumers.{YieldsList-end}
use Rattle.deny_krates_graph.proofs.TakenLemmas.{dependencies_are}
use Rattle.deny_krates_graph.proofs.crates.declared_dependencies.Goals as goal

pub returns : goal.returns
returns c =
    let all = YieldsList-end (YieldsList-from_zip (YieldsList-from_vec c.args.declarations (cc) (cc))
    (YieldsList-from_vec c.args.requirements (cc) (cc))) c.loop-declaration.yielded _ c.loop-declaration.yielded_by _
    c.next.new.self c.in-None.is c.next.ensures.steps in
    c.loop-declaration.invariant
    ∙ dependencies_are c.args.declarations c.args.requirements c.loop-declaration.yielded c.requires all.0
