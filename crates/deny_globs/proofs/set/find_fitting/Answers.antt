use Rattle.deny_globs.proofs.SetLemmas.{fitting_of}
use Rattle.deny_globs.proofs.set.find_fitting.Goals as goal

pub returns-clause-ok : goal.returns-clause-ok
returns-clause-ok g c = fitting_of c.requires c.in_ok-extend_from_slice.ensures.items c.as_slice.ensures
    c.new-fitting.ensures
    c.in_ok-note_fitting.ensures.ok c.in_ok-put_in_order.ensures.ok
