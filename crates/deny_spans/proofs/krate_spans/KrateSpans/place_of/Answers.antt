use Rattle.deny_spans.proofs.IdLemmas.{place_is}
use Rattle.deny_spans.proofs.krate_spans.KrateSpans.place_of.Goals as goal

pub returns : goal.returns
returns c = λ g are. place_is c.args.self.now.krates.now g c.krates-krates.result.now c.args.kid.now.0
    c.nid_for_kid.result are.graph c.krates-krates.ensures.crates c.nid_for_kid.ensures
