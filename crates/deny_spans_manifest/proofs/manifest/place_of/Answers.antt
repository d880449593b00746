use Rattle.deny_spans_manifest.proofs.ManifestLemmas.{place_found}
use Rattle.deny_spans_manifest.proofs.manifest.place_of.Goals as goal

pub returns-clause-none : goal.returns-clause-none
returns-clause-none c = (place_found c.args.krates.now c.args.krate.now c.krates-krates.result.now c.nid_for_kid.result
    c.krates-krates.ensures.crates c.requires c.nid_for_kid.ensures).none

pub returns-clause-some : goal.returns-clause-some
returns-clause-some c = (place_found c.args.krates.now c.args.krate.now c.krates-krates.result.now c.nid_for_kid.result
    c.krates-krates.ensures.crates c.requires c.nid_for_kid.ensures).some

pub returns-clause-at_place : goal.returns-clause-at_place
returns-clause-at_place c = (place_found c.args.krates.now c.args.krate.now c.krates-krates.result.now
    c.nid_for_kid.result
    c.krates-krates.ensures.crates c.requires c.nid_for_kid.ensures).at_place
