use Rattle.deny_spans.proofs.IdLemmas.{own_is}
use Rattle.deny_spans.proofs.KeepLemmas.{has_node, manifest_is, no_manifest}
use Rattle.deny_spans.proofs.gathered.parsed_manifest.Goals as goal
use Rattle.std.proofs.Common.{Err}

pub parse-requires-clause-own : goal.parse-requires-clause-own
parse-requires-clause-own c =
    own_is c.args.krates.now c.args.place c.args.krate.now c.krates-krates.ensures.orderly.ids c.requires.at_place

pub returns-in-Ok : goal.returns-in-Ok
returns-in-Ok c =
    manifest_is c.args.krates.now c.args.place c.args.krate.now c.krates-krates.ensures.orderly.ids c.requires.at_place
    c.args.text.now c.args.number c.in-Ok.manifest c.numbered.result c.utf8.text c.in-Ok.ensures.manifest
    c.in-Ok.ensures.krate c.numbered.ensures.id c.numbered.ensures.krate c.numbered.ensures.deps
    c.numbered.ensures.ignored

pub returns-in-Err-Toml : goal.returns-in-Err-Toml
returns-in-Err-Toml c =
    no_manifest c.args.krates.now c.args.place c.args.krate.now c.krates-krates.ensures.orderly.ids c.requires.at_place
    c.args.text.now c.args.number (c.in-Err-Toml.ensures.toml (λ i. Err (c.in-Err-Toml.field-0-is i)))

pub returns-in-Err-NoNode : goal.returns-in-Err-NoNode
returns-in-Err-NoNode c = absurd
    (has_node c.args.krates.now c.args.place c.args.krate.now c.krates-krates.ensures.orderly.ids c.requires.at_place
    c.args.text.now (c.in-Err-NoNode.ensures.no_node (λ i. Err (c.in-Err-NoNode.field-0-is i))))
