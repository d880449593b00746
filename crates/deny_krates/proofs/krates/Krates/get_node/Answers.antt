use Rattle.std.proofs.Common.{◌≡◌, None, Some, Option, subst}
use Rattle.std.specs.Prelude.{IfNone, IfSome, slice_get}
use Rattle.deny_krates.specs.Nodes.{Node, nodes_of}
use Rattle.std.specs.Option.{option_copied}
use Rattle.deny_krates.proofs.NodeLemmas.{named_here, not_named, placed}
use Rattle.deny_krates.proofs.NumberLemmas.{nodes_apart}
use Rattle.deny_krates.proofs.krates.Krates.get_node.Goals as goal

if_none : {A : Type 0} (P : Type 0) (r : Option A) → P → IfNone r P
if_none P None holds = holds
if_none P (Some x) holds = tt

pub returns-in_err-place-clause-none : goal.returns-in_err-place-clause-none
returns-in_err-place-clause-none c = if_none _ c.from_residual.result
    (not_named c.args.self.now c.args.kid.now.0 (option_copied c.args.feature) c.in_err-place.ensures)

pub returns-in_err-place-clause-own : goal.returns-in_err-place-clause-own
returns-in_err-place-clause-own c =
    nodes_apart c.args.self.now (placed c.krates-orderly.result.now c.args.self.now c.krates-orderly.ensures.crates)
    c.krates-orderly.ensures.orderly.enabled

pub node_of-requires : goal.node_of-requires
node_of-requires c =
    (named_here c.args.self.now c.in_ok-place.place c.args.kid.now.0 (option_copied c.args.feature)
    (placed c.krates-orderly.result.now c.args.self.now c.krates-orderly.ensures.crates) c.in_ok-place.ensures).1

pub returns-clause-found : goal.returns-clause-found
returns-clause-found c =
    let g = c.args.self.now in
    subst (λ (o : Option Node). IfSome c.node_of.result (λ node. slice_get (nodes_of g) node.0 ≡ o))
    (named_here g c.in_ok-place.place c.args.kid.now.0 (option_copied c.args.feature)
    (placed c.krates-orderly.result.now g c.krates-orderly.ensures.crates) c.in_ok-place.ensures).0
    c.node_of.ensures.found

pub returns-clause-none : goal.returns-clause-none
returns-clause-none c =
    let g = c.args.self.now in
    subst (λ (o : Option Node). IfNone c.node_of.result (o ≡ None))
    (named_here g c.in_ok-place.place c.args.kid.now.0 (option_copied c.args.feature)
    (placed c.krates-orderly.result.now g c.krates-orderly.ensures.crates) c.in_ok-place.ensures).0
    c.node_of.ensures.none

pub returns-clause-own : goal.returns-clause-own
returns-clause-own c =
    nodes_apart c.args.self.now (placed c.krates-orderly.result.now c.args.self.now c.krates-orderly.ensures.crates)
    c.krates-orderly.ensures.orderly.enabled
