use Rattle.std.proofs.Common.{◌≡◌, ◌++◌, ◌∙◌, ℕ, List, [], drop, sym, ap, subst}
use Rattle.std.specs.Ordering.{nat_cmp}
use Rattle.std.proofs.Math.ListN.{drop_of_length-le}
use Rattle.std.proofs.lemmas.List.{append-nil}
use Rattle.deny_base_lists.specs.Ascending.{Lists}
use Rattle.deny_base.specs.declared.edge.Edge.{Edge}
use Rattle.deny_rules_dup_edges.specs.private.EdgeLists.{IsReachedNumber}
use Rattle.deny_rules_dup_edges.proofs.DupSetLemmas.{numbers_from, numbers_listed}
use Rattle.deny_rules_dup_edges.proofs.dup_edges.numbers_of.Goals as goal

pub returns : goal.returns
returns c =
    let distances = c.args.distances.now in
    let edges = c.args.edges.now in
    let number = c.loop-number.number in
    let done : numbers_from distances number (drop number edges) ≡ [] =
    ap (λ (es : List Edge). numbers_from distances number es) (drop_of_length-le edges c.loop-number-test.false) in
    let all : c.loop-number.numbers ≡ numbers_from distances 0 edges =
    sym (append-nil c.loop-number.numbers) ∙ (ap (λ (ns : List ℕ). c.loop-number.numbers ++ ns) (sym done)
    ∙ c.loop-number.invariant) in
    subst (Lists nat_cmp (IsReachedNumber distances edges)) (sym all) (numbers_listed distances edges)
