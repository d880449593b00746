use Rattle.std.proofs.Common.{◌≡◌, ℕ, Option, List, Some, ap, subst, sym}
use Rattle.std.specs.Prelude.{◌↔◌, Contains, IfOk, map, slice_get}
use Rattle.std.specs.Option.{option_copied}
use Rattle.deny_krates.specs.Nodes.{sources_at}
use Rattle.deny_krates.specs.private.Sources.{parent_of}
use Rattle.deny_krates.specs.declared.incoming.Parent.{Parent}
use Rattle.deny_krates.proofs.nodes.parents_of.Goals as goal
use Rattle.deny_spec.specs.Graph.{Crate, Graph}

-- the clause of the call, for a graph
abbrev Answers : Graph → ℕ → Option (List ℕ) → List Parent → Type 0
Answers g place feature parents = (c : Crate) → slice_get g.crates place ≡ Some c → (p : Parent)
    → Contains parents p ↔ Contains (map (parent_of g) (sources_at g feature c)) p

pub returns-in-Some : goal.returns-in-Some
returns-in-Some c =
    subst (λ (f : Option (List ℕ)). IfOk c.parents_of_feature.result (Answers c.args.krates.now c.args.place f))
    (sym (ap option_copied c.in-Some.is)) c.parents_of_feature.ensures

pub returns-in-None : goal.returns-in-None
returns-in-None c =
    subst (λ (f : Option (List ℕ)). IfOk c.parents_of_crate.result (Answers c.args.krates.now c.args.place f))
    (sym (ap option_copied c.in-None.is)) c.parents_of_crate.ensures
