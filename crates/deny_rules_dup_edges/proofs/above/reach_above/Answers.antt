use Rattle.std.proofs.Common.{◌≡◌, ◌∙◌, ◌<◌, ℕ, List, Result, Ok, Err, IfOk, OnOk, length, filter, sym, ap, subst}
use Rattle.std.specs.Prelude.{All, nat_lt}
use Rattle.deny_base_lists.specs.Walk as walk
use Rattle.deny_krates.specs.Steps.{HasEdgeFrom}
use Rattle.deny_krates.proofs.PlaceLemmas.{length_of}
use Rattle.deny_rules_dup_edges.specs.private.Above.{AreAbove}
use Rattle.deny_rules_dup_edges.proofs.AboveLemmas.{are_above}
use Rattle.deny_rules_dup_edges.proofs.above.reach_above.Goals as goal

pub uncounted-requires-clause-targets : goal.uncounted-requires-clause-targets
uncounted-requires-clause-targets c =
    let g = c.args.krates.now in
    let long : length c.krates.result.now ≡ length g.crates =
    sym (length_of c.krates.result.now g.crates c.krates.ensures.crates) in
    subst (λ (xs : List ℕ). All (λ place. place < length g.crates) xs) (sym c.as_slice.ensures)
    (subst (λ (n : ℕ). All (λ place. place < n) c.in_ok-known.known) long c.in_ok-known.ensures.below)

if_ok : {T E : Type 0} (P : Type 0) (Q R : T → Type 0) (r : Result T E) → OnOk r P → IfOk r Q
    → (P → (x : T) → Q x → R x) → IfOk r R
if_ok P Q R (Ok x) is of more = more is x of
if_ok P Q R (Err e) is of more = tt

pub returns : goal.returns
returns c =
    let g = c.args.krates.now in
    let places = c.args.places.now in
    let known = c.in_ok-known.known in
    let ds = c.uncounted.new.distances in
    let long : length c.krates.result.now ≡ length g.crates =
    sym (length_of c.krates.result.now g.crates c.krates.ensures.crates) in
    let are = c.in_ok-known.ensures.are ∙ ap (λ (n : ℕ). filter (λ place. nat_lt place n) places) long in
    if_ok (walk.AreDistances (HasEdgeFrom g) (length g.crates) c.as_slice.result.now ds) (walk.AreThose ds)
    (AreAbove g places ds) c.uncounted.result c.uncounted.ensures.least c.uncounted.ensures.those
    (λ least reached those. are_above g places known c.krates.ensures.orderly are ds reached
    (subst (λ (xs : List ℕ). walk.AreDistances (HasEdgeFrom g) (length g.crates) xs ds) c.as_slice.ensures least) those)
