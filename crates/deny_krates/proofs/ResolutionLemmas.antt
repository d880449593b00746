-- How a declaration is resolved: the edges of a parent to crates of a name, and the first of them that suits it.
use Rattle.std.proofs.Common.{◌≡◌, ◌<◌, ◌≤◌, ◌+◌, ◌∙◌, ℕ, zero, suc, inl, inr, List, [], ◌∷◌, Bool, true, false, Option}
use Rattle.std.proofs.Common.{Some, None, map, refl, sym, ap, arith, add-zero}
use Rattle.std.specs.Prelude.{◌==◌, ◌&&◌, cond, filter, find, not, option_copied, option_map, slice_get}
use Rattle.std.specs.Borrow.{Bor}
use Rattle.std.specs.Option.{option_and_then, option_eq, option_or}
use Rattle.std.proofs.lemmas.Bool.{and_from, and_parts, eq-eqb, eqb-true, false_from_ne_true, not_from_false}
use Rattle.std.proofs.lemmas.Option.{slice_get-map}
use Rattle.deny_base_lists.proofs.Booleans.{tests_agree}
use Rattle.deny_base_lists.proofs.Filters.{find-filter, find-map, first-filter}
use Rattle.deny_spec.specs.Graph.{Crate, Dependency, Graph}
use Rattle.deny_spec.specs.Groups.{has_name}
use Rattle.deny_spec.specs.Resolution.{agreeing, is_wanted, passes_at, resolution, suits}
use Rattle.deny_spec.specs.Text.{same_text}
use Rattle.deny_spec.specs.declared.target_edge.TargetEdge.{TargetEdge}
use Rattle.deny_krates_graph.specs.Crates.{crate_view, crates_from, dependency_view}
use Rattle.deny_krates.specs.private.Resolved.{is_before}
use Rattle.deny_krates.proofs.BeforeLemmas.{from_before, to_before}
use Rattle.deny_krates_graph.specs.declared.krate.Dependency.{Dependency as Declared}
use Rattle.deny_krates_graph.specs.declared.krate.Krate.{Krate}

-- ---- the first of a parent's edges

resolves : (crates : List Crate) (d : Dependency) (own : List TargetEdge)
    → option_or (find (is_wanted crates d) (map (λ (e : TargetEdge). e.child) (filter (suits crates d) own)))
    (slice_get (map (λ (e : TargetEdge). e.child) (filter (suits crates d) own)) 0)
    ≡ option_or (option_map (λ (e : TargetEdge). e.child)
    (find (λ (e : TargetEdge). is_wanted crates d e.child && suits crates d e) own))
    (option_map (λ (e : TargetEdge). e.child) (find (suits crates d) own))
resolves crates d own =
    let child : TargetEdge → ℕ = λ e. e.child in
    let wanted = find-map (is_wanted crates d) child (filter (suits crates d) own)
    ∙ ap (λ o. option_map child o)
    (find-filter (λ (e : TargetEdge). is_wanted crates d e.child) (suits crates d) own) in
    let first = slice_get-map child (filter (suits crates d) own) 0
    ∙ ap (λ o. option_map child o) (first-filter (suits crates d) own) in
    ap (λ o. option_or o (slice_get (map child (filter (suits crates d) own)) 0)) wanted
    ∙ ap (λ o. option_or (option_map child
    (find (λ (e : TargetEdge). is_wanted crates d e.child && suits crates d e) own)) o) first

-- a filter that all suitable edges pass keeps the first suitable edge
suits_between : (crates : List Crate) (d : Dependency) (p q : TargetEdge → Bool) (es : List TargetEdge)
    → ((e : TargetEdge) → suits crates d e ≡ true → p e ≡ q e)
    → filter (suits crates d) (filter p es) ≡ filter (suits crates d) (filter q es)
suits_between crates d p q [] same = refl
suits_between crates d p q (e ∷ es) same = by_suit (suits crates d e) refl (suits_between crates d p q es same)
  where
    kept : TargetEdge → Bool → List TargetEdge → List TargetEdge
    kept x b rest = filter (suits crates d) (cond b (x ∷ rest) rest)

    by_suit : (b : Bool) → suits crates d e ≡ b
        → filter (suits crates d) (filter p es) ≡ filter (suits crates d) (filter q es)
        → filter (suits crates d) (filter p (e ∷ es)) ≡ filter (suits crates d) (filter q (e ∷ es))
    by_suit true is rest = rw (same e is) (elim (q e) as
        (λ b. filter (suits crates d) (cond b (e ∷ filter p es) (filter p es))
        ≡ filter (suits crates d) (cond b (e ∷ filter q es) (filter q es))) [
          | true ↦ rw is (ap (λ ys. e ∷ ys) rest)
          | false ↦ rest
        ])
    by_suit false is rest = skips (filter p es) (p e) ∙ (rest ∙ sym (skips (filter q es) (q e)))
      where
        skips : (ys : List TargetEdge) (b : Bool)
            → filter (suits crates d) (cond b (e ∷ ys) ys) ≡ filter (suits crates d) ys
        skips ys true = rw is refl
        skips ys false = refl

-- an edge that suits leads to a crate of the declaration's name
suits_named : (crates : List Crate) (d : Dependency) (e : TargetEdge) → suits crates d e ≡ true
    → passes_at (has_name d.name) crates e.child ≡ true
unfolding suits
suits_named crates d e is =
    (and_parts _ (passes_at (has_name d.name) crates e.child) (and_parts _ (option_eq same_text e.target d.target
    && passes_at (has_name d.name) crates e.child) is).1).1

-- an edge of a parent to a crate between two places
parent_between : (parent start end : ℕ) (e : TargetEdge) → (start ≤ e.child) × (e.child < end)
    → (e.parent == parent) ≡ (not (is_before e.parent e.child parent start) && is_before e.parent e.child parent end)
parent_between parent start end e inside = tests_agree (e.parent == parent)
    (not (is_before e.parent e.child parent start) && is_before e.parent e.child parent end)
    (λ is. let same : e.parent ≡ parent = eqb-true e.parent parent is in
    and_from (not (is_before e.parent e.child parent start)) (is_before e.parent e.child parent end)
    (not_from_false (is_before e.parent e.child parent start)
    (false_from_ne_true (is_before e.parent e.child parent start)
    (λ before. elim (from_before e.parent e.child parent start before) as (λ _. ⊥) [
      | inl less ↦ absurd (omega (arith, less, same))
      | inr tie ↦ absurd (omega (arith, tie.1, inside.0))
    ])))
    (to_before e.parent e.child parent end (inr (same, inside.1))))
    (λ is.
    let parts = and_parts (not (is_before e.parent e.child parent start)) (is_before e.parent e.child parent end) is in
    elim (from_before e.parent e.child parent end parts.1) as (λ _. (e.parent == parent) ≡ true) [
      | inl less ↦ absurd (not-true-false (is_before e.parent e.child parent start)
          (to_before e.parent e.child parent start (inl less)) parts.0)
      | inr tie ↦ eq-eqb e.parent parent tie.0
    ])
  where
    not-true-false : (b : Bool) → b ≡ true → not b ≡ true → ⊥
    not-true-false true is other = absurd (cc)
    not-true-false false is other = absurd (cc)

pub resolution_is : (g : Graph) (parent start end : ℕ) (d : Dependency) (crates : List Crate)
    (edges own : List TargetEdge)
    → g.crates ≡ crates → g.target_edges ≡ edges
    → own ≡ filter (λ e. not (is_before e.parent e.child parent start) && is_before e.parent e.child parent end) edges
    → ((place : ℕ) → passes_at (has_name d.name) crates place ≡ true → (start ≤ place) × (place < end))
    → resolution g parent d
    ≡ option_or (option_map (λ (e : TargetEdge). e.child)
    (find (λ (e : TargetEdge). is_wanted crates d e.child && suits crates d e) own))
    (option_map (λ (e : TargetEdge). e.child) (find (suits crates d) own))
unfolding resolution agreeing
resolution_is g parent start end d crates edges own same_crates same_edges is named =
    let same : filter (suits crates d) (filter (λ e. e.parent == parent) edges) ≡ filter (suits crates d) own =
    suits_between crates d (λ e. e.parent == parent)
    (λ e. not (is_before e.parent e.child parent start) && is_before e.parent e.child parent end) edges
    (λ e suit. parent_between parent start end e (named e.child (suits_named crates d e suit)))
    ∙ ap (λ (es : List TargetEdge). filter (suits crates d) es) (sym is) in
    rw (same_crates, same_edges, same) (resolves crates d own)

-- ---- crates at their places

pub crates_from-at : (first : ℕ) (ks : List Krate) (n : ℕ)
    → slice_get (crates_from first ks) n ≡ option_map (crate_view (first + n)) (slice_get ks n)
crates_from-at first [] n = refl
crates_from-at first (k ∷ ks) zero = rw add-zero refl
crates_from-at first (k ∷ ks) (suc n) =
    let moved : (first + 1) + n ≡ first + suc n = omega arith in
    crates_from-at (first + 1) ks n ∙ ap (λ (m : ℕ). option_map (crate_view m) (slice_get ks n)) moved

pub crates-at : (ks : List Krate) (n : ℕ) → slice_get (crates_from 0 ks) n ≡ option_map (crate_view n) (slice_get ks n)
crates-at ks n =
    let zero_plus : 0 + n ≡ n = omega arith in
    crates_from-at 0 ks n ∙ ap (λ (m : ℕ). option_map (crate_view m) (slice_get ks n)) zero_plus

pub crate_got : (ks : List Krate) (place : ℕ) (r : Option (Bor Krate)) → option_copied r ≡ slice_get ks place
    → option_map (λ (k : Bor Krate). crate_view place k.now) r ≡ slice_get (crates_from 0 ks) place
crate_got ks place None is = ap (option_map (crate_view place)) is ∙ sym (crates-at ks place)
crate_got ks place (Some k) is = ap (option_map (crate_view place)) is ∙ sym (crates-at ks place)

slice_get-declared : (ds : List Declared) (n : ℕ)
    → option_map dependency_view (slice_get ds n) ≡ slice_get (map dependency_view ds) n
slice_get-declared ds n = sym (slice_get-map dependency_view ds n)

pub declaration_got : (k : Krate) (place index : ℕ) (r : Option (Bor Declared))
    → option_copied r ≡ slice_get k.deps index
    → option_map (λ (d : Bor Declared). dependency_view d.now) r ≡ slice_get (crate_view place k).deps index
declaration_got k place index None is = ap (option_map dependency_view) is ∙ slice_get-declared k.deps index
declaration_got k place index (Some d) is = ap (option_map dependency_view) is ∙ slice_get-declared k.deps index

pub no_declaration : (in_crate : Crate → Option Dependency) (o : Option Crate) (r : Option (Bor Declared)) → r ≡ None
    → None ≡ o → option_map (λ (d : Bor Declared). dependency_view d.now) r ≡ option_and_then in_crate o
no_declaration in_crate o r none nowhere =
    ap (option_map (λ (d : Bor Declared). dependency_view d.now)) none ∙ ap (option_and_then in_crate) nowhere
