use Rattle.std.proofs.Common.{◌≡◌, ◌∙◌, List, ℕ, Bool, map, refl, sym, subst}
use Rattle.std.specs.Prelude.{◌&&◌, slice_index_or}
use Rattle.std.proofs.lemmas.List.{get_or_default}
use Rattle.deny_krates_graph.specs.Crates.{crate_view, dependency_view}
use Rattle.deny_krates.specs.Nodes.{asks_in_vain, is_enabled, is_of_kind}
use Rattle.deny_krates.specs.private.Sources.{asks_for_none, passes_there}
use Rattle.deny_krates.specs.declared.resolved.ResolvedAt.{ResolvedAt}
use Rattle.deny_base.specs.declared.edge.DepKind.{DepKind}
use Rattle.deny_krates_graph.specs.declared.krate.Krate.{Krate}
use Rattle.deny_krates.proofs.LeadLemmas.{any_more, any_stopped}
use Rattle.deny_krates.proofs.leads.any_asks_in_vain.Goals as goal
use Rattle.deny_spec.specs.Graph.{Dependency}

-- the test of a declaration, with the enabled features of the crate in code
in_vain : (ds : List Dependency) (kind : DepKind) (k : Krate) (enabled : List (List ℕ)) (r : ResolvedAt) (b : Bool)
    → enabled ≡ k.enabled → b ≡ passes_there ds (λ d. is_of_kind kind d && asks_for_none enabled d) r
    → passes_there ds (λ d. is_of_kind kind d && asks_in_vain (crate_view 0 k) d) r ≡ b
unfolding asks_in_vain is_enabled
in_vain ds kind k enabled r b same is =
    sym (is ∙ subst (λ (fs : List (List ℕ)). passes_there ds (λ d. is_of_kind kind d && asks_for_none enabled d) r
    ≡ passes_there ds (λ d. is_of_kind kind d && asks_for_none fs d) r) same refl)

pub returns-then-asks_in_vain_at : goal.returns-then-asks_in_vain_at
returns-then-asks_in_vain_at c =
    let ds = map dependency_view c.args.declarations.now in
    any_stopped (passes_there ds (λ d. is_of_kind c.args.kind d && asks_in_vain (crate_view 0 c.args.krate.now) d))
    c.args.run.now (slice_index_or c.args.run.now c.loop-at.at-index (record { child = 0; parent = 0; index = 0 }))
    c.loop-at.at-index c.loop-at-test.true
    (get_or_default c.args.run.now c.loop-at.at-index (record { child = 0; parent = 0; index = 0 })
    (slice_index_or c.args.run.now c.loop-at.at-index (record { child = 0; parent = 0; index = 0 }))
    c.loop-at-test.true)
    (in_vain ds c.args.kind c.args.krate.now c.as_slice-enabled.result.now (slice_index_or c.args.run.now
    c.loop-at.at-index (record { child = 0; parent = 0; index = 0 })) _ c.as_slice-enabled.ensures
    c.asks_in_vain_at.ensures ∙ c.if-asks_in_vain_at.true) c.loop-at.invariant

pub loop-at-preserved : goal.loop-at-preserved
loop-at-preserved c =
    let ds = map dependency_view c.args.declarations.now in
    any_more (passes_there ds (λ d. is_of_kind c.args.kind d && asks_in_vain (crate_view 0 c.args.krate.now) d))
    c.args.run.now (slice_index_or c.args.run.now c.loop-at.at-index (record { child = 0; parent = 0; index = 0 }))
    c.loop-at.at-index c.loop-at-test.true
    (get_or_default c.args.run.now c.loop-at.at-index (record { child = 0; parent = 0; index = 0 })
    (slice_index_or c.args.run.now c.loop-at.at-index (record { child = 0; parent = 0; index = 0 }))
    c.loop-at-test.true)
    (in_vain ds c.args.kind c.args.krate.now c.as_slice-enabled.result.now (slice_index_or c.args.run.now
    c.loop-at.at-index (record { child = 0; parent = 0; index = 0 })) _ c.as_slice-enabled.ensures
    c.asks_in_vain_at.ensures ∙ c.if-asks_in_vain_at.false) c.loop-at.invariant
