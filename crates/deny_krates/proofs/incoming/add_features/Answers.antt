use Rattle.std.proofs.Common.{◌≡◌, ◌<◌, ◌∙◌, ◌++◌, ℕ, List, Some, ap, arith, filter, length, map, refl, subst, sym}
use Rattle.std.proofs.lemmas.Option.{same_Some}
use Rattle.deny_base_lists.proofs.Members.{some_at}
use Rattle.deny_krates_graph.specs.Crates.{crate_view}
use Rattle.deny_krates.specs.Nodes.{feature_leads}
use Rattle.deny_krates.specs.private.Sources.{is_led_over, parent_in}
use Rattle.deny_krates.proofs.NodeLemmas.{as_many, crate_of_krate, crate_read}
use Rattle.deny_krates.proofs.ParentLemmas.{filter_same, led_answer}
use Rattle.deny_krates.proofs.incoming.add_features.Goals as goal
use Rattle.deny_spec.specs.Graph.{Crate}

pub bounds-krates-parent : goal.bounds-krates-parent
bounds-krates-parent c = omega (arith, as_many c.krates.result.now c.args.krates.now c.krates.ensures.crates)

pub returns : goal.returns
returns c x p x_at p_at =
    let g = c.args.krates.now in
    let ks = c.krates.result.now in
    let same = c.krates.ensures.crates in
    let child = c.args.child in
    let parent = c.args.parent in
    let kind = c.args.kind in
    let kp = c.index-krates-parent.result in
    let p_inside : parent < length ks = omega (arith, as_many ks g same) in
    let p_here = crate_read ks g same parent kp p_inside c.index-krates-parent.is in
    let p_same : crate_view parent kp ≡ p = same_Some (crate_view parent kp) p (sym p_here ∙ p_at) in
    let kc_at = some_at ks child (omega (arith, as_many ks g same)) in
    let kc = kc_at.0 in
    let x_same : crate_view child kc ≡ x = same_Some (crate_view child kc) x
    (sym (crate_of_krate ks g same child kc kc_at.1) ∙ x_at) in
    let run = c.resolved_between-run.result.now in
    let feature = c.args.feature.now in
    let new = c.add_led_over.new.parents in
    let old = c.args.parents.now in
    let here : new ≡ old ++ map (λ f. parent_in (crate_view parent kp) (Some kind) (Some f))
    (filter (feature_leads g (crate_view child kc) feature (crate_view parent kp) kind) kp.enabled) =
    c.in_ok-add_led_over.ensures
    ∙ ap (λ (fs : List (List ℕ)). old ++ map (λ f. parent_in (crate_view parent kp) (Some kind) (Some f)) fs)
    (filter_same (is_led_over kp run kind feature)
    (feature_leads g (crate_view child kc) feature (crate_view parent kp) kind) kp.enabled
    (λ from. led_answer g child parent kc kp kind run kp.deps p_here c.resolved_between-run.ensures refl feature
    from)) in
    subst (λ (q : Crate). new ≡ old ++ map (λ f. parent_in q (Some kind) (Some f))
    (filter (feature_leads g x feature q kind) q.enabled)) p_same
    (subst (λ (y : Crate). new ≡ old ++ map (λ f. parent_in (crate_view parent kp) (Some kind) (Some f))
    (filter (feature_leads g y feature (crate_view parent kp) kind) kp.enabled)) x_same here)
