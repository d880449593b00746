-- The keys of the direct dependents of a banned crate.
use Rattle.std.proofs.Common.{◌≡◌, ◌++◌, ℕ, Bool, true, List, Contains, Some, is_some, map, slice_get, refl, sym, ap}
use Rattle.std.proofs.Common.{◌∙◌, subst}
use Rattle.std.specs.Prelude.{◌==◌, filter_map}
use Rattle.std.specs.List.{list_all}
use Rattle.std.proofs.lemmas.Bool.{and_from, eq-eqb}
use Rattle.deny_base_lists.specs.Ascending.{Adds}
use Rattle.deny_base_lists.specs.TextMap.{TextFinMap}
use Rattle.deny_base.specs.declared.key.Key.{Key}
use Rattle.deny_base.specs.declared.span.Span.{Span}
use Rattle.deny_krates.specs.Dependents.{AreDirectDependents}
use Rattle.deny_krates.specs.krate.DirectDependent.{DirectDependent}
use Rattle.deny_spec.specs.Graph.{Crate, Graph, dependents}
use Rattle.deny_spec.specs.Keys.{dependent_key}
use Rattle.deny_spec.specs.Wrappers.{same_span}
use Rattle.deny_spec.proofs.SpanLemmas.{same-span}
use Rattle.deny_rules_match.specs.Wrappers.{has_span, span_at, span_of}
use Rattle.deny_rules_crates.specs.private.Banned.{hits_at, is_hit, is_waived_at, reported_code, reported_key}
use Rattle.deny_rules_crates.specs.private.Banned.{reported_keys_at}
use Rattle.deny_rules_match.specs.Placed.{ArePlaced}
use Rattle.deny_base_lists.proofs.Adding.{adds_list, adds_same}
use Rattle.deny_base_lists.proofs.Members.{Contains-filter_map, Contains-from_map, any_from, any_passes, contains_map}
use Rattle.deny_base_lists.proofs.Members.{from_filter_map}
use Rattle.deny_base_lists.proofs.Booleans.{tests_agree}
use Rattle.deny_rules_match.proofs.DependentLemmas.{all-tested, kept_of, parent_of, span-there, test-there}

-- the key of the direct dependent at a place
abbrev pub key_at : Graph → TextFinMap Span → Span → ℕ → ℕ → Key
key_at g spans entry place n = dependent_key (reported_code (is_some (span_at g spans n))) place entry n

key-there : (g : Graph) (spans : TextFinMap Span) (entry : Span) (place n : ℕ) (c : Crate) → ArePlaced g.crates
    → slice_get g.crates n ≡ Some c → key_at g spans entry place n ≡ reported_key spans entry place c
unfolding reported_key
key-there g spans entry place n c placed is =
    ap (λ b. dependent_key (reported_code b) place entry n) (test-there g spans n c is)
    ∙ ap (λ m. dependent_key (reported_code (has_span spans c)) place entry m) (sym (placed.place n c is))

module _ (g : Graph) (place : ℕ) (ds : List DirectDependent) (placed : ArePlaced g.crates)
    (direct : AreDirectDependents g place ds) where
  pub waived-is : (spans : TextFinMap Span) → list_all (λ (d : DirectDependent). is_some
      (span_at g spans d.place)) ds ≡ is_waived_at g spans place
  unfolding is_waived_at
  waived-is spans = all-tested g place ds placed direct (λ n. is_some (span_at g spans n)) (has_span spans)
      (test-there g spans)

  module _ (spans : TextFinMap Span) where
    pub reported_are : (entry : Span) (old new : List Key)
        → new ≡ old ++ map (λ (d : DirectDependent). key_at g spans entry place d.place) ds
        → Adds (Contains (reported_keys_at g spans entry place)) old new
    unfolding reported_keys_at
    reported_are entry old new added =
        adds_same (Contains (map (λ (d : DirectDependent). key_at g spans entry place d.place) ds))
        (Contains (map (reported_key spans entry place) (dependents g place))) old new
        (adds_list old new _ added)
        (λ key is.
        let from = Contains-from_map (λ (d : DirectDependent). key_at g spans entry place d.place) ds key is in
        let of = parent_of g place ds placed direct from.from from.member in
        subst (λ (k : Key). Contains (map (reported_key spans entry place) (dependents g place)) k)
        (sym (key-there g spans entry place from.from.place of.parent placed of.at) ∙ from.is)
        (contains_map (reported_key spans entry place) (dependents g place) of.parent of.member))
        (λ key is.
        let from = Contains-from_map (reported_key spans entry place) (dependents g place) key is in
        let kept = kept_of g place ds placed direct from.from from.member in
        subst (λ (k : Key). Contains (map (λ (d : DirectDependent). key_at g spans entry place d.place) ds) k)
        (key-there g spans entry place kept.0.place from.from placed kept.2 ∙ from.is)
        (contains_map (λ (d : DirectDependent). key_at g spans entry place d.place) ds kept.0 kept.1))

    pub hits_are : (old new : List Span) → new ≡ old ++ filter_map
        (λ (d : DirectDependent). span_at g spans d.place) ds → Adds (Contains (hits_at g spans place)) old new
    unfolding hits_at
    hits_are old new added =
        adds_same (Contains (filter_map (λ (d : DirectDependent). span_at g spans d.place) ds))
        (Contains (filter_map (span_of spans) (dependents g place))) old new
        (adds_list old new _ added)
        (λ hit is.
        let from = from_filter_map (λ (d : DirectDependent). span_at g spans d.place) ds hit is in
        let of = parent_of g place ds placed direct from.from from.member in
        Contains-filter_map (span_of spans) (dependents g place) of.parent hit of.member
        (sym (span-there g spans from.from.place of.parent of.at) ∙ from.gives))
        (λ hit is.
        let from = from_filter_map (span_of spans) (dependents g place) hit is in
        let kept = kept_of g place ds placed direct from.from from.member in
        Contains-filter_map (λ (d : DirectDependent). span_at g spans d.place) ds kept.0 hit kept.1
        (span-there g spans kept.0.place from.from kept.2 ∙ from.gives))

-- what a search among spans answers
pub hit-answers : (hits : List Span) (span : Span) (b : Bool)
    → (b ≡ true → Contains hits span) × (Contains hits span → b ≡ true) → b ≡ is_hit hits span
unfolding is_hit
hit-answers hits span b answers = tests_agree b _
    (λ is. any_from (λ hit. same_span hit span) hits span (answers.0 is)
    (and_from (span.start == span.start) (span.end == span.end) (eq-eqb span.start span.start refl)
    (eq-eqb span.end span.end refl)))
    (λ any.
    let hit = any_passes (λ hit. same_span hit span) hits any in
    answers.1 (subst (λ (s : Span). Contains hits s) (same-span hit.one span hit.passes) hit.member))
