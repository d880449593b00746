use Rattle.std.proofs.Common.{◌≡◌, ◌<◌, ◌+◌, ◌^◌, ◌∙◌, ℕ, List, Option, Some, None, ap, arith, length, slice_index_or}
use Rattle.std.proofs.Common.{subst, sym}
use Rattle.std.specs.Prelude.{IfNone, slice_get}
use Rattle.std.specs.Cmp.Lexicographic.{slice_cmp}
use Rattle.std.specs.List.{list_any}
use Rattle.std.specs.List.Sorted.{IsStrictlySortedBy}
use Rattle.std.specs.Ordering.{nat_cmp}
use Rattle.std.proofs.lemmas.Option.{slice_get-get_or}
use Rattle.deny_krates.specs.private.NodeNumbers.{first_features_of}
use Rattle.deny_krates.specs.Nodes.{nodes_of}
use Rattle.deny_krates_graph.specs.declared.krate.Krate.{Krate}
use Rattle.deny_krates.proofs.NodeLemmas.{as_many, enabled_ascend, feature_within, no_feature, nodes_few}
use Rattle.deny_krates.proofs.NodeLemmas.{number_of_feature}
use Rattle.deny_krates.proofs.NumberLemmas.{length-first_features}
use Rattle.deny_krates.proofs.nodes.feature_node.Goals as goal
use Rattle.deny_spec.specs.Text.{same_text}

if_none : {A : Type 0} (P : Type 0) (r : Option A) → P → IfNone r P
if_none P None holds = holds
if_none P (Some x) holds = tt

pub bounds-krates-place : goal.bounds-krates-place
bounds-krates-place c = omega (arith, as_many c.krates.result.now c.args.krates.now c.krates.ensures.crates)

pub index_of-requires : goal.index_of-requires
index_of-requires c =
    let k = c.index-krates-place.result in
    let inside : c.args.place < length c.krates.result.now =
    omega (arith, as_many c.krates.result.now c.args.krates.now c.krates.ensures.crates) in
    subst (λ (fs : List (List ℕ)). IsStrictlySortedBy (slice_cmp nat_cmp) fs)
    (sym (c.as_slice-enabled.ensures ∙ ap (λ (j : Krate). j.enabled) (sym c.index-krates-place.is)))
    (enabled_ascend c.krates.result.now c.args.krates.now c.krates.ensures.crates c.krates.ensures.orderly.enabled
    c.args.place k (slice_get-get_or c.krates.result.now c.args.place k inside
    ∙ ap (λ j. Some j) (sym c.index-krates-place.is)))

pub returns-in_err-index-clause-none : goal.returns-in_err-index-clause-none
returns-in_err-index-clause-none c =
    let k = c.index-krates-place.result in
    let inside : c.args.place < length c.krates.result.now =
    omega (arith, as_many c.krates.result.now c.args.krates.now c.krates.ensures.crates) in
    if_none _ c.from_residual.result
    (no_feature c.krates.result.now c.args.krates.now c.krates.ensures.crates c.args.place k c.args.feature.now
    (slice_get-get_or c.krates.result.now c.args.place k inside ∙ ap (λ j. Some j) (sym c.index-krates-place.is))
    (ap (list_any (same_text c.args.feature.now))
    (sym (c.as_slice-enabled.ensures ∙ ap (λ (j : Krate). j.enabled) (sym c.index-krates-place.is)))
    ∙ c.in_err-index.ensures.none))

pub bounds-first_features-place : goal.bounds-first_features-place
bounds-first_features-place c = omega (
  arith,
  length-first_features c.args.krates.now,
  ap (λ (ns : List ℕ). length ns) c.first_features.ensures,
)

pub overflow_cast-result : goal.overflow_cast-result
overflow_cast-result c =
    let g = c.args.krates.now in
    let ks = c.krates.result.now in
    let same = c.krates.ensures.crates in
    let p = c.args.place in
    let k = c.index-krates-place.result in
    let f = c.args.feature.now in
    let j = c.in_ok-index.index in
    let ns = c.first_features.result.now in
    let s = slice_index_or ns p 0 in
    let inside : p < length ks = omega (arith, as_many ks g same) in
    let at : slice_get ks p ≡ Some k =
    slice_get-get_or ks p k inside ∙ ap (λ x. Some x) (sym c.index-krates-place.is) in
    let of : slice_get k.enabled j ≡ Some f = ap (λ (fs : List (List ℕ)). slice_get fs j)
    (sym (c.as_slice-enabled.ensures ∙ ap (λ (x : Krate). x.enabled) (sym c.index-krates-place.is)))
    ∙ c.in_ok-index.ensures.found in
    let long : length ns ≡ length (first_features_of g) = ap (λ (ms : List ℕ). length ms) c.first_features.ensures in
    let known : p < length ns = omega (arith, long, length-first_features g) in
    let start : slice_get (first_features_of g) p ≡ Some s = ap (λ (ms : List ℕ). slice_get ms p)
    (sym c.first_features.ensures) ∙ slice_get-get_or ns p 0 known in
    let within : s + j < length (nodes_of g) = feature_within ks g same p s j k f at of start in
    let few : length (nodes_of g) < 2 ^ 32 = nodes_few ks g same c.krates.ensures.nodes in
    omega (arith, within, few)

pub overflow_add-result : goal.overflow_add-result
overflow_add-result c =
    let g = c.args.krates.now in
    let ks = c.krates.result.now in
    let same = c.krates.ensures.crates in
    let p = c.args.place in
    let k = c.index-krates-place.result in
    let f = c.args.feature.now in
    let j = c.in_ok-index.index in
    let ns = c.first_features.result.now in
    let s = slice_index_or ns p 0 in
    let inside : p < length ks = omega (arith, as_many ks g same) in
    let at : slice_get ks p ≡ Some k =
    slice_get-get_or ks p k inside ∙ ap (λ x. Some x) (sym c.index-krates-place.is) in
    let of : slice_get k.enabled j ≡ Some f = ap (λ (fs : List (List ℕ)). slice_get fs j)
    (sym (c.as_slice-enabled.ensures ∙ ap (λ (x : Krate). x.enabled) (sym c.index-krates-place.is)))
    ∙ c.in_ok-index.ensures.found in
    let long : length ns ≡ length (first_features_of g) = ap (λ (ms : List ℕ). length ms) c.first_features.ensures in
    let known : p < length ns = omega (arith, long, length-first_features g) in
    let start : slice_get (first_features_of g) p ≡ Some s = ap (λ (ms : List ℕ). slice_get ms p)
    (sym c.first_features.ensures) ∙ slice_get-get_or ns p 0 known in
    let within : s + j < length (nodes_of g) = feature_within ks g same p s j k f at of start in
    let few : length (nodes_of g) < 2 ^ 32 = nodes_few ks g same c.krates.ensures.nodes in
    omega (arith, within, few)

pub returns-clause-found : goal.returns-clause-found
returns-clause-found c =
    let g = c.args.krates.now in
    let ks = c.krates.result.now in
    let same = c.krates.ensures.crates in
    let p = c.args.place in
    let k = c.index-krates-place.result in
    let f = c.args.feature.now in
    let j = c.in_ok-index.index in
    let ns = c.first_features.result.now in
    let s = slice_index_or ns p 0 in
    let inside : p < length ks = omega (arith, as_many ks g same) in
    let at : slice_get ks p ≡ Some k =
    slice_get-get_or ks p k inside ∙ ap (λ x. Some x) (sym c.index-krates-place.is) in
    let of : slice_get k.enabled j ≡ Some f = ap (λ (fs : List (List ℕ)). slice_get fs j)
    (sym (c.as_slice-enabled.ensures ∙ ap (λ (x : Krate). x.enabled) (sym c.index-krates-place.is)))
    ∙ c.in_ok-index.ensures.found in
    let long : length ns ≡ length (first_features_of g) = ap (λ (ms : List ℕ). length ms) c.first_features.ensures in
    let known : p < length ns = omega (arith, long, length-first_features g) in
    let start : slice_get (first_features_of g) p ≡ Some s = ap (λ (ms : List ℕ). slice_get ms p)
    (sym c.first_features.ensures) ∙ slice_get-get_or ns p 0 known in
    number_of_feature ks g same p s j k f at of start

pub returns-clause-within : goal.returns-clause-within
returns-clause-within c =
    let g = c.args.krates.now in
    let ks = c.krates.result.now in
    let same = c.krates.ensures.crates in
    let p = c.args.place in
    let k = c.index-krates-place.result in
    let f = c.args.feature.now in
    let j = c.in_ok-index.index in
    let ns = c.first_features.result.now in
    let s = slice_index_or ns p 0 in
    let inside : p < length ks = omega (arith, as_many ks g same) in
    let at : slice_get ks p ≡ Some k =
    slice_get-get_or ks p k inside ∙ ap (λ x. Some x) (sym c.index-krates-place.is) in
    let of : slice_get k.enabled j ≡ Some f = ap (λ (fs : List (List ℕ)). slice_get fs j)
    (sym (c.as_slice-enabled.ensures ∙ ap (λ (x : Krate). x.enabled) (sym c.index-krates-place.is)))
    ∙ c.in_ok-index.ensures.found in
    let long : length ns ≡ length (first_features_of g) = ap (λ (ms : List ℕ). length ms) c.first_features.ensures in
    let known : p < length ns = omega (arith, long, length-first_features g) in
    let start : slice_get (first_features_of g) p ≡ Some s = ap (λ (ms : List ℕ). slice_get ms p)
    (sym c.first_features.ensures) ∙ slice_get-get_or ns p 0 known in
    feature_within ks g same p s j k f at of start
