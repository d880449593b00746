use Rattle.std.proofs.Common.{◌≡◌, ◌<◌, ◌≤◌, ◌-◌, ◌∙◌, ℕ, List, Some, ap, arith, length, slice_index_or, subst, sym}
use Rattle.std.specs.Prelude.{slice_get}
use Rattle.std.proofs.lemmas.Option.{slice_get-get_or, slice_get_within, same_Some}
use Rattle.deny_krates.specs.Nodes.{Node}
use Rattle.deny_krates_graph.specs.declared.krate.Krate.{Krate}
use Rattle.deny_krates.specs.private.NodeNumbers.{IsLastUpTo, first_features_of}
use Rattle.deny_krates.proofs.NodeLemmas.{as_many, crate_node_of, crate_read, first_start, owned_feature}
use Rattle.deny_krates.proofs.NodeLemmas.{owner_features, read_start, some_starts}
use Rattle.deny_krates.proofs.NumberLemmas.{length-first_features}
use Rattle.deny_krates.proofs.krates.Krates.node_feature.Goals as goal

pub returns-then-node-krates : goal.returns-then-node-krates
returns-then-node-krates c =
    sym (ap (λ (m : Node). m.feature)
    (crate_node_of c.krates-krates.result.now c.args.self.now c.krates-krates.ensures.crates c.args.node.0
    (omega arith)))

pub owner_of-place-requires-clause-few : goal.owner_of-place-requires-clause-few
owner_of-place-requires-clause-few c =
    omega (
      arith,
      as_many c.krates-krates.result.now c.args.self.now c.krates-krates.ensures.crates,
      c.krates-krates.ensures.few,
      length-first_features c.args.self.now,
      ap (λ (ns : List ℕ). length ns) c.first_features-starts.ensures,
    )

pub owner_of-place-requires-clause-some : goal.owner_of-place-requires-clause-some
owner_of-place-requires-clause-some c = subst (λ (ns : List ℕ). 0 < length ns) (sym c.first_features-starts.ensures)
    (some_starts c.krates-krates.result.now c.args.self.now c.krates-krates.ensures.crates c.args.node.0
    (omega arith) c.requires)

pub owner_of-place-requires-clause-first : goal.owner_of-place-requires-clause-first
owner_of-place-requires-clause-first c =
    subst (λ (ns : List ℕ). slice_index_or ns 0 0 ≤ c.args.node.0) (sym c.first_features-starts.ensures)
    (first_start c.krates-krates.result.now c.args.self.now c.krates-krates.ensures.crates c.args.node.0 (omega arith))

pub bounds-starts-place : goal.bounds-starts-place
bounds-starts-place c =
    let g = c.args.self.now in
    let ks = c.krates-krates.result.now in
    let same = c.krates-krates.ensures.crates in
    let p = c.owner_of-place.result in
    let n = c.args.node.0 in
    let starts = c.first_features-starts.result.now in
    let last = subst (λ (ns : List ℕ). IsLastUpTo ns n p) c.first_features-starts.ensures c.owner_of-place.ensures in
    let read : slice_index_or starts p 0 ≡ last.start = read_start starts p last.start
    (ap (λ (ns : List ℕ). slice_get ns p) c.first_features-starts.ensures ∙ last.here) in
    let owned = owned_feature ks g same n p last c.requires in
    let long : length starts ≡ length (first_features_of g) =
    ap (λ (ns : List ℕ). length ns) c.first_features-starts.ensures in
    omega (arith, long, slice_get_within (first_features_of g) p last.start last.here)

pub overflow_sub-index : goal.overflow_sub-index
overflow_sub-index c =
    let g = c.args.self.now in
    let ks = c.krates-krates.result.now in
    let same = c.krates-krates.ensures.crates in
    let p = c.owner_of-place.result in
    let n = c.args.node.0 in
    let starts = c.first_features-starts.result.now in
    let last = subst (λ (ns : List ℕ). IsLastUpTo ns n p) c.first_features-starts.ensures c.owner_of-place.ensures in
    let read : slice_index_or starts p 0 ≡ last.start = read_start starts p last.start
    (ap (λ (ns : List ℕ). slice_get ns p) c.first_features-starts.ensures ∙ last.here) in
    let owned = owned_feature ks g same n p last c.requires in
    omega (arith, read, last.up_to)

pub bounds-krates-place : goal.bounds-krates-place
bounds-krates-place c =
    let g = c.args.self.now in
    let ks = c.krates-krates.result.now in
    let same = c.krates-krates.ensures.crates in
    let p = c.owner_of-place.result in
    let n = c.args.node.0 in
    let starts = c.first_features-starts.result.now in
    let last = subst (λ (ns : List ℕ). IsLastUpTo ns n p) c.first_features-starts.ensures c.owner_of-place.ensures in
    let read : slice_index_or starts p 0 ≡ last.start = read_start starts p last.start
    (ap (λ (ns : List ℕ). slice_get ns p) c.first_features-starts.ensures ∙ last.here) in
    let owned = owned_feature ks g same n p last c.requires in
    omega (arith, as_many ks g same, slice_get_within g.crates p owned.krate owned.at)

pub bounds-enabled-index : goal.bounds-enabled-index
bounds-enabled-index c =
    let g = c.args.self.now in
    let ks = c.krates-krates.result.now in
    let same = c.krates-krates.ensures.crates in
    let p = c.owner_of-place.result in
    let n = c.args.node.0 in
    let starts = c.first_features-starts.result.now in
    let last = subst (λ (ns : List ℕ). IsLastUpTo ns n p) c.first_features-starts.ensures c.owner_of-place.ensures in
    let read : slice_index_or starts p 0 ≡ last.start = read_start starts p last.start
    (ap (λ (ns : List ℕ). slice_get ns p) c.first_features-starts.ensures ∙ last.here) in
    let owned = owned_feature ks g same n p last c.requires in
    let k = c.index-krates-place.result in
    let inside : p < length ks = omega (arith, as_many ks g same, slice_get_within g.crates p owned.krate owned.at) in
    let of : slice_get k.enabled (n - last.start) ≡ Some owned.feature =
    owner_features g n p last.start owned k (crate_read ks g same p k inside c.index-krates-place.is) in
    let index : n - slice_index_or starts p 0 ≡ n - last.start = ap (λ m. n - m) read in
    let there_is : n - last.start < length k.enabled = slice_get_within k.enabled (n - last.start) owned.feature of in
    let long : length c.as_slice-enabled.result.now ≡ length k.enabled =
    ap (λ (fs : List (List ℕ)). length fs)
    (c.as_slice-enabled.ensures ∙ ap (λ (j : Krate). j.enabled) (sym c.index-krates-place.is)) in
    let within : n - slice_index_or starts p 0 < length c.as_slice-enabled.result.now =
    omega (arith, index, there_is, long) in
    within

pub returns : goal.returns
returns c =
    let g = c.args.self.now in
    let ks = c.krates-krates.result.now in
    let same = c.krates-krates.ensures.crates in
    let p = c.owner_of-place.result in
    let n = c.args.node.0 in
    let starts = c.first_features-starts.result.now in
    let last = subst (λ (ns : List ℕ). IsLastUpTo ns n p) c.first_features-starts.ensures c.owner_of-place.ensures in
    let read : slice_index_or starts p 0 ≡ last.start = read_start starts p last.start
    (ap (λ (ns : List ℕ). slice_get ns p) c.first_features-starts.ensures ∙ last.here) in
    let owned = owned_feature ks g same n p last c.requires in
    let k = c.index-krates-place.result in
    let inside : p < length ks = omega (arith, as_many ks g same, slice_get_within g.crates p owned.krate owned.at) in
    let of : slice_get k.enabled (n - last.start) ≡ Some owned.feature =
    owner_features g n p last.start owned k (crate_read ks g same p k inside c.index-krates-place.is) in
    let index : n - slice_index_or starts p 0 ≡ n - last.start = ap (λ m. n - m) read in
    let feature = c.index-enabled-index.result in
    let enabled = c.as_slice-enabled.result.now in
    let there_is : n - last.start < length k.enabled = slice_get_within k.enabled (n - last.start) owned.feature of in
    let long : length enabled ≡ length k.enabled = ap (λ (fs : List (List ℕ)). length fs)
    (c.as_slice-enabled.ensures ∙ ap (λ (j : Krate). j.enabled) (sym c.index-krates-place.is)) in
    let read_feature : slice_get enabled (n - slice_index_or starts p 0) ≡ Some feature =
    slice_get-get_or enabled (n - slice_index_or starts p 0) feature (omega (arith, index, there_is, long))
    ∙ ap (λ f. Some f) (sym c.index-enabled-index.is) in
    let is : feature ≡ owned.feature = same_Some feature owned.feature
    (sym read_feature ∙ (ap (λ (fs : List (List ℕ)). slice_get fs (n - slice_index_or starts p 0))
    (c.as_slice-enabled.ensures ∙ ap (λ (j : Krate). j.enabled) (sym c.index-krates-place.is))
    ∙ (ap (slice_get k.enabled) index ∙ of))) in
    ap (λ f. Some f) (c.as_str.ensures ∙ is) ∙ sym (ap (λ (m : Node). m.feature) owned.is)
