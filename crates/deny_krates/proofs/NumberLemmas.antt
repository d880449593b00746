-- The numbers of nodes: the node at each number, and that no two numbers share a node.
use Rattle.std.proofs.Common.{◌≡◌, ◌<◌, ◌≤◌, ◌+◌, ◌-◌, ◌++◌, ◌∙◌, ◌⊎◌, ℕ, zero, suc, inl, inr, List, [], ◌∷◌, true}
use Rattle.std.proofs.Common.{false, Some, None, length, map, refl, sym, ap, subst, arith}
use Rattle.std.proofs.Common.{length-append}
use Rattle.std.specs.Prelude.{All, AllPairs, ◌≢◌, nat_le, option_map, slice_get, slice_index_or}
use Rattle.std.specs.List.{flat_map}
use Rattle.std.specs.Cmp.Lexicographic.{nat_list_cmp_total, slice_cmp}
use Rattle.std.specs.List.Sorted.{IsPartitionedBy, IsStrictlySortedBy}
use Rattle.std.specs.Ordering.{nat_cmp}
use Rattle.std.proofs.lemmas.List.Elements.{All-contains}
use Rattle.std.proofs.lemmas.Bool.{cases_lt, le-leb, leb-false, leb-true}
use Rattle.std.proofs.lemmas.List.{length-map}
use Rattle.std.proofs.lemmas.Option.{none-some, same_Some, slice_get-get_or, slice_get-map, slice_get_within}
use Rattle.deny_base_lists.proofs.Members.{from_there, one_there, some_at}
use Rattle.deny_base_lists.proofs.Orders.{not_below_itself}
use Rattle.deny_base_lists.proofs.Sorted.{ascends_at}
use Rattle.deny_base_lists.proofs.Indices.{slice_get-append_left}
use Rattle.deny_spec.specs.Graph.{Crate, Graph}
use Rattle.deny_krates_graph.specs.Bounds.{node_count}
use Rattle.deny_krates_graph.specs.Crates.{crates_from}
use Rattle.deny_krates.specs.Nodes.{Node, crate_node, feature_node, feature_nodes, nodes_of}
use Rattle.deny_krates.specs.private.NodeNumbers.{IsLastUpTo, features_from, first_features_of}
use Rattle.deny_krates_graph.specs.declared.krate.Krate.{Krate}
use Rattle.deny_krates_graph.proofs.CratesLemmas.{length-crates_from}

abbrev pub feature_count : List Crate → ℕ
feature_count [] = 0
feature_count (c ∷ cs) = length c.enabled + feature_count cs

pub node_count-is : (cs : List Crate) → node_count cs ≡ length cs + feature_count cs
node_count-is [] = refl
node_count-is (c ∷ cs) = omega (arith, node_count-is cs)

-- ---- the numbers of first features

pub room_first : (krates : List Krate)
    → length krates + feature_count (crates_from 0 krates) ≡ node_count (crates_from 0 krates)
room_first krates = omega (arith, node_count-is (crates_from 0 krates), length-crates_from 0 krates)

-- ---- the numbers of first features ascend

at_least : (cs : List Crate) (first p s : ℕ) → slice_get (features_from first cs) p ≡ Some s → first ≤ s
at_least [] first p s at = absurd (none-some s at)
at_least (c ∷ cs) first zero s at = let same = same_Some first s at in omega (arith, same)
at_least (c ∷ cs) first (suc p) s at = let later = at_least cs (first + length c.enabled) p s at in omega (arith, later)

up : (cs : List Crate) (first i j m n : ℕ) → i ≤ j → slice_get (features_from first cs) i ≡ Some m
    → slice_get (features_from first cs) j ≡ Some n → m ≤ n
up [] first i j m n below at at' = absurd (none-some m at)
up (c ∷ cs) first zero j m n below at at' =
    let same = same_Some first m at in
    let low = at_least (c ∷ cs) first j n at' in
    omega (arith, same, low)
up (c ∷ cs) first (suc i) zero m n below at at' = absurd (omega (arith, below))
up (c ∷ cs) first (suc i) (suc j) m n below at at' = up cs (first + length c.enabled) i j m n (omega (arith, below)) at
    at'

pub partitioned_starts : (cs : List Crate) (first number : ℕ) (starts : List ℕ) → starts ≡ features_from first cs
    → IsPartitionedBy (λ n. nat_le n number) starts
partitioned_starts cs first number starts is i j d below inside holds =
    let m = slice_index_or starts i d in
    let n = slice_index_or starts j d in
    let lower : n ≤ number = leb-true n number holds in
    let at = subst (λ (ns : List ℕ). slice_get ns i ≡ Some m) is
    (slice_get-get_or starts i d (omega (arith, below, inside))) in
    let at' = subst (λ (ns : List ℕ). slice_get ns j ≡ Some n) is (slice_get-get_or starts j d inside) in
    let low : m ≤ n = up cs first i j m n below at at' in
    le-leb m number (omega (arith, low, lower))

pub last_up_to : (starts : List ℕ) (number point : ℕ) → 0 < length starts → slice_index_or starts 0 0 ≤ number
    → point ≤ length starts
    → ((k : ℕ) (d : ℕ) → k < point → nat_le (slice_index_or starts k d) number ≡ true)
    → ((k : ℕ) (d : ℕ) → point ≤ k → k < length starts → nat_le (slice_index_or starts k d) number ≡ false)
    → (0 < point) × IsLastUpTo starts number (point - 1)
last_up_to starts number point some first within below above =
    let positive : 0 < point = positive_of in (
      positive,
      record {
        start = slice_index_or starts (point - 1) 0;
        here = slice_get-get_or starts (point - 1) 0 (omega (arith, positive, within));
        up_to = leb-true (slice_index_or starts (point - 1) 0) number (below (point - 1) 0 (omega (arith, positive)));
        next = λ later after past at.
            let inside = slice_get_within starts later after at in
            let same = same_Some (slice_index_or starts later 0) after
            (sym (slice_get-get_or starts later 0 inside) ∙ at) in
            let high : number < slice_index_or starts later 0 = leb-false (slice_index_or starts later 0) number
            (above later 0 (omega (arith, past, positive)) inside) in
            omega (arith, high, same);
      },
    )
  where
    positive_of : 0 < point
    positive_of = elim (cases_lt 0 point) as (λ _. 0 < point) [
      | inl is ↦ is
      | inr none ↦
          let high : number < slice_index_or starts 0 0 = leb-false (slice_index_or starts 0 0) number
          (above 0 0 (omega (arith, none)) some) in
          absurd (omega (arith, high, first))
    ]

-- ---- the numbers of the nodes of features

pub slice_get-right : {A : Type 0} (xs ys : List A) (n m : ℕ) → n ≡ length xs + m
    → slice_get (xs ++ ys) n ≡ slice_get ys m
slice_get-right [] ys n m is = let same : n ≡ m = omega (arith, is) in ap (slice_get ys) same
slice_get-right (x ∷ xs) ys zero m is = absurd (omega (arith, is))
slice_get-right (x ∷ xs) ys (suc n) m is = slice_get-right xs ys n m (omega (arith, is))

length-feature_nodes : (c : Crate) → length (feature_nodes c) ≡ length c.enabled
length-feature_nodes c = length-map c.enabled (feature_node c)

length-features : (cs : List Crate) → length (flat_map feature_nodes cs) ≡ feature_count cs
length-features [] = refl
length-features (c ∷ cs) =
    length-append (feature_nodes c) (flat_map feature_nodes cs)
    ∙ omega (arith, length-feature_nodes c, length-features cs)

-- the feature at an index of a crate has the number of the crate's first feature plus the index
feature_at : (cs : List Crate) (first p s j m : ℕ) (c : Crate) (f : List ℕ) → slice_get cs p ≡ Some c
    → slice_get c.enabled j ≡ Some f → slice_get (features_from first cs) p ≡ Some s → first + m ≡ s + j
    → slice_get (flat_map feature_nodes cs) m ≡ Some (feature_node c f)
feature_at [] first p s j m c f at of start is = absurd (none-some c at)
feature_at (x ∷ cs) first zero s j m c f at of start is =
    let here = same_Some first s start in
    let same : x ≡ c = same_Some x c at in
    let index : m ≡ j = omega (arith, here, is) in
    let inside : j < length x.enabled = subst (λ (y : Crate). j < length y.enabled) (sym same)
    (slice_get_within c.enabled j f of) in
    slice_get-append_left (feature_nodes x) (flat_map feature_nodes cs) m
    (omega (arith, index, inside, length-feature_nodes x))
    ∙ (ap (slice_get (feature_nodes x)) index
    ∙ (slice_get-map (feature_node x) x.enabled j
    ∙ subst (λ (y : Crate). option_map (feature_node y) (slice_get y.enabled j) ≡ Some (feature_node c f)) (sym same)
    (ap (option_map (feature_node c)) of)))
feature_at (x ∷ cs) first (suc p) s j m c f at of start is =
    let low = at_least cs (first + length x.enabled) p s start in
    let back : m ≡ length (feature_nodes x) + (m - length x.enabled) =
    omega (arith, low, is, length-feature_nodes x) in
    slice_get-right (feature_nodes x) (flat_map feature_nodes cs) m (m - length x.enabled) back
    ∙ feature_at cs (first + length x.enabled) p s j (m - length x.enabled) c f at of start (omega (arith, low, is))

-- the number of a feature's node is that of the first feature of its crate and its index
owned : (cs : List Crate) (first p s n : ℕ) (c : Crate) → slice_get cs p ≡ Some c
    → slice_get (features_from first cs) p ≡ Some s → s ≤ n
    → ((q t : ℕ) → p < q → slice_get (features_from first cs) q ≡ Some t → n < t)
    → n < first + feature_count cs → n - s < length c.enabled
owned [] first p s n c at start low next within = absurd (none-some c at)
owned (x ∷ []) first zero s n c at start low next within =
    let here = same_Some first s start in
    subst (λ (y : Crate). n - s < length y.enabled) (same_Some x c at) (omega (arith, here, within, low))
owned (x ∷ y ∷ cs) first zero s n c at start low next within =
    let here = same_Some first s start in
    let before = next 1 (first + length x.enabled) (omega arith) refl in
    subst (λ (y : Crate). n - s < length y.enabled) (same_Some x c at) (omega (arith, here, before, low))
owned (x ∷ cs) first (suc p) s n c at start low next within =
    owned cs (first + length x.enabled) p s n c at start low (λ q t past is. next (suc q) t (omega (arith, past)) is)
    (omega (arith, within))

-- ---- all nodes

pub length-nodes : (g : Graph) → length (nodes_of g) ≡ length g.crates + feature_count g.crates
unfolding nodes_of
length-nodes g = length-append (map crate_node g.crates) (flat_map feature_nodes g.crates)
    ∙ omega (arith, length-map g.crates crate_node, length-features g.crates)

pub crate_node_at : (g : Graph) (p : ℕ) (c : Crate) → slice_get g.crates p ≡ Some c
    → slice_get (nodes_of g) p ≡ Some (crate_node c)
unfolding nodes_of
crate_node_at g p c at =
    slice_get-append_left (map crate_node g.crates) (flat_map feature_nodes g.crates) p
    (omega (arith, slice_get_within g.crates p c at, length-map g.crates crate_node))
    ∙ (slice_get-map crate_node g.crates p ∙ ap (option_map crate_node) at)

pub feature_node_at : (g : Graph) (p s j : ℕ) (c : Crate) (f : List ℕ) → slice_get g.crates p ≡ Some c
    → slice_get c.enabled j ≡ Some f → slice_get (first_features_of g) p ≡ Some s
    → slice_get (nodes_of g) (s + j) ≡ Some (feature_node c f)
unfolding nodes_of
feature_node_at g p s j c f at of start =
    let low = at_least g.crates (length g.crates) p s start in
    slice_get-right (map crate_node g.crates) (flat_map feature_nodes g.crates) (s + j) ((s + j) - length g.crates)
    (omega (arith, low, length-map g.crates crate_node))
    ∙ feature_at g.crates (length g.crates) p s j ((s + j) - length g.crates) c f at of start (omega (arith, low))

-- the number of a feature's node, by the last crate whose first feature is not above it
pub feature_inside : (g : Graph) (n p : ℕ) (c : Crate) (last : IsLastUpTo (first_features_of g) n p)
    → slice_get g.crates p ≡ Some c → n < length (nodes_of g) → n - last.start < length c.enabled
feature_inside g n p c last at inside =
    owned g.crates (length g.crates) p last.start n c at last.here last.up_to last.next
    (omega (arith, inside, length-nodes g))

length-starts : (cs : List Crate) (first : ℕ) → length (features_from first cs) ≡ length cs
length-starts [] first = refl
length-starts (c ∷ cs) first = ap suc (length-starts cs (first + length c.enabled))

pub length-first_features : (g : Graph) → length (first_features_of g) ≡ length g.crates
length-first_features g = length-starts g.crates (length g.crates)

-- ---- no two numbers share a node

-- the place of each crate of a graph is its index
pub record HavePlaces (g : Graph) : Type 0 where
  pub each : (n : ℕ) (c : Crate) → slice_get g.crates n ≡ Some c → c.place ≡ n

record IsFeature (g : Graph) (cs : List Crate) (first n : ℕ) : Type 0 where
  owner : ℕ
  krate : Crate
  start : ℕ
  index : ℕ
  feature : List ℕ
  at : slice_get cs owner ≡ Some krate
  starts : slice_get (features_from first cs) owner ≡ Some start
  of : slice_get krate.enabled index ≡ Some feature
  is : n ≡ start + index

located : (g : Graph) (cs : List Crate) (first n : ℕ) → first ≤ n → n < first + feature_count cs
    → IsFeature g cs first n
located g [] first n low high = absurd (omega (arith, low, high))
located g (c ∷ cs) first n low high = elim (cases_lt n (first + length c.enabled)) as
    (λ _. IsFeature g (c ∷ cs) first n) [
      | inl here ↦
          let one = some_at c.enabled (n - first) (omega (arith, here, low)) in
          record {
            owner = 0;
            krate = c;
            start = first;
            index = n - first;
            feature = one.0;
            at = refl;
            starts = refl;
            of = one.1;
            is = omega (arith, low);
          }
      | inr later ↦
          let rest = located g cs (first + length c.enabled) n later (omega (arith, high)) in
          record {
            owner = suc rest.owner;
            krate = rest.krate;
            start = rest.start;
            index = rest.index;
            feature = rest.feature;
            at = rest.at;
            starts = rest.starts;
            of = rest.of;
            is = rest.is;
          }
    ]

module _ (g : Graph) (placed : HavePlaces g)
    (ascend : All (λ c. IsStrictlySortedBy (slice_cmp nat_cmp) c.enabled) g.crates) where
  -- the node at a number is that of a crate, or of a feature
  node_by_number : (n : ℕ) (node : Node) → slice_get (nodes_of g) n ≡ Some node
      → ((node.feature ≡ None) × (node.place ≡ n)) ⊎ ((at : IsFeature g g.crates (length g.crates) n)
      × (node.feature ≡ Some at.feature) × (node.place ≡ at.owner))
  node_by_number n node is = elim (cases_lt n (length g.crates)) as
      (λ _. ((node.feature ≡ None) × (node.place ≡ n)) ⊎ ((at : IsFeature g g.crates (length g.crates) n)
      × (node.feature ≡ Some at.feature) × (node.place ≡ at.owner))) [
        | inl inside ↦
            let c = some_at g.crates n inside in
            let same = same_Some (crate_node c.0) node (sym (crate_node_at g n c.0 c.1) ∙ is) in
            inl (
              ap (λ (m : Node). m.feature) (sym same),
              ap (λ (m : Node). m.place) (sym same) ∙ placed.each n c.0 c.1,
            )
        | inr past ↦
            let within = slice_get_within (nodes_of g) n node is in
            let at = located g g.crates (length g.crates) n past (omega (arith, within, length-nodes g)) in
            let there_is = feature_node_at g at.owner at.start at.index at.krate at.feature at.at at.of at.starts in
            let same = same_Some (feature_node at.krate at.feature) node
            (sym there_is ∙ (ap (slice_get (nodes_of g)) (sym at.is) ∙ is)) in
            inr (
              at,
              ap (λ (m : Node). m.feature) (sym same),
              ap (λ (m : Node). m.place) (sym same) ∙ placed.each at.owner at.krate at.at,
            )
      ]

  one_index : (fs : List (List ℕ)) (i j : ℕ) (f : List ℕ) → IsStrictlySortedBy (slice_cmp nat_cmp) fs
      → slice_get fs i ≡ Some f → slice_get fs j ≡ Some f → i ≡ j
  one_index fs i j f sorted at at' = elim (cases_lt i j) as (λ _. i ≡ j) [
    | inl below ↦ absurd (not_below_itself (slice_cmp nat_cmp) nat_list_cmp_total f f refl
        (ascends_at (slice_cmp nat_cmp) fs i j f f sorted below at at'))
    | inr not_below ↦ elim (cases_lt j i) as (λ _. i ≡ j) [
      | inl above ↦ absurd (not_below_itself (slice_cmp nat_cmp) nat_list_cmp_total f f refl
          (ascends_at (slice_cmp nat_cmp) fs j i f f sorted above at' at))
      | inr not_above ↦ omega (arith, not_below, not_above)
    ]
  ]

  same_feature : (m n : ℕ) (at : IsFeature g g.crates (length g.crates) m)
      (other : IsFeature g g.crates (length g.crates) n) → at.owner ≡ other.owner → at.feature ≡ other.feature → m ≡ n
  same_feature m n at other owner feature =
      let krate : at.krate ≡ other.krate = one_there g.crates other.owner at.krate other.krate
      (subst (λ (p : ℕ). slice_get g.crates p ≡ Some at.krate) owner at.at) other.at in
      let start : at.start ≡ other.start = one_there (features_from (length g.crates) g.crates) other.owner at.start
      other.start (subst (λ (p : ℕ). slice_get (features_from (length g.crates) g.crates) p ≡ Some at.start) owner
      at.starts) other.starts in
      let of : slice_get other.krate.enabled at.index ≡ Some other.feature =
      subst (λ (c : Crate). slice_get c.enabled at.index ≡ Some other.feature) krate
      (at.of ∙ ap (λ f. Some f) feature) in
      let sorted = All-contains (λ (c : Crate). IsStrictlySortedBy (slice_cmp nat_cmp) c.enabled) g.crates other.krate
      ascend (from_there g.crates other.owner other.krate other.at) in
      let index = one_index other.krate.enabled at.index other.index other.feature sorted of other.of in
      omega (arith, at.is, other.is, start, index)

  one_number : (m n : ℕ) (node : Node) → slice_get (nodes_of g) m ≡ Some node → slice_get (nodes_of g) n ≡ Some node
      → m ≡ n
  one_number m n node at at' = elim (node_by_number m node at) as (λ _. m ≡ n) [
    | inl krate ↦ elim (node_by_number n node at') as (λ _. m ≡ n) [
      | inl other ↦ sym krate.1 ∙ other.1
      | inr other ↦ absurd (none-some other.0.feature (sym krate.0 ∙ other.1))
    ]
    | inr feature ↦ elim (node_by_number n node at') as (λ _. m ≡ n) [
      | inl other ↦ absurd (none-some feature.0.feature (sym other.0 ∙ feature.1))
      | inr other ↦ same_feature m n feature.0 other.0 (sym feature.2 ∙ other.2)
          (same_Some feature.0.feature other.0.feature (sym feature.1 ∙ other.1))
    ]
  ]

  pub nodes_apart : AllPairs (λ a b. a ≢ b) (nodes_of g)
  nodes_apart i j d below inside same =
      let at = slice_get-get_or (nodes_of g) i d (omega (arith, below, inside)) in
      let at' = slice_get-get_or (nodes_of g) j d inside in
      let one = one_number i j (slice_index_or (nodes_of g) i d) at (at' ∙ ap (λ x. Some x) (sym same)) in
      absurd (omega (arith, one, below))
