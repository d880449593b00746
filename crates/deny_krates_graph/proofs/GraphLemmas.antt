-- Lists of the graph that grow by one.
use Rattle.deny_base_lists.proofs.Members.{one_there}
use Rattle.std.proofs.Common.{◌≡◌, ◌<◌, ◌≤◌, ◌+◌, ◌++◌, ℕ, zero, suc, inl, inr, List, [], ◌∷◌, Bool, true, false, Some}
use Rattle.std.proofs.Common.{length, map, take, drop, refl, sym, ap, ◌∙◌, subst, arith, add-one, length-append}
use Rattle.std.specs.Prelude.{◌==◌, All, Contains, fold, slice_get, slice_index_or}
use Rattle.std.specs.List.{AllZip}
use Rattle.std.specs.Option.{option_map_or}
use Rattle.std.proofs.lemmas.Bool.{cases_eq}
use Rattle.std.proofs.lemmas.List.Elements.{All-contains, All-push, Contains-push, Contains-append_left}
use Rattle.std.proofs.lemmas.Option.{get_or_from_slice_get}
use Rattle.std.proofs.Math.Seq.{drop-cons, take-suc}
use Rattle.std.specs.declared.cmp.Ordering.{Ordering}
use Rattle.deny_base_lists.specs.Ascending.{Lists}
use Rattle.deny_krates_graph.proofs.OrderLemmas.{kept_from-is}
use Rattle.deny_krates_graph.specs.private.Direct.{id_in, is_last, with_incoming}
use Rattle.deny_krates_graph.specs.private.Graph.{IsKeptNode, edge_to, edges_from, features_at, listed, no_package}
use Rattle.deny_krates_graph.specs.Packages.{rank_of}
use Rattle.deny_krates_graph.specs.Filtered.{is_marked}
use Rattle.deny_krates_graph.specs.private.Reach.{links_at}
use Rattle.deny_krates_sources.specs.declared.checked.ResolvedNode.{ResolvedNode}
use Rattle.deny_krates_metadata.specs.declared.node.MetadataNode.{MetadataNode}
use Rattle.deny_krates_metadata.specs.declared.package.MetadataPackage.{MetadataPackage}
use Rattle.deny_krates_graph.specs.declared.direct.IncomingEdge.{IncomingEdge}
use Rattle.deny_krates_graph.specs.declared.graph.KeptPackage.{KeptPackage}
use Rattle.deny_krates_graph.specs.declared.krate.DirectDependent.{DirectDependent}
use Rattle.deny_krates_graph.specs.declared.krate.Krate.{Krate}

pub links_of_row : (rows : List ResolvedNode) (node : ℕ) (r : ResolvedNode) → slice_get rows node ≡ Some r
    → links_at rows node ≡ r.links
links_of_row rows node r is = rw is refl

pub id_of_krate : (krates : List Krate) (place : ℕ) (k : Krate) → slice_get krates place ≡ Some k
    → id_in krates place ≡ k.id.0
id_of_krate krates place k is = rw is refl

pub zip_more : {A B : Type 0} (R : A → B → Type 0) (xs : List A) (ys : List B) (i : ℕ) (x : A) (y : B) → i < length xs
    → x ≡ slice_index_or xs i x → AllZip R (take i xs) ys → R x y
    → AllZip R (take (i + 1) xs) (ys ++ y ∷ [])
zip_more {A} {B} R xs ys i x y inside is zip r =
    rw (add-one, take-suc xs i x inside, ← is) (zip_push (take i xs) ys zip)
  where
    zip_push : (us : List A) (vs : List B) → AllZip R us vs → AllZip R (us ++ x ∷ []) (vs ++ y ∷ [])
    zip_push [] [] z = (r, tt)
    zip_push [] (v ∷ vs) z = absurd z
    zip_push (u ∷ us) [] z = absurd z
    zip_push (u ∷ us) (v ∷ vs) z = (z.0, zip_push us vs z.1)

pub edges_next : (rows : List ResolvedNode) (places : List ℕ) (kept : List KeptPackage) (i : ℕ) (k : KeptPackage)
    → i < length kept → k ≡ slice_index_or kept i k
    → edges_from rows places i (drop i kept) ≡ map (edge_to places i) (links_at rows k.node) ++ edges_from rows places
    (i + 1) (drop (i + 1) kept)
edges_next rows places kept i k inside is = rw (drop-cons kept i k inside, ← is, add-one) refl

pub last_is : (ds : List DirectDependent) (n place : ℕ) (d : DirectDependent) → suc n ≡ length ds
    → slice_get ds n ≡ Some d → is_last ds place ≡ (d.place == place)
last_is [] n place d long is = cc
last_is (e ∷ []) zero place d long is =
    ap (λ (x : DirectDependent). x.place == place) (one_there (e ∷ []) 0 e d refl is)
last_is (e ∷ []) (suc n) place d long is = absurd (omega (arith, long))
last_is (e ∷ f ∷ ds) zero place d long is = absurd (omega (arith, long))
last_is (e ∷ f ∷ ds) (suc n) place d long is = last_is (f ∷ ds) n place d (omega (arith, long)) is

-- two kept packages of one node are the same
pub one_kept : (packages : List MetadataPackage) (rows : List ResolvedNode) (marks : List Bool) (k l : KeptPackage)
    → IsKeptNode packages rows marks k → IsKeptNode packages rows marks l → k.node ≡ l.node → k ≡ l
one_kept packages rows marks k l a b same =
    let row : a.row ≡ b.row = one_there rows l.node a.row b.row
    (subst (λ (n : ℕ). slice_get rows n ≡ Some a.row) same a.at) b.at in
    let owner : k.owner ≡ l.owner = a.owner ∙ (ap (λ (r : ResolvedNode). r.owner) row ∙ sym b.owner) in
    let one : listed packages k ≡ listed packages l = one_there packages b.row.owner (listed packages k)
    (listed packages l) (subst (λ (r : ResolvedNode). slice_get packages r.owner ≡ Some (listed packages k)) row
    a.holds) b.holds in
    let rank : k.rank ≡ l.rank = a.ranked ∙ (ap rank_of one ∙ sym b.ranked) in
    cc (kept_from-is k, kept_from-is l)

-- the package of a kept package is the one at its number
pub listed_is : (packages : List MetadataPackage) (k : KeptPackage) (p : MetadataPackage)
    → slice_get packages k.owner ≡ Some p
    → listed packages k ≡ p
unfolding listed
listed_is packages k p at = get_or_from_slice_get packages k.owner p no_package at

pub record IsGathered (packages : List MetadataPackage) (rows : List ResolvedNode) (marks : List Bool)
    (kept : List KeptPackage)
    (upto : ℕ) : Type 0 where
  pub sound : All (IsKeptNode packages rows marks) kept
  pub whole : (k : KeptPackage) → IsKeptNode packages rows marks k → k.node < upto → Contains kept k
  pub few : length kept ≤ upto

pub gathered_more : (packages : List MetadataPackage) (rows : List ResolvedNode) (marks : List Bool)
    (kept : List KeptPackage)
    (k : KeptPackage) → IsGathered packages rows marks kept k.node → IsKeptNode packages rows marks k
    → IsGathered packages rows marks (kept ++ k ∷ []) (k.node + 1)
gathered_more packages rows marks kept k so_far is = record {
  sound = All-push (IsKeptNode packages rows marks) kept k so_far.sound is;
  whole = λ l holds below. elim (cases_eq l.node k.node) as (λ _. Contains (kept ++ k ∷ []) l) [
    | inl same ↦ subst (λ (m : KeptPackage). Contains (kept ++ k ∷ []) m)
        (sym (one_kept packages rows marks l k holds is same)) (Contains-push kept k)
    | inr other ↦ Contains-append_left kept (k ∷ []) l (so_far.whole l holds (omega (arith, below, other)))
  ];
  few = omega (arith, so_far.few, length-append kept (k ∷ []));
}

pub gathered_skip : (packages : List MetadataPackage) (rows : List ResolvedNode) (marks : List Bool)
    (kept : List KeptPackage)
    (node : ℕ) → IsGathered packages rows marks kept node → is_marked marks node ≡ false
    → IsGathered packages rows marks kept (node + 1)
gathered_skip packages rows marks kept node so_far isnt = record {
  sound = so_far.sound;
  whole = λ l holds below. elim (cases_eq l.node node) as (λ _. Contains kept l) [
    | inl same ↦ absurd (not_both (is_marked marks node) isnt
        (subst (λ (n : ℕ). is_marked marks n ≡ true) same holds.marked))
    | inr other ↦ so_far.whole l holds (omega (arith, below, other))
  ];
  few = omega (arith, so_far.few);
}
  where
    not_both : (b : Bool) → b ≡ false → b ≡ true → ⊥
    not_both true e h = absurd (cc)
    not_both false e h = absurd (cc)

-- the inverse of the first numbers of a list
pub record IsPlaced (numbers : List ℕ) (size : ℕ) (places : List ℕ) (upto : ℕ) : Type 0 where
  pub long : length places ≡ size
  pub at : (place n : ℕ) → place < upto → slice_get numbers place ≡ Some n → slice_index_or places n 0 ≡ place

-- the rows of dependents after one more incoming edge
pub record AreSortedOut (incoming : List IncomingEdge) (crates : ℕ) (rows : List (List DirectDependent))
    (upto : ℕ) : Type 0 where
  pub long : length rows ≡ crates
  pub at : (child : ℕ) → child < crates
      → slice_index_or rows child [] ≡ fold (with_incoming child) [] (take upto incoming)

-- a list of the elements of another lists what the other contains
pub lists_of : {T : Type 0} (cmp : T → T → Ordering) (P : T → Type 0) (xs ys : List T) → Lists cmp (Contains xs) ys
    → ((x : T) → P x → Contains xs x) → All P xs → Lists cmp P ys
lists_of cmp P xs ys lists whole sound = record {
  ascending = lists.ascending;
  whole = λ x is. lists.whole x (whole x is);
  sound = λ x is. All-contains P xs x sound (lists.sound x is);
}

-- the features at a number are those of the node there
pub features_are : (nodes : List MetadataNode) (n : ℕ) (node : MetadataNode) → slice_get nodes n ≡ Some node
    → features_at nodes n ≡ node.features
features_are nodes n node at = ap (λ o. option_map_or (λ (m : MetadataNode). m.features) o []) at
