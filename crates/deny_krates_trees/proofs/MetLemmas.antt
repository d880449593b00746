-- The nodes that were met, by their numbers.
use Rattle.std.proofs.Common.{◌≡◌, ◌≢◌, ◌∙◌, ◌<◌, ℕ, Bool, true, false, cond, List, ◌∷◌, Option, None, Some, inl, inr}
use Rattle.std.proofs.Common.{ap, sym, refl, subst, arith, eq-eqb, eqb-true, get_or, length, ◌||◌}
use Rattle.std.specs.Prelude.{◌==◌, AllPairs, unwrap_or}
use Rattle.std.specs.declared.cmp.Ordering.TheVariants.{Equal}
use Rattle.std.specs.BTreeMap.{is_at}
use Rattle.std.specs.Cmp.{Equal-is, tied_itself}
use Rattle.std.specs.FinMap.{nat_cmp-IsAntisymmetric}
use Rattle.std.specs.List.{list_any}
use Rattle.std.specs.Option.{option_eq}
use Rattle.std.specs.Ordering.{nat_cmp}
use Rattle.std.proofs.lemmas.Bool.{and_parts, false_from_ne_true, false≢true}
use Rattle.std.proofs.lemmas.Bool.Decides.{leb_tells}
use Rattle.std.proofs.lemmas.Cmp.{nat_cmp_total, nat_list_eq_equiv}
use Rattle.std.proofs.lemmas.Option.{slice_get-get_or}
use Rattle.deny_krates.specs.Nodes.{Node, node_at, nodes_of}
use Rattle.deny_spec.specs.Graph.{Graph}
use Rattle.deny_spec.specs.Text.{same_text}
use Rattle.deny_spec.proofs.Texts.{equal_from_option_eq}
use Rattle.deny_krates_trees.specs.Parents.{same_node}
use Rattle.deny_krates_trees.specs.Tree.{is_met}
use Rattle.deny_krates_trees.specs.private.Growing.{AreMet}

feature_same : (a : Option (List ℕ)) → option_eq same_text a a ≡ true
feature_same None = refl
feature_same (Some x) = nat_list_eq_equiv.refl x

-- nodes that pass the test of equality are equal
pub same_node-true : (a b : Node) → same_node a b ≡ true → a ≡ b
unfolding same_node
same_node-true a b is =
    let parts = and_parts (a.place == b.place) (option_eq same_text a.feature b.feature) is in
    let place : a.place ≡ b.place = eqb-true a.place b.place parts.0 in
    let feature : a.feature ≡ b.feature = equal_from_option_eq a.feature b.feature parts.1 in
    ap (λ p. record { place = p; feature = a.feature }) place
    ∙ ap (λ f. record { place = b.place; feature = f }) feature

pub same_node_refl : (a : Node) → same_node a a ≡ true
unfolding same_node
same_node_refl a = rw (eq-eqb a.place a.place refl) (feature_same a.feature)

pub node_at-get_or : (g : Graph) (n : ℕ) (d : Node) → n < length (nodes_of g) → node_at g n ≡ get_or (nodes_of g) n d
unfolding node_at
node_at-get_or g n d within =
    ap (λ o. unwrap_or o (record { place = 0; feature = None })) (slice_get-get_or (nodes_of g) n d within)

-- no two numbers share a node
own_number : (g : Graph) → AllPairs (λ a b. a ≢ b) (nodes_of g) → (m n : ℕ) → m < length (nodes_of g)
    → n < length (nodes_of g) → node_at g m ≡ node_at g n → m ≡ n
own_number g own m n within within' same =
    elim (leb_tells m n) [
      | inl up ↦ elim (leb_tells n m) [
        | inl down ↦ omega (arith, up.1, down.1)
        | inr less ↦ absurd (apart m n within within' less.1 same)
      ]
      | inr less ↦ absurd (apart n m within' within less.1 (sym same))
    ]
  where
    apart : (i j : ℕ) → i < length (nodes_of g) → j < length (nodes_of g) → i < j → node_at g i ≡ node_at g j → ⊥
    apart i j low high less is =
        let d = node_at g i in
        own i j d less high (sym (node_at-get_or g i d low) ∙ is ∙ node_at-get_or g j d high)

number_exact : (e n : ℕ) → is_at (nat_cmp e) n ≡ true → e ≡ n
number_exact e n is = nat_cmp-IsAntisymmetric e n ((Equal-is (nat_cmp e n)).0 is)

-- a node is met, and its number is added to the others
pub met_more : (g : Graph) (numbers more : List ℕ) (met : List Node) (e : ℕ) → AllPairs (λ a b. a ≢ b) (nodes_of g)
    → e < length (nodes_of g) → AreMet g numbers met
    → ((q : ℕ) → list_any (is_at (nat_cmp q)) more
    ≡ cond (is_at (nat_cmp e) q) true (list_any (is_at (nat_cmp q)) numbers))
    → AreMet g more (node_at g e ∷ met)
unfolding is_met
met_more g numbers more met e own within are updates = record {
  same = λ n inside. by_test n inside (is_at
      (nat_cmp e) n) refl;
}
  where
    by_test : (n : ℕ) → n < length (nodes_of g) → (b : Bool) → is_at (nat_cmp e) n ≡ b
        → is_met (node_at g e ∷ met) (node_at g n) ≡ list_any (is_at (nat_cmp n)) more
    by_test n inside true is =
        let same : same_node (node_at g n) (node_at g e) ≡ true =
        subst (λ k. same_node (node_at g k) (node_at g e) ≡ true) (number_exact e n is)
        (same_node_refl (node_at g e)) in
        ap (λ b. b || list_any (same_node (node_at g n)) met) same
        ∙ sym (updates n ∙ ap (λ b. cond b true (list_any (is_at (nat_cmp n)) numbers)) is)
    by_test n inside false is =
        let other : same_node (node_at g n) (node_at g e) ≡ false = false_from_ne_true (same_node (node_at g n)
        (node_at g e))
        (λ known. differs (own_number g own n e inside within (same_node-true (node_at g n) (node_at g e) known))) in
        ap (λ b. b || list_any (same_node (node_at g n)) met) other
        ∙ (are.same n inside
        ∙ sym (updates n ∙ ap (λ b. cond b true (list_any (is_at (nat_cmp n)) numbers)) is))
      where
        differs : n ≡ e → ⊥
        differs same =
            let tie : nat_cmp e n ≡ Equal = subst (λ k. nat_cmp e k ≡ Equal) (sym same) (tied_itself nat_cmp_total e) in
            false≢true (sym is ∙ (Equal-is (nat_cmp e n)).1 tie)
