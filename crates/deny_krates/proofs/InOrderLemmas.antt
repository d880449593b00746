-- A list put in order is the ascending list of its members.
use Rattle.std.proofs.Common.{◌≡◌, ◌∙◌, List, [], ◌∷◌, refl, sym, ap, subst}
use Rattle.std.specs.Prelude.{Contains}
use Rattle.std.specs.Cmp.{IsTotalOrder}
use Rattle.std.specs.FinMap.{IsAntisymmetric}
use Rattle.std.specs.List.{AllByRecursion}
use Rattle.std.specs.List.Sorted.{IsStrictlySortedBy}
use Rattle.std.specs.Ordering.{ordering_reverse}
use Rattle.std.specs.declared.cmp.Ordering.{Ordering}
use Rattle.std.specs.declared.cmp.Ordering.TheVariants.{Less, Equal, Greater}
use Rattle.deny_base_lists.specs.Ascending.{Lists}
use Rattle.deny_base_lists.proofs.Each.{all_weaker}
use Rattle.deny_base_lists.proofs.Members.{Contains-by_cases, Contains-first, Contains-rest}
use Rattle.deny_base_lists.proofs.Sorted.{one_list}
use Rattle.deny_krates.specs.InOrder.{in_order, placed, put_into}

module _ {T : Type 0} (cmp : T → T → Ordering) (total : IsTotalOrder cmp) (exact : IsAntisymmetric cmp) where
  all_put : (P : T → Type 0) (x : T) (ys : List T) → P x → AllByRecursion P ys → AllByRecursion P (put_into cmp x ys)
  all_put P x [] here all = (here, tt)
  all_put P x (y ∷ ys) here all = by_order (cmp x y) (all_put P x ys here all.1)
    where
      by_order : (o : Ordering) → AllByRecursion P (put_into cmp x ys)
          → AllByRecursion P (placed o x y ys (put_into cmp x ys))
      by_order Less rest = (here, all)
      by_order Equal rest = all
      by_order Greater rest = (all.0, rest)

  put_ascends : (x : T) (ys : List T) → IsStrictlySortedBy cmp ys → IsStrictlySortedBy cmp (put_into cmp x ys)
  unfolding IsStrictlySortedBy
  put_ascends x [] up = (tt, tt)
  put_ascends x (y ∷ ys) up = by_order (cmp x y) refl (put_ascends x ys up.1)
    where
      by_order : (o : Ordering) → cmp x y ≡ o → IsStrictlySortedBy cmp (put_into cmp x ys)
          → IsStrictlySortedBy cmp (placed o x y ys (put_into cmp x ys))
      by_order Less is rest = (
        (is, all_weaker (λ z. cmp y z ≡ Less) (λ z. cmp x z ≡ Less) (λ z after. total.trans x y z is after) ys up.0),
        up,
      )
      by_order Equal is rest = up
      by_order Greater is rest = (
        all_put (λ z. cmp y z ≡ Less) x ys (total.antisymm y x ∙ ap ordering_reverse is) up.0,
        rest,
      )

  put_whole : (x : T) (ys : List T) (z : T) → Contains (x ∷ ys) z → Contains (put_into cmp x ys) z
  put_whole x [] z holds = holds
  put_whole x (y ∷ ys) z holds = by_order (cmp x y) refl (put_whole x ys z)
    where
      by_order : (o : Ordering) → cmp x y ≡ o → (Contains (x ∷ ys) z → Contains (put_into cmp x ys) z)
          → Contains (placed o x y ys (put_into cmp x ys)) z
      by_order Less is rest = holds
      by_order Equal is rest = Contains-by_cases x (y ∷ ys) z holds
          (λ same. subst (λ w. Contains (y ∷ ys) w) (sym (exact x y is) ∙ same) (Contains-first y ys))
          (λ later. later)
      by_order Greater is rest = Contains-by_cases x (y ∷ ys) z holds
          (λ same. Contains-rest y (put_into cmp x ys) z (rest (subst (λ w. Contains (x ∷ ys) w) same
          (Contains-first x ys))))
          (λ later. Contains-by_cases y ys z later
          (λ same. subst (λ w. Contains (y ∷ put_into cmp x ys) w) same (Contains-first y (put_into cmp x ys)))
          (λ after. Contains-rest y (put_into cmp x ys) z (rest (Contains-rest x ys z after))))

  put_sound : (x : T) (ys : List T) (z : T) → Contains (put_into cmp x ys) z → Contains (x ∷ ys) z
  put_sound x [] z holds = holds
  put_sound x (y ∷ ys) z holds = by_order (cmp x y) (put_sound x ys z) holds
    where
      by_order : (o : Ordering) → (Contains (put_into cmp x ys) z → Contains (x ∷ ys) z)
          → Contains (placed o x y ys (put_into cmp x ys)) z → Contains (x ∷ y ∷ ys) z
      by_order Less rest is = is
      by_order Equal rest is = Contains-rest x (y ∷ ys) z is
      by_order Greater rest is = Contains-by_cases y (put_into cmp x ys) z is
          (λ same. Contains-rest x (y ∷ ys) z (subst (λ w. Contains (y ∷ ys) w) same (Contains-first y ys)))
          (λ later. Contains-by_cases x ys z (rest later)
          (λ same. subst (λ w. Contains (x ∷ y ∷ ys) w) same (Contains-first x (y ∷ ys)))
          (λ after. Contains-rest x (y ∷ ys) z (Contains-rest y ys z after)))

  pub lists_in_order : (xs : List T) → Lists cmp (Contains xs) (in_order cmp xs)
  unfolding in_order IsStrictlySortedBy
  lists_in_order [] = record { ascending = tt; whole = λ z is. is; sound = λ z is. is }
  lists_in_order (x ∷ xs) =
      let rest = lists_in_order xs in
      record {
        ascending = put_ascends x (in_order cmp xs) rest.ascending;
        whole = λ z is. put_whole x (in_order cmp xs) z (Contains-by_cases x xs z is
            (λ same. subst (λ w. Contains (x ∷ in_order cmp xs) w) same (Contains-first x (in_order cmp xs)))
            (λ later. Contains-rest x (in_order cmp xs) z (rest.whole z later)));
        sound = λ z is. Contains-by_cases x (in_order cmp xs) z (put_sound x (in_order cmp xs) z is)
            (λ same. subst (λ w. Contains (x ∷ xs) w) same (Contains-first x xs))
            (λ later. Contains-rest x xs z (rest.sound z later));
      }

  -- the ascending list of the members is that list
  pub in_order_is : (xs ys : List T) → Lists cmp (Contains xs) ys → ys ≡ in_order cmp xs
  in_order_is xs ys listed = one_list total ys (in_order cmp xs) listed (lists_in_order xs)
