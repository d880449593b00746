-- The members of any list, in an ascending one.
use Rattle.std.proofs.Common.{List, [], inl, inr, refl, subst, sym, ◌∙◌, ◌∷◌, ◌≡◌, ◌⊎◌, ap}
use Rattle.std.specs.Cmp.{IsTotalOrder}
use Rattle.std.specs.FinMap.{IsAntisymmetric}
use Rattle.std.specs.List.Sorted.{IsStrictlySortedBy}
use Rattle.std.specs.Ordering.{ordering_reverse}
use Rattle.std.specs.Prelude.{Contains}
use Rattle.std.specs.declared.cmp.Ordering.{Ordering}
use Rattle.std.specs.declared.cmp.Ordering.TheVariants.{Equal, Greater, Less}
use Rattle.deny_spec_report.proofs.Parts.{lists_same}
use Rattle.deny_base_lists.proofs.Each.{all_weaker, all_from_members}
use Rattle.deny_base_lists.proofs.Members.{Contains-cases, Contains-first, Contains-rest, at_member, no_member}
use Rattle.deny_base_lists.specs.Ascending.{Lists}

-- an ascending list of exactly the members of a predicate
pub record Ordered {T : Type 0} (cmp : T → T → Ordering) (P : T → Type 0) : Type 0 where
  pub list : List T
  pub listed : Lists cmp P list

module _ {T : Type 0} {cmp : T → T → Ordering} (total : IsTotalOrder cmp) (exact : IsAntisymmetric cmp) where
  -- an element, or one of the others
  abbrev IsOneOf : T → List T → T → Type 0
  IsOneOf x ys z = (x ≡ z) ⊎ Contains ys z

  prefix : (x y : T) (ys : List T) → cmp x y ≡ Less → IsStrictlySortedBy cmp (y ∷ ys)
      → Ordered cmp (IsOneOf x (y ∷ ys))
  unfolding IsStrictlySortedBy
  prefix x y ys below up = record {
    list = x ∷ (y ∷ ys);
    listed = record {
      ascending = (
        (below, all_weaker (λ z. cmp y z ≡ Less) (λ z. cmp x z ≡ Less) (λ z. total.trans x y z below) ys up.0),
        up,
      );
      whole = λ z is. elim is as (λ _. Contains (x ∷ (y ∷ ys)) z) [
        | inl same ↦ subst (Contains (x ∷ (y ∷ ys))) same (Contains-first x (y ∷ ys))
        | inr there ↦ Contains-rest x (y ∷ ys) z there
      ];
      sound = λ z is. Contains-cases x (y ∷ ys) z is;
    };
  }

  there_already : (x y : T) (ys : List T) → x ≡ y → IsStrictlySortedBy cmp (y ∷ ys) → Ordered cmp (IsOneOf x (y ∷ ys))
  there_already x y ys same up = record {
    list = y ∷ ys;
    listed = record {
      ascending = up;
      whole = λ z is. elim is as (λ _. Contains (y ∷ ys) z) [
        | inl found ↦ subst (Contains (y ∷ ys)) (sym same ∙ found) (Contains-first y ys)
        | inr there ↦ there
      ];
      sound = λ z is. inr is;
    };
  }

  behind : (x y : T) (ys : List T) → cmp y x ≡ Less → IsStrictlySortedBy cmp (y ∷ ys) → Ordered cmp (IsOneOf x ys)
      → Ordered cmp (IsOneOf x (y ∷ ys))
  unfolding IsStrictlySortedBy
  behind x y ys below up rest = record {
    list = y ∷ rest.list;
    listed = record {
      ascending = (
        all_from_members (λ z. cmp y z ≡ Less) rest.list
            (λ z is. elim (rest.listed.sound z is) as (λ _. cmp y z ≡ Less) [
              | inl same ↦ subst (λ w. cmp y w ≡ Less) same below
              | inr there ↦ at_member (λ w. cmp y w ≡ Less) ys z up.0 there
            ]),
        rest.listed.ascending,
      );
      whole = λ z is. elim is as (λ _. Contains (y ∷ rest.list) z) [
        | inl same ↦ Contains-rest y rest.list z (rest.listed.whole z (inl same))
        | inr there ↦ elim (Contains-cases y ys z there) as (λ _. Contains (y ∷ rest.list) z) [
          | inl first ↦ subst (Contains (y ∷ rest.list)) first (Contains-first y rest.list)
          | inr later ↦ Contains-rest y rest.list z (rest.listed.whole z (inr later))
        ]
      ];
      sound = λ z is. elim (Contains-cases y rest.list z is) as (λ _. IsOneOf x (y ∷ ys) z) [
        | inl first ↦ inr (subst (Contains (y ∷ ys)) first (Contains-first y ys))
        | inr later ↦ elim (rest.listed.sound z later) as (λ _. IsOneOf x (y ∷ ys) z) [
          | inl same ↦ inl same
          | inr there ↦ inr (Contains-rest y ys z there)
        ]
      ];
    };
  }

  with_one : (x : T) (ys : List T) → IsStrictlySortedBy cmp ys → Ordered cmp (IsOneOf x ys)
  unfolding IsStrictlySortedBy
  with_one x [] up = record {
    list = x ∷ [];
    listed = record {
      ascending = (tt, tt);
      whole = λ z is. elim is as (λ _. Contains (x ∷ []) z) [
        | inl same ↦ subst (Contains (x ∷ [])) same (Contains-first x [])
        | inr none ↦ absurd (no_member z none)
      ];
      sound = λ z is. Contains-cases x [] z is;
    };
  }
  with_one x (y ∷ ys) up = by (cmp x y) refl (with_one x ys up.1)
    where
      by : (o : Ordering) → cmp x y ≡ o → Ordered cmp (IsOneOf x ys) → Ordered cmp (IsOneOf x (y ∷ ys))
      by Less is rest = prefix x y ys is up
      by Equal is rest = there_already x y ys (exact x y is) up
      by Greater is rest = behind x y ys (total.antisymm y x ∙ ap ordering_reverse is) up rest

  pub ordered : (xs : List T) → Ordered cmp (Contains xs)
  unfolding IsStrictlySortedBy
  ordered [] = record {
    list = [];
    listed = record { ascending = tt; whole = λ z is. is; sound = λ z is. is };
  }
  ordered (x ∷ xs) =
      let rest = ordered xs in
      let more = with_one x rest.list rest.listed.ascending in
      record {
        list = more.list;
        listed = lists_same cmp (IsOneOf x rest.list) (Contains (x ∷ xs)) more.list more.listed
            (λ z is. elim is as (λ _. Contains (x ∷ xs) z) [
              | inl same ↦ subst (Contains (x ∷ xs)) same (Contains-first x xs)
              | inr there ↦ Contains-rest x xs z (rest.listed.sound z there)
            ])
            (λ z is. elim (Contains-cases x xs z is) as (λ _. IsOneOf x rest.list z) [
              | inl same ↦ inl same
              | inr there ↦ inr (rest.listed.whole z there)
            ]);
      }
