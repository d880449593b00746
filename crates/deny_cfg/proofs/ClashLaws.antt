-- Only equal clashes tie; and how clashes are collected.
use Rattle.std.proofs.Common.{◌≡◌, ◌<◌, ◌≤◌, ◌+◌, ◌++◌, ℕ, Bool, true, false, List, [], ◌∷◌, Option, Some, None, drop}
use Rattle.std.proofs.Common.{length, map, slice_index_or, add-one, append_assoc, append-nil, inl, inr, refl, sym}
use Rattle.std.proofs.Common.{subst, ap, ◌∙◌}
use Rattle.std.specs.Prelude.{Contains, Err, Ok, OnOk, Result, cond, filter, filter_map}
use Rattle.std.specs.List.{cons_option}
use Rattle.std.proofs.Math.ListN.{drop_of_length-le}
use Rattle.std.proofs.Math.Seq.{drop-cons}
use Rattle.std.specs.Ordering.{bool_cmp, nat_cmp}
use Rattle.std.specs.FinMap.{IsAntisymmetric, nat_cmp-IsAntisymmetric}
use Rattle.deny_base.proofs.KeyEqual.{span_cmp-exact}
use Rattle.deny_base_lists.proofs.Orders.{then_first, then_second}
use Rattle.deny_base.specs.KeyOrder.{span_cmp}
use Rattle.deny_base.specs.declared.span.Span.{Span}
use Rattle.deny_cfg_build.specs.Wrong.{IsWrong}
use Rattle.deny_cfg_build.specs.declared.wrong.BuildFault.{BuildFault}
use Rattle.deny_base_lists.proofs.Adding.{adds_list, adds_same}
use Rattle.deny_base_lists.proofs.Members.{Contains-from_map, contains_map, no_member}
use Rattle.deny_base_lists.specs.Ascending.{Adds}
use Rattle.deny_cfg_tables.specs.declared.bans.cfg.build.BuildConfig.{BuildConfig}
use Rattle.deny_cfg.specs.Clashes.{IsBuildClash, IsWrongIn, build_clash, clash_cmp, kind_cmp, kind_number}
use Rattle.deny_cfg.specs.declared.clash.Clash.{Clash}
use Rattle.deny_cfg.specs.declared.clash.ClashKind.{ClashKind}
use Rattle.deny_cfg.specs.declared.clash.ClashKind.TheVariants.{WrappersOfMultiple, DenyAndAllow, DenyAndSkip}
use Rattle.deny_cfg.specs.declared.clash.ClashKind.TheVariants.{AllowAndSkip, FeatureTwice, Extension, Glob, Path}

kind_at : ℕ → ClashKind
kind_at n =
    slice_index_or
    (WrappersOfMultiple ∷ DenyAndAllow ∷ DenyAndSkip ∷ AllowAndSkip ∷ FeatureTwice ∷ Extension ∷ Glob ∷ Path ∷ []) n
    FeatureTwice

kind_at-number : (kind : ClashKind) → kind_at (kind_number kind) ≡ kind
unfolding kind_at kind_number
kind_at-number WrappersOfMultiple = refl
kind_at-number DenyAndAllow = refl
kind_at-number DenyAndSkip = refl
kind_at-number AllowAndSkip = refl
kind_at-number FeatureTwice = refl
kind_at-number Extension = refl
kind_at-number Glob = refl
kind_at-number Path = refl

kind_cmp-exact : IsAntisymmetric kind_cmp
kind_cmp-exact a b e =
    sym (kind_at-number a) ∙ (ap kind_at (nat_cmp-IsAntisymmetric (kind_number a) (kind_number b) e) ∙ kind_at-number b)

bool_cmp-exact : IsAntisymmetric bool_cmp
bool_cmp-exact true true e = refl
bool_cmp-exact true false e = cc e
bool_cmp-exact false true e = cc e
bool_cmp-exact false false e = refl

clash_from : ClashKind → Span → Span → Span → ℕ → Bool → Clash
clash_from kind first second third number ascii = record {
  kind = kind;
  first = first;
  second = second;
  third = third;
  number = number;
  ascii = ascii;
}

clash_from-is : (c : Clash) → clash_from c.kind c.first c.second c.third c.number c.ascii ≡ c
unfolding clash_from
clash_from-is c = refl

pub clash_cmp-exact : IsAntisymmetric clash_cmp
clash_cmp-exact a b e =
    let after_kind = then_second (kind_cmp a.kind b.kind) _ e in
    let after_first = then_second (span_cmp a.first b.first) _ after_kind in
    let after_second = then_second (span_cmp a.second b.second) _ after_first in
    let kind : a.kind ≡ b.kind = kind_cmp-exact a.kind b.kind (then_first _ _ e) in
    let first : a.first ≡ b.first = span_cmp-exact a.first b.first (then_first _ _ after_kind) in
    let second : a.second ≡ b.second = span_cmp-exact a.second b.second (then_first _ _ after_first) in
    let third : a.third ≡ b.third = span_cmp-exact a.third b.third (then_first _ _ after_second) in
    let after_third = then_second (span_cmp a.third b.third) _ after_second in
    let number : a.number ≡ b.number =
    nat_cmp-IsAntisymmetric a.number b.number (then_first _ _ after_third) in
    let ascii : a.ascii ≡ b.ascii =
    bool_cmp-exact a.ascii b.ascii (then_second (nat_cmp a.number b.number) _ after_third) in
    cc (clash_from-is a, clash_from-is b)

put_one : {A : Type 0} (done : List A) (o : Option A) (rest : List A)
    → (done ++ cons_option o []) ++ rest ≡ done ++ cons_option o rest
put_one done None rest = ap (λ xs. xs ++ rest) (append-nil done)
put_one done (Some x) rest = append_assoc done (x ∷ []) rest

-- what one more item gives is put behind what the others give
pub gathers_next : {X Y : Type 0} (f : X → Option Y) (xs : List X) (i : ℕ) (x : X) (done new all : List Y)
    (o : Option Y) → i < length xs → x ≡ slice_index_or xs i x
    → done ++ filter_map f (drop i xs) ≡ all → o ≡ f x → new ≡ done ++ cons_option o []
    → new ++ filter_map f (drop (i + 1) xs) ≡ all
gathers_next f xs i x done new all o inside is before gives put =
    let next : drop i xs ≡ x ∷ drop (i + 1) xs = rw (drop-cons xs i x inside, ← is, add-one) refl in
    ap (λ ys. ys ++ filter_map f (drop (i + 1) xs)) put
    ∙ (put_one done o (filter_map f (drop (i + 1) xs))
    ∙ (ap (λ p. done ++ cons_option p (filter_map f (drop (i + 1) xs))) gives
    ∙ (ap (λ ys. done ++ filter_map f ys) (sym next) ∙ before)))

pub gathers_all : {X Y : Type 0} (f : X → Option Y) (xs : List X) (i : ℕ) (done all : List Y) → length xs ≤ i
    → done ++ filter_map f (drop i xs) ≡ all → done ≡ all
gathers_all f xs i done all past is =
    sym (append-nil done) ∙ (ap (λ ys. done ++ filter_map f ys) (sym (drop_of_length-le xs past)) ∙ is)

-- filtering, then mapping, then taking what is given

pub given_where : {X Y Z : Type 0} (f : Y → Option Z) (h : X → Y) (p : X → Bool) (xs : List X)
    → filter_map f (map h (filter p xs)) ≡ filter_map (λ x. cond (p x) (f (h x)) None) xs
given_where f h p [] = refl
given_where f h p (x ∷ xs) = by_test (p x) (given_where f h p xs)
  where
    by_test : (b : Bool) → filter_map f (map h (filter p xs)) ≡ filter_map (λ x. cond (p x) (f (h x)) None) xs
        → filter_map f (map h (cond b (x ∷ filter p xs) (filter p xs)))
        ≡ cons_option (cond b (f (h x)) None) (filter_map (λ x. cond (p x) (f (h x)) None) xs)
    by_test true e = ap (cons_option (f (h x))) e
    by_test false e = e

-- the faults of a table are put behind the other clashes
pub adds_wrong : (source : List ℕ) (written : Option BuildConfig) (build : BuildConfig) (faults given : List BuildFault)
    (old new : List Clash) → written ≡ Some build → Adds (IsWrong source build) [] faults → given ≡ faults
    → new ≡ old ++ map build_clash given → Adds (IsBuildClash source written) old new
adds_wrong source written build faults given old new is wrong same put =
    subst (λ o. Adds (IsBuildClash source o) old new) (sym is)
    (adds_same (Contains (map build_clash faults)) (IsWrongIn source build) old new
    (adds_list old new (map build_clash faults) (put ∙ ap (λ fs. old ++ map build_clash fs) same))
    (λ found there.
    let made = Contains-from_map build_clash faults found there in
    elim (wrong.sound made.from made.member) as (λ _. IsWrongIn source build found) [
      | inl none ↦ absurd (no_member made.from none)
      | inr here ↦ record { of = made.from; wrong = here; is = sym made.is }
    ])
    (λ found here. subst (Contains (map build_clash faults)) (sym here.is)
    (contains_map build_clash faults here.of (wrong.whole here.of here.wrong))))

pub on_ok_more : {T E : Type 0} (r : Result T E) (P Q : Type 0) → (P → Q) → OnOk r P → OnOk r Q
on_ok_more (Ok x) P Q more is = more is
on_ok_more (Err e) P Q more is = tt
