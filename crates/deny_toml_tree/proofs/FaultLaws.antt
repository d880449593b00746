-- The order of faults is total, only equal faults tie, and `in_order` is the ascending list of its faults.
use Rattle.deny_base_lists.proofs.Orders.{then_first, then_second, slice_cmp-append}
use Rattle.std.proofs.Common.{length, ◌≢◌, Bool, true, false, ◌&&◌, ◌||◌, ◌++◌, append-nil, ◌≡◌, ℕ, List, []}
use Rattle.std.proofs.Common.{◌∷◌, Contains, slice_index_or, refl, sym, ap, subst, inl, inr, ◌∙◌}
use Rattle.std.proofs.lemmas.List.{nil_from_length}
use Rattle.std.specs.Ordering.{bool_cmp, nat_cmp, ordering_then, ordering_reverse, match_ordering}
use Rattle.std.specs.Cmp.{IsTotalOrder, bool_cmp_total, nat_cmp_total, on_total, then_total}
use Rattle.std.specs.Cmp.Lexicographic.{slice_cmp, nat_list_cmp_total}
use Rattle.std.specs.FinMap.{IsAntisymmetric, nat_cmp-IsAntisymmetric, slice_cmp-IsAntisymmetric}
use Rattle.std.specs.List.{AllByRecursion}
use Rattle.std.specs.List.Sorted.{IsStrictlySortedBy}
use Rattle.std.specs.BTreeSet.{insert_key}
use Rattle.std.specs.declared.cmp.Ordering.{Ordering}
use Rattle.std.specs.declared.cmp.Ordering.TheVariants.{Less, Equal, Greater}
use Rattle.deny_base_lists.specs.Ascending.{Lists}
use Rattle.deny_base.specs.KeyOrder.{span_cmp}
use Rattle.deny_base.specs.declared.span.Span.{Span}
use Rattle.deny_base.proofs.KeyEqual.{span_cmp-exact, span_cmp-total}
use Rattle.deny_base_lists.proofs.Members.{Contains-cases, Contains-first, Contains-rest}
use Rattle.deny_base_lists.proofs.Sorted.{one_list}
use Rattle.deny_toml_tree.specs.declared.error.FaultKind.{FaultKind}
use Rattle.deny_toml_tree.specs.declared.error.FaultKind.TheVariants as kind
use Rattle.deny_toml_tree.specs.declared.error.ConfigFault.{ConfigFault}
use Rattle.deny_toml_tree.specs.Faults.{kind_number, kind_cmp, fault_cmp, in_order, is_empty, is_of_itself, is_own_path}
use Rattle.deny_toml_tree.specs.Faults.{path_of, path_under, fault_under, under, names_key, IsListOf, Reports}
use Rattle.deny_toml_tree.specs.declared.error.DeserError.{DeserError}
use Rattle.deny_toml_tree.specs.declared.error.DeserError.TheVariants.{Faults}

kinds : List FaultKind
kinds =
    kind.NotUtf8 ∷ kind.Grammar ∷ kind.Clash ∷ kind.Unknown ∷ kind.Missing ∷ kind.WrongKind ∷ kind.Unreadable
    ∷ kind.NoToday ∷ []

kind_at : ℕ → FaultKind
kind_at n = slice_index_or kinds n kind.NotUtf8

kind_at-number : (k : FaultKind) → kind_at (kind_number k) ≡ k
unfolding kind_at kinds kind_number
kind_at-number kind.NotUtf8 = refl
kind_at-number kind.Grammar = refl
kind_at-number kind.Clash = refl
kind_at-number kind.Unknown = refl
kind_at-number kind.Missing = refl
kind_at-number kind.WrongKind = refl
kind_at-number kind.Unreadable = refl
kind_at-number kind.NoToday = refl

kind_cmp-exact : IsAntisymmetric kind_cmp
kind_cmp-exact a b e = sym (kind_at-number a) ∙ (ap kind_at (nat_cmp-IsAntisymmetric (kind_number a) (kind_number b) e)
    ∙ kind_at-number b)

fault_from : FaultKind → List ℕ → Bool → Span → ConfigFault
fault_from kind key nameless span = record { span = span; kind = kind; key = key; is_nameless = nameless }

fault_from-is : (f : ConfigFault) → fault_from f.kind f.key f.is_nameless f.span ≡ f
unfolding fault_from
fault_from-is f = refl

bool_cmp-exact : IsAntisymmetric bool_cmp
bool_cmp-exact true true e = refl
bool_cmp-exact true false e = cc e
bool_cmp-exact false true e = cc e
bool_cmp-exact false false e = refl

pub fault_cmp-exact : IsAntisymmetric fault_cmp
fault_cmp-exact a b e =
    let after_span = then_second (span_cmp a.span b.span) _ e in
    let after_kind = then_second (kind_cmp a.kind b.kind) _ after_span in
    let span : a.span ≡ b.span = span_cmp-exact a.span b.span (then_first _ _ e) in
    let kind : a.kind ≡ b.kind = kind_cmp-exact a.kind b.kind (then_first _ _ after_span) in
    let key : a.key ≡ b.key = slice_cmp-IsAntisymmetric nat_cmp-IsAntisymmetric a.key b.key
    (then_first _ _ after_kind) in
    let nameless : a.is_nameless ≡ b.is_nameless =
    bool_cmp-exact a.is_nameless b.is_nameless (then_second (slice_cmp nat_cmp a.key b.key) _ after_kind) in
    cc (fault_from-is a, fault_from-is b)

fault_cmp-total : IsTotalOrder fault_cmp
fault_cmp-total =
    then_total (on_total (λ (f : ConfigFault). f.span) span_cmp-total)
    (then_total (on_total (λ (f : ConfigFault). f.kind) (on_total kind_number nat_cmp_total))
    (then_total (on_total (λ (f : ConfigFault). f.key) nat_list_cmp_total)
    (on_total (λ (f : ConfigFault). f.is_nameless) bool_cmp_total)))

module _ {K : Type 0} {cmp : K → K → Ordering} (total : IsTotalOrder cmp) (exact : IsAntisymmetric cmp) where
  -- an element above a key is above each key below that one
  above : (k x : K) (xs : List K) → cmp k x ≡ Less → AllByRecursion (λ y. cmp x y ≡ Less) xs
      → AllByRecursion (λ y. cmp k y ≡ Less) xs
  above k x [] below all = tt
  above k x (y ∷ ys) below all = (total.trans k x y below all.0, above k x ys below all.1)

  turned : (k x : K) → cmp k x ≡ Greater → cmp x k ≡ Less
  turned k x e = total.antisymm x k ∙ ap ordering_reverse e

  -- a property of a key and of each key of a list holds in the list with the key inserted
  all_by : (P : K → Type 0) (k x : K) (xs ys : List K) (r : Ordering) → P k → P x → AllByRecursion P xs
      → AllByRecursion P ys
      → AllByRecursion P (match_ordering r (k ∷ x ∷ xs) (x ∷ xs) (x ∷ ys))
  all_by P k x xs ys Less here first rest more = (here, (first, rest))
  all_by P k x xs ys Equal here first rest more = (first, rest)
  all_by P k x xs ys Greater here first rest more = (first, more)

  all_with : (P : K → Type 0) (k : K) (xs : List K) → P k → AllByRecursion P xs → AllByRecursion P (insert_key cmp xs k)
  all_with P k [] here all = (here, tt)
  all_with P k (x ∷ xs) here all = all_by P k x xs (insert_key cmp xs k) (cmp k x) here all.0 all.1
      (all_with P k xs here all.1)

  sorted_by : (k x : K) (xs ys : List K) (r : Ordering) → cmp k x ≡ r → IsStrictlySortedBy cmp (x ∷ xs)
      → (cmp x k ≡ Less → AllByRecursion (λ y. cmp x y ≡ Less) ys) → IsStrictlySortedBy cmp ys
      → IsStrictlySortedBy cmp (match_ordering r (k ∷ x ∷ xs) (x ∷ xs) (x ∷ ys))
  unfolding IsStrictlySortedBy
  sorted_by k x xs ys Less e up over rest = ((e, above k x xs e up.0), up)
  sorted_by k x xs ys Equal e up over rest = up
  sorted_by k x xs ys Greater e up over rest = (over (turned k x e), rest)

  -- a key inserted into an ascending list leaves it ascending
  IsStrictlySortedBy-insert_key : (k : K) (xs : List K) → IsStrictlySortedBy cmp xs
      → IsStrictlySortedBy cmp (insert_key cmp xs k)
  unfolding IsStrictlySortedBy
  IsStrictlySortedBy-insert_key k [] up = (tt, tt)
  IsStrictlySortedBy-insert_key k (x ∷ xs) up =
      sorted_by k x xs (insert_key cmp xs k) (cmp k x) refl up
      (λ below. all_with (λ y. cmp x y ≡ Less) k xs below up.0)
      (IsStrictlySortedBy-insert_key k xs up.1)

  new_by : (k x : K) (xs ys : List K) (r : Ordering) → cmp k x ≡ r → Contains ys k
      → Contains (match_ordering r (k ∷ x ∷ xs) (x ∷ xs) (x ∷ ys)) k
  new_by k x xs ys Less e more = Contains-first k (x ∷ xs)
  new_by k x xs ys Equal e more = subst (λ z. Contains (x ∷ xs) z) (sym (exact k x e)) (Contains-first x xs)
  new_by k x xs ys Greater e more = Contains-rest x ys k more

  Contains-insert_key_new : (k : K) (xs : List K) → Contains (insert_key cmp xs k) k
  Contains-insert_key_new k [] = Contains-first k []
  Contains-insert_key_new k (x ∷ xs) = new_by k x xs (insert_key cmp xs k) (cmp k x) refl (Contains-insert_key_new k xs)

  old_by : (k x : K) (xs ys : List K) (r : Ordering) (z : K) → Contains (x ∷ xs) z → (Contains xs z → Contains ys z)
      → Contains (match_ordering r (k ∷ x ∷ xs) (x ∷ xs) (x ∷ ys)) z
  old_by k x xs ys Less z is more = Contains-rest k (x ∷ xs) z is
  old_by k x xs ys Equal z is more = is
  old_by k x xs ys Greater z is more = elim (Contains-cases x xs z is) [
    | inl first ↦ subst (λ w. Contains (x ∷ ys) w) first (Contains-first x ys)
    | inr later ↦ Contains-rest x ys z (more later)
  ]

  Contains-insert_key_old : (k : K) (xs : List K) (z : K) → Contains xs z → Contains (insert_key cmp xs k) z
  Contains-insert_key_old k [] z is = Contains-rest k [] z is
  Contains-insert_key_old k (x ∷ xs) z is = old_by k x xs (insert_key cmp xs k) (cmp k x) z is
      (Contains-insert_key_old k xs z)

  from_by : (k x : K) (xs ys : List K) (r : Ordering) (z : K)
      → Contains (match_ordering r (k ∷ x ∷ xs) (x ∷ xs) (x ∷ ys)) z
      → (Contains ys z → Contains (k ∷ xs) z) → Contains (k ∷ x ∷ xs) z
  from_by k x xs ys Less z is more = is
  from_by k x xs ys Equal z is more = Contains-rest k (x ∷ xs) z is
  from_by k x xs ys Greater z is more = elim (Contains-cases x ys z is) [
    | inl first ↦ subst (λ w. Contains (k ∷ x ∷ xs) w) first (Contains-rest k (x ∷ xs) x (Contains-first x xs))
    | inr later ↦ elim (Contains-cases k xs z (more later)) [
      | inl new ↦ subst (λ w. Contains (k ∷ x ∷ xs) w) new (Contains-first k (x ∷ xs))
      | inr old ↦ Contains-rest k (x ∷ xs) z (Contains-rest x xs z old)
    ]
  ]

  Contains-from_insert_key : (k : K) (xs : List K) (z : K) → Contains (insert_key cmp xs k) z → Contains (k ∷ xs) z
  Contains-from_insert_key k [] z is = is
  Contains-from_insert_key k (x ∷ xs) z is = from_by k x xs (insert_key cmp xs k) (cmp k x) z is
      (Contains-from_insert_key k xs z)

-- `in_order` lists exactly its faults
pub in_order-lists : (fs : List ConfigFault) → Lists fault_cmp (Contains fs) (in_order fs)
unfolding in_order IsStrictlySortedBy
in_order-lists [] = record { ascending = tt; whole = λ z is. is; sound = λ z is. is }
in_order-lists (f ∷ fs) =
    let rest = in_order-lists fs in
    record {
      ascending = IsStrictlySortedBy-insert_key fault_cmp-total fault_cmp-exact f (in_order fs) rest.ascending;
      whole = λ z is. elim (Contains-cases f fs z is) [
        | inl first ↦ subst (λ w. Contains (insert_key fault_cmp (in_order fs) f) w) first
            (Contains-insert_key_new fault_cmp-total fault_cmp-exact f (in_order fs))
        | inr later ↦ Contains-insert_key_old fault_cmp-total fault_cmp-exact f (in_order fs) z (rest.whole z later)
      ];
      sound = λ z is. elim (Contains-cases f (in_order fs) z
          (Contains-from_insert_key fault_cmp-total fault_cmp-exact f (in_order fs) z is)) [
            | inl first ↦ subst (λ w. Contains (f ∷ fs) w) first (Contains-first f fs)
            | inr later ↦ Contains-rest f fs z (rest.sound z later)
          ];
    }

-- `in_order` is the only ascending list of its faults
pub in_order-only : (fs gs : List ConfigFault) → Lists fault_cmp (Contains fs) gs → gs ≡ in_order fs
in_order-only fs gs lists = one_list fault_cmp-total gs (in_order fs) lists (in_order-lists fs)

insert_key-some : (r : Ordering) (f g : ConfigFault) (fs gs : List ConfigFault)
    → match_ordering r (f ∷ g ∷ gs) (g ∷ gs) (g ∷ fs) ≡ [] → ⊥
insert_key-some Less f g fs gs e = cc e
insert_key-some Equal f g fs gs e = cc e
insert_key-some Greater f g fs gs e = cc e

insert_key-not_empty : (fs : List ConfigFault) (f : ConfigFault) → insert_key fault_cmp fs f ≡ [] → ⊥
insert_key-not_empty [] f e = cc e
insert_key-not_empty (g ∷ gs) f e = insert_key-some (fault_cmp f g) f g (insert_key fault_cmp gs f) gs e

-- `in_order` of faults is empty exactly where there are none
pub in_order-empty : (fs : List ConfigFault) → in_order fs ≡ [] → fs ≡ []
unfolding in_order
in_order-empty [] e = refl
in_order-empty (f ∷ fs) e = absurd (insert_key-not_empty (in_order fs) f e)

pub in_order-none : (fs : List ConfigFault) → fs ≡ [] → in_order fs ≡ []
unfolding in_order
in_order-none fs e = rw e

-- the list of faults has length 0 exactly where there are none
pub none_listed : (fs listed : List ConfigFault) (n : ℕ) → listed ≡ in_order fs → n ≡ length listed → n ≡ 0 → fs ≡ []
none_listed fs listed n order len zero = in_order-empty fs (sym order ∙ nil_from_length listed (sym len ∙ zero))

-- the lists of errors ascend
pub single_ascends : (f : ConfigFault) → IsStrictlySortedBy fault_cmp (f ∷ [])
unfolding IsStrictlySortedBy
single_ascends f = (tt, tt)

pub in_order_ascends : (fs : List ConfigFault) → IsStrictlySortedBy fault_cmp (in_order fs)
in_order_ascends fs = (in_order-lists fs).ascending

-- the last two parts of the order of faults of one kind, under a name
abbrev path_cmp : List ℕ → Bool → Bool → Bool → List ℕ → List ℕ → Ordering
path_cmp name names b c xs ys =
    ordering_then (slice_cmp nat_cmp (path_of name (is_own_path names b xs) xs)
    (path_of name (is_own_path names c ys) ys))
    (bool_cmp (b || (is_own_path names b xs && is_empty name)) (c || (is_own_path names c ys && is_empty name)))

longer-below : (name : List ℕ) (y : ℕ) (ys : List ℕ) → slice_cmp nat_cmp name (name ++ y ∷ ys) ≡ Less
longer-below name y ys =
    subst (λ xs. slice_cmp nat_cmp xs (name ++ y ∷ ys) ≡ Less) (append-nil name)
    (slice_cmp-append nat_cmp_total name [] (y ∷ ys))

-- two empty paths: the first is of the value itself, or names a key, and the second is of a value without a name
empties-ascend : (name : List ℕ) (names b c : Bool) → bool_cmp b c ≡ Less → path_cmp name names b c [] [] ≡ Less
empties-ascend name names true true below = cc below
empties-ascend name names true false below = cc below
empties-ascend name names false false below = cc below
empties-ascend name true false true below = rw (slice_cmp-append nat_cmp_total name (46 ∷ []) (46 ∷ [])) refl
empties-ascend name false false true below = rw (longer-below name 46 []) refl

-- an empty path comes before others
empty-ascends : (name : List ℕ) (names b c : Bool) (y : ℕ) (ys : List ℕ) → path_cmp name names b c [] (y ∷ ys) ≡ Less
empty-ascends name true b c y ys = rw (slice_cmp-append nat_cmp_total name (46 ∷ []) (46 ∷ y ∷ ys)) refl
empty-ascends name false true c y ys = rw (slice_cmp-append nat_cmp_total name (46 ∷ []) (46 ∷ y ∷ ys)) refl
empty-ascends name false false c y ys = rw (longer-below name 46 (y ∷ ys)) refl

paths-ascend : (name : List ℕ) (names b c : Bool) (xs ys : List ℕ)
    → ordering_then (slice_cmp nat_cmp xs ys) (bool_cmp b c) ≡ Less
    → path_cmp name names b c xs ys ≡ Less
paths-ascend name names b c [] [] below = empties-ascend name names b c below
paths-ascend name names b c [] (y ∷ ys) below = empty-ascends name names b c y ys
paths-ascend name names b c (x ∷ xs) [] below = cc below
paths-ascend name names true true (x ∷ xs) (y ∷ ys) below =
    rw (slice_cmp-append nat_cmp_total name (46 ∷ x ∷ xs) (46 ∷ y ∷ ys)) below
paths-ascend name names true false (x ∷ xs) (y ∷ ys) below =
    rw (slice_cmp-append nat_cmp_total name (46 ∷ x ∷ xs) (46 ∷ y ∷ ys)) below
paths-ascend name names false true (x ∷ xs) (y ∷ ys) below =
    rw (slice_cmp-append nat_cmp_total name (46 ∷ x ∷ xs) (46 ∷ y ∷ ys)) below
paths-ascend name names false false (x ∷ xs) (y ∷ ys) below =
    rw (slice_cmp-append nat_cmp_total name (46 ∷ x ∷ xs) (46 ∷ y ∷ ys)) below

then_less : (r s t u : Ordering) → ordering_then r (ordering_then s t) ≡ Less → (s ≡ Equal → t ≡ Less → u ≡ Less)
    → ordering_then r (ordering_then s u) ≡ Less
then_less Less s t u e h = refl
then_less Equal Less t u e h = refl
then_less Equal Equal t u e h = h refl e
then_less Equal Greater t u e h = cc e
then_less Greater s t u e h = cc e

-- the order of two faults under a name, after span and kind
abbrev under_cmp : List ℕ → ConfigFault → ConfigFault → FaultKind → Ordering
under_cmp name f g k =
    ordering_then
    (slice_cmp nat_cmp (path_under name f) (path_of name (is_own_path (names_key k) g.is_nameless g.key) g.key))
    (bool_cmp (f.is_nameless || (is_of_itself f && is_empty name))
    (g.is_nameless || (is_own_path (names_key k) g.is_nameless g.key && is_empty name)))

fault_under-below : (name : List ℕ) (f g : ConfigFault) → fault_cmp f g ≡ Less
    → fault_cmp (fault_under name f) (fault_under name g) ≡ Less
fault_under-below name f g below =
    then_less (span_cmp f.span g.span) (kind_cmp f.kind g.kind)
    (ordering_then (slice_cmp nat_cmp f.key g.key) (bool_cmp f.is_nameless g.is_nameless)) (under_cmp name f g g.kind)
    below
    (λ ties key. subst (λ k. under_cmp name f g k ≡ Less) (kind_cmp-exact f.kind g.kind ties)
    (paths-ascend name (names_key f.kind) f.is_nameless g.is_nameless f.key g.key key))

all_under : (name : List ℕ) (f : ConfigFault) (gs : List ConfigFault) → AllByRecursion (λ g. fault_cmp f g ≡ Less) gs
    → AllByRecursion (λ g. fault_cmp (fault_under name f) g ≡ Less) (under name gs)
all_under name f [] all = tt
all_under name f (g ∷ gs) all = (fault_under-below name f g all.0, all_under name f gs all.1)

under_ascends : (name : List ℕ) (fs : List ConfigFault) → IsStrictlySortedBy fault_cmp fs
    → IsStrictlySortedBy fault_cmp (under name fs)
unfolding IsStrictlySortedBy
under_ascends name [] up = tt
under_ascends name (f ∷ fs) up = (all_under name f fs up.0, under_ascends name fs up.1)

-- there are faults under a name exactly where there are faults
under-some : (name : List ℕ) (fs : List ConfigFault) → fs ≢ [] → under name fs ≢ []
under-some name [] some e = some refl
under-some name (f ∷ fs) some e = cc e

-- an error that lists faults reports them
pub reports_these : (fs listed : List ConfigFault) → Reports fs (Faults listed) → IsListOf fs (Faults listed)
reports_these fs listed reported = elim reported [
  | inl is ↦ absurd (cc is)
  | inr these ↦ these
]

-- an error whose faults are put under a name
pub reports_under : (name : List ℕ) (fs listed named : List ConfigFault) (e : DeserError) → Reports fs e
    → e ≡ Faults listed → named ≡ under name listed
    → Reports (under name fs) (Faults named)
reports_under name fs listed named e reported is put =
    let r = reports_these fs listed (subst (λ d. Reports fs d) is reported) in
    inr (put ∙ ap (under name) r.0, under-some name fs r.1, under_ascends name fs r.2)
