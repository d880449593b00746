-- Lists that are computed from lists with new spans.
use Rattle.std.proofs.Common.{◌≡◌, ◌∙◌, ◌++◌, ◌∷◌, ◌||◌, Bool, List, None, Option, Some, [], ap, inl, inr, map, false}
use Rattle.std.proofs.Common.{refl, sym, true}
use Rattle.std.specs.Prelude.{Contains, filter, filter_map, if◌then◌else◌, is_none, option_and_then, option_map}
use Rattle.std.specs.List.{flat_map, list_any}
use Rattle.std.proofs.lemmas.Bool.{cases_Bool}
use Rattle.std.proofs.lemmas.List.{map-append}
use Rattle.deny_base_lists.proofs.Agreement.{AgreeOn}
use Rattle.deny_base_lists.proofs.Members.{Contains-first, Contains-from_map, Contains-rest, contains_map}
use Rattle.deny_base_lists.proofs.Members.{Contains-same}
use Rattle.deny_base.specs.declared.entry.EntryKind.{EntryKind}
use Rattle.deny_base.specs.declared.entry.Witness.TheVariants.{Krate}
use Rattle.deny_base.specs.declared.key.Key.{Key}
use Rattle.deny_base.specs.declared.span.Span.{Span}
use Rattle.deny_spec.specs.Graph.{Crate, kid_of}
use Rattle.deny_spec.specs.Hits.{hit_of}
use Rattle.deny_spec_removal.specs.Renaming.{Renaming, renamed_hit}

-- a test on elements with new spans
pub any_anew : {X : Type 0} (u t : X → Bool) (anew : X → X) (xs : List X)
    → ((x : X) → Contains xs x → u (anew x) ≡ t x) → list_any u (map anew xs) ≡ list_any t xs
any_anew u t anew [] same = refl
any_anew u t anew (x ∷ xs) same = ap (λ b. b || list_any u (map anew xs)) (same x (Contains-first x xs))
    ∙ ap (λ b. t x || b) (any_anew u t anew xs (λ y is. same y (Contains-rest x xs y is)))

-- the keys of elements that pass a test, with new spans
pub reported_alike : {X K : Type 0} (u t : X → Bool) (l k : X → K) (h : K → K) (xs : List X) → AgreeOn xs u t
    → ((x : X) → l x ≡ h (k x)) → map l (filter u xs) ≡ map h (map k (filter t xs))
reported_alike u t l k h [] same reported = refl
reported_alike u t l k h (x ∷ xs) same reported =
    let rest = reported_alike u t l k h xs (λ y is. same y (Contains-rest x xs y is)) reported in
    elim (cases_Bool (t x)) as (λ _. map l (filter u (x ∷ xs)) ≡ map h (map k (filter t (x ∷ xs)))) [
      | inl e ↦ rw (same x (Contains-first x xs), e, reported x, rest) refl
      | inr e ↦ rw (same x (Contains-first x xs), e, rest) refl
    ]

-- the keys of elements with new spans that pass a test
pub reported_anew : {X K : Type 0} (u t : X → Bool) (anew : X → X) (l k : X → K) (h : K → K) (xs : List X)
    → ((x : X) → Contains xs x → u (anew x) ≡ t x) → ((x : X) → l (anew x) ≡ h (k x))
    → map l (filter u (map anew xs)) ≡ map h (map k (filter t xs))
reported_anew u t anew l k h [] same reported = refl
reported_anew u t anew l k h (x ∷ xs) same reported =
    let rest = reported_anew u t anew l k h xs (λ y is. same y (Contains-rest x xs y is)) reported in
    elim (cases_Bool (t x)) as (λ _. map l (filter u (map anew (x ∷ xs))) ≡ map h (map k (filter t (x ∷ xs)))) [
      | inl e ↦ rw (same x (Contains-first x xs), e, reported x, rest) refl
      | inr e ↦ rw (same x (Contains-first x xs), e, rest) refl
    ]

-- the keys of each element
pub made_alike : {X K : Type 0} (l k : X → K) (h : K → K) (xs : List X) → ((x : X) → l x ≡ h (k x))
    → map l xs ≡ map h (map k xs)
made_alike l k h [] reported = refl
made_alike l k h (x ∷ xs) reported = rw (reported x, made_alike l k h xs reported) refl

pub made_anew : {X K : Type 0} (anew : X → X) (l k : X → K) (h : K → K) (xs : List X)
    → ((x : X) → l (anew x) ≡ h (k x)) → map l (map anew xs) ≡ map h (map k xs)
made_anew anew l k h [] reported = refl
made_anew anew l k h (x ∷ xs) reported = rw (reported x, made_anew anew l k h xs reported) refl

-- the keys under a guard
pub when_anew : {K : Type 0} (h : K → K) (guard : Bool) (xs ys : List K) → xs ≡ map h ys
    → (if guard then xs else []) ≡ map h (if guard then ys else [])
when_anew h true xs ys reported = reported
when_anew h false xs ys reported = refl

pub flat_map_alike : {X K : Type 0} (f' f : X → List K) (h : K → K) (xs : List X)
    → ((x : X) → Contains xs x → f' x ≡ map h (f x)) → flat_map f' xs ≡ map h (flat_map f xs)
flat_map_alike f' f h [] same = refl
flat_map_alike f' f h (x ∷ xs) same = ap (λ ys. ys ++ flat_map f' xs) (same x (Contains-first x xs))
    ∙ (ap (λ ys. map h (f x) ++ ys) (flat_map_alike f' f h xs (λ y is. same y (Contains-rest x xs y is)))
    ∙ sym (map-append h (f x) (flat_map f xs)))

pub flat_map_anew : {X K : Type 0} (f' f : X → List K) (anew : X → X) (h : K → K) (xs : List X)
    → ((x : X) → Contains xs x → f' (anew x) ≡ map h (f x)) → flat_map f' (map anew xs) ≡ map h (flat_map f xs)
flat_map_anew f' f anew h [] same = refl
flat_map_anew f' f anew h (x ∷ xs) same = ap (λ ys. ys ++ flat_map f' (map anew xs)) (same x (Contains-first x xs))
    ∙ (ap (λ ys. map h (f x) ++ ys) (flat_map_anew f' f anew h xs (λ y is. same y (Contains-rest x xs y is)))
    ∙ sym (map-append h (f x) (flat_map f xs)))

pub filter_map_anew : {X K : Type 0} (f' f : X → Option K) (anew : X → X) (h : K → K) (xs : List X)
    → ((x : X) → Contains xs x → f' (anew x) ≡ option_map h (f x))
    → filter_map f' (map anew xs) ≡ map h (filter_map f xs)
filter_map_anew f' f anew h [] same = refl
filter_map_anew {X} {K} f' f anew h (x ∷ xs) same =
    by_first (filter_map_anew f' f anew h xs (λ y is. same y (Contains-rest x xs y is)))
    (f x) (same x (Contains-first x xs)) refl
  where
    by_first : filter_map f' (map anew xs) ≡ map h (filter_map f xs) → (o : Option K) → f' (anew x) ≡ option_map h o
        → f x ≡ o → filter_map f' (map anew (x ∷ xs)) ≡ map h (filter_map f (x ∷ xs))
    by_first rest None made is = rw (made, is, rest) refl
    by_first rest (Some k) made is = rw (made, is, rest) refl

pub and_then_anew : {X K : Type 0} (f' f : X → Option K) (h : K → K) (o : Option X)
    → ((x : X) → f' x ≡ option_map h (f x)) → option_and_then f' o ≡ option_map h (option_and_then f o)
and_then_anew f' f h None same = refl
and_then_anew f' f h (Some x) same = same x

pub none_anew : {X : Type 0} (f : X → X) (o : Option X) → is_none (option_map f o) ≡ is_none o
none_anew f None = refl
none_anew f (Some x) = refl

-- ---- keys and hits with a new span

-- the hit of an entry by a crate
pub crate_hit_anew : (r : Renaming) (kind : EntryKind) (span : Span) (o : Option Crate)
    → option_map (λ c. hit_of kind (r.span span) (Krate (kid_of c))) o
    ≡ option_map (renamed_hit r) (option_map (λ c. hit_of kind span (Krate (kid_of c))) o)
crate_hit_anew r kind span None = refl
crate_hit_anew r kind span (Some c) = refl

abbrev pub spanned : Renaming → Key → Key
spanned r key = record key { entry = r.span key.entry }

pub made_there : (h : Key → Key) (xs ys : List Key) (key : Key) → ys ≡ map h xs → Contains xs key
    → Contains ys (h key)
made_there h xs ys key same is = Contains-same (map h xs) ys (h key) (sym same) (contains_map h xs key is)

pub made_back : (h : Key → Key) (xs ys : List Key) (key : Key) → ys ≡ map h xs → Contains ys key
    → (old : Key) × Contains xs old × (key ≡ h old)
made_back h xs ys key same is =
    let from = Contains-from_map h xs key (Contains-same ys (map h xs) key same is) in
    (from.from, from.member, sym from.is)

pub keys_there : (r : Renaming) (xs ys : List Key) (key : Key) → ys ≡ map (spanned r) xs → Contains xs key
    → Contains ys (spanned r key)
keys_there r xs ys key same is = made_there (spanned r) xs ys key same is

pub keys_back : (r : Renaming) (xs ys : List Key) (key : Key) → ys ≡ map (spanned r) xs → Contains ys key
    → (old : Key) × Contains xs old × (key ≡ spanned r old)
keys_back r xs ys key same is = made_back (spanned r) xs ys key same is

-- a key of a list has its new key in a new list, and each key of the new list is the new key of one of the list
abbrev pub AreAnew : (Key → Key) → List Key → List Key → Key → Type 0
AreAnew h old new key = (Contains old key → Contains new (h key))
    × (Contains new key → (one : Key) × Contains old one × (key ≡ h one))

pub keys_anew : (r : Renaming) (old new : List Key) (key : Key) → new ≡ map (spanned r) old
    → AreAnew (spanned r) old new key
keys_anew r old new key same = (λ is. keys_there r old new key same is, λ is. keys_back r old new key same is)

pub keys_same : (old new : List Key) (key : Key) → new ≡ old → AreAnew (λ k. k) old new key
keys_same old new key same =
    (λ is. Contains-same old new key (sym same) is, λ is. (key, Contains-same new old key same is, refl))
