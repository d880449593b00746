-- Faults of a list of items, which are added item by item.
use Rattle.std.proofs.Common.{◌≡◌, ◌⊎◌, ◌++◌, ◌+◌, ◌<◌, ◌≤◌, ℕ, List, [], ◌∷◌, get_or, inl, inr, length, subst, sym}
use Rattle.std.proofs.Common.{take, ap, ◌∙◌}
use Rattle.std.specs.Prelude.{Contains, Err, Ok, OnOk, Result}
use Rattle.std.proofs.lemmas.List.{take_all, take_more}
use Rattle.std.proofs.lemmas.List.Elements.{Contains-append_cases, Contains-append_left, Contains-append_right}
use Rattle.deny_base_lists.specs.Ascending.{Adds}
use Rattle.deny_base_lists.proofs.Adding.{adds_list, adds_same, adds_then}
use Rattle.deny_base_lists.proofs.Members.{Contains-cases, Contains-first, no_member}
use Rattle.std.specs.Str.{chars}
use Rattle.deny_globs.specs.Faults.{IsBadAt}
use Rattle.deny_globs.specs.Tree.{IsGlob}
use Rattle.deny_globs.specs.declared.token.Token.{Token}
use Rattle.deny_globs.proofs.Once.{no_fault}
use Rattle.deny_spec.specs.Policy.{SpannedText}
use Rattle.deny_cfg_build.specs.Wrong.{IsGlobFaultOf, IsOfAny}
use Rattle.deny_cfg_build.specs.declared.wrong.BuildFault.{BuildFault}
use Rattle.deny_cfg_build.specs.declared.wrong.BuildFault.TheVariants as fault

module _ {X T : Type 0} (Is : X → T → Type 0) where
  any_then : (xs : List X) (x : X) (found : T) → IsOfAny Is xs found ⊎ Is x found → IsOfAny Is (xs ++ x ∷ []) found
  any_then xs x found (inl some) = (some.0, (Contains-append_left xs (x ∷ []) some.0 some.1.0, some.1.1))
  any_then xs x found (inr is) = (x, (Contains-append_right xs (x ∷ []) x (Contains-first x []), is))

  any_cases : (xs : List X) (x : X) (found : T) → IsOfAny Is (xs ++ x ∷ []) found → IsOfAny Is xs found ⊎ Is x found
  any_cases xs x found some =
      elim (Contains-append_cases xs (x ∷ []) some.0 some.1.0) as (λ _. IsOfAny Is xs found ⊎ Is x found) [
        | inl before ↦ inl (some.0, (before, some.1.1))
        | inr last ↦ elim (Contains-cases x [] some.0 last) as (λ _. IsOfAny Is xs found ⊎ Is x found) [
          | inl same ↦ inr (subst (λ y. Is y found) (sym same) some.1.1)
          | inr none ↦ absurd (no_member some.0 none)
        ]
      ]

  pub any_more : (xs : List X) (i : ℕ) (x : X) (old mid new : List T) → i < length xs → x ≡ get_or xs i x
      → Adds (IsOfAny Is (take i xs)) old mid → Adds (Is x) mid new → Adds (IsOfAny Is (take (i + 1) xs)) old new
  any_more xs i x old mid new inside is before here =
      subst (λ ys. Adds (IsOfAny Is ys) old new)
      (sym (take_more xs i x inside ∙ ap (λ y. take i xs ++ y ∷ []) (sym is)))
      (adds_same (λ found. IsOfAny Is (take i xs) found ⊎ Is x found) (IsOfAny Is (take i xs ++ x ∷ [])) old new
      (adds_then (IsOfAny Is (take i xs)) (Is x) old mid new before here) (any_then (take i xs) x)
      (any_cases (take i xs) x))

  pub any_all : (xs : List X) (i : ℕ) (old new : List T) → length xs ≤ i → Adds (IsOfAny Is (take i xs)) old new
      → Adds (IsOfAny Is xs) old new
  any_all xs i old new past adds = subst (λ ys. Adds (IsOfAny Is ys) old new) (take_all i xs past) adds

  pub any_none : (xs : List X) (old : List T) → Adds (IsOfAny Is (take 0 xs)) old old
  any_none xs old = record {
    kept = λ found is. is;
    whole = λ found some. absurd (no_member some.0 some.1.0);
    sound = λ found is. inl is;
  }

pub on_ok : {T E : Type 0} (r : Result T E) (P : Type 0) → P → OnOk r P
on_ok (Ok x) P is = is
on_ok (Err e) P is = tt

pub on_err : {T E : Type 0} (r : Result T E) (e : E) (P : Type 0) → r ≡ Err e → OnOk r P
on_err (Ok x) e P is = cc is
on_err (Err other) e P is = tt

-- the faults of equal lists are the same
pub of_same : {X T : Type 0} (Is : X → T → Type 0) {xs ys : List X} {old new : List T} → xs ≡ ys
    → Adds (IsOfAny Is xs) old new → Adds (IsOfAny Is ys) old new
of_same Is {old = old} {new = new} same adds = subst (λ zs. Adds (IsOfAny Is zs) old new) same adds

-- a text that is a glob has no fault, and another text has exactly one
pub fault_none : (glob : SpannedText) (old : List BuildFault) (text : List ℕ) (tokens : List Token) → text ≡ glob.value
    → IsGlob (chars text) tokens → Adds (IsGlobFaultOf glob) old old
fault_none glob old text tokens same good = record {
  kept = λ found is. is;
  whole = λ found is. absurd (no_fault {i = is.bad.character} tokens is.bad.fault
      (subst (λ t. IsGlob (chars t) tokens) same good));
  sound = λ found is. inl is;
}

pub fault_one : (glob : SpannedText) (text : List ℕ) (byte : ℕ) (old new : List BuildFault) → text ≡ glob.value
    → IsBadAt text byte → ((other : ℕ) → IsBadAt text other → other ≡ byte)
    → new ≡ old ++ fault.Glob glob.span byte ∷ [] → Adds (IsGlobFaultOf glob) old new
fault_one glob text byte old new same bad only put =
    adds_same (Contains (fault.Glob glob.span byte ∷ [])) (IsGlobFaultOf glob) old new
    (adds_list old new (fault.Glob glob.span byte ∷ []) put)
    (λ found is. elim (Contains-cases (fault.Glob glob.span byte) [] found is) as (λ _. IsGlobFaultOf glob found) [
      | inl first ↦ record { byte = byte; bad = subst (λ t. IsBadAt t byte) same bad; is = sym first }
      | inr none ↦ absurd (no_member found none)
    ])
    (λ found is. subst (Contains (fault.Glob glob.span byte ∷ []))
    (ap (fault.Glob glob.span) (sym (only is.byte (subst (λ t. IsBadAt t is.byte) (sym same) is.bad))) ∙ sym is.is)
    (Contains-first (fault.Glob glob.span byte) []))
