-- The list of a fact: it ascends, holds each value once, and holds exactly the values of which the fact is true.
use Rattle.std.specs.Prelude.{◌≡◌, ◌⊎◌, List, All, Contains, Some, find}
use Rattle.std.specs.List.Sorted.{IsStrictlySortedBy}
use Rattle.std.specs.Ordering.{eq_by_cmp}
use Rattle.std.specs.declared.cmp.Ordering.{Ordering}

pub record Lists {T : Type 0} (cmp : T → T → Ordering) (P : T → Type 0) (xs : List T) : Type 0 where
  pub ascending : IsStrictlySortedBy cmp xs
  pub whole : (x : T) → P x → Contains xs x
  pub sound : (x : T) → Contains xs x → P x

-- the new list holds what the old list holds, and besides exactly the values of which a fact is true
pub record Adds {T : Type 0} (P : T → Type 0) (old new : List T) : Type 0 where
  pub kept : (x : T) → Contains old x → Contains new x
  pub whole : (x : T) → P x → Contains new x
  pub sound : (x : T) → Contains new x → Contains old x ⊎ P x

-- each record of the new list is the first of the old list that has its key
abbrev pub AreFirst : {T K : Type 0} → (K → K → Ordering) → (T → K) → List T → List T → Type 0
AreFirst cmp key old new = All (λ r. find (λ other. eq_by_cmp cmp (key r) (key other)) old ≡ Some r) new
