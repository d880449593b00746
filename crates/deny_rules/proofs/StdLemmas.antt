-- The keys of replaced crates: none where no table is asked for, and always in some ascending list.
use Rattle.std.proofs.Common.{List, [], ◌++◌, ◌⊎◌, Bool, None, Option, Some, false, inl, inr, not, refl, subst, true}
use Rattle.std.proofs.Common.{◌∷◌, ◌≡◌}
use Rattle.std.specs.List.{list_any}
use Rattle.std.specs.Option.{option_map_or}
use Rattle.std.specs.Prelude.{Contains, filter_map, find}
use Rattle.std.proofs.lemmas.List.Elements.{Contains-append_cases, Contains-append_left, Contains-append_right}
use Rattle.std.proofs.lemmas.Bool.{not-false}
use Rattle.deny_base.proofs.KeyEqual.{key_cmp-exact, key_cmp-total}
use Rattle.deny_base.specs.KeyOrder.{key_cmp}
use Rattle.deny_base.specs.declared.key.Key.{Key}
use Rattle.deny_spec.specs.Graph.{Crate, Graph, dependents}
use Rattle.deny_spec.specs.Policy.{Entry, Replacing, Scope, NoCrate, Workspace, Transitive, EachCrate}
use Rattle.deny_spec_report.specs.Circumstances.{Circumstances}
use Rattle.deny_spec_report.specs.Saying.{Items, Saying, said_by}
use Rattle.deny_spec_report.specs.StdReplacements.{asks_for_table, hits_ignore, ignore_hit, ignore_hits, ignore_hits_in}
use Rattle.deny_spec_report.specs.StdReplacements.{is_in_scope, is_replaced, is_reported_replaced, is_unmatched_ignore}
use Rattle.deny_spec_report.specs.StdReplacements.{looks_at_none, may_replace, replaced_keys, replaced_keys_in}
use Rattle.deny_spec_report.specs.StdReplacements.{unmatched_ignore_keys, unmatched_ignore_keys_in}
use Rattle.deny_spec_report.proofs.Parts.{lists_same}
use Rattle.deny_base_lists.proofs.Filters.{filter-none}
use Rattle.deny_base_lists.proofs.Members.{no_member}
use Rattle.deny_base_lists.proofs.Booleans.{and-false}
use Rattle.deny_std.specs.Found.{IsOfStd}
use Rattle.deny_rules.proofs.OrderedLemmas.{Ordered, ordered}

-- ---- an ascending list of the keys

pub std_ordered : (c : Circumstances) → Ordered key_cmp (IsOfStd c)
std_ordered c =
    let ignored = unmatched_ignore_keys_in c in
    let replaced = replaced_keys_in c in
    let all = ordered key_cmp-total key_cmp-exact (ignored ++ replaced) in
    record {
      list = all.list;
      listed = lists_same key_cmp (Contains (ignored ++ replaced)) (IsOfStd c) all.list all.listed
          (λ key is. Contains-append_cases ignored replaced key is)
          (λ key is. elim is as (λ _. Contains (ignored ++ replaced) key) [
            | inl one ↦ Contains-append_left ignored replaced key one
            | inr other ↦ Contains-append_right ignored replaced key other
          ]);
    }

-- ---- no keys, where the scope is none

any_fails : {X : Type 0} (test : X → Bool) (xs : List X) → ((x : X) → test x ≡ false) → list_any test xs ≡ false
any_fails test [] fails = refl
any_fails test (x ∷ xs) fails = rw (fails x) (any_fails test xs fails)

find_fails : {X : Type 0} (test : X → Bool) (xs : List X) → ((x : X) → test x ≡ false) → find test xs ≡ None
find_fails test [] fails = refl
find_fails test (x ∷ xs) fails = rw (fails x) (find_fails test xs fails)

gives_none : {X Y : Type 0} (f : X → Option Y) (xs : List X) → ((x : X) → f x ≡ None) → filter_map f xs ≡ []
gives_none f [] none = refl
gives_none f (x ∷ xs) none = rw (none x) (gives_none f xs none)

module _ (r : Replacing) (g : Graph) (said : Saying) (none : looks_at_none r.scope ≡ true) where
  out_of_scope : (s : Scope) → looks_at_none s ≡ true → (c : Crate) → is_in_scope s g c ≡ false
  unfolding is_in_scope
  out_of_scope NoCrate is c = refl
  out_of_scope Workspace is c = cc
  out_of_scope Transitive is c = cc
  out_of_scope EachCrate is c = cc

  may_not : (items : Items) (c : Crate) → may_replace r g items c ≡ false
  unfolding may_replace
  may_not items c = rw (out_of_scope r.scope none c) refl

  not_replaced : (c : Crate) → is_replaced r g said c ≡ false
  unfolding is_replaced
  not_replaced c = rw (by (said c.name)) (and-false _)
    where
      by : (o : Option Items)
          → option_map_or (λ items. list_any (may_replace r g items) (dependents g c.place)) o false ≡ false
      by None = refl
      by (Some items) = any_fails (may_replace r g items) (dependents g c.place) (may_not items)

  no_hit : (e : Entry) (c : Crate) → hits_ignore r g said e c ≡ false
  unfolding hits_ignore
  no_hit e c = rw (not_replaced c) refl

  none_reported : (c : Crate) → is_reported_replaced r g said c ≡ false
  unfolding is_reported_replaced
  none_reported c = rw (not_replaced c) refl

  none_unmatched : (e : Entry) → is_unmatched_ignore r g said e ≡ false
  unfolding is_unmatched_ignore
  none_unmatched e = rw none refl

  none_replaced_keys : replaced_keys r g said ≡ []
  unfolding replaced_keys
  none_replaced_keys = rw (filter-none (is_reported_replaced r g said) g.crates none_reported) refl

  none_unmatched_keys : unmatched_ignore_keys r g said ≡ []
  unfolding unmatched_ignore_keys
  none_unmatched_keys = rw (filter-none (is_unmatched_ignore r g said) r.ignore none_unmatched) refl

  no_hit_of : (e : Entry) → ignore_hit r g said e ≡ None
  unfolding ignore_hit
  no_hit_of e = rw (find_fails (hits_ignore r g said e) g.crates (no_hit e)) refl

  no_hits : ignore_hits r g said ≡ []
  unfolding ignore_hits
  no_hits = gives_none (ignore_hit r g said) r.ignore no_hit_of

-- a policy that asks for no table has no keys of replaced crates
pub nothing_of_std : (c : Circumstances) → asks_for_table c.policy ≡ false → (key : Key) → IsOfStd c key → ⊥
nothing_of_std c none key is = by c.policy.replacing none is
  where
    by : (o : Option Replacing) → option_map_or (λ r. not (looks_at_none r.scope)) o false ≡ false
        → Contains (option_map_or (λ r. unmatched_ignore_keys r c.graph (said_by c.table)) o []) key
        ⊎ Contains (option_map_or (λ r. replaced_keys r c.graph (said_by c.table)) o []) key → ⊥
    by None none (inl is) = no_member key is
    by None none (inr is) = no_member key is
    by (Some r) none (inl is) = no_member key (subst (λ (keys : List Key). Contains keys key)
        (none_unmatched_keys r c.graph (said_by c.table) (not-false (looks_at_none r.scope) none)) is)
    by (Some r) none (inr is) = no_member key (subst (λ (keys : List Key). Contains keys key)
        (none_replaced_keys r c.graph (said_by c.table) (not-false (looks_at_none r.scope) none)) is)

pub no_hits_of_std : (c : Circumstances) → asks_for_table c.policy ≡ false → ignore_hits_in c ≡ []
no_hits_of_std c none = by c.policy.replacing none
  where
    by : (o : Option Replacing) → option_map_or (λ r. not (looks_at_none r.scope)) o false ≡ false
        → option_map_or (λ r. ignore_hits r c.graph (said_by c.table)) o [] ≡ []
    by None none = refl
    by (Some r) none = no_hits r c.graph (said_by c.table) (not-false (looks_at_none r.scope) none)
