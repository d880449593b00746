-- The entries that are hit, and those that grant nothing.
use Rattle.std.proofs.Common.{◌≡◌, ◌++◌, Bool, true, false, List, [], ◌∷◌, Contains, Option, Some, None, cond, filter}
use Rattle.std.proofs.Common.{find, map, not, refl, sym, ap, ◌∙◌}
use Rattle.std.specs.Prelude.{filter_map, is_none, option_and_then, option_map}
use Rattle.std.specs.List.{cons_option, flat_map}
use Rattle.std.specs.Option.{option_map_or}
use Rattle.std.proofs.lemmas.List.Elements.{filter_map-append}
use Rattle.deny_base_lists.specs.First.{FindsFirst}
use Rattle.deny_base_lists.proofs.Agreement.{filter_map_on, find_on}
use Rattle.deny_base_lists.proofs.Filters.{filter_map-map, find-any}
use Rattle.deny_base_lists.proofs.Members.{Contains-first, Contains-rest}
use Rattle.deny_base_lists.proofs.Options.{is_none-option_map}
use Rattle.deny_base.specs.declared.entry.Hit.{Hit}
use Rattle.deny_base.specs.declared.entry.Witness.TheVariants.{Krate}
use Rattle.deny_base.specs.declared.span.Spanned.{Spanned}
use Rattle.deny_spdx.specs.declared.requirement.Requirement.{Requirement}
use Rattle.deny_spec.specs.Graph.{Crate, Graph, kid_of}
use Rattle.deny_spec.specs.Hits.{hit_of}
use Rattle.deny_spec.specs.Licensing.{Exception, Licensing}
use Rattle.deny_spec.specs.DiagParts.{crate_at}
use Rattle.deny_spec_report.specs.Licences.{Asked, allowance_hit, exception_hit, first_hit, grants_by_allowance}
use Rattle.deny_spec_report.specs.Licences.{grants_by_exception, hits_by, is_hit_by, licence_hits}
use Rattle.deny_rules_match.specs.Placed.{ArePlaced}
use Rattle.deny_krates.proofs.PlaceLemmas.{place_of}
use Rattle.deny_gate_licenses.specs.declared.granter.Granter.{Granter}
use Rattle.deny_gate_licenses.specs.declared.witnesses.Witnesses.{Witnesses}
use Rattle.deny_gate_licenses.specs.private.JudgedCrates.{witnessed_at}
use Rattle.deny_gate_licenses.specs.private.Granters.{allowance_granter, exception_granter, granter_kind, granter_of}
use Rattle.deny_gate_licenses.specs.private.Granters.{granter_span, policy_granters}
use Rattle.deny_gate_licenses.specs.private.Witnesses.{hit_at, is_unused, place_in, same_granter}
use Rattle.deny_gate_licenses.proofs.JudgedLemmas.{hits-is, witness-is}
use Rattle.deny_gate_licenses.proofs.GranterLemmas.{by-allowance, by-exception}

-- a flat map of lists with at most one element is a filter map
pub flat-given : {X Y : Type 0} (h : X → Option Y) (xs : List X)
    → flat_map (λ x. cons_option (h x) []) xs ≡ filter_map h xs
flat-given h [] = refl
flat-given {X} {Y} h (x ∷ xs) = by (h x) (flat-given h xs)
  where
    by : (o : Option Y) → flat_map (λ y. cons_option (h y) []) xs ≡ filter_map h xs
        → cons_option o [] ++ flat_map (λ y. cons_option (h y) []) xs ≡ cons_option o (filter_map h xs)
    by None rest = rest
    by (Some y) rest = ap (λ ys. y ∷ ys) rest

pub flat-kept : {X : Type 0} (p : X → Bool) (xs : List X)
    → flat_map (λ x. cond (p x) (x ∷ []) []) xs ≡ filter p xs
flat-kept p [] = refl
flat-kept {X} p (x ∷ xs) = by (p x) (flat-kept p xs)
  where
    by : (b : Bool) → flat_map (λ y. cond (p y) (y ∷ []) []) xs ≡ filter p xs
        → cond b (x ∷ []) [] ++ flat_map (λ y. cond (p y) (y ∷ []) []) xs ≡ cond b (x ∷ filter p xs) (filter p xs)
    by true rest = ap (λ ys. x ∷ ys) rest
    by false rest = rest

module _ (l : Licensing) (g : Graph) (placed : ArePlaced g.crates) (counts : Crate → Bool) (witnesses : Witnesses)
    (finds : FindsFirst same_granter (flat_map (witnessed_at l g) (map place_of (filter counts g.crates)))
    (place_in witnesses)) where
  hit-from : (h : Crate → Hit) (p : Crate → Bool) (cs : List Crate)
      → ((c : Crate) → Contains cs c → Contains g.crates c)
      → option_and_then (λ place. option_map h (crate_at g place)) (option_map place_of (find p cs))
      ≡ option_map h (find p cs)
  hit-from h p [] hold = refl
  hit-from h p (c ∷ cs) hold = by_test (p c) (hit-from h p cs (λ d is. hold d (Contains-rest c cs d is)))
    where
      by_test : (b : Bool)
          → option_and_then (λ place. option_map h (crate_at g place)) (option_map place_of (find p cs))
          ≡ option_map h (find p cs)
          → option_and_then (λ place. option_map h (crate_at g place))
          (option_map place_of (cond b (Some c) (find p cs))) ≡ option_map h (cond b (Some c) (find p cs))
      by_test true rest = ap (option_map h) (placed.at c (hold c (Contains-first c cs)))
      by_test false rest = rest

  module _ (by : Granter) (grants : Asked → Bool)
      (is : (asked : Asked) → grants asked ≡ option_map_or (same_granter by) (granter_of l asked) false) where
    place-is : place_in witnesses by ≡ option_map place_of (find (hits_by counts l grants) g.crates)
    place-is = finds.at by
        ∙ (witness-is l g placed by counts
        ∙ ap (option_map place_of)
        (find_on _ (hits_by counts l grants) g.crates (λ c _. hits-is l c by grants is counts)))

    hit-is : hit_at g witnesses by
        ≡ option_map (λ c. hit_of (granter_kind by) (granter_span by) (Krate (kid_of c))) (first_hit counts l g grants)
    unfolding first_hit
    hit-is =
        let h = λ (c : Crate). hit_of (granter_kind by) (granter_span by) (Krate (kid_of c)) in
        ap (option_and_then (λ place. option_map h (crate_at g place))) place-is
        ∙ hit-from h (hits_by counts l grants) g.crates (λ c holds. holds)

    unused-is : is_unused witnesses by ≡ not (is_hit_by counts l g grants)
    unfolding is_hit_by
    unused-is = ap is_none place-is
        ∙ (is_none-option_map place_of (find (hits_by counts l grants) g.crates)
        ∙ ap not (sym (find-any (hits_by counts l grants) g.crates)))

  pub unused-allowance : (a : Spanned Requirement)
      → is_unused witnesses (allowance_granter a) ≡ not (is_hit_by counts l g (grants_by_allowance l a))
  unused-allowance a = unused-is (allowance_granter a) (grants_by_allowance l a) (λ asked. by-allowance l asked a)

  pub unused-exception : (e : Exception)
      → is_unused witnesses (exception_granter e) ≡ not (is_hit_by counts l g (grants_by_exception l e))
  unused-exception e = unused-is (exception_granter e) (grants_by_exception l e) (λ asked. by-exception l asked e)

  pub hits-are : filter_map (hit_at g witnesses) (policy_granters l) ≡ licence_hits counts l g
  unfolding allowance_hit exception_hit
  hits-are =
      filter_map-append (hit_at g witnesses) (map allowance_granter l.allow) (map exception_granter l.exceptions)
      ∙ (ap (λ (hits : List Hit). hits ++ filter_map (hit_at g witnesses) (map exception_granter l.exceptions))
      (filter_map-map (hit_at g witnesses) allowance_granter l.allow
      ∙ filter_map_on (λ a. hit_at g witnesses (allowance_granter a)) (allowance_hit counts l g) l.allow
      (λ a _. hit-is (allowance_granter a) (grants_by_allowance l a) (λ asked. by-allowance l asked a)))
      ∙ ap (λ (hits : List Hit). filter_map (allowance_hit counts l g) l.allow ++ hits)
      (filter_map-map (hit_at g witnesses) exception_granter l.exceptions
      ∙ filter_map_on (λ e. hit_at g witnesses (exception_granter e)) (exception_hit counts l g) l.exceptions
      (λ e _. hit-is (exception_granter e) (grants_by_exception l e) (λ asked. by-exception l asked e))))
