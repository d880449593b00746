-- The tests of the rules agree with the words of the headline.
use Rattle.std.proofs.Common.{◌≡◌, ◌≢◌, ◌==◌, ℕ, Bool, true, false, not, List, [], ◌∷◌, length, Contains, Option, Some}
use Rattle.std.proofs.Common.{refl, sym, ap, ◌∙◌, subst, inl, inr, arith}
use Rattle.std.specs.Prelude.{◌||◌, find, is_none}
use Rattle.std.specs.List.{list_all, list_any}
use Rattle.std.proofs.lemmas.Bool.{and_parts, and_from, cases_Bool, eqb-true, eq-eqb, false≢true, not-true}
use Rattle.std.proofs.lemmas.Bool.{not_from_false, cond-true, cond-false, ne_eqb}
use Rattle.std.proofs.lemmas.Slice.Eq.{bytes_eq-Decides}
use Rattle.deny_base_lists.proofs.Members.{Contains-filter, Contains-first, Contains-rest, all_at, all_from, any_from}
use Rattle.deny_base_lists.proofs.Members.{any_passes, filtered, passes_filter}
use Rattle.deny_spec.specs.Bans.{has_wrappers, is_exempt, is_waived, is_wrapper, wrapper_of}
use Rattle.deny_spec.specs.Graph.{Crate, Graph, dependents, leads}
use Rattle.deny_spec.specs.Policy.{Ban, Policy, SpannedText}
use Rattle.deny_spec.specs.Text.{same_text}
use Rattle.deny_gate.specs.Headline.{DependsOn, IsExempt, IsWaived, IsWrapper}

-- ---- exempt

pub exempt_is : (p : Policy) (g : Graph) (c : Crate) → is_exempt p g c ≡ true → IsExempt p g c
unfolding is_exempt
exempt_is p g c test =
    let parts = and_parts p.allow_workspace (list_any (λ place. place == c.place) g.members) test in
    let own = any_passes (λ place. place == c.place) g.members parts.1 in
    record {
      allowed = parts.0;
      own = (let P : ℕ → Type 0 = λ n. Contains g.members n in
          subst P (eqb-true own.one c.place own.passes) own.member);
    }

pub is_exempt_test : (p : Policy) (g : Graph) (c : Crate) → IsExempt p g c → is_exempt p g c ≡ true
unfolding is_exempt
is_exempt_test p g c is =
    and_from p.allow_workspace (list_any (λ place. place == c.place) g.members) is.allowed
    (any_from (λ place. place == c.place) g.members c.place is.own (eq-eqb c.place c.place refl))

-- ---- dependents

pub depends_is : (g : Graph) (parent child : Crate) → Contains (dependents g child.place) parent
    → DependsOn g parent child
unfolding dependents leads
depends_is g parent child is =
    let test : Crate → Bool = λ c. list_any (leads c.place child.place) g.edges in
    let led = any_passes (leads parent.place child.place) g.edges (passes_filter test g.crates parent is) in
    let ends = and_parts (led.one.parent == parent.place) (led.one.child == child.place) led.passes in
    record {
      known = filtered test g.crates parent is;
      edge = led.one;
      member = led.member;
      leads_from = eqb-true led.one.parent parent.place ends.0;
      leads_to = eqb-true led.one.child child.place ends.1;
    }

pub is_dependent : (g : Graph) (parent child : Crate) → DependsOn g parent child
    → Contains (dependents g child.place) parent
unfolding dependents leads
is_dependent g parent child is =
    Contains-filter (λ (c : Crate). list_any (leads c.place child.place) g.edges) g.crates parent is.known
    (any_from (leads parent.place child.place) g.edges is.edge is.member
    (and_from (is.edge.parent == parent.place) (is.edge.child == child.place)
    (eq-eqb is.edge.parent parent.place is.leads_from) (eq-eqb is.edge.child child.place is.leads_to)))

-- ---- wrappers

found_is : (wrappers : List SpannedText) (parent : Crate)
    → is_none (find (λ w. same_text w.value parent.name) wrappers) ≡ false → IsWrapper wrappers parent
found_is [] parent some = absurd (false≢true (sym some))
found_is (w ∷ wrappers) parent some = elim (cases_Bool (same_text w.value parent.name))
    as (λ _. IsWrapper (w ∷ wrappers) parent) [
      | inl e ↦ record {
        wrapper = w;
        written = Contains-first w wrappers;
        named = (bytes_eq-Decides w.value parent.name).0
            e;
      }
      | inr e ↦
          let test : SpannedText → Bool = λ v. same_text v.value parent.name in
          let skip : find test (w ∷ wrappers) ≡ find test wrappers =
          cond-false (test w) (Some w) (find test wrappers) e in
          let rest = found_is wrappers parent (sym (ap (λ (o : Option SpannedText). is_none o) skip) ∙ some) in
          record {
            wrapper = rest.wrapper;
            written = Contains-rest w wrappers rest.wrapper rest.written;
            named = rest.named;
          }
    ]

found_test : (wrappers : List SpannedText) (parent : Crate) → list_any (λ w. same_text w.value parent.name) wrappers
    ≡ true
    → is_none (find (λ w. same_text w.value parent.name) wrappers) ≡ false
found_test [] parent any = absurd (false≢true any)
found_test (w ∷ wrappers) parent any =
    let test : SpannedText → Bool = λ v. same_text v.value parent.name in
    elim (cases_Bool (test w)) as (λ _. is_none (find test (w ∷ wrappers)) ≡ false) [
      | inl e ↦ ap (λ (o : Option SpannedText). is_none o) (cond-true (test w) (Some w) (find test wrappers) e)
      | inr e ↦
          ap (λ (o : Option SpannedText). is_none o) (cond-false (test w) (Some w) (find test wrappers) e)
          ∙ found_test wrappers parent (sym (or_skips (test w) (list_any test wrappers) e) ∙ any)
    ]
  where
    or_skips : (a b : Bool) → a ≡ false → (a || b) ≡ b
    or_skips true b e = absurd (false≢true (sym e))
    or_skips false b e = refl

wrapper_is : (wrappers : List SpannedText) (parent : Crate) → is_wrapper wrappers parent ≡ true
    → IsWrapper wrappers parent
unfolding is_wrapper wrapper_of
wrapper_is wrappers parent test = found_is wrappers parent
    (not-true (is_none (find (λ w. same_text w.value parent.name) wrappers)) test)

wrapper_test : (wrappers : List SpannedText) (parent : Crate) → IsWrapper wrappers parent
    → is_wrapper wrappers parent ≡ true
unfolding is_wrapper wrapper_of
wrapper_test wrappers parent is =
    let named = (bytes_eq-Decides is.wrapper.value parent.name).1 is.named in
    not_from_false (is_none (find (λ w. same_text w.value parent.name) wrappers))
    (found_test wrappers parent (any_from (λ w. same_text w.value parent.name) wrappers is.wrapper is.written named))

pub some_are : {X : Type 0} (xs : List X) → not (length xs == 0) ≡ true → xs ≢ []
some_are [] test = λ e. false≢true test
some_are (x ∷ xs) test = λ e. absurd (cc e)

pub some_test : {X : Type 0} (xs : List X) → xs ≢ [] → not (length xs == 0) ≡ true
some_test [] some = absurd (some refl)
some_test (x ∷ xs) some = not_from_false (length (x ∷ xs) == 0) (ne_eqb (length (x ∷ xs)) 0 (λ e. omega (arith, e)))

-- ---- waived bans

pub waived_is : (g : Graph) (ban : Ban) (c : Crate) → is_waived g ban c ≡ true → IsWaived g ban c
unfolding is_waived has_wrappers
waived_is g ban c test =
    let parts = and_parts (not (length ban.wrappers == 0)) (list_all (is_wrapper ban.wrappers) (dependents g c.place))
    test in
    record {
      some = some_are ban.wrappers parts.0;
      each = λ parent depends. wrapper_is ban.wrappers parent
          (all_at (is_wrapper ban.wrappers) (dependents g c.place) parent parts.1 (is_dependent g parent c depends));
    }

pub is_waived_test : (g : Graph) (ban : Ban) (c : Crate) → IsWaived g ban c → is_waived g ban c ≡ true
unfolding is_waived has_wrappers
is_waived_test g ban c is =
    and_from (not (length ban.wrappers == 0)) (list_all (is_wrapper ban.wrappers) (dependents g c.place))
    (some_test ban.wrappers is.some)
    (all_from (is_wrapper ban.wrappers) (dependents g c.place)
    (λ parent member. wrapper_test ban.wrappers parent (is.each parent (depends_is g parent c member))))
